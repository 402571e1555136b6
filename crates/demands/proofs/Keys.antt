-- The installed key: the calls lead to what is shown, and what is shown tells of the calls.
use Prim.Native.Nat.{◌≤◌}
use mathlib.Core.Path.{◌≡◌, refl, sym, ap, subst, ◌∙◌}
use mathlib.Core.Bool.{true, false}
use mathlib.Core.List.{List, [], ◌∷◌, ◌++◌}
use Rattle.std.specs.Prelude.{Some}
use native.Mathlib.Omega.{arith}
use Rattle.units.specs.declared.Tu.{Tu}
use Rattle.units.specs.Units.{in_tu, clock_limit}
use Rattle.peers.specs.declared.Peer.{Peer}
use Rattle.peers.specs.declared.Phase.TheVariants.{Installed}
use Rattle.peers.specs.View.{live, shows}
use Rattle.rules.specs.OnePeer.{same, peer_after, after, installed_peer}
use Rattle.rules.specs.Alone.{Ask, receive, reading_of, Alone, live_at, leaves, next, next_all, unknown, alone_after}
use Rattle.octets.specs.Search.{Each}
use Rattle.demands.specs.Served.{zero_tu, From, last_from, asks_of}
use Rattle.demands.specs.InstalledKey.{HasKey, waiting_since, Spares, is_removal, Holds, InstalledKey}
use Rattle.demands.proofs.Isolated.{isolation}
use Rattle.demands.proofs.Latest.{date_after, leaves_dated, makes_dated}
use Rattle.demands.proofs.Leaving.{live_earlier, live_by, Alive, alive_is, alive_at, FirstMade, first_made, third_made, installed_stays}
use Rattle.demands.proofs.Order.{from_last, from_append, last_append, next_append, date_all, own_from, own_last, own_whose}
use Rattle.demands.proofs.Telling.{Told, Story, story}

-- from a reading on, the calls with a property leave the record p the same, while it is live
abbrev Quiet : Peer → Tu → (Ask → Type 0) → Type 0
Quiet p n P = (s : Alone) (ask : Ask) → Alive s.peer (reading_of ask) p → s.latest.0 ≤ (reading_of ask).0 → n.0 ≤ (reading_of ask).0 → (reading_of ask).0 ≤ clock_limit
    → P ask → leaves s ask ≡ same

-- calls that each leave it the same leave it so together
stays_all : {p : Peer} {n : Tu} {P : Ask → Type 0} → Quiet p n P → (asks : List Ask) (s : Alone) (m k : Tu) → n.0 ≤ m.0 → s.peer ≡ Some p → s.latest.0 ≤ m.0
    → From m asks → (last_from m asks).0 ≤ k.0 → live p k ≡ true → Each P asks → (next_all s asks).peer ≡ Some p
stays_all quiet [] s m k h e l f b d i = e
stays_all {p} quiet (ask ∷ asks) s m k h e l f b d i =
    let v : Alive s.peer (reading_of ask) p = record { is = e; alive = live_earlier p (reading_of ask) k (omega (arith, from_last (reading_of ask) asks f.2)) d } in
    let q : leaves s ask ≡ same = quiet s ask v (omega (arith, f.0)) (omega (arith, f.0)) f.1 i.0 in
    stays_all quiet asks (next s ask) (reading_of ask) k (omega (arith, f.0)) (rw q (alive_at v)) (date_after s ask (omega (arith, f.0))) f.2 b d i.1

module _ {asks : List Ask} {n : Tu} {p : Peer} (h : Holds asks n p) where
  abbrev start : Tu
  start = h.first.brought.reading

  abbrev finish : Tu
  finish = h.third.brought.reading

  waits : FirstMade h.first h.exchange
  waits = first_made h.first h.accepted

  in_time : live h.exchange finish ≡ true
  in_time = live_by h.exchange finish waits.phase h.before_deadline

  installs_it : p ≡ installed_peer finish h.exchange
  installs_it = third_made h.third (record { is = refl; alive = in_time }) h.third_accepted

  phase : p.phase ≡ Installed (after finish (in_tu p.agreed.lifetime))
  phase = ap (λ (q : Peer). q.phase) installs_it ∙ ap (λ (q : Peer). Installed (after finish (in_tu q.agreed.lifetime))) (sym installs_it)

  lasts : live p n ≡ true
  lasts = live_by p n phase h.end_ahead

  -- the calls between leave the exchange, and the calls since the key
  spared : Quiet h.exchange start (Spares h.first h.exchange)
  spared s ask v l i k q = leaves_dated s (waiting_since h.first h.exchange) v.is ask l i k ∙ q

  kept : Quiet p finish (λ (ask : Ask). is_removal ask ≡ false)
  kept s ask v l i k q = installed_stays s ask p (after finish (in_tu p.agreed.lifetime)) phase (alive_at v) q

  leads : From zero_tu asks → (last_from zero_tu asks).0 ≤ n.0 → Alive (alone_after asks).peer n p
  leads f b =
      let rest = h.between ++ (receive h.third ∷ h.since) in
      let f₀ = from_append zero_tu h.before (receive h.first ∷ rest) (rw h.split at f) in
      let f₁ = from_append start h.between (receive h.third ∷ h.since) f₀.1.2 in
      let s₀ = alone_after h.before in
      let s₁ = next s₀ (receive h.first) in
      let s₂ = next_all s₁ h.between in
      let s₃ = next s₂ (receive h.third) in
      let l₁ : s₁.latest.0 ≤ start.0 = date_after s₀ (receive h.first) (omega (arith, date_all unknown zero_tu h.before (omega arith) f₀.0, f₀.1.0)) in
      let l₂ : s₂.latest.0 ≤ finish.0 = omega (arith, date_all s₁ start h.between l₁ f₁.0, f₁.1.0) in
      let l₃ : s₃.latest.0 ≤ finish.0 = date_after s₂ (receive h.third) l₂ in
      let begun : start.0 ≤ finish.0 = omega (arith, from_last start h.between f₁.0, f₁.1.0) in
      let e₁ : s₁.peer ≡ Some h.exchange = ap (peer_after (live_at s₀.peer start)) h.accepted.made in
      let e₂ : s₂.peer ≡ Some h.exchange = stays_all spared h.between s₁ start finish (omega arith) e₁ l₁ f₁.0 f₁.1.0 in_time h.undisturbed in
      let e₃ : s₃.peer ≡ Some p = ap (peer_after (live_at s₂.peer finish)) (makes_dated s₂ (waiting_since h.first h.exchange) e₂ h.third l₂ begun f₁.1.1 h.third_accepted).made in
      let last : (last_from finish h.since).0 ≤ n.0 = rw (h.split, last_append zero_tu h.before (receive h.first ∷ rest), last_append start h.between (receive h.third ∷ h.since)) at b in
      let e₄ : (next_all s₃ h.since).peer ≡ Some p = stays_all kept h.since s₃ finish n (omega arith) e₃ l₃ f₁.1.2 last lasts h.not_removed in
      record {
        is = rw (h.split, next_append unknown h.before (receive h.first ∷ rest), next_append s₁ h.between (receive h.third ∷ h.since)) e₄;
        alive = lasts;
      }

pub installed_key : InstalledKey
installed_key asks gots end w a n h p = (there, back)
  where
    own : List Ask
    own = asks_of a asks

    shown : shows end n a ≡ live_at (alone_after own).peer n
    shown = (isolation asks gots end w a).shown n h

    there : HasKey end n a p → Holds own n p
    there k =
        let v = alive_is (alone_after own).peer n (sym shown ∙ k.shown) in
        let t = story a own [] zero_tu (omega arith) tt (own_from a zero_tu asks w.in_order) (own_whose a asks) in
        let y : Told a own (last_from zero_tu own) p (Installed k.end) = subst (Told a own (last_from zero_tu own) p) k.phase (subst (Story a own (last_from zero_tu own)) v.is t) in
        y.holds n v.alive

    back : Holds own n p → HasKey end n a p
    back k = record {
      end = _;
      shown = shown ∙ alive_at (leads k (own_from a zero_tu asks w.in_order) (omega (arith, own_last a zero_tu asks w.in_order)));
      phase = phase k;
    }
