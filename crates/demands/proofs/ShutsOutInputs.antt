-- Inputs at which such a responder fails: a first frame to an empty table, and a third frame of a waiting peer.
use mathlib.Core.Path.{◌≡◌, refl, sym, ap, subst, ◌∙◌}
use mathlib.Core.Bool.{false≢true}
use mathlib.Core.List.{List, [], ◌∷◌}
use Rattle.std.specs.Prelude.{None, Some}
use Rattle.octets.proofs.Options.{none-ne-some}
use Prim.Native.Nat.{ℕ}
use native.Mathlib.Omega.{arith}
use lib.ListN.{get_or, replicate}
use Rattle.peers.specs.declared.Peer.{Peer}
use Rattle.peers.specs.declared.Phase.TheVariants.{Waiting}
use Rattle.peers.specs.declared.Table.{Table}
use Rattle.peers.specs.View.{shows, others, full, vacant_peer}
use Rattle.rules.specs.OnePeer.{Call, Outcome, answer_number, is_installed}
use Rattle.platform.specs.Promises.{shown_after, Answers, ruled}
use Rattle.demands.specs.Edges.{tu, first_body, third_body, station, hears, record_of, gets}
use Rattle.demands.specs.ShutsOut.{Responder, Meets, ConstantReply, WritesNothing, RecordsNothing, InstallsAtOnce, ShutsOut}
use Rattle.octets.proofs.Parts.{wrote_stands}
use Rattle.demands.proofs.Keeping.{met}

-- a table whose first place has a record, and whose others are vacant
abbrev holding : Peer → Table
holding p = record { peers = p ∷ replicate 15 vacant_peer; latest = tu 0 }

abbrev empty : Table
empty = holding vacant_peer

abbrev waiting : Peer
waiting = record_of (Waiting (tu 6000))

-- a first frame with a cipher, to a table without a record
abbrev asking : ℕ → Call
asking cipher = hears (first_body cipher 21 [])

asked : (cipher : ℕ) → ruled empty (asking cipher) ≡ gets None (asking cipher)
unfolding shows full others gets
asked cipher = refl

told : ruled (holding waiting) (hears third_body) ≡ gets (Some waiting) (hears third_body)
unfolding shows full others gets
told = refl

module _ (f : Responder) (meets : Meets f) where
  -- what it gives is what the rules give
  by_rules : (p : Peer) (call : Call) {o : Outcome} → ruled (holding p) call ≡ o
      → Answers (holding p) call o (f (holding p) call).buffer (f (holding p) call).received
  by_rules p call e = subst (λ (o : Outcome). Answers (holding p) call o (f (holding p) call).buffer (f (holding p) call).received) e (meets (holding p) refl call)

  first_answered : (cipher : ℕ) → Answers empty (asking cipher) (gets None (asking cipher)) (f empty (asking cipher)).buffer (f empty (asking cipher)).received
  first_answered cipher = by_rules vacant_peer (asking cipher) (asked cipher)

  installs : answer_number (f (holding waiting) (hears third_body)).received.answer ≡ 15
  unfolding gets
  installs = ap answer_number (by_rules waiting (hears third_body) told).answer

  accepted : (cipher : ℕ) → answer_number (gets None (asking cipher)).answer ≡ 0 → answer_number (f empty (asking cipher)).received.answer ≡ 0
  accepted cipher e = ap answer_number (first_answered cipher).answer ∙ e

  -- the cipher stands in the reply
  not_constant : ¬ ConstantReply f
  unfolding gets
  not_constant c =
      let x = wrote_stands (first_answered 4).reply in
      let y = wrote_stands (first_answered 9).reply in
      let z = sym x ∙ c.constant empty (asking 4) (accepted 4 refl) ∙ sym (c.constant empty (asking 9) (accepted 9 refl)) ∙ y in
      let n : ◌≡◌ {A = ℕ} 4 9 = ap (λ (s : List ℕ). get_or s 19 0) z in
      omega arith

  -- the reply begins with the algorithm
  not_silent : ¬ WritesNothing f
  unfolding gets
  not_silent c =
      let z = sym (first_answered 4).reply.leaves ∙ c empty (asking 4) in
      let n : ◌≡◌ {A = ℕ} 7 0 = ap (λ (s : List ℕ). get_or s 0 0) z in
      omega arith

  -- the table then shows a waiting record
  shown : shows (f empty (asking 4)).received.table (tu 5000) station ≡ shown_after None (tu 5000) (gets None (asking 4)).leaves
  unfolding shows
  shown = (first_answered 4).settles.shown (tu 5000) (omega arith) station

  not_idle : ¬ RecordsNothing f
  unfolding gets shows
  not_idle c = none-ne-some _ (sym (c empty (asking 4) (tu 5000) station) ∙ shown)

  not_at_once : ¬ InstallsAtOnce f
  unfolding gets
  not_at_once c = false≢true (sym (ap is_installed shown) ∙ c empty (asking 4) (accepted 4 refl))

pub shuts_out : ShutsOut
unfolding gets
shuts_out = record {
  not_all = met;
  refuses_first_frames = λ f never meets. never empty (asking 4) (accepted f meets 4 refl);
  refuses_third_frames = λ f never meets. never (holding waiting) (hears third_body) (installs f meets);
  constant_reply = λ f c meets. not_constant f meets c;
  writes_nothing = λ f c meets. not_silent f meets c;
  records_nothing = λ f c meets. not_idle f meets c;
  installs_at_once = λ f c meets. not_at_once f meets c;
}
