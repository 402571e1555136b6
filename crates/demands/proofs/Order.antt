-- Laws of lists of calls: their order, those of one address, and one list after another.
use Prim.Native.Nat.{ℕ, ◌≤◌}
use mathlib.Core.Path.{◌≡◌, refl}
use mathlib.Core.Bool.{Bool, true, false}
use mathlib.Core.List.{List, [], ◌∷◌, ◌++◌}
use native.Mathlib.Omega.{arith}
use Rattle.std.specs.Prelude.{if◌then◌else◌}
use Rattle.octets.specs.Equality.{same_octets}
use Rattle.octets.proofs.Equality.{same_eq}
use Rattle.units.specs.declared.Tu.{Tu}
use Rattle.rules.specs.Alone.{Ask, whose, reading_of, Alone, next, next_all}
use Rattle.octets.specs.Search.{Each}
use Rattle.demands.specs.Served.{From, last_from, asks_of}
use Rattle.demands.proofs.Latest.{date_after}

pub each_snoc : {A : Type 0} (P : A → Type 0) (xs : List A) (x : A) → Each P xs → P x → Each P (xs ++ (x ∷ []))
each_snoc P [] x h p = (p, tt)
each_snoc P (y ∷ xs) x h p = (h.0, each_snoc P xs x h.1 p)

from_earlier : (n m : Tu) (asks : List Ask) → n.0 ≤ m.0 → From m asks → From n asks
from_earlier n m [] h f = tt
from_earlier n m (ask ∷ asks) h f = (omega (arith, f.0), f.1, f.2)

last_later : (n m : Tu) (asks : List Ask) → n.0 ≤ m.0 → (last_from n asks).0 ≤ (last_from m asks).0
last_later n m [] h = h
last_later n m (ask ∷ asks) h = omega arith

pub from_last : (n : Tu) (asks : List Ask) → From n asks → n.0 ≤ (last_from n asks).0
from_last n [] f = omega arith
from_last n (ask ∷ asks) f = omega (arith, f.0, from_last (reading_of ask) asks f.2)

pub from_append : (n : Tu) (asks more : List Ask) → From n (asks ++ more) → From n asks × From (last_from n asks) more
from_append n [] more f = (tt, f)
from_append n (ask ∷ asks) more f =
    let h = from_append (reading_of ask) asks more f.2 in
    ((f.0, f.1, h.0), h.1)

pub last_append : (n : Tu) (asks more : List Ask) → last_from n (asks ++ more) ≡ last_from (last_from n asks) more
last_append n [] more = refl
last_append n (ask ∷ asks) more = last_append (reading_of ask) asks more

pub next_append : (s : Alone) (asks more : List Ask) → next_all s (asks ++ more) ≡ next_all (next_all s asks) more
next_append s [] more = refl
next_append s (ask ∷ asks) more = next_append (next s ask) asks more

-- the latest reading is none past the last one
pub date_all : (s : Alone) (n : Tu) (asks : List Ask) → s.latest.0 ≤ n.0 → From n asks → (next_all s asks).latest.0 ≤ (last_from n asks).0
date_all s n [] h f = h
date_all s n (ask ∷ asks) h f = date_all (next s ask) (reading_of ask) asks (date_after s ask (omega (arith, f.0))) f.2

module _ (a : List ℕ) where
  pub own_from : (n : Tu) (asks : List Ask) → From n asks → From n (asks_of a asks)
  own_from n [] f = tt
  own_from n (ask ∷ asks) f = go (same_octets (whose ask) a) (own_from (reading_of ask) asks f.2)
    where
      go : (b : Bool) → From (reading_of ask) (asks_of a asks) → From n (if b then ask ∷ asks_of a asks else asks_of a asks)
      go true ih = (f.0, f.1, ih)
      go false ih = from_earlier n (reading_of ask) (asks_of a asks) f.0 ih

  pub own_last : (n : Tu) (asks : List Ask) → From n asks → (last_from n (asks_of a asks)).0 ≤ (last_from n asks).0
  own_last n [] f = omega arith
  own_last n (ask ∷ asks) f = go (same_octets (whose ask) a) (own_last (reading_of ask) asks f.2)
    where
      go : (b : Bool) → (last_from (reading_of ask) (asks_of a asks)).0 ≤ (last_from (reading_of ask) asks).0
          → (last_from n (if b then ask ∷ asks_of a asks else asks_of a asks)).0 ≤ (last_from (reading_of ask) asks).0
      go true ih = ih
      go false ih = omega (arith, last_later n (reading_of ask) (asks_of a asks) f.0)

  pub own_whose : (asks : List Ask) → Each (λ (ask : Ask). whose ask ≡ a) (asks_of a asks)
  own_whose [] = tt
  own_whose (ask ∷ asks) = go (same_octets (whose ask) a) refl (own_whose asks)
    where
      go : (b : Bool) → same_octets (whose ask) a ≡ b → Each (λ (ask : Ask). whose ask ≡ a) (asks_of a asks)
          → Each (λ (ask : Ask). whose ask ≡ a) (if b then ask ∷ asks_of a asks else asks_of a asks)
      go true e ih = (same_eq (whose ask) a e, ih)
      go false e ih = ih
