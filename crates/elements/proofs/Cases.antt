-- Worked examples.
use mathlib.Core.Path.{◌≡◌, refl}
use mathlib.Core.List.{List, [], ◌∷◌, ◌++◌}
use Prim.Native.Nat.{ℕ}
use lib.ListN.{replicate}
use Rattle.std.specs.Prelude.{Some, None}
use Rattle.octets.specs.Numbers.{le}
use Rattle.elements.specs.Body.{body_of}
use Rattle.elements.specs.Walk.{walked, failed_at, walk_body}

abbrev header : List ℕ
header = 7 ∷ 0 ∷ 3 ∷ 0 ∷ 0 ∷ 0 ∷ []

-- the body that document 01 lists
abbrev listed : List ℕ
listed = header ++ (0xff ∷ 3 ∷ 0x64 ∷ 0 ∷ 0 ∷ 0x8c ∷ 0x10 ∷ replicate 16 0xaa)

pub opened : body_of listed ≡ Some (record { algorithm = 7; transaction = 3; status = 0 })
unfolding body_of le
opened = refl

pub too_short : body_of (replicate 5 0) ≡ None
unfolding body_of
too_short = refl

pub too_long : body_of (replicate 1025 0) ≡ None
unfolding body_of
too_long = refl

pub two_elements : walk_body listed
    ≡ walked
    (record { id = 255; extension = Some 100; place = 6; start = 8; length = 3; next = 11 }
    ∷ record { id = 140; extension = None; place = 11; start = 13; length = 16; next = 29 }
    ∷ [])
unfolding walk_body
two_elements = refl

pub no_elements : walk_body header ≡ walked []
unfolding walk_body
no_elements = refl

pub one_left_over : walk_body (header ++ (140 ∷ 0 ∷ 48 ∷ [])) ≡ failed_at 8
unfolding walk_body
one_left_over = refl

pub past_the_end : walk_body (header ++ (140 ∷ 2 ∷ 1 ∷ [])) ≡ failed_at 6
unfolding walk_body
past_the_end = refl

pub empty_extended : walk_body (header ++ (255 ∷ 0 ∷ [])) ≡ failed_at 6
unfolding walk_body
empty_extended = refl

pub no_body : walk_body (replicate 5 0) ≡ failed_at 0
unfolding walk_body
no_body = refl
