-- Worked examples. The real octets are of a first frame that hostap's station wrote.
use mathlib.Core.Path.{◌≡◌, refl}
use mathlib.Core.List.{List, [], ◌∷◌, ◌++◌}
use Rattle.std.specs.Prelude.{Option, None, Some}
use Prim.Native.Nat.{ℕ}
use Rattle.octets.specs.Numbers.{le, octets}
use Rattle.parameters.specs.declared.Comeback.{Comeback}
use Rattle.parameters.specs.declared.Offer.{Offer}
use Rattle.parameters.specs.declared.Side.TheVariants.{Station, AccessPoint}
use Rattle.parameters.specs.Parameters.{parameters_of, parameters_octets}

abbrev real_key : List ℕ
real_key =
    0x03 ∷ 0xb2 ∷ 0xdd ∷ 0xb4 ∷ 0x85 ∷ 0xbf ∷ 0xe3 ∷ 0xa9 ∷ 0x71 ∷ 0xac ∷ 0xb1 ∷ 0x00 ∷ 0x5a ∷ 0x8f ∷ 0x95 ∷ 0xb8
    ∷ 0x56 ∷ 0x4d ∷ 0x39 ∷ 0x15 ∷ 0xc8 ∷ 0x9d ∷ 0x2d ∷ 0x62 ∷ 0x38 ∷ 0x8b ∷ 0xba ∷ 0xc9 ∷ 0x2a ∷ 0xae ∷ 0xf5 ∷ 0x66
    ∷ 0x11
    ∷ []

abbrev key : ℕ → ℕ → Option Offer
key start end = Some (record { group = 19; key = record { start = start; end = end } })

pub real_parameters_read : parameters_of Station ((0x02 ∷ 0x00 ∷ 0x13 ∷ 0x00 ∷ 0x21 ∷ []) ++ real_key)
    ≡ Some (record { comeback = None; format = 0; offer = key 5 38 })
unfolding parameters_of le
real_parameters_read = refl

pub real_parameters_written : parameters_octets Station (record { comeback = None; format = 0; offer = Some (19, real_key) })
    ≡ (0xff ∷ 0x27 ∷ 0x64 ∷ 0x02 ∷ 0x00 ∷ 0x13 ∷ 0x00 ∷ 0x21 ∷ []) ++ real_key
unfolding parameters_octets octets
real_parameters_written = refl

abbrev with_cookie : List ℕ
with_cookie = (3 ∷ 0 ∷ 2 ∷ 0xc0 ∷ 0xc1 ∷ 19 ∷ 0 ∷ 33 ∷ []) ++ real_key

pub with_cookie_read : parameters_of Station with_cookie
    ≡ Some (record { comeback = Some (Comeback.Cookie (record { start = 3; end = 5 })); format = 0; offer = key 8 41 })
unfolding parameters_of le
with_cookie_read = refl

pub with_cookie_written : parameters_octets Station (record { comeback = Some (0xc0 ∷ 0xc1 ∷ []); format = 0; offer = Some (19, real_key) })
    ≡ 0xff ∷ 0x2a ∷ 0x64 ∷ with_cookie
unfolding parameters_octets octets
with_cookie_written = refl

-- an access point tells a station to come back after 300 TU
abbrev come_back : List ℕ
come_back = 1 ∷ 0 ∷ 0x2c ∷ 0x01 ∷ 2 ∷ 0xc0 ∷ 0xc1 ∷ []

pub come_back_read : parameters_of AccessPoint come_back
    ≡ Some (record { comeback = Some (Comeback.After 300 (record { start = 5; end = 7 })); format = 0; offer = None })
unfolding parameters_of le
come_back_read = refl

pub come_back_written : parameters_octets AccessPoint (record { comeback = Some (300, 0xc0 ∷ 0xc1 ∷ []); format = 0; offer = None })
    ≡ 0xff ∷ 0x08 ∷ 0x64 ∷ come_back
unfolding parameters_octets octets
come_back_written = refl

-- from a station the first of these octets is the cookie's length
pub come_back_from_a_station : parameters_of Station come_back ≡ None
unfolding parameters_of
come_back_from_a_station = refl

pub rest_of_control_ignored : parameters_of Station ((0xfe ∷ 0 ∷ 19 ∷ 0 ∷ 33 ∷ []) ++ real_key)
    ≡ Some (record { comeback = None; format = 0; offer = key 5 38 })
unfolding parameters_of le
rest_of_control_ignored = refl

pub neither : parameters_of Station (0 ∷ 0 ∷ []) ≡ Some (record { comeback = None; format = 0; offer = None })
unfolding parameters_of
neither = refl

pub neither_written : parameters_octets Station (record { comeback = None; format = 0; offer = None }) ≡ 0xff ∷ 3 ∷ 0x64 ∷ 0 ∷ 0 ∷ []
unfolding parameters_octets
neither_written = refl

pub beyond_nothing : parameters_of Station (0 ∷ 0 ∷ 7 ∷ []) ≡ None
unfolding parameters_of
beyond_nothing = refl

pub beyond_the_key : parameters_of Station ((2 ∷ 0 ∷ 19 ∷ 0 ∷ 33 ∷ []) ++ real_key ++ (7 ∷ [])) ≡ None
unfolding parameters_of
beyond_the_key = refl

pub cookie_past_the_end : parameters_of Station (1 ∷ 0 ∷ 3 ∷ 0xc0 ∷ 0xc1 ∷ []) ≡ None
unfolding parameters_of
cookie_past_the_end = refl
