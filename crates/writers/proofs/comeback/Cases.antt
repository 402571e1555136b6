-- Worked examples: a station is told to come back after 300 TU with a cookie of four octets.
use mathlib.Core.Path.{◌≡◌, refl}
use mathlib.Core.List.{List, [], ◌∷◌, ◌++◌}
use Rattle.std.specs.Prelude.{None, Some}
use Prim.Native.Nat.{ℕ}
use lib.ListN.{replicate}
use Rattle.octets.specs.Numbers.{le, octets}
use Rattle.elements.specs.Body.{body_of}
use Rattle.scan.specs.Scan.{scan_of}
use Rattle.parameters.specs.Parameters.{parameters_of, parameters_octets}
use Rattle.writers.specs.Comeback.{comeback_reply}
use Rattle.writers.specs.ComebackRead.{ComebackRead, comeback_in}
use Rattle.writers.specs.Header.{header_octets}

abbrev header : List ℕ
header = 0x07 ∷ 0x00 ∷ 0x02 ∷ 0x00 ∷ 0x1e ∷ 0x00 ∷ []

abbrev cookie : List ℕ
cookie = 0xc0 ∷ 0xc1 ∷ 0xc2 ∷ 0xc3 ∷ []

abbrev parameters : List ℕ
parameters = (0xff ∷ 0x0a ∷ 0x64 ∷ 0x01 ∷ 0x00 ∷ 0x2c ∷ 0x01 ∷ 0x04 ∷ []) ++ cookie

abbrev told : List ℕ → ComebackRead
told cookie = record { algorithm = 7; transaction = 2; status = 30; after = 300; cookie = cookie }

pub written : comeback_reply 7 30 300 cookie ≡ header ++ parameters
unfolding comeback_reply header_octets parameters_octets octets
written = refl

pub read : comeback_in (header ++ parameters) ≡ Some (told cookie)
unfolding comeback_in body_of scan_of parameters_of le
read = refl

-- an element of ID 244 is skipped
pub among_others : comeback_in (header ++ (0xf4 ∷ 0x01 ∷ 0x20 ∷ []) ++ parameters) ≡ Some (told cookie)
unfolding comeback_in body_of scan_of parameters_of le
among_others = refl

pub empty_cookie : comeback_in (comeback_reply 7 30 300 []) ≡ Some (told [])
unfolding comeback_in body_of scan_of parameters_of le comeback_reply header_octets parameters_octets octets
empty_cookie = refl

pub cookie_of_33 : comeback_in (comeback_reply 7 30 300 (replicate 33 0xc0)) ≡ None
unfolding comeback_in body_of scan_of parameters_of le comeback_reply header_octets parameters_octets octets
cookie_of_33 = refl

pub plain_refusal : comeback_in header ≡ None
unfolding comeback_in body_of scan_of le
plain_refusal = refl

pub twice : comeback_in (header ++ parameters ++ parameters) ≡ None
unfolding comeback_in body_of scan_of le
twice = refl

pub fragment : comeback_in (header ++ parameters ++ (0xf2 ∷ 0x00 ∷ [])) ≡ None
unfolding comeback_in body_of scan_of le
fragment = refl

-- control 0: neither comeback information nor a key
pub without_its_bit : comeback_in (header ++ (0xff ∷ 0x03 ∷ 0x64 ∷ 0x00 ∷ 0x00 ∷ [])) ≡ None
unfolding comeback_in body_of scan_of parameters_of le
without_its_bit = refl

pub with_a_key : comeback_in (header ++ (0xff ∷ 0x0e ∷ 0x64 ∷ 0x03 ∷ 0x00 ∷ 0x2c ∷ 0x01 ∷ 0x04 ∷ []) ++ cookie ++ (0x13 ∷ 0x00 ∷ 0x01 ∷ 0x02 ∷ [])) ≡ None
unfolding comeback_in body_of scan_of parameters_of le
with_a_key = refl

pub format_1 : comeback_in (header ++ (0xff ∷ 0x0a ∷ 0x64 ∷ 0x01 ∷ 0x01 ∷ 0x2c ∷ 0x01 ∷ 0x04 ∷ []) ++ cookie) ≡ None
unfolding comeback_in body_of scan_of parameters_of le
format_1 = refl
