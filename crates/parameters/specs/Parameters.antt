-- PASN Parameters after the extension ID: control (B0 comeback, B1 group and key, the rest ignored on reading and written 0), wrapped format, with B0
-- Comeback After (2 octets from an access point, none from a station), a cookie length octet and the cookie, with B1 group (2), key length (1), key.
-- No octets beyond.
use Rattle.std.specs.Prelude.{ℕ, ◌+◌, ◌*◌, ◌/◌, ◌%◌, ◌≤◌, Option, None, Some, List, [], ◌∷◌, ◌++◌, leb, ltb, eqb, length, get_or, if◌then◌else◌}
use Rattle.std.specs.Option.{option_map}
use Rattle.octets.specs.Maybe.{◌>>=◌}
use Rattle.octets.specs.Numbers.{le, octets}
use Rattle.elements.specs.declared.Part.{Part}
use Rattle.parameters.specs.declared.Side.{Side}
use Rattle.parameters.specs.declared.Side.TheVariants.{Station, AccessPoint}
use Rattle.parameters.specs.declared.Comeback.{Comeback}
use Rattle.parameters.specs.declared.Offer.{Offer}
use Rattle.parameters.specs.declared.Parameters.{Parameters}
use Rattle.parameters.specs.declared.ComebackToWrite.{ComebackToWrite}
use Rattle.parameters.specs.declared.ToWrite.{ToWrite}

-- the bits B0 and B1 of the control octet
abbrev pub bit0 : List ℕ → ℕ
bit0 s = get_or s 0 0 % 2

abbrev pub bit1 : List ℕ → ℕ
bit1 s = get_or s 0 0 / 2 % 2

-- the octets of Comeback After
abbrev pub after_width : Side → ℕ
after_width Station = 0
after_width AccessPoint = 2

-- what comes with B0
abbrev pub comeback_of : Side → List ℕ → Part → Comeback
comeback_of Station s cookie = Comeback.Cookie cookie
comeback_of AccessPoint s cookie = Comeback.After (le 2 s 2) cookie

-- with B0, where the cookie's length octet stands at a place: what comes with it, and the place after
abbrev pub cookie_from : Side → List ℕ → ℕ → Option (Option Comeback × ℕ)
cookie_from side s at =
    if leb (at + 1 + get_or s at 0) (length s) then
    Some (Some (comeback_of side s (record { start = at + 1; end = at + 1 + get_or s at 0 })), at + 1 + get_or s at 0)
    else None

-- what comes with B0, and the place after it
unfoldable pub comeback_from : Side → List ℕ → Option (Option Comeback × ℕ)
comeback_from side s =
    if eqb (bit0 s) 0 then Some (None, 2)
    else cookie_from side s (2 + after_width side)

-- what comes with B1, from a place on to the end
unfoldable pub offer_from : List ℕ → ℕ → Option (Option Offer)
offer_from s at =
    if eqb (bit1 s) 0 then (if eqb (length s) at then Some None else None)
    else (if eqb (length s) (at + 3 + get_or s (at + 2) 0) then Some (Some (record { group = le 2 s at; key = record { start = at + 3; end = length s } }))
    else None)

-- what both say
abbrev pub read_from : Side → List ℕ → Option Parameters
read_from side s = do
  (comeback, at) ← comeback_from side s
  offer ← offer_from s at
  Some (record { comeback = comeback; format = get_or s 1 0; offer = offer })

-- by who wrote them
unfoldable pub parameters_of : Side → List ℕ → Option Parameters
unfolding comeback_from offer_from
parameters_of side s = if ltb (length s) 2 then None else read_from side s

-- What comes with B0, octets and all: from a station a cookie, from an access point Comeback After and a cookie.
abbrev pub WithB0 : Side → Type 0
WithB0 Station = List ℕ
WithB0 AccessPoint = ℕ × List ℕ

-- What PASN Parameters say: what comes with B0, if it does; the wrapped format; what comes with B1, if it does, a group and a key.
pub record Said (side : Side) : Type 0 where
  pub comeback : Option (WithB0 side)
  pub format : ℕ
  pub offer : Option (ℕ × List ℕ)

-- a length octet, and the octets
abbrev pub counted : List ℕ → List ℕ
counted s = length s ∷ s

abbrev pub comeback_octets : (side : Side) → Option (WithB0 side) → List ℕ
comeback_octets side None = []
comeback_octets Station (Some cookie) = counted cookie
comeback_octets AccessPoint (Some (after, cookie)) = octets 2 after ++ counted cookie

abbrev pub offer_octets : Option (ℕ × List ℕ) → List ℕ
offer_octets None = []
offer_octets (Some (group, key)) = octets 2 group ++ counted key

-- a control bit: whether something comes with it
abbrev pub bit : {A : Type 0} → Option A → ℕ
bit None = 0
bit (Some x) = 1

abbrev pub control : {side : Side} → Said side → ℕ
control said = bit said.comeback + 2 * bit said.offer

unfoldable pub content_octets : (side : Side) → Said side → List ℕ
content_octets side said =
    (control said ∷ said.format ∷ [])
    ++ comeback_octets side said.comeback
    ++ offer_octets said.offer

-- the whole element: ID 255, length, extension ID 100, content
unfoldable pub parameters_octets : (side : Side) → Said side → List ℕ
unfolding content_octets
parameters_octets side said = (255 ∷ (length (content_octets side said) + 1) ∷ 100 ∷ []) ++ content_octets side said

-- the octets of the whole element with a group and a key and nothing else, beside the key
abbrev pub parameters_size : ℕ
parameters_size = 8

-- What the code is to write, as what is said. Who writes so is told by what comes with B0; without it both sides write alike.
abbrev pub side_of : Option ComebackToWrite → Side
side_of (Some ComebackToWrite.Cookie) = Station
side_of (Some (ComebackToWrite.After after)) = AccessPoint
side_of None = AccessPoint

abbrev pub comeback_by : (comeback : Option ComebackToWrite) → List ℕ → Option (WithB0 (side_of comeback))
comeback_by (Some ComebackToWrite.Cookie) cookie = Some cookie
comeback_by (Some (ComebackToWrite.After after)) cookie = Some (after, cookie)
comeback_by None cookie = None

abbrev pub offer_by : Option ℕ → List ℕ → Option (ℕ × List ℕ)
offer_by offer key = option_map (λ group. (group, key)) offer

abbrev pub said_by : (written : ToWrite) → List ℕ → List ℕ → Said (side_of written.comeback)
said_by written cookie key = record {
  comeback = comeback_by written.comeback cookie;
  format = written.format;
  offer = offer_by written.offer key;
}

-- at most so many octets, and a buffer of n has room for them
pub record Fits (most : ℕ) (written : List ℕ) (n : ℕ) : Type 0 where
  pub short : length written ≤ most
  pub room : length written ≤ n
