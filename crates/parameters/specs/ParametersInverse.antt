-- Reading PASN Parameters and writing them undo each other.
use Rattle.std.specs.Prelude.{ℕ, ◌+◌, ◌%◌, ◌^◌, ◌<◌, ◌≡◌, Option, None, Some, List, ◌∷◌, length, drop, get_or}
use Rattle.std.specs.Option.{option_map}
use Rattle.elements.specs.Lies.{content}
use Rattle.parameters.specs.declared.Side.{Side}
use Rattle.parameters.specs.declared.Side.TheVariants.{Station, AccessPoint}
use Rattle.parameters.specs.declared.Comeback.{Comeback}
use Rattle.parameters.specs.declared.Offer.{Offer}
use Rattle.parameters.specs.declared.Parameters.{Parameters}
use Rattle.parameters.specs.Parameters.{parameters_of, WithB0, Said, comeback_octets, content_octets}

-- where what is said stands in the content
abbrev pub comeback_placed : (side : Side) → Option (WithB0 side) → Option Comeback
comeback_placed side None = None
comeback_placed Station (Some cookie) = Some (Comeback.Cookie (record { start = 3; end = 3 + length cookie }))
comeback_placed AccessPoint (Some (after, cookie)) = Some (Comeback.After after (record { start = 5; end = 5 + length cookie }))

abbrev pub offer_placed : ℕ → Option (ℕ × List ℕ) → Option Offer
offer_placed at None = None
offer_placed at (Some (group, key)) = Some (record { group = group; key = record { start = at + 3; end = at + 3 + length key } })

abbrev pub placed : (side : Side) → Said side → Parameters
placed side said = record {
  comeback = comeback_placed side said.comeback;
  format = said.format;
  offer = offer_placed (2 + length (comeback_octets side said.comeback)) said.offer;
}

-- what a reading of a content says, octets and all: no station's cookie stands in an access point's element, and the other way round
abbrev pub comeback_in : (side : Side) → List ℕ → Option Comeback → Option (WithB0 side)
comeback_in side s None = None
comeback_in Station s (Some (Comeback.Cookie cookie)) = Some (content s cookie)
comeback_in Station s (Some (Comeback.After after cookie)) = None
comeback_in AccessPoint s (Some (Comeback.Cookie cookie)) = None
comeback_in AccessPoint s (Some (Comeback.After after cookie)) = Some (after, content s cookie)

abbrev pub offer_in : List ℕ → Option Offer → Option (ℕ × List ℕ)
offer_in s offer = option_map (λ o. (o.group, content s o.key)) offer

abbrev pub said_in : (side : Side) → List ℕ → Parameters → Said side
said_in side s p = record { comeback = comeback_in side s p.comeback; format = p.format; offer = offer_in s p.offer }

-- Comeback After and the group fit their two octets
abbrev pub AfterFits : (side : Side) → Option (WithB0 side) → Type 0
AfterFits side None = Unit {0}
AfterFits Station (Some cookie) = Unit {0}
AfterFits AccessPoint (Some (after, cookie)) = after < 2 ^ 16

abbrev pub GroupFits : Option (ℕ × List ℕ) → Type 0
GroupFits None = Unit {0}
GroupFits (Some (group, key)) = group < 2 ^ 16

-- What is written reads back.
pub record ReadsBack (side : Side) (said : Said side) : Type 0 where
  pub reads : parameters_of side (content_octets side said) ≡ Some (placed side said)
  pub says : said_in side (content_octets side said) (placed side said) ≡ said

abbrev pub WhatIsWrittenReadsBack : Type 0
WhatIsWrittenReadsBack = (side : Side) (said : Said side) → AfterFits side said.comeback → GroupFits said.offer → ReadsBack side said

-- What reads well was written so, but for the control bits that are ignored.
abbrev pub plain : List ℕ → List ℕ
plain s = get_or s 0 0 % 4 ∷ drop 1 s

abbrev pub WhatIsReadWasWritten : Type 0
WhatIsReadWasWritten =
    (side : Side) (s : List ℕ) → ((i : ℕ) → get_or s i 0 < 256)
    → (p : Parameters) → parameters_of side s ≡ Some p → plain s ≡ content_octets side (said_in side s p)
