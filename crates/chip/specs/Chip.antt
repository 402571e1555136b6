-- What the radio chip needs of a body: the key of a first frame, the MIC zeroed, the MIC set.
use Rattle.std.specs.Prelude.{ℕ, ◌-◌, ◌≡◌, ◌&&◌, ◌||◌, Option, None, Some, unwrap_or, List, ◌++◌, eqb, ltb, length, take, drop, replicate, if◌then◌else◌}
use Rattle.std.specs.Result.{result_ok}
use Rattle.octets.specs.Maybe.{◌>>=◌}
use Rattle.elements.specs.declared.Part.{Part}
use Rattle.elements.specs.Body.{body_of}
use Rattle.elements.specs.Lies.{content}
use Rattle.scan.specs.Scan.{scan_of}
use Rattle.scan.specs.Times.{once}
use Rattle.suites.specs.Tables.{is_mic_length, group_of, is_key_of}
use Rattle.frames.specs.Contents.{holds}
use Rattle.frames.specs.First.{first_of}
use Rattle.chip.specs.declared.MicAnswer.{MicAnswer}

abbrev pub nowhere : Part
nowhere = record { start = 0; end = 0 }

-- The key shown from a first frame is that very part of the body, if the body is 6 to 1,024 octets, algorithm 7, transaction 1, and passes steps 1, 7
-- and 8; else an empty part at place 0.
unfoldable pub key_in : List ℕ → Option Part
key_in body = do
  header ← body_of body
  _ ← holds (eqb header.algorithm 7 && eqb header.transaction 1)
  facts ← first_of body
  group ← group_of facts.group
  _ ← holds (is_key_of group (content body facts.key))
  Some facts.key

unfoldable pub key_part : List ℕ → Part
key_part body = unwrap_or (key_in body) nowhere

-- The MIC can be set or zeroed if the body is 6 to 1,024 octets, algorithm 7, transaction 2 or 3, walks to its end and has exactly one MIC element, of a MIC's length.
unfoldable pub mic_in : List ℕ → Option Part
mic_in body = do
  header ← body_of body
  _ ← holds (eqb header.algorithm 7 && (eqb header.transaction 2 || eqb header.transaction 3))
  places ← result_ok (scan_of body)
  mic ← once places.mic
  _ ← holds (is_mic_length (mic.end - mic.start))
  Some mic

abbrev pub mic_number : MicAnswer → ℕ
mic_number MicAnswer.Done = 19
mic_number MicAnswer.BufferTooShort = 2
mic_number MicAnswer.NoMic = 20

-- a body with other octets for its MIC
abbrev pub with_mic : List ℕ → Part → List ℕ → List ℕ
with_mic body p mic = take p.start body ++ mic ++ drop p.end body

-- What showing a key promises: its place.
abbrev pub ShowsKey : List ℕ → Part → Type 0
ShowsKey body r = r ≡ key_part body

-- Zeroing into a second buffer, which keeps its octets past the body's length.
abbrev pub zero_number_at : ℕ → ℕ → Option Part → ℕ
zero_number_at body room None = 20
zero_number_at body room (Some p) = if ltb room body then 2 else 19

unfoldable pub zero_number : List ℕ → ℕ → ℕ
zero_number body room = zero_number_at (length body) room (mic_in body)

abbrev pub zeroed_at : List ℕ → List ℕ → Option Part → List ℕ
zeroed_at body out None = out
zeroed_at body out (Some p) =
    if ltb (length out) (length body) then out
    else with_mic body p (replicate (p.end - p.start) 0) ++ drop (length body) out

unfoldable pub zeroed : List ℕ → List ℕ → List ℕ
zeroed body out = zeroed_at body out (mic_in body)

-- What zeroing promises: the answer's number, and each octet of the buffer.
pub record ZeroesMic (body before : List ℕ) (answer : MicAnswer) (after : List ℕ) : Type 0 where
  pub number : mic_number answer ≡ zero_number body (length before)
  pub octets : after ≡ zeroed body before

-- Setting, where the MIC to set has that length too.
abbrev pub set_number_at : ℕ → Option Part → ℕ
set_number_at mic None = 20
set_number_at mic (Some p) = if eqb (p.end - p.start) mic then 19 else 20

unfoldable pub set_number : List ℕ → List ℕ → ℕ
set_number body mic = set_number_at (length mic) (mic_in body)

abbrev pub set_at : List ℕ → List ℕ → Option Part → List ℕ
set_at body mic None = body
set_at body mic (Some p) = if eqb (p.end - p.start) (length mic) then with_mic body p mic else body

unfoldable pub set_octets : List ℕ → List ℕ → List ℕ
set_octets body mic = set_at body mic (mic_in body)

-- What setting promises: the answer's number, and each octet of the body.
pub record SetsMic (before mic : List ℕ) (answer : MicAnswer) (after : List ℕ) : Type 0 where
  pub number : mic_number answer ≡ set_number before mic
  pub octets : after ≡ set_octets before mic
