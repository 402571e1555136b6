-- Both sides of each edge: document 01's P1 to P10 as one table of what the definitions give and what it must be.
use Rattle.std.specs.Prelude.{ℕ, ◌+◌, ◌*◌, ◌-◌, ◌/◌, ◌≡◌, Bool, true, false, List, [], ◌∷◌, ◌++◌, length, take, replicate, if◌then◌else◌, Option, None, Some, is_some}
use Rattle.octets.specs.Numbers.{le, octets}
use Rattle.octets.specs.Pieces.{pieces}
use Rattle.units.specs.declared.Tu.{Tu}
use Rattle.units.specs.Units.{in_tu}
use Rattle.elements.specs.Body.{body_of}
use Rattle.scan.specs.Scan.{scan_of}
use Rattle.suites.specs.Suite.{suite_at, suite_octets}
use Rattle.suites.specs.Tables.{akm_of, cipher_of, group_of, is_key_of}
use Rattle.layouts.specs.Mic.{mic_octets}
use Rattle.parameters.specs.Parameters.{parameters_of, parameters_octets}
use Rattle.rsne.specs.Rsne.{rsne_of, rsne_octets}
use Rattle.layouts.specs.Timeout.{timeout_of, timeout_octets}
use Rattle.frames.specs.First.{first_of}
use Rattle.writers.specs.Header.{header_octets}
use Rattle.writers.specs.Second.{second_octets}
use Rattle.frames.specs.Third.{third_of}
use Rattle.cache.specs.File.{is_well_formed, records_of}
use Rattle.cache.specs.Search.{choice_of}
use Rattle.peers.specs.declared.Peer.{Peer}
use Rattle.peers.specs.declared.Phase.{Phase}
use Rattle.peers.specs.declared.Phase.TheVariants.{Waiting, Installed}
use Rattle.peers.specs.View.{live}
use Rattle.rules.specs.declared.Brought.{Brought}
use Rattle.rules.specs.OnePeer.{Call, Outcome, answer_number, status_beside, receive_of}
use Rattle.platform.specs.Promises.{shown_after}

abbrev pub tu : ℕ → Tu
tu n = record { 0 = n }

-- Frames, octet by octet ----------------------------------------------------------------------------------------------------------------

abbrev pub header : ℕ → List ℕ
header transaction = 7 ∷ 0 ∷ transaction ∷ 0 ∷ 0 ∷ 0 ∷ []

abbrev pub suite : ℕ → List ℕ
suite kind = 0x00 ∷ 0x0f ∷ 0xac ∷ kind ∷ []

-- the content of an RSNE with one pairwise suite, one AKM and p PMKIDs, up to its PMKIDs
abbrev pub rsne_front : ℕ → ℕ → ℕ → List ℕ
rsne_front cipher akm p = (1 ∷ 0 ∷ suite 7) ++ (1 ∷ 0 ∷ suite cipher) ++ (1 ∷ 0 ∷ suite akm) ++ (0xc0 ∷ 0 ∷ p ∷ 0 ∷ [])

abbrev pub first_body : ℕ → ℕ → List ℕ → List ℕ
first_body cipher akm pmkids =
    header 1
    ++ (48 ∷ (26 + length pmkids) ∷ [])
    ++ rsne_front cipher akm (length pmkids / 16) ++ pmkids ++ suite 7
    ++ (255 ∷ 39 ∷ 100 ∷ 2 ∷ 0 ∷ 19 ∷ 0 ∷ 33 ∷ []) ++ (3 ∷ replicate 32 0x77)

abbrev pub mic : List ℕ
mic = replicate 16 0x3c

abbrev pub third_body : List ℕ
third_body = header 3 ++ (255 ∷ 3 ∷ 100 ∷ 0 ∷ 0 ∷ []) ++ (140 ∷ 16 ∷ mic)

-- Calls ---------------------------------------------------------------------------------------------------------------------------------

abbrev pub pmkid : List ℕ
pmkid = replicate 16 0xa8

-- a cache with that PMKID under an AKM, until 9,000 TU
abbrev pub cached_under : ℕ → List ℕ
cached_under akm = (0x31 ∷ 25 ∷ 0 ∷ []) ++ pmkid ++ (akm ∷ octets 8 9000)

-- our own public key, of 33 or of 65 octets
abbrev pub short_key : List ℕ
short_key = 2 ∷ replicate 32 0x5a

abbrev pub long_key : List ℕ
long_key = 4 ∷ replicate 64 0x5a

abbrev pub station : List ℕ
station = 2 ∷ replicate 5 0

-- what is brought at a reading, with a deadline: all ciphers and PASN without a PMK allowed, the lent point check passed
abbrev pub brings : ℕ → ℕ → List ℕ → Brought
brings reading deadline address = record {
  settings = record { pmkless = true; ciphers = 15; lifetime = record { 0 = 3600 }; deadline = tu deadline };
  reading = tu reading;
  address = address;
  lent = record { point = true };
}

-- a call at 5,000 TU, with a reply buffer of so many octets
abbrev pub asks : List ℕ → ℕ → List ℕ → List ℕ → List ℕ → Call
asks address room key cache body =
    record { brought = brings 5000 1000 address; cache = cache; key = key; mic = mic; body = body; buffer = replicate room 0 }

-- a body of this station, with nothing in the cache
abbrev pub hears : List ℕ → Call
hears body = asks station 148 short_key [] body

-- What it comes to ----------------------------------------------------------------------------------------------------------------------

-- 1 if it is so, else 0
abbrev pub whether : Bool → ℕ
whether b = if b then 1 else 0

-- whether n octets are the content of an RSNE with m = a = 1 and p PMKIDs
unfoldable pub reads : ℕ → ℕ → Bool
unfolding rsne_of le suite_at
reads p n = is_some (rsne_of (take n (rsne_front 4 8 p ++ replicate n 0)))

-- how long the content is that is written with p PMKIDs, without its ID and length
unfoldable pub writes : ℕ → ℕ
unfolding rsne_octets suite_octets octets
writes p = length (rsne_octets 4 8 (replicate (16 * p) 0)) - 2

abbrev pub record_of : Phase → Peer
record_of phase = record {
  address = station;
  agreed = record { cipher = 4; akm = 8; cached = true; lifetime = record { 0 = 60 } };
  pmkid = pmkid;
  phase = phase;
}

-- the answer's number, and the status beside it
abbrev pub answered : Outcome → List ℕ
answered o = answer_number o.answer ∷ beside (status_beside o.answer)
  where
    beside : Option ℕ → List ℕ
    beside None = []
    beside (Some status) = status ∷ []

-- a receive, with room in the table and no reading before
unfoldable pub gets : Option Peer → Call → Outcome
unfolding
    receive_of is_well_formed records_of choice_of pieces body_of scan_of first_of third_of rsne_of timeout_of parameters_of suite_at le akm_of cipher_of group_of is_key_of
    header_octets second_octets rsne_octets timeout_octets parameters_octets mic_octets suite_octets octets
gets own call = receive_of (tu 0) false own call

-- the answers to calls one after another, each on the record that the last one left
unfoldable pub answers : Option Peer → List Call → List ℕ
unfolding gets
answers own [] = []
answers own (call ∷ calls) = answered (gets own call) ++ answers (shown_after own call.brought.reading (gets own call).leaves) calls

-- The table -----------------------------------------------------------------------------------------------------------------------------

pub record Edge : Type 0 where
  pub number : ℕ
  pub gives : List ℕ
  pub must : List ℕ

infix 4 P◌∶◌is◌
abbrev pub P◌∶◌is◌ : ℕ → List ℕ → List ℕ → Edge
P number ∶ gives is must = record { number = number; gives = gives; must = must }

unfoldable pub edges : List Edge
unfolding reads writes gets answers
edges =
    -- seconds in TU
    (P 1 ∶ (in_tu (record { 0 = 1 })).0 ∷ [] is 976 ∷ [])
    ∷ (P 2 ∶ (in_tu (record { 0 = 16 })).0 ∷ [] is 15625 ∷ [])
    ∷ (P 3 ∶ (in_tu (record { 0 = 86400 })).0 ∷ [] is 84375000 ∷ [])
    -- a deadline or end equal to now, 5,000 TU, and one TU later
    ∷ (P 4 ∶ whether (live (record_of (Waiting (tu 5000))) (tu 5000)) ∷ whether (live (record_of (Waiting (tu 5001))) (tu 5000)) ∷ [] is 0 ∷ 1 ∷ [])
    ∷ (P 4 ∶ whether (live (record_of (Installed (tu 5000))) (tu 5000)) ∷ whether (live (record_of (Installed (tu 5001))) (tu 5000)) ∷ [] is 0 ∷ 1 ∷ [])
    -- RSNE content with m = a = 1, as written and as read, with no PMKID and with fourteen
    ∷ (P 5 ∶ writes 0 ∷ whether (reads 0 25) ∷ whether (reads 0 26) ∷ whether (reads 0 27) ∷ [] is 26 ∷ 0 ∷ 1 ∷ 0 ∷ [])
    ∷ (P 5 ∶ writes 14 ∷ whether (reads 14 249) ∷ whether (reads 14 250) ∷ whether (reads 14 251) ∷ [] is 250 ∷ 0 ∷ 1 ∷ 0 ∷ [])
    -- the length of the second frame
    ∷ (P 6 ∶ length (gets None (asks station 148 short_key [] (first_body 4 21 []))).reply ∷ [] is 100 ∷ [])
    ∷ (P 6 ∶ length (gets None (asks station 148 long_key (cached_under 8) (first_body 4 8 pmkid))).reply ∷ [] is 148 ∷ [])
    -- that longest frame, with a reply buffer of 147 octets and of 148
    ∷ (P 7 ∶ answers None (asks station 147 long_key (cached_under 8) (first_body 4 8 pmkid) ∷ []) is 2 ∷ [])
    ∷ (P 7 ∶ answers None (asks station 148 long_key (cached_under 8) (first_body 4 8 pmkid) ∷ []) is 0 ∷ [])
    -- the address's first octet
    ∷ (P 8 ∶ answers None (asks (0x01 ∷ replicate 5 0) 148 short_key [] (first_body 4 21 []) ∷ []) is 4 ∷ [])
    ∷ (P 8 ∶ answers None (asks (0x02 ∷ replicate 5 0) 148 short_key [] (first_body 4 21 []) ∷ []) is 0 ∷ [])
    -- a PMKID cached under AKM 6
    ∷ (P 9 ∶ answers None (asks station 148 short_key (cached_under 6) (first_body 4 8 pmkid) ∷ []) is 11 ∷ 53 ∷ [])
    ∷ (P 9 ∶ answers None (asks station 148 short_key (cached_under 6) (first_body 4 6 pmkid) ∷ []) is 0 ∷ [])
    -- after a first frame the same third frame twice, which leaves the peer installed: a first frame is answered 10
    ∷ (P 10 ∶ answers None (hears (first_body 4 21 []) ∷ hears third_body ∷ hears third_body ∷ hears (first_body 4 21 []) ∷ []) is 0 ∷ 15 ∷ 13 ∷ 10 ∷ [])
    ∷ []

abbrev pub AllHold : List Edge → Type 0
AllHold [] = Unit {0}
AllHold (edge ∷ edges) = (edge.gives ≡ edge.must) × AllHold edges

abbrev pub EdgesHold : Type 0
EdgesHold = AllHold edges
