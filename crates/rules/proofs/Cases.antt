-- Worked examples, in document 01's numbers. Its edges P1 to P10 stand in `Edges` of `demands`.
use Prim.Native.Nat.{ℕ, ◌+◌, ◌/◌, ◌^◌}
use mathlib.Core.Path.{◌≡◌, refl}
use mathlib.Core.Bool.{Bool, true, false}
use mathlib.Core.List.{List, [], ◌∷◌, ◌++◌, map}
use Rattle.std.specs.Prelude.{Option, None, Some, if◌then◌else◌}
use lib.Dec.{eqb}
use lib.ListN.{length, replicate}
use Rattle.octets.specs.Numbers.{le, octets}
use Rattle.octets.specs.Pieces.{pieces}
use Rattle.units.specs.declared.Tu.{Tu}
use Rattle.elements.specs.Body.{body_of}
use Rattle.scan.specs.Scan.{scan_of}
use Rattle.suites.specs.Suite.{suite_at, suite_octets}
use Rattle.suites.specs.Tables.{akm_of, cipher_of, group_of, is_key_of}
use Rattle.layouts.specs.Mic.{mic_octets}
use Rattle.parameters.specs.Parameters.{parameters_of, parameters_octets}
use Rattle.rsne.specs.Rsne.{rsne_of, rsne_octets}
use Rattle.layouts.specs.Timeout.{timeout_of, timeout_octets}
use Rattle.frames.specs.First.{first_of}
use Rattle.writers.specs.Header.{header_octets}
use Rattle.writers.specs.Second.{second_octets}
use Rattle.frames.specs.Third.{third_of}
use Rattle.cache.specs.File.{is_well_formed, records_of}
use Rattle.cache.specs.Search.{choice_of}
use Rattle.peers.specs.declared.Peer.{Peer}
use Rattle.peers.specs.declared.Phase.{Phase}
use Rattle.peers.specs.declared.Phase.TheVariants.{Waiting, Installed}
use Rattle.rules.specs.declared.Settings.{Settings}
use Rattle.rules.specs.Alone.{remove, look_up, removed, found, alone_gets}
use Rattle.rules.specs.OnePeer.{Call, Outcome, answer_number, status_beside, peer_after, receive_of, remove_of, look_up_of}

abbrev tu : ℕ → Tu
tu n = record { 0 = n }

-- sixteen equal octets
abbrev id : ℕ → List ℕ
id b = replicate 16 b

-- Frames, octet by octet ----------------------------------------------------------------------------------------------------------------

abbrev header : ℕ → ℕ → ℕ → List ℕ
header algorithm transaction status = algorithm ∷ 0 ∷ transaction ∷ 0 ∷ status ∷ 0 ∷ []

abbrev suite : ℕ → List ℕ
suite kind = 0x00 ∷ 0x0f ∷ 0xac ∷ kind ∷ []

-- with the group, group management and pairwise cipher, the AKM, the capabilities and the PMKIDs
abbrev rsne : ℕ → ℕ → ℕ → ℕ → ℕ → List ℕ → List ℕ
rsne group management pairwise akm capabilities pmkids =
    (48 ∷ (26 + length pmkids) ∷ 1 ∷ 0 ∷ suite group)
    ++ (1 ∷ 0 ∷ suite pairwise)
    ++ (1 ∷ 0 ∷ suite akm)
    ++ (capabilities ∷ 0 ∷ length pmkids / 16 ∷ 0 ∷ pmkids)
    ++ suite management

-- a lifetime of low + 256 high seconds
abbrev timeout : ℕ → ℕ → List ℕ
timeout low high = 56 ∷ 5 ∷ 2 ∷ low ∷ high ∷ 0 ∷ 0 ∷ []

abbrev parameters : ℕ → ℕ → List ℕ → List ℕ
parameters format group key = (255 ∷ 39 ∷ 100 ∷ 2 ∷ format ∷ group ∷ 0 ∷ 33 ∷ []) ++ key

-- Wrapped Data, empty, beside a format that is not 0
abbrev wrapped : ℕ → List ℕ
wrapped format = if eqb format 0 then [] else 255 ∷ 1 ∷ 8 ∷ []

-- A first frame without a Timeout, by what the steps look at: the wrapped format; the group, group management and pairwise cipher; the AKM; the
-- capabilities; the group; the first of the key's 33 octets; the PMKIDs.
abbrev first_body : ℕ → ℕ → ℕ → ℕ → ℕ → ℕ → ℕ → ℕ → List ℕ → List ℕ
first_body format cipher management pairwise akm capabilities group octet pmkids =
    header 7 1 0 ++ rsne cipher management pairwise akm capabilities pmkids ++ parameters format group (octet ∷ replicate 32 0x77) ++ wrapped format

-- one that passes where that PMKID is cached under AKM 8
abbrev usual_body : List ℕ
usual_body = first_body 0 7 7 4 8 0xc0 19 3 (id 0xa8)

-- a third frame, with a MIC of sixteen equal octets
abbrev third_body : ℕ → ℕ → List ℕ
third_body status octet = header 7 3 status ++ (255 ∷ 3 ∷ 100 ∷ 0 ∷ 0 ∷ []) ++ (140 ∷ 16 ∷ id octet)

-- Calls ---------------------------------------------------------------------------------------------------------------------------------

-- PASN without a PMK, the ciphers (1 is cipher 4 alone, 15 all four), the lifetime and the deadline
abbrev settings : Bool → ℕ → ℕ → ℕ → Settings
settings pmkless ciphers lifetime deadline =
    record { pmkless = pmkless; ciphers = ciphers; lifetime = record { 0 = lifetime }; deadline = tu deadline }

abbrev usual : Settings
usual = settings true 15 3600 1000

abbrev station : List ℕ
station = 2 ∷ replicate 5 0

abbrev group_address : List ℕ
group_address = 1 ∷ replicate 5 0

abbrev own_key : List ℕ
own_key = 2 ∷ replicate 32 0x5a

-- a cache with the PMKID of sixteen octets A8, under an AKM, until 9,000 TU
abbrev cached : ℕ → List ℕ
cached akm = (0x31 ∷ 25 ∷ 0 ∷ []) ++ id 0xa8 ++ (akm ∷ octets 8 9000)

-- the lent MIC is sixteen octets 3C
abbrev call : ℕ → ℕ → Settings → List ℕ → List ℕ → Bool → List ℕ → List ℕ → Call
call reading room s address cache point key body = record {
  brought = record { settings = s; reading = tu reading; address = address; lent = record { point = point } };
  cache = cache;
  key = key;
  mic = id 0x3c;
  body = body;
  buffer = replicate room 0;
}

-- by what is checked before the body: the reading, the reply buffer's length, the settings, the address and the cache
abbrev checked : ℕ → ℕ → Settings → List ℕ → List ℕ → List ℕ → Call
checked reading room s address cache body = call reading room s address cache true own_key body

-- at 5,000 TU, by the settings, the cache and the frame
abbrev tried : Settings → List ℕ → List ℕ → Call
tried s cache body = checked 5000 148 s station cache body

abbrev hears : List ℕ → Call
hears body = tried usual (cached 8) body

-- with a lent point check, a cache and a frame, where cipher 4 alone is allowed, AKM 21 is not, and our own key has 32 octets
abbrev strict : Bool → List ℕ → List ℕ → Call
strict point cache body = call 5000 148 (settings false 1 3600 1000) station cache point (replicate 32 2) body

-- The records ---------------------------------------------------------------------------------------------------------------------------

-- with cipher 4
abbrev peer : Phase → ℕ → Bool → List ℕ → ℕ → Option Peer
peer phase akm cached pmkid lifetime =
    Some (record {
      address = station;
      agreed = record { cipher = 4; akm = akm; cached = cached; lifetime = record { 0 = lifetime } };
      pmkid = pmkid;
      phase = phase;
    })

-- of an exchange that was begun before
abbrev older : Option Peer
older = peer (Waiting (tu 5500)) 5 true (id 0xa5) 60

abbrev waiting : Option Peer
waiting = peer (Waiting (tu 6000)) 8 true (id 0xa8) 600

-- at 5,000 TU; 600 s are 585,937 TU
abbrev installed : Option Peer
installed = peer (Installed (tu 590937)) 8 true (id 0xa8) 600

-- What it comes to ----------------------------------------------------------------------------------------------------------------------

-- the latest reading is 4,000 TU
unfoldable pub gets : Bool → Option Peer → Call → Outcome
unfolding
    receive_of is_well_formed records_of choice_of pieces body_of scan_of first_of third_of rsne_of timeout_of parameters_of suite_at le akm_of cipher_of group_of is_key_of
    header_octets second_octets rsne_octets timeout_octets parameters_octets mic_octets suite_octets octets
gets full own c = receive_of (tu 4000) full own c

abbrev number : Call → ℕ
number c = answer_number (gets false None c).answer

abbrev status : Call → Option ℕ
status c = status_beside (gets false None c).answer

-- the answer's number, the status beside it, the reply, and this peer's record afterwards
pub record Shown : Type 0 where
  pub number : ℕ
  pub status : Option ℕ
  pub reply : List ℕ
  pub peer : Option Peer

abbrev shown : Option Peer → Outcome → Shown
shown own o = record { number = answer_number o.answer; status = status_beside o.answer; reply = o.reply; peer = peer_after own o.leaves }

abbrev received : Bool → Option Peer → Call → Shown
received full own c = shown own (gets full own c)

-- nothing is written
abbrev silent : ℕ → Option Peer → Shown
silent number after = record { number = number; status = None; reply = []; peer = after }

abbrev refused : ℕ → Option Peer → Shown
refused status after = record { number = 11; status = Some status; reply = header 7 2 status; peer = after }

-- 0, with the AKM, the PMKIDs and the lifetime of the second frame
abbrev accepted : ℕ → List ℕ → List ℕ → Option Peer → Shown
accepted akm pmkids lifetime after = record {
  number = 0;
  status = None;
  reply = header 7 2 0 ++ rsne 7 7 4 akm 0xc0 pmkids ++ lifetime ++ parameters 0 19 own_key ++ (140 ∷ 16 ∷ id 0);
  peer = after;
}

-- Before the frame is looked at ---------------------------------------------------------------------------------------------------------

-- each call puts right what the one before it was answered for, and is wrong in all that comes later
pub checks_in_order :
    map
    number
    (checked 3999 147 (settings true 15 0 1000) group_address (0 ∷ []) (replicate 5 0)
    ∷ checked 4000 147 (settings true 15 0 1000) group_address (0 ∷ []) (replicate 5 0)
    ∷ checked 4000 148 (settings true 15 0 1000) group_address (0 ∷ []) (replicate 5 0)
    ∷ checked 4000 148 usual group_address (0 ∷ []) (replicate 5 0)
    ∷ checked 4000 148 usual station (0 ∷ []) (replicate 5 0)
    ∷ checked 4000 148 usual station [] (replicate 5 0)
    ∷ checked 4000 148 usual station [] (header 6 2 0)
    ∷ checked 4000 148 usual station [] (header 7 2 0)
    ∷ [])
    ≡ 1 ∷ 2 ∷ 3 ∷ 4 ∷ 5 ∷ 7 ∷ 8 ∷ 9 ∷ []
unfolding gets
checks_in_order = refl

-- the latest reading again and the highest one are taken
pub clock_edges :
    map (λ (reading : ℕ). number (checked reading 148 usual station [] (header 7 2 0))) (3999 ∷ 4000 ∷ 2 ^ 48 ∷ (2 ^ 48 + 1) ∷ []) ≡ 1 ∷ 9 ∷ 9 ∷ 1 ∷ []
unfolding gets
clock_edges = refl

abbrev within : ℕ → ℕ → Call
within lifetime deadline = tried (settings true 15 lifetime deadline) [] (header 7 2 0)

pub settings_edges :
    map number (within 0 1 ∷ within 1 0 ∷ within 1 1 ∷ within 86400 10000 ∷ within 86401 10000 ∷ within 86400 10001 ∷ [])
    ≡ 3 ∷ 3 ∷ 9 ∷ 9 ∷ 3 ∷ 3 ∷ []
unfolding gets
settings_edges = refl

-- a waiting record goes; an installed one stays
pub algorithm_6 :
    received false waiting (hears (header 6 1 0)) ∷ received false installed (hears (header 6 1 0)) ∷ [] ≡ silent 8 None ∷ silent 8 installed ∷ []
unfolding gets
algorithm_6 = refl

-- The first frame -----------------------------------------------------------------------------------------------------------------------

pub first_installed : received false installed (hears usual_body) ≡ silent 10 installed
unfolding gets
first_installed = refl

-- the eleven steps, in a full table: each call puts right what the one before it was refused for, and is wrong in all that comes later
pub steps_in_order :
    map
    (λ (c : Call). status_beside (gets true None c).answer)
    (strict false [] (header 7 1 0)
    ∷ strict false [] (first_body 1 4 6 8 9 0x40 20 4 (id 0xa8))
    ∷ strict false [] (first_body 0 4 6 8 9 0x40 20 4 (id 0xa8))
    ∷ strict false [] (first_body 0 7 6 8 9 0x40 20 4 (id 0xa8))
    ∷ strict false [] (first_body 0 7 7 8 9 0x40 20 4 (id 0xa8))
    ∷ strict false [] (first_body 0 7 7 4 9 0x40 20 4 (id 0xa8))
    ∷ strict false [] (first_body 0 7 7 4 8 0x40 20 4 (id 0xa8))
    ∷ strict false [] (first_body 0 7 7 4 8 0xc0 20 4 (id 0xa8))
    ∷ strict false [] (first_body 0 7 7 4 8 0xc0 19 4 (id 0xa8))
    ∷ strict false [] (first_body 0 7 7 4 8 0xc0 19 3 (id 0xa8))
    ∷ strict true [] (first_body 0 7 7 4 8 0xc0 19 3 (id 0xa8))
    ∷ strict true (cached 8) (first_body 0 7 7 4 8 0xc0 19 3 (id 0xa8))
    ∷ [])
    ≡ map Some (40 ∷ 1 ∷ 41 ∷ 41 ∷ 42 ∷ 43 ∷ 45 ∷ 77 ∷ 40 ∷ 1 ∷ 53 ∷ 30 ∷ [])
unfolding gets
steps_in_order = refl

-- with room in the table only our own key is wrong, which leaves the record
pub own_key_of_32 : received false older (strict true (cached 8) usual_body) ≡ silent 6 older
unfolding gets
own_key_of_32 = refl

-- MFPC clear, MFPR clear, No Pairwise set, and none of these
pub capabilities :
    map (λ (c : ℕ). status (hears (first_body 0 7 7 4 8 c 19 3 (id 0xa8)))) (0x40 ∷ 0x80 ∷ 0xc2 ∷ 0xc0 ∷ []) ≡ Some 45 ∷ Some 45 ∷ Some 45 ∷ None ∷ []
unfolding gets
capabilities = refl

-- where it is not allowed; with a PMKID, though that is cached; and allowed, with none
pub akm_21 :
    status (tried (settings false 15 3600 1000) [] (first_body 0 7 7 4 21 0xc0 19 3 []))
    ∷ status (tried usual (cached 21) (first_body 0 7 7 4 21 0xc0 19 3 (id 0xa8)))
    ∷ status (tried usual [] (first_body 0 7 7 4 21 0xc0 19 3 []))
    ∷ []
    ≡ Some 43 ∷ Some 53 ∷ None ∷ []
unfolding gets
akm_21 = refl

-- a waiting record goes, except with status 30
pub refused_while_waiting :
    received false older (tried usual [] usual_body) ∷ received true older (hears usual_body) ∷ [] ≡ refused 53 None ∷ refused 30 older ∷ []
unfolding gets
refused_while_waiting = refl

-- The second of two PMKIDs is cached. The lifetime is the frame's 600 s, the deadline 5,000 + 1,000 TU, and the older record is replaced.
pub accepted_again :
    received false older (hears (first_body 0 7 7 4 8 0xc0 19 3 (id 0xa5 ++ id 0xa8) ++ timeout 0x58 0x02)) ≡ accepted 8 (id 0xa8) (timeout 0x58 0x02) waiting
unfolding gets
accepted_again = refl

-- no PMKID, and no Timeout: the settings' 3,600 s
pub accepted_without :
    received false None (hears (first_body 0 7 7 4 21 0xc0 19 3 [])) ≡ accepted 21 [] (timeout 0x10 0x0e) (peer (Waiting (tu 6000)) 21 false (id 0) 3600)
unfolding gets
accepted_without = refl

-- The third frame -----------------------------------------------------------------------------------------------------------------------

-- without a record, and with an installed one, whatever the status; then with a waiting one: status 1, another MIC, and the lent one
pub thirds :
    received false None (hears (third_body 1 0x3c))
    ∷ received false installed (hears (third_body 1 0x3c))
    ∷ received false waiting (hears (third_body 1 0x3c))
    ∷ received false waiting (hears (third_body 0 0x3d))
    ∷ received false waiting (hears (third_body 0 0x3c))
    ∷ []
    ≡ silent 13 None ∷ silent 13 installed ∷ silent 12 None ∷ silent 14 None ∷ silent 15 installed ∷ []
unfolding gets
thirds = refl

-- Removal and look-up -------------------------------------------------------------------------------------------------------------------

-- before the latest reading; of a group address; without a record, and with one
abbrev asked : (Tu → Tu → List ℕ → Option Peer → ℕ) → List ℕ
asked f =
    f (tu 4000) (tu 3999) station waiting
    ∷ f (tu 4000) (tu 4000) group_address waiting
    ∷ f (tu 4000) (tu 4000) station None
    ∷ f (tu 4000) (tu 4000) station waiting
    ∷ []

pub removals_and_look_ups : asked remove_of ∷ asked look_up_of ∷ [] ≡ (1 ∷ 4 ∷ 17 ∷ 16 ∷ []) ∷ (1 ∷ 4 ∷ 17 ∷ 18 ∷ []) ∷ []
removals_and_look_ups = refl

-- One peer alone ------------------------------------------------------------------------------------------------------------------------

-- a look-up ahead of time sets no latest reading
pub alone_looks_ahead : alone_gets (look_up station (tu 60) ∷ remove station (tu 10) ∷ []) ≡ found 17 None ∷ removed 17 ∷ []
alone_looks_ahead = refl
