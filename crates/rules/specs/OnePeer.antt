-- The one-peer rules: what a call gets, by what it brings, this peer's live record or none, and whether sixteen others are live.
use Rattle.std.specs.Prelude.{ℕ, ◌+◌, ◌/◌, ◌%◌, min, Bool, true, false, ◌&&◌, ◌||◌, not, List, [], eqb, ltb, leb, length, get_or, replicate, if◌then◌else◌, Option, Some, None, is_some, is_none, unwrap_or, ok_or, Result, Ok, Err}
use Rattle.octets.specs.Equality.{same_octets}
use Rattle.octets.specs.Pieces.{pieces}
use Rattle.units.specs.declared.Seconds.{Seconds}
use Rattle.units.specs.declared.Tu.{Tu}
use Rattle.units.specs.Units.{in_tu, in_clock}
use Rattle.elements.specs.declared.Header.{Header}
use Rattle.elements.specs.declared.Part.{Part}
use Rattle.elements.specs.Body.{body_of}
use Rattle.elements.specs.Lies.{content}
use Rattle.suites.specs.declared.Akm.{Akm}
use Rattle.suites.specs.declared.Cipher.{Cipher}
use Rattle.suites.specs.declared.Group.{Group}
use Rattle.suites.specs.declared.Suite.{Suite}
use Rattle.suites.specs.declared.Suite.TheVariants.{Ours, Other}
use Rattle.suites.specs.Tables.{akm_of, cipher_of, group_of, is_key_of}
use Rattle.rsne.specs.declared.Rsne.{Rsne}
use Rattle.frames.specs.declared.first.Facts.{Facts}
use Rattle.writers.specs.declared.second.Chosen.{Chosen}
use Rattle.frames.specs.First.{first_of}
use Rattle.writers.specs.Header.{header_octets}
use Rattle.writers.specs.Second.{second_octets, longest_second}
use Rattle.frames.specs.Third.{third_of}
use Rattle.cache.specs.declared.Choice.{Choice}
use Rattle.cache.specs.File.{is_well_formed, records_of}
use Rattle.cache.specs.Search.{choice_of}
use Rattle.peers.specs.declared.Peer.{Peer}
use Rattle.peers.specs.declared.Phase.{Phase}
use Rattle.peers.specs.declared.Phase.TheVariants.{Waiting, Installed}
use Rattle.rules.specs.declared.Answer.{Answer}
use Rattle.rules.specs.declared.Brought.{Brought}
use Rattle.rules.specs.declared.LookUp.{LookUp}
use Rattle.rules.specs.declared.Passed.{Passed}
use Rattle.rules.specs.declared.Refusal.{Refusal}
use Rattle.rules.specs.declared.Removal.{Removal}
use Rattle.rules.specs.declared.Settings.{Settings}
use Rattle.rules.specs.declared.Suites.{Suites}

-- What a call brings -------------------------------------------------------------------------------------------------------------------

-- a receive: its settings, clock reading, address and what is lent in numbers; the cache; the lent own public key and MIC; the body; and the reply
-- buffer as it stands
pub record Call : Type 0 where
  pub brought : Brought
  pub cache : List ℕ
  pub key : List ℕ
  pub mic : List ℕ
  pub body : List ℕ
  pub buffer : List ℕ

-- The answers ---------------------------------------------------------------------------------------------------------------------------

abbrev pub answer_number : Answer → ℕ
answer_number Answer.Accepted = 0
answer_number Answer.ClockOut = 1
answer_number Answer.BufferShort = 2
answer_number Answer.SettingsOut = 3
answer_number Answer.GroupAddress = 4
answer_number Answer.CacheIll = 5
answer_number Answer.OwnKey = 6
answer_number Answer.BodyLength = 7
answer_number Answer.Algorithm = 8
answer_number Answer.Transaction = 9
answer_number Answer.PeerInstalled = 10
answer_number (Answer.Refused why) = 11
answer_number Answer.StatusNotZero = 12
answer_number Answer.NoExchange = 13
answer_number Answer.ThirdRefused = 14
answer_number Answer.Installed = 15

-- one of the answers 1 to 5
abbrev pub is_early : ℕ → Bool
is_early number = leb 1 number && leb number 5

-- what a call leaves of this peer's record: the same, none, or another
pub data Left : Type 0 where
  same gone : Left
  becomes : Peer → Left

-- What a call comes to: the answer, the octets written into the reply buffer, and what it leaves of this peer's record.
pub record Outcome : Type 0 where
  pub answer : Answer
  pub reply : List ℕ
  pub leaves : Left

-- records and reply buffer unchanged
abbrev pub unchanged : Answer → Outcome
unchanged answer = record { answer = answer; reply = []; leaves = same }

-- this peer's record goes, and nothing is written
abbrev pub lost : Answer → Outcome
lost answer = record { answer = answer; reply = []; leaves = gone }

abbrev pub is_waiting : Phase → Bool
is_waiting (Waiting deadline) = true
is_waiting (Installed end) = false

-- whether this peer's record is a waiting one, or an installed one
abbrev pub waits : Option Peer → Bool
waits None = false
waits (Some p) = is_waiting p.phase

abbrev pub is_installed : Option Peer → Bool
is_installed None = false
is_installed (Some p) = not (is_waiting p.phase)

-- a waiting record goes, where there is one
abbrev pub gone_if : Bool → Left
gone_if waiting = if waiting then gone else same

-- this peer's record afterwards
abbrev pub peer_after : Option Peer → Left → Option Peer
peer_after own same = own
peer_after own gone = None
peer_after own (becomes p) = Some p

-- The first frame, in order -------------------------------------------------------------------------------------------------------------

-- each step's refusal: its status, and whether it spares a waiting record, as only a full table does
pub record Terms : Type 0 where
  pub status : ℕ
  pub spares : Bool

abbrev pub ends : ℕ → Terms
ends status = record { status = status; spares = false }

abbrev pub terms_of : Refusal → Terms
terms_of Refusal.IllFormed = ends 40
terms_of Refusal.Wrapped = ends 1
terms_of Refusal.GroupCipher = ends 41
terms_of Refusal.PairwiseCipher = ends 42
terms_of Refusal.Akm = ends 43
terms_of Refusal.Unprotected = ends 45
terms_of Refusal.Group = ends 77
terms_of Refusal.KeyForm = ends 40
terms_of Refusal.Point = ends 1
terms_of Refusal.Pmkid = ends 53
terms_of Refusal.TableFull = record { status = 30; spares = true }

-- the status beside the answer
abbrev pub status_beside : Answer → Option ℕ
status_beside Answer.Accepted = None
status_beside Answer.ClockOut = None
status_beside Answer.BufferShort = None
status_beside Answer.SettingsOut = None
status_beside Answer.GroupAddress = None
status_beside Answer.CacheIll = None
status_beside Answer.OwnKey = None
status_beside Answer.BodyLength = None
status_beside Answer.Algorithm = None
status_beside Answer.Transaction = None
status_beside Answer.PeerInstalled = None
status_beside (Answer.Refused why) = Some (terms_of why).status
status_beside Answer.StatusNotZero = None
status_beside Answer.NoExchange = None
status_beside Answer.ThirdRefused = None
status_beside Answer.Installed = None

-- a step refuses, `Err`, or passes and shows a value, `Ok`
abbrev pub Step : Type 0 → Type 0
Step A = Result A Refusal

infixl 20 ◌>>=◌
abbrev pub ◌>>=◌ : {A B : Type 0} → Step A → (A → Step B) → Step B
Err why >>= f = Err why
Ok x >>= f = f x

abbrev pub refuse_if : Refusal → Bool → Step Bool
refuse_if why wrong = if wrong then Err why else Ok true

-- 1. 40: ill-formed
abbrev pub step1 : List ℕ → Step Facts
step1 body = ok_or (first_of body) Refusal.IllFormed

-- 2. 1: format 1 to 3
abbrev pub step2 : ℕ → Step Bool
step2 format = refuse_if Refusal.Wrapped (not (eqb format 0))

-- 3. 41: group or group management cipher not 7
abbrev pub is_suite : ℕ → Suite → Bool
is_suite kind (Ours k) = eqb k kind
is_suite kind Other = false

abbrev pub step3 : Suite → Suite → Step Bool
step3 group management = refuse_if Refusal.GroupCipher (not (is_suite 7 group && is_suite 7 management))

-- 4. 42: not exactly one pairwise suite, or not an allowed one
abbrev pub is_allowed : Settings → Option Cipher → Bool
is_allowed settings (Some cipher) = eqb (settings.ciphers / cipher.flag % 2) 1
is_allowed settings None = false

abbrev pub step4 : Settings → Option Suite → Step ℕ
step4 settings (Some (Ours kind)) = if is_allowed settings (cipher_of kind) then Ok kind else Err Refusal.PairwiseCipher
step4 settings (Some Other) = Err Refusal.PairwiseCipher
step4 settings None = Err Refusal.PairwiseCipher

-- 5. 43: not exactly one AKM, or not in the table, or 21 where not allowed
abbrev pub akm_allowed : Settings → Option Akm → Step Akm
akm_allowed settings (Some akm) = if akm.pmk || settings.pmkless then Ok akm else Err Refusal.Akm
akm_allowed settings None = Err Refusal.Akm

abbrev pub step5 : Settings → Option Suite → Step Akm
step5 settings (Some (Ours kind)) = akm_allowed settings (akm_of kind)
step5 settings (Some Other) = Err Refusal.Akm
step5 settings None = Err Refusal.Akm

-- 6. 45: MFPC (bit 7) or MFPR (bit 6) clear, or No Pairwise (bit 1) set
abbrev pub is_protected : ℕ → Bool
is_protected capabilities = eqb (capabilities / 128 % 2) 1 && eqb (capabilities / 64 % 2) 1 && eqb (capabilities / 2 % 2) 0

abbrev pub step6 : ℕ → Step Bool
step6 capabilities = refuse_if Refusal.Unprotected (not (is_protected capabilities))

-- steps 2 to 6
unfoldable pub suite_steps : Settings → ℕ → Rsne → Step Suites
suite_steps settings format rsne = do
  _ ← step2 format
  _ ← step3 rsne.group rsne.management
  cipher ← step4 settings rsne.pairwise
  akm ← step5 settings rsne.akm
  _ ← step6 rsne.capabilities
  Ok (record { cipher = cipher; akm = akm })

-- 7. 77: group not 19
abbrev pub step7 : ℕ → Step Group
step7 number = ok_or (group_of number) Refusal.Group

-- 8. 40: key length or first octet wrong
abbrev pub step8 : Group → List ℕ → Step Bool
step8 group key = refuse_if Refusal.KeyForm (not (is_key_of group key))

-- 9. 1: lent point check says no
abbrev pub step9 : Bool → Step Bool
step9 point = refuse_if Refusal.Point (not point)

-- steps 7 to 9
unfoldable pub key_steps : ℕ → List ℕ → Bool → Step Group
key_steps number key point = do
  group ← step7 number
  _ ← step8 group key
  _ ← step9 point
  Ok group

-- 10. 53: with AKM 21, any PMKID; with another AKM, no listed PMKID has a cache record of that PMKID, the same AKM and an end later than now.
-- The first such PMKID of the frame's list is chosen; with AKM 21 there is none.
abbrev pub pmkid_chosen : List (List ℕ) → Option Choice → Step (Option (List ℕ))
pmkid_chosen pmkids (Some choice) = Ok (Some (get_or pmkids choice.pmkid []))
pmkid_chosen pmkids None = Err Refusal.Pmkid

abbrev pub step10 : Akm → List ℕ → Tu → List ℕ → Step (Option (List ℕ))
step10 akm cache reading pmkids =
    if akm.pmk then pmkid_chosen (pieces 16 (length pmkids / 16) pmkids) (choice_of (records_of cache) (pieces 16 (length pmkids / 16) pmkids) akm.kind reading)
    else (if eqb (length pmkids) 0 then Ok None
    else Err Refusal.Pmkid)

-- 11. 30: no live record of this address, and 16 live records of others
abbrev pub step11 : Bool → Step Bool
step11 full = refuse_if Refusal.TableFull full

-- lifetime is the smaller of the settings' and the frame's, if it has one
abbrev pub lifetime_of : Seconds → Option Seconds → Seconds
lifetime_of s (Some a) = record { 0 = min s.0 a.0 }
lifetime_of s None = s

-- what a first frame that passes them all comes to, with the PMKID that was chosen, or zeros where there is none
abbrev pub kept : Option (List ℕ) → List ℕ
kept pmkid = unwrap_or pmkid (replicate 16 0)

abbrev pub passed_with : Suites → Group → Option (List ℕ) → Seconds → Passed
passed_with suites group pmkid lifetime = record {
  agreed = record { cipher = suites.cipher; akm = suites.akm.kind; cached = is_some pmkid; lifetime = lifetime };
  pmkid = kept pmkid;
  mic = suites.akm.mic;
  group = group;
}

unfoldable pub steps : Brought → List ℕ → List ℕ → Bool → Step Passed
unfolding suite_steps key_steps
steps brought cache body full = do
  facts ← step1 body
  suites ← suite_steps brought.settings facts.format facts.rsne
  group ← key_steps facts.group (content body facts.key) brought.lent.point
  pmkid ← step10 suites.akm cache brought.reading (content body facts.rsne.pmkids)
  _ ← step11 full
  Ok (passed_with suites group pmkid (lifetime_of brought.settings.lifetime facts.lifetime))

-- Accepted: the second frame, with the chosen PMKID or none, and the record waiting until now plus the settings' deadline.
abbrev pub chosen_of : ℕ → Passed → Chosen
chosen_of algorithm passed = record {
  algorithm = algorithm;
  cipher = passed.agreed.cipher;
  akm = passed.agreed.akm;
  lifetime = passed.agreed.lifetime;
  group = passed.group.number;
  mic = passed.mic;
}

abbrev pub listed : Passed → List ℕ
listed passed = if passed.agreed.cached then passed.pmkid else []

abbrev pub after : Tu → Tu → Tu
after reading time = record { 0 = reading.0 + time.0 }

abbrev pub waiting_peer : Brought → Passed → Peer
waiting_peer brought passed = record {
  address = brought.address;
  agreed = passed.agreed;
  pmkid = passed.pmkid;
  phase = Waiting (after brought.reading brought.settings.deadline);
}

-- what a refusal leaves of a record, which waits or is not there
abbrev pub left_by : Bool → Refusal → Left
left_by waiting why = if (terms_of why).spares then same else gone_if waiting

-- 11: its status beside it, the 6-octet reply, and what it leaves
abbrev pub refusal : ℕ → Bool → Refusal → Outcome
refusal algorithm waiting why = record {
  answer = Answer.Refused why;
  reply = header_octets algorithm 2 (terms_of why).status;
  leaves = left_by waiting why;
}

-- 0, or 6, which comes after every refusal and leaves all as it was
abbrev pub acceptance : Brought → List ℕ → ℕ → Passed → Outcome
acceptance brought key algorithm passed =
    if is_key_of passed.group key
    then record {
      answer = Answer.Accepted;
      reply = second_octets (chosen_of algorithm passed) (listed passed) key;
      leaves = becomes (waiting_peer brought passed);
    }
    else unchanged Answer.OwnKey

abbrev pub first_outcome : Brought → List ℕ → ℕ → Bool → Step Passed → Outcome
first_outcome brought key algorithm waiting (Err why) = refusal algorithm waiting why
first_outcome brought key algorithm waiting (Ok passed) = acceptance brought key algorithm passed

-- an installed peer is answered 10
abbrev pub first_frame : Brought → List ℕ → List ℕ → List ℕ → ℕ → Bool → Option Peer → Outcome
first_frame brought cache key body algorithm full own =
    if is_installed own then unchanged Answer.PeerInstalled
    else first_outcome brought key algorithm (waits own) (steps brought cache body full)

-- The third frame -----------------------------------------------------------------------------------------------------------------------

abbrev pub installed_peer : Tu → Peer → Peer
installed_peer reading p = record {
  address = p.address;
  agreed = p.agreed;
  pmkid = p.pmkid;
  phase = Installed (after reading (in_tu p.agreed.lifetime));
}

-- the MIC unlike the lent one is refused
abbrev pub third_mic : Tu → List ℕ → List ℕ → Peer → Option Part → Outcome
third_mic reading mic body p (Some part) =
    if same_octets (content body part) mic
    then record { answer = Answer.Installed; reply = []; leaves = becomes (installed_peer reading p) }
    else lost Answer.ThirdRefused
third_mic reading mic body p None = lost Answer.ThirdRefused

-- the MIC's length follows the record's AKM
abbrev pub third_akm : Tu → List ℕ → List ℕ → Peer → Option Akm → Outcome
third_akm reading mic body p (Some akm) = third_mic reading mic body p (third_of body akm.mic)
third_akm reading mic body p None = lost Answer.ThirdRefused

-- A peer with no live record is answered 13, and so is an installed one.
abbrev pub third_frame : Tu → List ℕ → List ℕ → ℕ → Option Peer → Outcome
third_frame reading mic body status None = unchanged Answer.NoExchange
third_frame reading mic body status (Some p) =
    if not (is_waiting p.phase) then unchanged Answer.NoExchange
    else (if not (eqb status 0) then lost Answer.StatusNotZero
    else third_akm reading mic body p (akm_of p.agreed.akm))

-- Receive, in the order of its checks ---------------------------------------------------------------------------------------------------

abbrev pub clock_fits : Tu → Tu → Bool
clock_fits latest reading = leb latest.0 reading.0 && in_clock reading

-- the reply buffer has room for the longest second frame
abbrev pub smallest_buffer : ℕ
smallest_buffer = longest_second

-- lifetime 1 to 86,400 s; deadline 1 to 10,000 TU
abbrev pub settings_fit : Settings → Bool
settings_fit s =
    ltb 0 s.lifetime.0 && leb s.lifetime.0 86400 && ltb 0 s.deadline.0 && leb s.deadline.0 10000

abbrev pub is_group_address : List ℕ → Bool
is_group_address address = eqb (get_or address 0 0 % 2) 1

-- the answers 1 to 5: that of the first check that fails
unfoldable pub checks : Tu → Brought → List ℕ → ℕ → Option Answer
checks latest brought cache room =
    if not (clock_fits latest brought.reading) then Some Answer.ClockOut
    else (if ltb room smallest_buffer then Some Answer.BufferShort
    else (if not (settings_fit brought.settings) then Some Answer.SettingsOut
    else (if is_group_address brought.address then Some Answer.GroupAddress
    else (if not (is_well_formed cache) then Some Answer.CacheIll
    else None))))

abbrev pub by_transaction : Call → Header → Bool → Option Peer → Outcome
by_transaction call header full own =
    if not (eqb header.algorithm 7) then record { answer = Answer.Algorithm; reply = []; leaves = gone_if (waits own) }
    else (if eqb header.transaction 1 then first_frame call.brought call.cache call.key call.body header.algorithm full own
    else (if eqb header.transaction 3 then third_frame call.brought.reading call.mic call.body header.status own
    else unchanged Answer.Transaction))

abbrev pub on_body : Call → Option Header → Bool → Option Peer → Outcome
on_body call (Some header) full own = by_transaction call header full own
on_body call None full own = unchanged Answer.BodyLength

infixr 5 ◌or_else◌
abbrev pub ◌or_else◌ : Option Answer → Outcome → Outcome
None or_else outcome = outcome
Some answer or_else outcome = unchanged answer

-- what a receive gets: `latest` is the latest reading, `own` this peer's live record, `full` whether there is none and sixteen others are live
unfoldable pub receive_of : Tu → Bool → Option Peer → Call → Outcome
unfolding steps checks
receive_of latest full own call =
    checks latest call.brought call.cache (length call.buffer) or_else on_body call (body_of call.body) full own

-- Removal and look-up of one peer -------------------------------------------------------------------------------------------------------

-- 1 and 4 come first
abbrev pub asked : Tu → Tu → List ℕ → ℕ → ℕ
asked latest reading address number =
    if not (clock_fits latest reading) then 1
    else (if is_group_address address then 4
    else number)

abbrev pub removal_number : Removal → ℕ
removal_number Removal.ClockOut = 1
removal_number Removal.GroupAddress = 4
removal_number Removal.NoRecord = 17
removal_number Removal.Removed = 16

-- 17 (no live record), 16 (removed)
abbrev pub remove_of : Tu → Tu → List ℕ → Option Peer → ℕ
remove_of latest reading address own = asked latest reading address (if is_none own then 17 else 16)

abbrev pub look_number : LookUp → ℕ
look_number LookUp.ClockOut = 1
look_number LookUp.GroupAddress = 4
look_number LookUp.NoRecord = 17
look_number LookUp.Shown = 18

-- 17 without a record, or 18 and the record
abbrev pub look_up_of : Tu → Tu → List ℕ → Option Peer → ℕ
look_up_of latest reading address own = asked latest reading address (if is_none own then 17 else 18)
