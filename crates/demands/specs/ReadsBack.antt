-- What receive accepts, exactly; and its reply, read by the layouts of every frame.
use Rattle.std.specs.Prelude.{◌≡◌, Bool, true, false, List, ◌↔◌, ℕ, length, take, replicate, None, Some, Ok, Err}
use Rattle.units.specs.declared.Tu.{Tu}
use Rattle.elements.specs.declared.Part.{Part}
use Rattle.elements.specs.Body.{body_of}
use Rattle.suites.specs.declared.Akm.{Akm}
use Rattle.suites.specs.declared.Suite.TheVariants.{Ours}
use Rattle.suites.specs.Tables.{akm_of, is_key_of}
use Rattle.frames.specs.declared.first.Facts.{Facts}
use Rattle.elements.specs.Lies.{content}
use Rattle.frames.specs.First.{first_of}
use Rattle.writers.specs.SecondRead.{second_of}
use Rattle.frames.specs.Third.{third_of}
use Rattle.peers.specs.declared.Peer.{Peer}
use Rattle.peers.specs.declared.Phase.TheVariants.{Waiting}
use Rattle.peers.specs.declared.Table.{Table}
use Rattle.peers.specs.View.{shows, full}
use Rattle.rules.specs.declared.Answer.{Answer}
use Rattle.rules.specs.declared.Passed.{Passed}
use Rattle.rules.specs.declared.Refusal.{Refusal}
use Rattle.rules.specs.OnePeer.{Call, answer_number, is_installed, checks, terms_of, Step, listed, steps, lifetime_of}
use Rattle.platform.specs.declared.Received.{Received}
use Rattle.platform.specs.Promises.{Receives}

-- What receive accepts --------------------------------------------------------------------------------------------------------------------

-- a first frame that comes to its steps
pub record FirstFrame (t : Table) (call : Call) : Type 0 where
  pub checked : checks t.latest call.brought call.cache (length call.buffer) ≡ None
  pub status : ℕ
  pub opens : body_of call.body ≡ Some (record { algorithm = 7; transaction = 1; status = status })
  pub free : is_installed (shows t call.brought.reading call.brought.address) ≡ false

-- what the steps come to, by whether the table is full for this peer
abbrev pub stepped : Table → Call → Step Passed
stepped t call = steps call.brought call.cache call.body (full t call.brought.reading call.brought.address)

-- it passes them all, and our own key is of the group's form or not
pub record AcceptsFirst (own_key : Bool) (t : Table) (call : Call) : Type 0 where
  pub frame : FirstFrame t call
  pub passed : Passed
  pub passes : stepped t call ≡ Ok passed
  pub key : is_key_of passed.group call.key ≡ own_key

-- one of them refuses it
pub record RefusesFirst (why : Refusal) (t : Table) (call : Call) : Type 0 where
  pub frame : FirstFrame t call
  pub refuses : stepped t call ≡ Err why

-- a third frame of status 0 and of a waiting peer, well-formed, whose MIC is the lent one
pub record AcceptsThird (t : Table) (call : Call) : Type 0 where
  pub checked : checks t.latest call.brought call.cache (length call.buffer) ≡ None
  pub opens : body_of call.body ≡ Some (record { algorithm = 7; transaction = 3; status = 0 })
  pub peer : Peer
  pub shown : shows t call.brought.reading call.brought.address ≡ Some peer
  pub deadline : Tu
  pub waiting : peer.phase ≡ Waiting deadline
  pub akm : Akm
  pub listed : akm_of peer.agreed.akm ≡ Some akm
  pub part : Part
  pub reads : third_of call.body akm.mic ≡ Some part
  pub mic : content call.body part ≡ call.mic

-- the answers 0, 6, 11 by the step that refuses, and 15
pub record Exact (t : Table) (call : Call) (r : Received) : Type 0 where
  pub accepted : answer_number r.answer ≡ 0 ↔ AcceptsFirst true t call
  pub own_key : answer_number r.answer ≡ 6 ↔ AcceptsFirst false t call
  pub refused : (why : Refusal) → r.answer ≡ Answer.Refused why ↔ RefusesFirst why t call
  pub third : answer_number r.answer ≡ 15 ↔ AcceptsThird t call

abbrev pub AcceptanceIsExact : Type 0
AcceptanceIsExact = (t : Table) (call : Call) (after : List ℕ) (r : Received) → Receives t call after r → Exact t call r

-- A reply reads back ----------------------------------------------------------------------------------------------------------------------

-- a second frame of status 0 with the first frame's cipher, AKM and group, the chosen PMKID or none, the smaller lifetime, our own key and a MIC of zeros
pub record SecondFrame (t : Table) (call : Call) (reply : List ℕ) : Type 0 where
  pub first : Facts
  pub read : first_of call.body ≡ Some first
  pub passed : Passed
  pub passes : stepped t call ≡ Ok passed
  pub reads : second_of reply
      ≡ Some (record {
        algorithm = 7;
        transaction = 2;
        status = 0;
        group_cipher = Ours 7;
        pairwise = first.rsne.pairwise;
        akm = first.rsne.akm;
        capabilities = 0x00c0;
        pmkids = listed passed;
        management = Ours 7;
        lifetime = lifetime_of call.brought.settings.lifetime first.lifetime;
        format = 0;
        group = first.group;
        key = call.key;
        mic = replicate passed.mic 0;
      })

-- six octets: the frame's algorithm, transaction 2, the status
pub record SixOctets (status : ℕ) (reply : List ℕ) : Type 0 where
  pub six : length reply ≡ 6
  pub reads : body_of reply ≡ Some (record { algorithm = 7; transaction = 2; status = status })

-- the reply is the first octets of the buffer, as many as are told
pub record RepliesReadBack (t : Table) (call : Call) (after : List ℕ) (r : Received) : Type 0 where
  pub accepted : answer_number r.answer ≡ 0 → SecondFrame t call (take r.length after)
  pub refused : (why : Refusal) → r.answer ≡ Answer.Refused why → SixOctets (terms_of why).status (take r.length after)

abbrev pub AReplyReadsBack : Type 0
AReplyReadsBack = (t : Table) (call : Call) (after : List ℕ) (r : Received) → Receives t call after r → RepliesReadBack t call after r
