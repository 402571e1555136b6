-- What receive accepts, exactly.
use mathlib.Core.Path.{◌≡◌, refl, sym, ap, ◌∙◌}
use mathlib.Core.Bool.{Bool, true, false, ◌||◌, not, true≢false}
use mathlib.Core.List.{[]}
use Rattle.std.specs.Prelude.{Option, None, Some, Ok, Err, if◌then◌else◌}
use Rattle.octets.proofs.Options.{some-injective}
use Prim.Native.Nat.{ℕ}
use native.Mathlib.Omega.{arith}
use lib.Dec.{eqb}
use lib.ListN.{length}
use borrow.Author.Tests.{eqb-true, not-false}
use Rattle.octets.specs.Equality.{same_octets}
use Rattle.octets.proofs.Choice.{either_way}
use Rattle.octets.proofs.Equality.{same_refl, same_eq}
use Rattle.units.specs.declared.Tu.{Tu}
use Rattle.elements.specs.declared.Header.{Header}
use Rattle.elements.specs.declared.Part.{Part}
use Rattle.elements.specs.Body.{body_of}
use Rattle.suites.specs.declared.Akm.{Akm}
use Rattle.suites.specs.Tables.{akm_of, is_key_of}
use Rattle.elements.specs.Lies.{content}
use Rattle.frames.specs.Third.{third_of}
use Rattle.peers.specs.declared.Peer.{Peer}
use Rattle.peers.specs.declared.Phase.{Phase}
use Rattle.peers.specs.declared.Phase.TheVariants.{Waiting, Installed}
use Rattle.peers.specs.declared.Table.{Table}
use Rattle.peers.specs.View.{shows, full}
use Rattle.rules.specs.declared.Answer.{Answer}
use Rattle.rules.specs.declared.Passed.{Passed}
use Rattle.rules.specs.declared.Refusal.{Refusal}
use Rattle.rules.specs.OnePeer.{Call, becomes, Outcome, answer_number, is_early, is_installed, is_waiting, waits, checks, ◌or_else◌, Step, acceptance, refusal, first_outcome, first_frame, installed_peer, third_mic, third_akm, third_frame, on_body, receive_of}
use Rattle.rules.proofs.Checks.{checks_early}
use Rattle.platform.specs.Promises.{ruled}
use Rattle.demands.specs.ReadsBack.{FirstFrame, stepped, AcceptsFirst, RefusesFirst, AcceptsThird, AcceptanceIsExact}

-- the numbers that the statement says nothing of
abbrev is_else : ℕ → Bool
is_else n = not (eqb n 0 || eqb n 6 || eqb n 11 || eqb n 15)

-- the step that refused, where one did
abbrev why_of : Answer → Option Refusal
why_of Answer.Accepted = None
why_of Answer.ClockOut = None
why_of Answer.BufferShort = None
why_of Answer.SettingsOut = None
why_of Answer.GroupAddress = None
why_of Answer.CacheIll = None
why_of Answer.OwnKey = None
why_of Answer.BodyLength = None
why_of Answer.Algorithm = None
why_of Answer.Transaction = None
why_of Answer.PeerInstalled = None
why_of (Answer.Refused why) = Some why
why_of Answer.StatusNotZero = None
why_of Answer.NoExchange = None
why_of Answer.ThirdRefused = None
why_of Answer.Installed = None

same_why : {x y : Refusal} → Answer.Refused x ≡ Answer.Refused y → x ≡ y
same_why {x} {y} e = some-injective x y (ap why_of e)

-- an answer of 1 to 5 is none that the statement speaks of
early_else : (answer : Answer) → is_early (answer_number answer) ≡ true → is_else (answer_number answer) ≡ true
early_else Answer.Accepted h = absurd (true≢false (sym h))
early_else Answer.ClockOut h = refl
early_else Answer.BufferShort h = refl
early_else Answer.SettingsOut h = refl
early_else Answer.GroupAddress h = refl
early_else Answer.CacheIll h = refl
early_else Answer.OwnKey h = absurd (true≢false (sym h))
early_else Answer.BodyLength h = refl
early_else Answer.Algorithm h = refl
early_else Answer.Transaction h = refl
early_else Answer.PeerInstalled h = refl
early_else (Answer.Refused why) h = absurd (true≢false (sym h))
early_else Answer.StatusNotZero h = refl
early_else Answer.NoExchange h = refl
early_else Answer.ThirdRefused h = refl
early_else Answer.Installed h = absurd (true≢false (sym h))

record Waits (phase : Phase) : Type 0 where
  deadline : Tu
  is : phase ≡ Waiting deadline

waiting : (phase : Phase) → is_waiting phase ≡ true → Waits phase
waiting (Waiting deadline) e = record { deadline = deadline; is = refl }
waiting (Installed end) e = absurd (true≢false (sym e))

module _ (t : Table) (call : Call) where
  abbrev own : Option Peer
  own = shows t call.brought.reading call.brought.address

  abbrev crowded : Bool
  crowded = full t call.brought.reading call.brought.address

  abbrev checked : Option Answer
  checked = checks t.latest call.brought call.cache (length call.buffer)

  -- From the answer to what was brought -------------------------------------------------------------------------------------------------

  record Says (o : Outcome) : Type 0 where
    accepted : answer_number o.answer ≡ 0 → AcceptsFirst true t call
    own_key : answer_number o.answer ≡ 6 → AcceptsFirst false t call
    refused : (why : Refusal) → o.answer ≡ Answer.Refused why → RefusesFirst why t call
    installs : answer_number o.answer ≡ 15 → AcceptsThird t call

  nothing : {o : Outcome} → is_else (answer_number o.answer) ≡ true → Says o
  nothing h = record {
    accepted = λ e. absurd (true≢false (sym h ∙ ap is_else e));
    own_key = λ e. absurd (true≢false (sym h ∙ ap is_else e));
    refused = λ why e. absurd (true≢false (sym h ∙ ap (λ (a : Answer). is_else (answer_number a)) e));
    installs = λ e. absurd (true≢false (sym h ∙ ap is_else e));
  }

  module _ (frame : FirstFrame t call) (algorithm : ℕ) where
    steps_say : (s : Step Passed) → stepped t call ≡ s → Says (first_outcome call.brought call.key algorithm (waits own) s)
    steps_say (Err why) e = record {
      accepted = λ n. absurd (omega (arith, n));
      own_key = λ n. absurd (omega (arith, n));
      refused = λ other n. record { frame = frame; refuses = e ∙ ap Err (same_why n) };
      installs = λ n. absurd (omega (arith, n));
    }
    steps_say (Ok passed) e =
        either_way Says (is_key_of passed.group call.key)
        (λ k. record {
          accepted = λ n. record { frame = frame; passed = passed; passes = e; key = k };
          own_key = λ n. absurd (omega (arith, n));
          refused = λ why n. absurd (omega (arith, ap answer_number n));
          installs = λ n. absurd (omega (arith, n));
        })
        (λ k. record {
          accepted = λ n. absurd (omega (arith, n));
          own_key = λ n. record { frame = frame; passed = passed; passes = e; key = k };
          refused = λ why n. absurd (omega (arith, ap answer_number n));
          installs = λ n. absurd (omega (arith, n));
        })

  module _ (passed : checked ≡ None) where
    first_says : {status : ℕ} (algorithm : ℕ) → body_of call.body ≡ Some (record { algorithm = 7; transaction = 1; status = status })
        → Says (first_frame call.brought call.cache call.key call.body algorithm crowded own)
    first_says {status} algorithm opens =
        either_way Says (is_installed own) (λ i. nothing refl)
        (λ i. steps_say (record { checked = passed; status = status; opens = opens; free = i }) algorithm (stepped t call) refl)

    third_says : (status : ℕ) (peer : Option Peer) → own ≡ peer
        → (status ≡ 0 → body_of call.body ≡ Some (record { algorithm = 7; transaction = 3; status = 0 }))
        → Says (third_frame call.brought.reading call.mic call.body status peer)
    third_says status None shown opens = nothing refl
    third_says status (Some p) shown opens =
        either_way Says (not (is_waiting p.phase)) (λ i. nothing refl) λ i.
        either_way Says (not (eqb status 0)) (λ z. nothing refl) λ z.
        by_akm (waiting p.phase (not-false (is_waiting p.phase) i)) (eqb-true status 0 (not-false (eqb status 0) z)) (akm_of p.agreed.akm) refl
      where
        by_mic : Waits p.phase → status ≡ 0 → (akm : Akm) → akm_of p.agreed.akm ≡ Some akm
            → (third : Option Part) → third_of call.body akm.mic ≡ third → Says (third_mic call.brought.reading call.mic call.body p third)
        by_mic w z akm a (Some part) r =
            either_way Says (same_octets (content call.body part) call.mic)
            (λ m. record {
              accepted = λ n. absurd (omega (arith, n));
              own_key = λ n. absurd (omega (arith, n));
              refused = λ why n. absurd (omega (arith, ap answer_number n));
              installs = λ n. record {
                checked = passed;
                opens = opens z;
                peer = p;
                shown = shown;
                deadline = w.deadline;
                waiting = w.is;
                akm = akm;
                listed = a;
                part = part;
                reads = r;
                mic = same_eq (content call.body part) call.mic m;
              };
            })
            (λ m. nothing refl)
        by_mic w z akm a None r = nothing refl

        by_akm : Waits p.phase → status ≡ 0 → (entry : Option Akm) → akm_of p.agreed.akm ≡ entry
            → Says (third_akm call.brought.reading call.mic call.body p entry)
        by_akm w z (Some akm) a = by_mic w z akm a (third_of call.body akm.mic) refl
        by_akm w z None a = nothing refl

    -- a header by its numbers
    headed : {header : Header} {transaction status : ℕ} → body_of call.body ≡ Some header → header.algorithm ≡ 7 → header.transaction ≡ transaction
        → header.status ≡ status → body_of call.body ≡ Some (record { algorithm = 7; transaction = transaction; status = status })
    headed e a b c = rw (← a, ← b, ← c) e

    body_says : (o : Option Header) → body_of call.body ≡ o → Says (on_body call o crowded own)
    body_says None e = nothing refl
    body_says (Some header) e =
        either_way Says (not (eqb header.algorithm 7)) (λ _. nothing refl) λ a.
        let seven = eqb-true header.algorithm 7 (not-false (eqb header.algorithm 7) a) in
        either_way Says (eqb header.transaction 1)
        (λ b. first_says header.algorithm (headed e seven (eqb-true header.transaction 1 b) refl))
        (λ b. either_way Says (eqb header.transaction 3)
        (λ c. third_says header.status own refl (λ z. headed e seven (eqb-true header.transaction 3 c) z))
        (λ c. nothing refl))

  -- past the checks 1 to 5 the body decides
  says : Says (ruled t call)
  unfolding receive_of
  says = go checked refl
    where
      go : (c : Option Answer) → checked ≡ c → Says (c or_else on_body call (body_of call.body) crowded own)
      go (Some answer) e = nothing (early_else answer (checks_early t.latest call.brought call.cache (length call.buffer) e))
      go None e = body_says e (body_of call.body) refl

  -- From what was brought to the outcome --------------------------------------------------------------------------------------------------

  ruled_body : checked ≡ None → ruled t call ≡ on_body call (body_of call.body) crowded own
  unfolding receive_of
  ruled_body c = rw c

  pub ruled_first : FirstFrame t call → ruled t call ≡ first_outcome call.brought call.key 7 (waits own) (stepped t call)
  ruled_first f = ruled_body f.checked ∙ ap (λ (o : Option Header). on_body call o crowded own) f.opens ∙ rw f.free

  pub ruled_accepted : {own_key : Bool} (a : AcceptsFirst own_key t call) → ruled t call ≡ acceptance call.brought call.key 7 a.passed
  ruled_accepted a = ruled_first a.frame ∙ ap (first_outcome call.brought call.key 7 (waits own)) a.passes

  pub ruled_refused : {why : Refusal} → RefusesFirst why t call → ruled t call ≡ refusal 7 (waits own) why
  ruled_refused a = ruled_first a.frame ∙ ap (first_outcome call.brought call.key 7 (waits own)) a.refuses

  ruled_installed : (a : AcceptsThird t call) → ruled t call ≡ record { answer = Answer.Installed; reply = []; leaves = becomes (installed_peer call.brought.reading a.peer) }
  ruled_installed a =
      ruled_body a.checked
      ∙ ap (λ (o : Option Header). on_body call o crowded own) a.opens
      ∙ ap (third_frame call.brought.reading call.mic call.body 0) a.shown
      ∙ rw (a.waiting, a.listed, a.reads, a.mic, same_refl call.mic)

pub acceptance_is_exact : AcceptanceIsExact
acceptance_is_exact t call after r w =
    let s = says t call in
    let number : answer_number r.answer ≡ answer_number (ruled t call).answer = ap answer_number w.answer in
    record {
      accepted = (λ e. s.accepted (sym number ∙ e), accepts);
      own_key = (λ e. s.own_key (sym number ∙ e), accepts);
      refused = λ why. (
        λ e. s.refused why (sym w.answer ∙ e),
        λ a. w.answer ∙ ap (λ (o : Outcome). o.answer) (ruled_refused t call a),
      );
      third = (
        λ e. s.installs (sym number ∙ e),
        λ a. number ∙ ap (λ (o : Outcome). answer_number o.answer) (ruled_installed t call a),
      );
    }
  where
    zero_or_six : (own_key : Bool) (passed : Passed) → is_key_of passed.group call.key ≡ own_key
        → answer_number (acceptance call.brought call.key 7 passed).answer ≡ (if own_key then 0 else 6)
    zero_or_six true passed e = rw e
    zero_or_six false passed e = rw e

    accepts : {own_key : Bool} → AcceptsFirst own_key t call → answer_number r.answer ≡ (if own_key then 0 else 6)
    accepts {own_key} a = ap answer_number w.answer ∙ ap (λ (o : Outcome). answer_number o.answer) (ruled_accepted t call a) ∙ zero_or_six own_key a.passed a.key
