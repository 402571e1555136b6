-- A first frame that passes the steps passes each of them: the one law by which others go back from what was passed to what the frame said.
use mathlib.Core.Path.{◌≡◌, refl, sym, ap, subst, ◌∙◌}
use mathlib.Core.Bool.{Bool, true, false, ◌||◌}
use mathlib.Core.List.{List}
use Rattle.std.specs.Prelude.{Option, None, Some, ok_or, Ok, Err, if◌then◌else◌}
use Prim.Native.Nat.{ℕ, ◌*◌, ◌/◌, ◌^◌, ◌<◌}
use native.Mathlib.Omega.{arith}
use lib.Dec.{eqb}
use lib.ListN.{length, drop, length-take, length-drop}
use Rattle.octets.specs.Pieces.{pieces}
use Rattle.units.specs.declared.Tu.{Tu}
use Rattle.suites.specs.declared.Akm.{Akm}
use Rattle.suites.specs.declared.Group.{Group}
use Rattle.suites.specs.declared.Suite.{Suite}
use Rattle.suites.specs.declared.Suite.TheVariants.{Ours, Other}
use Rattle.suites.specs.Tables.{akm_of, cipher_of, group_of}
use Rattle.suites.proofs.Laws.{akm_found}
use Rattle.rsne.specs.declared.Rsne.{Rsne}
use Rattle.frames.specs.declared.first.Facts.{Facts}
use Rattle.elements.specs.Lies.{content}
use Rattle.frames.specs.First.{first_of}
use Rattle.cache.specs.declared.Choice.{Choice}
use Rattle.cache.specs.File.{records_of}
use Rattle.cache.specs.Search.{choice_of}
use Rattle.rules.specs.declared.Brought.{Brought}
use Rattle.rules.specs.declared.Passed.{Passed}
use Rattle.rules.specs.declared.Refusal.{Refusal}
use Rattle.rules.specs.declared.Settings.{Settings}
use Rattle.rules.specs.declared.Suites.{Suites}
use Rattle.rules.specs.OnePeer.{Step, ◌>>=◌, terms_of, is_allowed, akm_allowed, pmkid_chosen, step1, step2, step3, step4, step5, step6, step7, step8, step9, step10, step11, passed_with, lifetime_of, suite_steps, key_steps, steps}
use Rattle.rules.proofs.Pmkids.{in_list, that_part}

ok_same : {A : Type 0} {x y : A} → ◌≡◌ {A = Step A} (Ok x) (Ok y) → x ≡ y
ok_same e = cc

-- a choice that passes took its first branch
chose : {A : Type 0} (b : Bool) (why : Refusal) {x y : A} → (if b then Ok x else Err why) ≡ Ok y → x ≡ y
chose true why e = ok_same e
chose false why e = cc

-- what a step found
pub found : {A : Type 0} (o : Option A) (why : Refusal) {x : A} → ok_or o why ≡ Ok x → o ≡ Some x
found (Some x) why e = ap Some (ok_same e)
found None why e = cc

-- a chain that passes passes at its first step, and then
record Bound {A B : Type 0} (m : Step A) (f : A → Step B) (y : B) : Type 0 where
  value : A
  here : m ≡ Ok value
  rest : f value ≡ Ok y

bound : {A B : Type 0} (m : Step A) (f : A → Step B) {y : B} → m >>= f ≡ Ok y → Bound m f y
bound (Err why) f e = cc
bound (Ok x) f e = record { value = x; here = refl; rest = e }

-- The suites are the frame's, and the AKM's entry is that of the table.
pub record SuitesOf (rsne : Rsne) (s : Suites) : Type 0 where
  pub cipher : rsne.pairwise ≡ Some (Ours s.cipher)
  pub akm : rsne.akm ≡ Some (Ours s.akm.kind)
  pub listed : akm_of s.akm.kind ≡ Some s.akm

cipher_same : (settings : Settings) (only : Option Suite) {cipher : ℕ} → step4 settings only ≡ Ok cipher → only ≡ Some (Ours cipher)
cipher_same settings (Some (Ours kind)) e = ap (λ (k : ℕ). Some (Ours k)) (chose (is_allowed settings (cipher_of kind)) Refusal.PairwiseCipher e)
cipher_same settings (Some Other) e = cc
cipher_same settings None e = cc

record AkmOf (only : Option Suite) (akm : Akm) : Type 0 where
  one : only ≡ Some (Ours akm.kind)
  listed : akm_of akm.kind ≡ Some akm

akm_same : (settings : Settings) (only : Option Suite) {akm : Akm} → step5 settings only ≡ Ok akm → AkmOf only akm
akm_same settings (Some (Ours kind)) {akm} e = go (akm_of kind) refl e
  where
    go : (entry : Option Akm) → akm_of kind ≡ entry → akm_allowed settings entry ≡ Ok akm → AkmOf (Some (Ours kind)) akm
    go (Some a) q e =
        let k : kind ≡ a.kind = sym (akm_found q).asked in
        subst (AkmOf (Some (Ours kind))) (chose (a.pmk || settings.pmkless) Refusal.Akm e)
        (record { one = ap (λ (k : ℕ). Some (Ours k)) k; listed = ap akm_of (sym k) ∙ q })
    go None q e = cc
akm_same settings (Some Other) e = cc
akm_same settings None e = cc

suites_same : (settings : Settings) (format : ℕ) (rsne : Rsne) {s : Suites} → suite_steps settings format rsne ≡ Ok s → SuitesOf rsne s
unfolding suite_steps
suites_same settings format rsne {s} e =
    let b₂ = bound (step2 format) _ e in
    let b₃ = bound (step3 rsne.group rsne.management) _ b₂.rest in
    let b₄ = bound (step4 settings rsne.pairwise) _ b₃.rest in
    let b₅ = bound (step5 settings rsne.akm) _ b₄.rest in
    let b₆ = bound (step6 rsne.capabilities) _ b₅.rest in
    let a = akm_same settings rsne.akm b₅.here in
    subst (SuitesOf rsne) (ok_same b₆.rest) (record { cipher = cipher_same settings rsne.pairwise b₄.here; akm = a.one; listed = a.listed })

-- The group's entry is that of the table.
group_listed : (number : ℕ) (key : List ℕ) (point : Bool) {group : Group} → key_steps number key point ≡ Ok group → group_of number ≡ Some group
unfolding key_steps
group_listed number key point e =
    let b₇ = bound (step7 number) _ e in
    let b₈ = bound (step8 b₇.value key) _ b₇.rest in
    let b₉ = bound (step9 point) _ b₈.rest in
    found (group_of number) Refusal.Group b₇.here ∙ ap Some (ok_same b₉.rest)

-- A PMKID that was chosen has 16 octets.
abbrev pub Sixteen : Option (List ℕ) → Type 0
Sixteen None = Unit {0}
Sixteen (Some pmkid) = length pmkid ≡ 16

sixteen : (akm : Akm) (cache : List ℕ) (reading : Tu) (s : List ℕ) {pmkid : Option (List ℕ)} → step10 akm cache reading s ≡ Ok pmkid → Sixteen pmkid
sixteen akm cache reading s {pmkid} e = by_akm akm.pmk e
  where
    by_choice : (c : Option Choice) → choice_of (records_of cache) (pieces 16 (length s / 16) s) akm.kind reading ≡ c → pmkid_chosen (pieces 16 (length s / 16) s) c ≡ Ok pmkid → Sixteen pmkid
    by_choice (Some choice) c e =
        let part = that_part (records_of cache) s akm.kind reading c in
        let n = in_list (records_of cache) s akm.kind reading c in
        subst Sixteen (ok_same e) (rw part (length-take 16 (drop (16 * choice.pmkid) s) ∙ omega (arith, length-drop (16 * choice.pmkid) s)))
    by_choice None c e = cc

    by_akm : (b : Bool)
        → (if b then pmkid_chosen (pieces 16 (length s / 16) s) (choice_of (records_of cache) (pieces 16 (length s / 16) s) akm.kind reading) else (if eqb (length s) 0 then Ok None else Err Refusal.Pmkid))
        ≡ Ok pmkid
        → Sixteen pmkid
    by_akm true e = by_choice (choice_of (records_of cache) (pieces 16 (length s / 16) s) akm.kind reading) refl e
    by_akm false e = subst Sixteen (chose (eqb (length s) 0) Refusal.Pmkid e) tt

has_room : (full : Bool) {b : Bool} → step11 full ≡ Ok b → full ≡ false
has_room true e = cc
has_room false e = refl

-- What the frame said, and what was chosen of it.
pub record Passes (brought : Brought) (body : List ℕ) (full : Bool) (passed : Passed) : Type 0 where
  pub facts : Facts
  pub read : first_of body ≡ Some facts
  pub suites : Suites
  pub of : SuitesOf facts.rsne suites
  pub group : Group
  pub grouped : group_of facts.group ≡ Some group
  pub pmkid : Option (List ℕ)
  pub one : Sixteen pmkid
  pub room : full ≡ false
  pub is : passed ≡ passed_with suites group pmkid (lifetime_of brought.settings.lifetime facts.lifetime)

pub passes : (brought : Brought) (cache body : List ℕ) (full : Bool) {passed : Passed} → steps brought cache body full ≡ Ok passed → Passes brought body full passed
unfolding steps
passes brought cache body full {passed} e =
    let b₁ = bound (step1 body) _ e in
    let facts = b₁.value in
    let b₂ = bound (suite_steps brought.settings facts.format facts.rsne) _ b₁.rest in
    let b₃ = bound (key_steps facts.group (content body facts.key) brought.lent.point) _ b₂.rest in
    let b₄ = bound (step10 b₂.value.akm cache brought.reading (content body facts.rsne.pmkids)) _ b₃.rest in
    let b₅ = bound (step11 full) _ b₄.rest in
    record {
      facts = facts;
      read = found (first_of body) Refusal.IllFormed b₁.here;
      suites = b₂.value;
      of = suites_same brought.settings facts.format facts.rsne b₂.here;
      group = b₃.value;
      grouped = group_listed facts.group (content body facts.key) brought.lent.point b₃.here;
      pmkid = b₄.value;
      one = sixteen b₂.value.akm cache brought.reading (content body facts.rsne.pmkids) b₄.here;
      room = has_room full b₅.here;
      is = sym (ok_same b₅.rest);
    }

-- a status is a number of two octets
pub status_small : (why : Refusal) → (terms_of why).status < 2 ^ 16
status_small Refusal.IllFormed = omega arith
status_small Refusal.Wrapped = omega arith
status_small Refusal.GroupCipher = omega arith
status_small Refusal.PairwiseCipher = omega arith
status_small Refusal.Akm = omega arith
status_small Refusal.Unprotected = omega arith
status_small Refusal.Group = omega arith
status_small Refusal.KeyForm = omega arith
status_small Refusal.Point = omega arith
status_small Refusal.Pmkid = omega arith
status_small Refusal.TableFull = omega arith
