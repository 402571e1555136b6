-- The second frame of what passed the steps fits.
use Rattle.std.specs.Prelude.{◌≡◌, ◌≤◌, ℕ, Bool, List, Option, Some, None, Ok, true, length}
use Rattle.std.proofs.Common.{sym, subst, arith}
use Rattle.suites.specs.Tables.{longest_key, longest_mic, is_key_of}
use Rattle.suites.proofs.Laws.{akm_found, group_found}
use Rattle.rsne.specs.Rsne.{pmkid_size}
use Rattle.units.specs.declared.Seconds.{Seconds}
use Rattle.suites.specs.declared.Group.{Group}
use Rattle.rules.specs.declared.Brought.{Brought}
use Rattle.rules.specs.declared.Passed.{Passed}
use Rattle.rules.specs.declared.Suites.{Suites}
use Rattle.rules.specs.OnePeer.{passed_with, listed, lifetime_of, smallest_buffer, steps}
use Rattle.rules.proofs.Inversion.{Sixteen, Passes, passes}
use Rattle.opening.specs.Replies.{ReplyFits}

one_listed : (suites : Suites) (group : Group) (pmkid : Option (List ℕ)) (lifetime : Seconds) → Sixteen pmkid
    → length (listed (passed_with suites group pmkid lifetime)) ≤ pmkid_size
one_listed suites group None lifetime h = omega arith
one_listed suites group (Some pmkid) lifetime h = omega arith

-- what a second frame needs of the tables
pub record Fitting (p : Passed) : Type 0 where
  pub mic : p.mic ≤ longest_mic
  pub keys : (key : List ℕ) → is_key_of p.group key ≡ true → length key ≤ longest_key

pub fitting : {brought : Brought} {body : List ℕ} {full : Bool} {p : Passed} → Passes brought body full p → Fitting p
fitting v = subst Fitting (sym v.is) (record {
  mic = (akm_found v.of.listed).mic.most;
  keys = λ key k. ((group_found v.grouped).keys key k).most;
})

pub reply_fits : (brought : Brought) (cache body key : List ℕ) (full : Bool) (n : ℕ) {p : Passed} → steps brought cache body full ≡ Ok p → smallest_buffer ≤ n
    → ReplyFits p key n
reply_fits brought cache body key full n e h =
    let v = passes brought cache body full e in
    let f = fitting v in
    record {
      pmkids = subst (λ (p : Passed). length (listed p) ≤ pmkid_size) (sym v.is)
          (one_listed v.suites v.group v.pmkid (lifetime_of brought.settings.lifetime v.facts.lifetime) v.one);
      mic = f.mic;
      keys = f.keys key;
      room = h;
    }
