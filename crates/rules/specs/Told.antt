-- What a call's structs and enums tell, in the words of the one-peer rules.
use Rattle.std.specs.Prelude.{ℕ, List, [], ◌≡◌}
use Rattle.octets.specs.Wrote.{Wrote}
use Rattle.rules.specs.declared.Brought.{Brought}
use Rattle.rules.specs.declared.Checked.{Checked}
use Rattle.rules.specs.declared.Incoming.{Incoming}
use Rattle.rules.specs.declared.Leaves.{Leaves}
use Rattle.rules.specs.declared.Verdict.{Verdict}
use Rattle.rules.specs.OnePeer.{Call, Left, same, gone, becomes, Outcome}

abbrev pub call_of : Brought → List ℕ → List ℕ → List ℕ → List ℕ → List ℕ → Call
call_of brought cache key mic body buffer = record { brought = brought; cache = cache; key = key; mic = mic; body = body; buffer = buffer }

-- a receive, with the reply buffer as it stands: as it comes in, and once it is checked
abbrev pub incoming : Incoming → List ℕ → Call
incoming call buffer = call_of call.brought call.cache.now call.key.now call.mic.now call.body.now buffer

abbrev pub checked : Checked → List ℕ → Call
checked call buffer = call_of call.brought call.cache.octets.now call.key.now call.mic.now call.body.now buffer

-- what is left of this peer's record, as a verdict tells it
abbrev pub leaves_of : Left → Leaves
leaves_of same = Leaves.Same
leaves_of gone = Leaves.Gone
leaves_of (becomes p) = Leaves.Becomes p

-- a verdict is an outcome, and its reply stands in the buffer
pub record Gets (outcome : Outcome) (before after : List ℕ) (r : Verdict) : Type 0 where
  pub answer : r.answer ≡ outcome.answer
  pub wrote : Wrote outcome.reply r.length before after
  pub leaves : r.leaves ≡ leaves_of outcome.leaves

-- a verdict is an outcome that writes nothing
abbrev pub Decides : Outcome → Verdict → Type 0
Decides outcome r = Gets outcome [] [] r
