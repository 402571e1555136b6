-- What the checks of a call tell.
use Rattle.std.specs.Prelude.{◌≡◌, not, List, ℕ, Some, None, Result, Ok, Err, MatchResult, if◌then◌else◌}
use Rattle.units.specs.declared.Tu.{Tu}
use Rattle.rules.specs.declared.Answer.{Answer}
use Rattle.rules.specs.declared.Checked.{Checked}
use Rattle.rules.specs.declared.Incoming.{Incoming}
use Rattle.rules.specs.declared.LookUp.{LookUp}
use Rattle.rules.specs.declared.Removal.{Removal}
use Rattle.rules.specs.OnePeer.{clock_fits, is_group_address, checks}
use Rattle.rules.specs.Told.{incoming, checked}
use Rattle.checks.specs.declared.Barred.{Barred}

-- the answer of the check that failed; or the same receive, where none did
abbrev pub Checks : Tu → Incoming → ℕ → Result Checked Answer → Type 0
Checks latest call room r =
    MatchResult r
    (λ c. (checks latest call.brought call.cache.now room ≡ None) × ((buffer : List ℕ) → checked c buffer ≡ incoming call buffer))
    (λ answer. checks latest call.brought call.cache.now room ≡ Some answer)

-- 1 and 4, which a removal and a look-up are checked for
unfoldable pub barred_of : Tu → Tu → List ℕ → Result (Unit {0}) Barred
barred_of latest reading address =
    if not (clock_fits latest reading) then Err Barred.ClockOut
    else (if is_group_address address then Err Barred.GroupAddress
    else Ok tt)

abbrev pub removal_of : Barred → Removal
removal_of Barred.ClockOut = Removal.ClockOut
removal_of Barred.GroupAddress = Removal.GroupAddress

abbrev pub look_up_of : Barred → LookUp
look_up_of Barred.ClockOut = LookUp.ClockOut
look_up_of Barred.GroupAddress = LookUp.GroupAddress
