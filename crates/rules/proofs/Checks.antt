-- The checks 1 to 5, where they pass and where one fails.
use mathlib.Core.Path.{◌≡◌, refl, subst}
use mathlib.Core.Bool.{true, false, ◌&&◌, not}
use mathlib.Core.List.{List}
use Rattle.std.specs.Prelude.{Option, None, Some}
use Prim.Native.Nat.{ℕ, ◌^◌, ◌<◌, ◌≤◌}
use lib.Dec.{ltb, leb}
use borrow.Author.Tests.{leb-true, ltb-true, ltb-false, not-false}
use Rattle.octets.proofs.Choice.{unless}
use Rattle.octets.proofs.Logic.{both}
use Rattle.units.specs.declared.Tu.{Tu}
use Rattle.units.specs.Units.{in_clock}
use Rattle.cache.specs.File.{is_well_formed}
use Rattle.rules.specs.declared.Answer.{Answer}
use Rattle.rules.specs.declared.Brought.{Brought}
use Rattle.rules.specs.declared.Settings.{Settings}
use Rattle.rules.specs.OnePeer.{answer_number, is_early, clock_fits, smallest_buffer, settings_fit, is_group_address, checks}

pub record SettingsRange (s : Settings) : Type 0 where
  pub some_second : 0 < s.lifetime.0
  pub one_day : s.lifetime.0 ≤ 86400
  pub deadline : s.deadline.0 ≤ 10000

pub settings_range : (s : Settings) → settings_fit s ≡ true → SettingsRange s
settings_range s fit =
    let x = both (ltb 0 s.lifetime.0 && leb s.lifetime.0 86400 && ltb 0 s.deadline.0) (leb s.deadline.0 10000) fit in
    let y = both (ltb 0 s.lifetime.0 && leb s.lifetime.0 86400) (ltb 0 s.deadline.0) x.0 in
    let z = both (ltb 0 s.lifetime.0) (leb s.lifetime.0 86400) y.0 in
    record {
      some_second = ltb-true 0 s.lifetime.0 z.0;
      one_day = leb-true s.lifetime.0 86400 z.1;
      deadline = leb-true s.deadline.0 10000 x.1;
    }

module _ (latest : Tu) (brought : Brought) (cache : List ℕ) (n : ℕ) where
  pub record AllPass : Type 0 where
    pub clock : clock_fits latest brought.reading ≡ true
    pub buffer : smallest_buffer ≤ n
    pub settings : settings_fit brought.settings ≡ true
    pub address : is_group_address brought.address ≡ false
    pub formed : is_well_formed cache ≡ true

  -- what the checks come to tells which of them hold
  abbrev Tells : Option Answer → Type 0
  Tells None = AllPass
  Tells (Some answer) = is_early (answer_number answer) ≡ true

  tells : Tells (checks latest brought cache n)
  unfolding checks
  tells =
      unless Tells (not (clock_fits latest brought.reading)) refl λ clock.
      unless Tells (ltb n smallest_buffer) refl λ buffer.
      unless Tells (not (settings_fit brought.settings)) refl λ settings.
      unless Tells (is_group_address brought.address) refl λ address.
      unless Tells (not (is_well_formed cache)) refl λ formed.
      record {
        clock = not-false (clock_fits latest brought.reading) clock;
        buffer = ltb-false n smallest_buffer buffer;
        settings = not-false (settings_fit brought.settings) settings;
        address = address;
        formed = not-false (is_well_formed cache) formed;
      }

  pub checks_pass : checks latest brought cache n ≡ None → AllPass
  checks_pass e = subst Tells e tells

  pub checks_early : {answer : Answer} → checks latest brought cache n ≡ Some answer → is_early (answer_number answer) ≡ true
  checks_early e = subst Tells e tells

  -- the reading is a clock's, the deadline one of the settings', the cache well-formed, and the buffer has room
  pub record Ready : Type 0 where
    pub reading : brought.reading.0 ≤ 2 ^ 48
    pub deadline : brought.settings.deadline.0 ≤ 10000
    pub formed : is_well_formed cache ≡ true
    pub room : smallest_buffer ≤ n

  pub checks_ready : checks latest brought cache n ≡ None → Ready
  checks_ready e =
      let c = checks_pass e in
      record {
        reading = leb-true brought.reading.0 (2 ^ 48) (both (leb latest.0 brought.reading.0) (in_clock brought.reading) c.clock).1;
        deadline = (settings_range brought.settings c.settings).deadline;
        formed = c.formed;
        room = c.buffer;
      }

  -- a clock reading that does not fit is answered 1
  pub checks_clock : clock_fits latest brought.reading ≡ false → checks latest brought cache n ≡ Some Answer.ClockOut
  unfolding checks
  checks_clock h = rw h
