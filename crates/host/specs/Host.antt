-- What a host's numbers mean, and the numbers that it is told.
use Rattle.std.specs.Prelude.{ℕ, unwrap_or}
use Rattle.rules.specs.declared.Answer.{Answer}
use Rattle.rules.specs.declared.Brought.{Brought}
use Rattle.rules.specs.declared.Settings.{Settings}
use Rattle.rules.specs.OnePeer.{answer_number, status_beside}
use Rattle.records.specs.Record.{is_yes}
use Rattle.host.specs.declared.HostSettings.{HostSettings}
use Rattle.host.specs.declared.HostCall.{HostCall}
use Rattle.host.specs.declared.ReceiveResult.{ReceiveResult}

abbrev pub settings_of : HostSettings → Settings
settings_of s = record {
  pmkless = is_yes s.allow_pmkless;
  ciphers = s.allow_ciphers;
  lifetime = record { 0 = s.lifetime_seconds };
  deadline = record { 0 = s.deadline_tu };
}

abbrev pub brought_of : HostCall → Brought
brought_of call = record {
  settings = settings_of call.settings;
  reading = record { 0 = call.reading_tu };
  address = call.address;
  lent = record { point = is_yes call.point_valid };
}

-- the status beside 11, and 0 beside any other answer
abbrev pub status_number : Answer → ℕ
status_number answer = unwrap_or (status_beside answer) 0

abbrev pub receive_result_of : Answer → ℕ → ReceiveResult
receive_result_of answer length = record { answer = answer_number answer; status = status_number answer; length = length }
