-- The exit codes.
use Rattle.std.specs.Prelude.{ℕ}
use Rattle.pm_answer.specs.declared.status.Status.{Status}
use Rattle.pm_answer.specs.declared.status.Status.TheVariants.{Done, Invalid, Usage, ReadFault, TooLong, Refused, WriteFault, NoMemory}

abbrev pub status_code : Status → ℕ
status_code Done = 0
status_code Invalid = 1
status_code Usage = 2
status_code ReadFault = 3
status_code TooLong = 4
status_code Refused = 5
status_code WriteFault = 6
status_code NoMemory = 7
