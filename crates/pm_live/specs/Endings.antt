-- The exit codes.
use Rattle.std.specs.Prelude.{◌≡◌, ℕ}
use Rattle.pm_wire.specs.declared.stream.Served.TheVariants.{Done, Refused, TooLong, ReadFault, WriteFault, NoMemory}
use Rattle.pm_live.specs.declared.ending.Ending.{Ending}
use Rattle.pm_live.specs.declared.ending.Ending.TheVariants.{Served, Usage, UsageCutShort}

abbrev pub ending_code : Ending → ℕ
ending_code (Served Done) = 0
ending_code Usage = 2
ending_code (Served ReadFault) = 3
ending_code (Served TooLong) = 4
ending_code (Served Refused) = 5
ending_code (Served WriteFault) = 6
ending_code UsageCutShort = 6
ending_code (Served NoMemory) = 7

-- worked out: the codes in the table of docs/SERVE.md
pub record EndingCodesAreAsWorkedOut : Type 0 where
  pub done : ending_code (Served Done) ≡ 0
  pub usage : ending_code Usage ≡ 2
  pub read_fault : ending_code (Served ReadFault) ≡ 3
  pub too_long : ending_code (Served TooLong) ≡ 4
  pub bad_frame : ending_code (Served Refused) ≡ 5
  pub write_fault : ending_code (Served WriteFault) ≡ 6
  pub usage_cut_short : ending_code UsageCutShort ≡ 6
  pub no_memory : ending_code (Served NoMemory) ≡ 7
