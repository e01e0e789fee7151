-- What a contract sees of a journal.
use Rattle.std.specs.Prelude.{ℕ, List}
use Rattle.pm_market.specs.declared.journal.Line.{Line}

-- the lines, and for how many more there is room
pub record JournalData : Type 0 where
  pub lines : List Line
  pub spare : ℕ
