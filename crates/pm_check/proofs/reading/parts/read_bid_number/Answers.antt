-- Of `read_bid_number`: what it ensures.
use Rattle.std.proofs.Common.{refl}
use Rattle.std.specs.Prelude.{codes}
use Rattle.pm_check.proofs.Readings.{none_behind, reads_behind}
use Rattle.pm_check.proofs.reading.parts.read_bid_number.Goals as goal

pub returns-in_err-rest : goal.returns-in_err-rest
returns-in_err-rest c = none_behind _ (codes "bid") _ _ refl c.as_slice.ensures _ c.from_residual.ensures (c.in_err-rest.ensures.none refl)

pub returns : goal.returns
returns c = reads_behind _ (codes "bid") _ _ refl c.as_slice.ensures _ _ c.in_ok-rest.ensures.told c.read_last_number.ensures
