-- Of `targets_that_fit_are_told_at_once`: what it ensures.
use Rattle.pm_guard.proofs.AtOnce.{fits_told, fits_kept, fits_falling, fits_rising}
use Rattle.pm_guard.proofs.laws.targets_that_fit_are_told_at_once.Goals as goal

pub returns-clause-told : goal.returns-clause-told
returns-clause-told c guard targets child fits inside = fits_told guard targets child fits inside

pub returns-clause-kept : goal.returns-clause-kept
returns-clause-kept c guard targets child band fits low high inside = fits_kept guard targets child band fits low high inside

pub returns-clause-falling : goal.returns-clause-falling
returns-clause-falling c limits taken targets many small over under = fits_falling limits taken targets many small over under

pub returns-clause-rising : goal.returns-clause-rising
returns-clause-rising c limits taken targets many small over under = fits_rising limits taken targets many small over under
