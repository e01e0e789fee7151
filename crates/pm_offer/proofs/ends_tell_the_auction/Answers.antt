-- Of `ends_tell_the_auction`: its clauses `only` and `only_step`.
use Rattle.pm_offer.proofs.EndLines.{step_only}
use Rattle.pm_offer.proofs.OneEnd.{end_only}
use Rattle.pm_offer.proofs.ends_tell_the_auction.Goals as goal

pub returns-clause-only : goal.returns-clause-only
returns-clause-only c plan cut end is tells = end_only plan is cut end tells

pub returns-clause-only_step : goal.returns-clause-only_step
returns-clause-only_step c plan cut x step is goes = step_only plan is cut x step goes
