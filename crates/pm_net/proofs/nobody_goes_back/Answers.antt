-- Of `nobody_goes_back`: its clauses `held`, `forward`, `rises` and 3 more.
use Rattle.pm_net.proofs.Runs.{goes_forward, taken_rises, taken_since, restart_within, place_rises}
use Rattle.pm_net.proofs.nobody_goes_back.Goals as goal

pub returns-clause-held : goal.returns-clause-held
returns-clause-held c lists p net s x agrees node = (agrees.taken x node, agrees.index x node)

pub returns-clause-forward : goal.returns-clause-forward
returns-clause-forward c lists p net s x k law by agrees = goes_forward lists law p by net s agrees x k

pub returns-clause-rises : goal.returns-clause-rises
returns-clause-rises c lists p net e x runs = taken_rises lists p net e x runs

pub returns-clause-since : goal.returns-clause-since
returns-clause-since c lists p net events x runs = taken_since lists p events net x runs

pub returns-clause-restarts : goal.returns-clause-restarts
returns-clause-restarts c lists p net x k = restart_within lists p net x k

pub returns-clause-place : goal.returns-clause-place
returns-clause-place c lists p net s goes old x law agrees = place_rises lists law p net s goes old agrees x
