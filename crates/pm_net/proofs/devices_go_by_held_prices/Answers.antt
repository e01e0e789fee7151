-- Of `devices_go_by_held_prices`: its clauses `held`, `of_its_clearing` and `settled`.
use Rattle.pm_net.proofs.HeldPrices.{same_held, of_its_clearing, settled_held}
use Rattle.pm_net.proofs.devices_go_by_held_prices.Goals as goal

pub returns-clause-held : goal.returns-clause-held
returns-clause-held c lists p net s d law agrees leaf none = same_held lists law p net s agrees d leaf none

pub returns-clause-of_its_clearing : goal.returns-clause-of_its_clearing
returns-clause-of_its_clearing c lists p net s d step number law agrees leaf e = of_its_clearing lists law p net s agrees d leaf step number e

pub returns-clause-settled : goal.returns-clause-settled
returns-clause-settled c lists p net s d law by agrees settled leaf member = settled_held lists law p net s agrees d leaf by settled member
