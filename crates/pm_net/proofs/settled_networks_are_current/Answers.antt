-- Of `settled_networks_are_current`: its clauses `counted`, `held` and `unbroken`.
use Rattle.pm_net.proofs.Settled.{all_counted, all_held, taken_settles}
use Rattle.pm_net.proofs.settled_networks_are_current.Goals as goal

pub returns-clause-counted : goal.returns-clause-counted
returns-clause-counted c lists p net s d law by agrees settled leaf = all_counted lists law p by net s agrees settled d leaf

pub returns-clause-held : goal.returns-clause-held
returns-clause-held c lists p net s d law by agrees settled leaf member = all_held lists law p by net s agrees settled d leaf member

pub returns-clause-unbroken : goal.returns-clause-unbroken
returns-clause-unbroken c lists p net s law agrees unbroken taken = taken_settles lists law p net s agrees unbroken taken
