-- Of `systems_do_not_go_back`: its clauses.
use Rattle.std.proofs.Common.{subst, List, ◌<◌}
use Rattle.std.specs.List.{AllPairs}
use Rattle.pm_net.specs.Agents.{Setpoint}
use Rattle.pm_net.proofs.Steps.{rising_from_start}
use Rattle.pm_system.proofs.Rising as rising
use Rattle.pm_system.proofs.systems_do_not_go_back.Goals as goal

pub returns-clause-back : goal.returns-clause-back
returns-clause-back c lists p numbering sys new call x did up = rising.rises lists p numbering sys x call new did up

pub returns-clause-restarts : goal.returns-clause-restarts
returns-clause-restarts c lists p numbering sys new y k did = rising.falls_back lists p numbering sys y k new did

pub returns-clause-rising : goal.returns-clause-rising
returns-clause-rising c lists p numbering calls sys d has leaf up =
    let Rises : List Setpoint → Type 0 = λ l. AllPairs (λ (a b : Setpoint). a.index < b.index) l in
    subst Rises (has.is.setpoints d leaf) (rising_from_start lists p has.events d (has.restarts d up)).rising
