-- Of `systems_run_the_market`: its clauses.
use Rattle.pm_system.proofs.Given.{is_market}
use Rattle.pm_system.proofs.Law.{keeps_the_law}
use Rattle.pm_system.proofs.Runs.{system_runs, goes_on}
use Rattle.pm_system.proofs.systems_run_the_market.Goals as goal

pub returns-clause-given : goal.returns-clause-given
returns-clause-given c lists steps demand limits giver given = is_market lists steps demand limits giver given

pub returns-clause-run : goal.returns-clause-run
returns-clause-run c lists p numbering sys new calls market at runs = system_runs lists p numbering market c.agents_come_back.ensures sys new calls at runs

pub returns-clause-goes_on : goal.returns-clause-goes_on
returns-clause-goes_on c lists p numbering before more sys new market has runs =
    goes_on lists p numbering market c.agents_come_back.ensures before more sys new has runs

pub returns-clause-named : goal.returns-clause-named
returns-clause-named c lists p numbering calls sys market has = keeps_the_law lists p numbering calls sys market has
