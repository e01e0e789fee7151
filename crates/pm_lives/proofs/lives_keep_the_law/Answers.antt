-- Of `lives_keep_the_law`: its clauses.
use Rattle.std.proofs.Common.{◌∙◌}
use Rattle.pm_lives.proofs.LettingGo.{none_let_go}
use Rattle.pm_lives.proofs.LearntWorlds.{new_given, lives_given, may_be_learnt}
use Rattle.pm_lives.proofs.Living.{lives_are_calls, lives_keep_the_law}
use Rattle.pm_lives.proofs.lives_keep_the_law.Goals as goal

pub returns-clause-run : goal.returns-clause-run
returns-clause-run c lists p numbering start world new steps market started none live =
    lives_are_calls lists p numbering market c.systems_run_the_market.ensures.goes_on c.expiring_is_two_calls.ensures.relay
    c.expiring_is_two_calls.ensures.root c.systems_run_the_market.ensures.run start started world new steps none live

pub returns-clause-law : goal.returns-clause-law
returns-clause-law c lists p numbering start world new steps market started none live =
    lives_keep_the_law lists p numbering market c.systems_run_the_market.ensures.goes_on c.expiring_is_two_calls.ensures.relay
    c.expiring_is_two_calls.ensures.root c.systems_run_the_market.ensures.run start started c.systems_run_the_market.ensures.named world new steps none live

pub returns-clause-learnt : goal.returns-clause-learnt
returns-clause-learnt c lists p numbering world new steps none live relay conc =
    may_be_learnt lists p numbering new (lives_given lists p numbering steps world new (new_given lists p numbering world none) live) relay conc

pub returns-clause-let_go : goal.returns-clause-let_go
returns-clause-let_go c lists p numbering world new steps none live lets d = none_let_go lists p numbering steps world new lets live d ∙ none.let_go d
