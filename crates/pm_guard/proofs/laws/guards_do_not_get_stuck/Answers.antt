-- Of `guards_do_not_get_stuck`: what it ensures.
use Rattle.pm_guard.proofs.Choices.{some_choice, run_keeps, none_apart}
use Rattle.pm_guard.proofs.Silent.{choice_around}
use Rattle.pm_guard.proofs.laws.guards_do_not_get_stuck.Goals as goal

pub returns-clause-some : goal.returns-clause-some
returns-clause-some c limits m taken targets child h inside other = some_choice limits m taken targets child h inside other

pub returns-clause-run : goal.returns-clause-run
returns-clause-run c limits m taken targets run h is_run = run_keeps limits m run taken targets h is_run

pub returns-clause-around_silent : goal.returns-clause-around_silent
returns-clause-around_silent c limits m taken targets silent child h inside other = choice_around limits m taken targets silent child h inside other

pub returns-clause-there : goal.returns-clause-there
returns-clause-there c taken targets many none = none_apart taken targets many none
