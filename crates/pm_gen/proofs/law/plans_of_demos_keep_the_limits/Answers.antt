-- Of `plans_of_demos_keep_the_limits`: what it ensures.
use Rattle.pm_gen.proofs.PlansOfDemos.{demos_plan}
use Rattle.pm_gen.proofs.law.plans_of_demos_keep_the_limits.Goals as goal

pub returns : goal.returns
returns c size number plan within is = demos_plan size number plan within is
