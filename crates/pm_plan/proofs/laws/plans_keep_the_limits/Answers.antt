-- Of `plans_keep_the_limits`: what it ensures.
use Rattle.pm_plan.proofs.PublicLaws.{plans}
use Rattle.pm_plan.proofs.laws.plans_keep_the_limits.Goals as goal

pub returns : goal.returns
returns c = λ basis entries nodes phases plan sound accepted tree fit h. plans basis entries nodes phases plan sound accepted tree fit h
