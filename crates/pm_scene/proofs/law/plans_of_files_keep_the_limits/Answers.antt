-- Of `plans_of_files_keep_the_limits`: what it ensures.
use Rattle.pm_scene.proofs.PlansOfFiles.{files_plan}
use Rattle.pm_scene.proofs.law.plans_of_files_keep_the_limits.Goals as goal

pub returns : goal.returns
returns c bytes plan is = files_plan bytes plan is
