-- Of `check_version`: what it ensures.
use Rattle.std.proofs.Common.{rules}
use Rattle.pm_scene.proofs.shape.document.check_version.Goals as goal

pub returns-then-version-eq2 : goal.returns-then-version-eq2
returns-then-version-eq2 c = search rules
