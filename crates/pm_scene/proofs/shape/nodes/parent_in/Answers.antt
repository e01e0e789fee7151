-- Of `parent_in`: what it ensures.
use Rattle.std.proofs.Common.{rules}
use Rattle.pm_scene.proofs.shape.nodes.parent_in.Goals as goal

pub returns-then-eq : goal.returns-then-eq
returns-then-eq c = search rules
