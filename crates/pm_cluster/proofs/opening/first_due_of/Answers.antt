-- Of `first_due_of`: what it ensures.
use Rattle.std.proofs.Common.{◌∙◌}
use Rattle.pm_cluster.proofs.Opened.{first_changes}
use Rattle.pm_cluster.proofs.opening.first_due_of.Goals as goal

pub returns : goal.returns
returns c = record { due = λ some leaf. c.changes_of.ensures ∙ first_changes c.args.plan.now c.args.node.0 c.phases.ensures.sound }
