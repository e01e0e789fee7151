-- Of `has_only`: what it ensures.
use Rattle.std.proofs.Common.{◌∙◌}
use Rattle.pm_scene.proofs.Lists.{has_only_entries}
use Rattle.pm_scene.proofs.members.has_only.Goals as goal

pub returns : goal.returns
returns c = c.each_listed.ensures ∙ has_only_entries c.args.members.now c.args.object.now.entries
