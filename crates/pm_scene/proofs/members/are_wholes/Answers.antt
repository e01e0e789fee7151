-- Of `are_wholes`: what it ensures.
use Rattle.std.proofs.Common.{◌∙◌}
use Rattle.serde_json.specs.View.{view}
use Rattle.pm_scene.specs.Members.{is_whole}
use Rattle.pm_scene.proofs.Lists.{list_all_map}
use Rattle.pm_scene.proofs.members.are_wholes.Goals as goal

pub returns : goal.returns
returns c = c.each_whole.ensures ∙ list_all_map is_whole view c.args.values.now
