-- Of `are_pairs`: what it ensures.
use Rattle.std.proofs.Common.{◌∙◌}
use Rattle.serde_json.specs.View.{view}
use Rattle.pm_scene.specs.Members.{is_pair}
use Rattle.pm_scene.proofs.Lists.{list_all_map}
use Rattle.pm_scene.proofs.members.are_pairs.Goals as goal

pub returns : goal.returns
returns c = c.each_pair.ensures ∙ list_all_map is_pair view c.args.values.now
