-- Of `has_all`: what it ensures.
use Rattle.std.proofs.Common.{◌∙◌}
use Rattle.serde_json.specs.View.{view}
use Rattle.pm_scene.specs.Members.{Row, row_of, has_all}
use Rattle.pm_scene.specs.Values.{has_member}
use Rattle.pm_scene.proofs.Lists.{list_all_map}
use Rattle.pm_scene.proofs.members.has_all.Goals as goal

pub returns : goal.returns
unfolding has_all
returns c = c.each_there.ensures ∙ list_all_map (λ (row : Row). has_member row.0 (view c.args.value.now)) row_of c.args.members.now
