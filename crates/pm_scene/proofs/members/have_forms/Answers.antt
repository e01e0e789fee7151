-- Of `have_forms`: what it ensures.
use Rattle.std.proofs.Common.{◌∙◌}
use Rattle.serde_json.specs.View.{view}
use Rattle.pm_scene.specs.Members.{Row, has_form_at, row_of, have_forms}
use Rattle.pm_scene.proofs.Lists.{list_all_map}
use Rattle.pm_scene.proofs.members.have_forms.Goals as goal

pub returns : goal.returns
unfolding have_forms
returns c = c.each_of_form.ensures ∙ list_all_map (λ (row : Row). has_form_at row (view c.args.value.now)) row_of c.args.members.now
