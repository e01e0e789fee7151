-- Of `value_form`: what it ensures.
use Rattle.std.proofs.Common.{rules}
use Rattle.pm_scene.proofs.forms.value_form.Goals as goal

pub returns-then-has_member-2 : goal.returns-then-has_member-2
returns-then-has_member-2 c = search rules
