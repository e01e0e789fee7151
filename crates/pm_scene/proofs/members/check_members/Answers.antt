-- Of `check_members`: what it ensures.
use Rattle.std.proofs.Common.{rules}
use Rattle.pm_scene.specs.Members.{members_check}
use Rattle.pm_scene.proofs.members.check_members.Goals as goal

pub returns-then-not-have_forms : goal.returns-then-not-have_forms
unfolding members_check
returns-then-not-have_forms c = search rules
