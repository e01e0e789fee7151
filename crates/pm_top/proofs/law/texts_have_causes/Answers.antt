-- Of `texts_have_causes`: its clauses `done`, `invalid`, `usage` and 4 more.
use Rattle.std.proofs.Common.{refl}
use Rattle.std.specs.Prelude.{Some}
use Rattle.pm_answer.specs.declared.arguments.Command.TheVariants.{Serve}
use Rattle.pm_answer.specs.declared.status.Status.TheVariants.{Done, Invalid, Usage, TooLong, Refused}
use Rattle.pm_top.proofs.Headline.{due_tells, due_refutes}
use Rattle.pm_top.proofs.Causes.{usage_has_cause, too_long_has_cause, refused_has_cause, served_has_cause, no_other_status}
use Rattle.pm_top.proofs.law.texts_have_causes.Goals as goal

pub returns-clause-done : goal.returns-clause-done
returns-clause-done c command old new text sized due = due_tells command old new Done text sized refl due

pub returns-clause-invalid : goal.returns-clause-invalid
returns-clause-invalid c command old new text due = due_refutes command old new Invalid text refl due

pub returns-clause-usage : goal.returns-clause-usage
returns-clause-usage c command old new text due = usage_has_cause command old new Usage text refl due

pub returns-clause-too_long : goal.returns-clause-too_long
returns-clause-too_long c command input new text due = too_long_has_cause command input new TooLong text refl due

pub returns-clause-refused : goal.returns-clause-refused
returns-clause-refused c command old new text due = refused_has_cause command old new Refused text refl due

pub returns-clause-served : goal.returns-clause-served
returns-clause-served c old new text due = served_has_cause (Some Serve) old new Done text refl refl due

pub returns-clause-no_other : goal.returns-clause-no_other
returns-clause-no_other c command old new status text due = no_other_status command old new status text due
