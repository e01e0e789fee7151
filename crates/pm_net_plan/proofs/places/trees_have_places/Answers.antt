-- Of `trees_have_places`: its clauses `numbering`, `small` and `plans`.
use Rattle.pm_net_plan.proofs.Children.{is_numbering, small}
use Rattle.pm_net_plan.proofs.PlanPlaces.{numbering}
use Rattle.pm_net_plan.proofs.places.trees_have_places.Goals as goal

pub returns-clause-numbering : goal.returns-clause-numbering
returns-clause-numbering c lists has = is_numbering lists has

pub returns-clause-small : goal.returns-clause-small
returns-clause-small c lists le = small lists le

pub returns-clause-plans : goal.returns-clause-plans
returns-clause-plans c plan is_plan = numbering plan is_plan
