-- The plan of a cluster file, or the first refusal that three passes meet: the shape, the tree, the plan.
use Rattle.std.specs.Prelude.{ℕ, List, Result}
use Rattle.pm_plan.specs.Plans.{PlanData}
use Rattle.pm_plan.specs.Building.{checked_plan}
use Rattle.pm_plan.specs.Refusals.{need}
use Rattle.pm_base.specs.Outcomes.{◌>>=◌}
use Rattle.pm_plan.specs.declared.refusal.Cause.TheVariants as cause
use Rattle.pm_plan.specs.declared.refusal.Place.TheVariants.{Document}
use Rattle.pm_plan.specs.declared.refusal.Refusal.{Refusal}
use Rattle.pm_scene.specs.Values.{json_value}
use Rattle.pm_scene.specs.Shape.{ShapeValue, shape_of}
use Rattle.pm_scene.specs.Trees.{entries_in, parts_in, tree_of}

-- the plan of a shape
unfoldable pub plan_of : ShapeValue → Result PlanData Refusal
plan_of shape = do
  tree ← tree_of (entries_in shape.nodes)
  checked_plan shape.basis tree (parts_in shape.nodes) shape.phases

-- the plan of these bytes
unfoldable pub scene : List ℕ → Result PlanData Refusal
scene bytes = do
  d ← need cause.Unreadable Document (json_value bytes)
  shape ← shape_of d
  plan_of shape
