-- Of `wholes_of`: what it ensures.
use Rattle.std.proofs.Common.{◌≡◌, subst, List, ℤ, IfOk}
use Rattle.serde_json.specs.View.{view}
use Rattle.pm_scene.specs.Values.{whole_or_zero}
use Rattle.pm_scene.proofs.Lists.{map_map}
use Rattle.pm_scene.proofs.values.wholes_of.Goals as goal

pub returns : goal.returns
returns c = subst (λ (l : List ℤ). IfOk c.each_whole.result (λ v. v.items ≡ l)) (map_map whole_or_zero view c.args.values.now) c.each_whole.ensures
