-- Of `pairs_of`: what it ensures.
use Rattle.std.proofs.Common.{◌≡◌, subst, List, ℤ, IfOk}
use Rattle.serde_json.specs.View.{view}
use Rattle.pm_scene.specs.Values.{pair_of}
use Rattle.pm_scene.proofs.Lists.{map_map}
use Rattle.pm_scene.proofs.values.pairs_of.Goals as goal

pub returns : goal.returns
returns c = subst (λ (l : List (ℤ × ℤ)). IfOk c.each_pair.result (λ v. v.items ≡ l)) (map_map pair_of view c.args.values.now) c.each_pair.ensures
