-- Of `elements`: what it ensures.
use Rattle.pm_scene.proofs.Lists.{data_list-items_view}
use Rattle.pm_scene.proofs.values.elements.Goals as goal

pub returns-in-Some : goal.returns-in-Some
returns-in-Some c = rw (← c.in-Some.ensures, data_list-items_view, c.as_slice.ensures.value)
