-- Of `same_heads`: what it ensures.
use Rattle.std.proofs.lemmas.Slice.Eq.{slice_eq-Decides}
use Rattle.pm_concentrator.proofs.Heads.{same_head}
use Rattle.pm_concentrator.proofs.concentrator.same_heads.Goals as goal

pub returns : goal.returns
returns c = record { same = slice_eq-Decides same_head _ _ _ c.eq.ensures }
