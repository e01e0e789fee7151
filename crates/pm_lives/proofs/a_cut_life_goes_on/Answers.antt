-- Of `a_cut_life_goes_on`: its clause.
use Rattle.pm_lives.proofs.Worked.{goes_on}
use Rattle.pm_lives.proofs.a_cut_life_goes_on.Goals as goal

pub returns : goal.returns
returns c lists p numbering basis terms root relays demand are leaf given = goes_on lists p numbering basis terms root relays demand are leaf given
