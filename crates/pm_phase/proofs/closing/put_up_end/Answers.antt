-- Of `put_up_end`: its clause `from`.
use Rattle.std.proofs.Common.{◌∙◌, refl}
use Rattle.pm_phase.proofs.closing.put_up_end.Goals as goal

pub returns-in-Some-clause-from : goal.returns-in-Some-clause-from
returns-in-Some-clause-from c = λ nodes node has same from. c.put_up.ensures.from nodes (record {
  node = node;
  has = has;
  up = c.in-Some.up;
  is = same ∙ c.in-Some.is;
  stands = refl;
  same = refl;
}) from
