-- Of `take_ends`: its clause `from`.
use Rattle.std.proofs.Common.{refl}
use Rattle.pm_phase.proofs.closing.take_ends.Goals as goal

pub returns-clause-from : goal.returns-clause-from
returns-clause-from c = λ nodes has from.
    c.put_down_ends.ensures.from nodes c.args.node has refl (c.put_up_end.ensures.from nodes c.args.node has refl from)
