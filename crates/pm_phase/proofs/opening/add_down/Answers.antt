-- Of `add_down`: its clause `opened`.
use Rattle.std.proofs.Common.{refl, arith}
use Rattle.pm_phase.proofs.OpenKeeps.{both_opened}
use Rattle.pm_phase.proofs.opening.add_down.Goals as goal

pub returns-clause-opened : goal.returns-clause-opened
returns-clause-opened c = λ plan parts child link fresh fresh' is.
    both_opened plan parts child c.args.place c.args.node.now _ c.in-Parent.parent c.put_learnt_again.new.parent c.args.up.now
    c.put_learnt_again.new.up c.args.down c.put_learnt_again.new.down c.in-Parent.is refl refl refl c.in_ok-push.ensures.items
    (omega (arith, c.if-len-place.false, c.len.ensures, c.args.node.now.downs.ok.0)) (omega (arith, c.if-node-above.false, link.above)) link.stands
    c.put_learnt_again.ensures.up_at c.put_learnt_again.ensures.down_at link.up link.down fresh fresh' c.put_learnt_again.ensures.again is
