-- Of `device_turn`: its clause `keeps`.
use Rattle.std.proofs.Common.{subst}
use Rattle.pm_phase.specs.KeepingParents.{OverEnd}
use Rattle.pm_phase.proofs.DeviceKeeps.{turn_keeps}
use Rattle.pm_phase.specs.Telling.{KeepsDevice}
use Rattle.pm_phase.proofs.turns.device_turn.Goals as goal

pub returns-then-put-clause-keeps : goal.returns-then-put-clause-keeps
returns-then-put-clause-keeps g c before changes is are kept =
    turn_keeps c.args.phase.now.plan.now c.args.number before c.make_next-made.new.device c.hear_price-heard.new.device
    c.put_waiting_bid-put.new.waiting c.in-Some.up.end c.put_waiting_bid-put.new.up.end c.hear_price-heard.new.up.end
    c.put_waiting_bid-put.result c.hear_price-heard.result
    (c.make_next-made.ensures.keeps before changes c.in-Some.up.end is are
    (subst (OverEnd (KeepsDevice c.args.phase.now.plan.now c.args.number before c.args.device.now)) c.in-Some.is kept)) c.put_waiting_bid-put.ensures.put
    c.hear_price-heard.ensures.heard

pub returns-else-put-clause-keeps : goal.returns-else-put-clause-keeps
returns-else-put-clause-keeps g c before changes is are kept =
    turn_keeps c.args.phase.now.plan.now c.args.number before c.make_next-made.new.device c.hear_price-heard.new.device
    c.put_waiting_bid-put.new.waiting c.in-Some.up.end c.put_waiting_bid-put.new.up.end c.hear_price-heard.new.up.end
    c.put_waiting_bid-put.result c.hear_price-heard.result
    (c.make_next-made.ensures.keeps before changes c.in-Some.up.end is are
    (subst (OverEnd (KeepsDevice c.args.phase.now.plan.now c.args.number before c.args.device.now)) c.in-Some.is kept)) c.put_waiting_bid-put.ensures.put
    c.hear_price-heard.ensures.heard
