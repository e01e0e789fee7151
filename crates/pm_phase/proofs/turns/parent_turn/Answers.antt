-- Of `parent_turn`: its clause `moves`.
use Rattle.std.proofs.Common.{sym, subst, Option, Some}
use Rattle.pm_phase.specs.KeepingParents.{UpMovesOn}
use Rattle.pm_phase.specs.declared.ends.UpEnd.{UpEnd}
use Rattle.pm_phase.proofs.Moves.{up_moves}
use Rattle.pm_phase.proofs.turns.parent_turn.Goals as goal

pub returns-then-put-clause-moves : goal.returns-then-put-clause-moves
returns-then-put-clause-moves c =
    subst (λ (u : Option UpEnd). UpMovesOn u (Some c.hear_price_to_pass-heard.new.up) c.args.parent.now c.hear_price_to_pass-heard.new.parent)
    (sym c.in-Some.is)
    (up_moves c.args.plan.now c.in-Some.up c.put_waiting_bid-put.new.up c.hear_price_to_pass-heard.new.up c.args.parent.now
    c.hear_price_to_pass-heard.new.parent c.put_waiting_bid-put.new.waiting c.put_waiting_bid-put.result c.hear_price_to_pass-heard.result
    c.put_waiting_bid-put.ensures.place c.hear_price_to_pass-heard.ensures.place c.put_waiting_bid-put.ensures.put c.hear_price_to_pass-heard.ensures.heard)

pub returns-else-put-clause-moves : goal.returns-else-put-clause-moves
returns-else-put-clause-moves c =
    subst (λ (u : Option UpEnd). UpMovesOn u (Some c.hear_price_to_pass-heard.new.up) c.args.parent.now c.hear_price_to_pass-heard.new.parent)
    (sym c.in-Some.is)
    (up_moves c.args.plan.now c.in-Some.up c.put_waiting_bid-put.new.up c.hear_price_to_pass-heard.new.up c.args.parent.now
    c.hear_price_to_pass-heard.new.parent c.put_waiting_bid-put.new.waiting c.put_waiting_bid-put.result c.hear_price_to_pass-heard.result
    c.put_waiting_bid-put.ensures.place c.hear_price_to_pass-heard.ensures.place c.put_waiting_bid-put.ensures.put c.hear_price_to_pass-heard.ensures.heard)
