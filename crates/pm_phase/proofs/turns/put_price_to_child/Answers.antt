-- Of `put_price_to_child`: its clause `moves`.
use Rattle.std.proofs.Common.{sym, refl, None, get_or-set_same, get_or-set_other}
use Rattle.pm_phase.proofs.Moves.{put_moves}
use Rattle.pm_phase.proofs.turns.put_price_to_child.Goals as goal

pub returns-in-Some-clause-moves : goal.returns-in-Some-clause-moves
returns-in-Some-clause-moves c =
    let item = c.in-Some.ensures.item in
    let prices = c.args.parent.now.prices.items in
    put_moves c.args.place c.args.down.now c.put_waiting_price.new.down c.args.parent.now _ c.in-Some.price.now c.put_waiting_price.new.waiting
    c.put_waiting_price.result c.put_waiting_price.ensures.place c.put_waiting_price.ensures.put (sym (item.3.1 None))
    (get_or-set_same prices c.args.place c.put_waiting_price.new.waiting None item.3.0)
    (λ other ne. get_or-set_other prices c.args.place other c.put_waiting_price.new.waiting None ne) refl refl refl refl
