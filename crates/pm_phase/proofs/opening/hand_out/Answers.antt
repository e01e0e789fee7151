-- Of `hand_out`: its clause `opened`.
use Rattle.pm_phase.proofs.opening.hand_out.Goals as goal

pub returns-clause-opened : goal.returns-clause-opened
returns-clause-opened c = λ plan parts link fresh fresh' all.
    let handed = c.in_ok-hand_down.ensures.opened plan parts c.args.number link fresh fresh' all in
    c.hand_up.ensures.opened plan parts handed.1 handed.0
