-- Of `Standing::start`: its clause `stands`.
use Rattle.std.proofs.Common.{◌∙◌, ◌+◌, ap, sym, length, replicate}
use Rattle.pm_bid.specs.Bids.{zeros}
use Rattle.pm_walk.proofs.Standings.{start_stands}
use Rattle.pm_walk.proofs.standing.Standing.start.Goals as goal

pub returns-clause-stands : goal.returns-clause-stands
returns-clause-stands c =
    let many = c.len.ensures.len ∙ ap (λ e. length e) c.tree.ensures.tree ∙ sym c.tree.ensures.sound.nodes.one_each in
    let steps = c.steps-steps.ensures.steps ∙ ap (λ b. b.steps) c.basis.ensures.basis in
    start_stands c.args.plan.now _ _ _ _ c.tree.ensures.sound (ap (λ n. n + 1) many) c.in_ok-starts.ensures.reached c.in_ok-starts.ensures.none
    (c.in_ok-blanks.ensures ∙ ap (λ n. replicate (c.len.result + 1) (zeros n)) steps)
    (c.in_ok-blanks-2.ensures ∙ ap (λ n. replicate (c.len.result + 1) (zeros n)) steps)
