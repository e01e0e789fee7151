-- Of `Judge::start`: its clause `judge`.
use Rattle.std.proofs.Common.{ap, map, Vec, Global, ℕ}
use Rattle.pm_check.proofs.Making.{judge_start}
use Rattle.pm_check.proofs.judge.Judge.start.Goals as goal

pub returns-clause-judge : goal.returns-clause-judge
returns-clause-judge c =
    let steps = c.in_ok-steps.ensures in
    judge_start c.args.plan.now c.in_ok-market.market c.in_ok-steps.steps c.in_ok-market.ensures.lists c.in_ok-market.ensures.start
    steps.closed steps.auction steps.none (ap (map (λ (row : Vec ℕ Global). row.items)) steps.rows)
