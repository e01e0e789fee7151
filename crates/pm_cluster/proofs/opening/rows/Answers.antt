-- Of `rows`: what it ensures.
use Rattle.std.proofs.Common.{◌≡◌, ◌+◌, ◌∙◌, ap, length, arith}
use Rattle.pm_market.specs.Lists.{nodes}
use Rattle.pm_plan.specs.Market.{plan_lists}
use Rattle.pm_cluster.proofs.Parents.{nodes_are}
use Rattle.std.proofs.lemmas.List.{length-map}
use Rattle.pm_cluster.proofs.opening.rows.Goals as goal

pub returns : goal.returns
returns c =
    let plan = c.args.plan.now in
    let all : c.loop-number.number ≡ nodes (plan_lists plan) + 1 =
    omega (arith, nodes_are plan, c.loop-number-test.false, c.loop-number.auto.number-end, c.len-number-end.ensures.len, ap length c.tree.ensures.tree) in
    record {
      rows = record {
        one_each = length-map c.loop-number.rows.items (λ row. row.items) ∙ c.loop-number.invariant.0 ∙ all;
        new = λ y inside. c.loop-number.invariant.1 y (omega (arith, all, inside));
      };
    }
