-- Of `starts`: what it ensures.
use Rattle.std.proofs.Common.{◌≡◌, ◌+◌, ◌∙◌, ap, sym, length, arith, ◌<◌}
use Rattle.pm_market.specs.Lists.{nodes}
use Rattle.pm_plan.specs.Market.{plan_lists}
use Rattle.pm_cluster.proofs.Parents.{nodes_are}
use Rattle.pm_cluster.proofs.Opened.{device_node}
use Rattle.std.proofs.Common.{Some, pos}
use Rattle.std.proofs.lemmas.List.{length-map, get_or-map}
use Rattle.pm_cluster.proofs.opening.starts.Goals as goal

pub returns : goal.returns
returns c =
    let plan = c.args.plan.now in
    let all : c.loop-number.number ≡ nodes (plan_lists plan) + 1 =
    omega (arith, nodes_are plan, c.loop-number-test.false, c.loop-number.auto.number-end, c.len-number-end.ensures.len, ap length c.tree.ensures.tree) in
    record {
      starts = record {
        one_each = length-map c.loop-number.states.items (λ state. state.0) ∙ c.loop-number.invariant.0 ∙ all;
        starts = λ d leaf.
            let before : d < c.loop-number.number = omega (arith, all, (device_node plan d c.tree.ensures.sound leaf).1) in
            c.loop-number.invariant.1 d before leaf
            ∙ ap Some (sym (get_or-map (λ state. state.0) c.loop-number.states.items d (record { 0 = pos 0 }) (pos 0)
            (omega (arith, before, c.loop-number.invariant.0))));
      };
    }
