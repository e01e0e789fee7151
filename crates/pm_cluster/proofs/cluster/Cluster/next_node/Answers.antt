-- Of `Cluster::next_node`: its clauses `inside`, `moved` and `still`; what the call of `has_move` requires; the turns of its loop over `number`.
use Rattle.std.proofs.Common.{rules, ◌≡◌, ap, subst, ℕ, ◌≤◌, length, arith, below_more}
use Rattle.pm_market.specs.Lists.{nodes}
use Rattle.pm_plan.specs.Kept.{IsPlan}
use Rattle.pm_plan.specs.Market.{plan_lists}
use Rattle.pm_stands.specs.Still.{IsStill}
use Rattle.pm_stands.proofs.StillNodes.{still_is, all_still_is}
use Rattle.pm_stands.proofs.MoveLaws.{quiet_is_idle}
use Rattle.pm_cluster.specs.Clusters.{ClusterValue}
use Rattle.pm_cluster.proofs.Parents.{nodes_are}
use Rattle.pm_cluster.proofs.cluster.Cluster.next_node.Goals as goal
use Rattle.pm_cluster.proofs.cluster.Cluster.next_node.Goals.{After-len-number-end, Then-has_move, Else-has_move}

is_plan : (c : After-len-number-end) → IsPlan c.args.self.now.plan
is_plan c = subst (λ (v : ClusterValue). IsPlan v.plan) c.self.view_is c.self.invariant.is_plan

many : (c : After-len-number-end) → c.len-number-end.result ≡ nodes (plan_lists c.args.self.now.plan)
many c =
    omega (
      arith,
      nodes_are c.self.inside.plan.now,
      c.len-number-end.ensures.len,
      ap length c.tree.ensures.tree,
      ap (λ (v : ClusterValue). nodes (plan_lists v.plan)) c.self.view_is,
    )

pub has_move-requires : goal.has_move-requires
has_move-requires c = record { inside = omega (arith, c.loop-number-test.true, many (goal.at.has_move-requires c).After-len-number-end) }

pub returns-then-has_move-clause-inside : goal.returns-then-has_move-clause-inside
returns-then-has_move-clause-inside c = omega (arith, c.loop-number-test.true, many (goal.at.returns-then-has_move-clause-inside c).After-len-number-end)

moves : (c : Then-has_move) → IsStill c.args.self.now.plan c.args.self.now.core c.loop-number.number → ⊥
moves c still = let same = c.has_move.ensures.still.1 still in cc

pub returns-then-has_move-clause-moved : goal.returns-then-has_move-clause-moved
returns-then-has_move-clause-moved c s stands =
    let at = goal.at.returns-then-has_move-clause-moved c in
    let plan = c.args.self.now.plan in
    let core = c.args.self.now.core in
    let number : ℕ = c.loop-number.number in
    let inside : number ≤ nodes (plan_lists plan) = omega (arith, c.loop-number-test.true, many at.After-len-number-end) in (
      λ none. moves at.Then-has_move ((still_is plan core s number (is_plan at.After-len-number-end) stands inside).1 none),
      λ x lt. (still_is plan core s x (is_plan at.After-len-number-end) stands (omega (arith, lt, inside))).0 (c.loop-number.invariant x lt),
    )

pub loop-number-preserved : goal.loop-number-preserved
loop-number-preserved c = below_more _ _ c.loop-number.invariant (c.has_move.ensures.still.0 c.if-has_move.false)

pub returns-clause-still : goal.returns-clause-still
returns-clause-still c x inside =
    c.loop-number.invariant x (omega (arith, inside, c.loop-number-test.false, many (goal.at.returns-clause-still c).After-len-number-end))

pub returns-clause-moved : goal.returns-clause-moved
returns-clause-moved c s stands =
    let at = (goal.at.returns-clause-moved c).After-len-number-end in
    let plan = c.args.self.now.plan in
    let core = c.args.self.now.core in
    let quiet = (all_still_is plan core (is_plan at)).0 (λ x inside. c.loop-number.invariant x (omega (arith, inside, c.loop-number-test.false, many at))) in
    (quiet_is_idle plan core s (is_plan at) stands).0 quiet

pub loop-number-init : goal.loop-number-init
loop-number-init c = search rules
