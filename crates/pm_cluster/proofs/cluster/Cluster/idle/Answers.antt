-- Of `Cluster::idle`: its clauses `quiet`, `idle` and `current`; what the call of `is_busy` requires; the turns of its loop over `number`.
use Rattle.std.proofs.Common.{◌≡◌, ap, subst, ◌≤◌, length, refl, arith, below_more}
use Rattle.pm_market.specs.Lists.{nodes}
use Rattle.pm_plan.specs.Kept.{IsPlan}
use Rattle.pm_plan.specs.Market.{plan_lists}
use Rattle.pm_stands.specs.Quiet.{IsQuiet}
use Rattle.pm_stands.proofs.MoveLaws.{quiet_is_idle}
use Rattle.pm_stands.proofs.AllCurrent.{quiet_current}
use Rattle.pm_cluster.specs.Clusters.{ClusterValue}
use Rattle.pm_cluster.proofs.Parents.{nodes_are}
use Rattle.pm_cluster.proofs.Waits.{all_rest_is}
use Rattle.pm_cluster.proofs.cluster.Cluster.idle.Goals as goal
use Rattle.pm_cluster.proofs.cluster.Cluster.idle.Goals.{After-len-last, Then-is_busy, After-loop-number}

is_plan : (c : After-len-last) → IsPlan c.args.self.now.plan
is_plan c = subst (λ (v : ClusterValue). IsPlan v.plan) c.self.view_is c.self.invariant.is_plan

many : (c : After-len-last) → c.len-last.result ≡ nodes (plan_lists c.args.self.now.plan)
many c =
    omega (
      arith,
      nodes_are c.self.inside.plan.now,
      c.len-last.ensures.len,
      ap length c.tree.ensures.tree,
      ap (λ (v : ClusterValue). nodes (plan_lists v.plan)) c.self.view_is,
    )

pub is_busy-requires : goal.is_busy-requires
is_busy-requires c = record { inside = omega (arith, c.loop-number-test.true, many (goal.at.is_busy-requires c).After-len-last) }

pub loop-number-preserved : goal.loop-number-preserved
loop-number-preserved c = below_more _ _ c.loop-number.invariant (c.is_busy.ensures.rests.0 c.if-is_busy.false)

-- a node was found that is not at rest
busy : (c : Then-is_busy) → c.loop-number.number ≤ nodes (plan_lists c.args.self.now.plan) → IsPlan c.args.self.now.plan →
    IsQuiet c.args.self.now.plan c.args.self.now.core → ⊥
busy c inside plan_is quiet =
    let rest = c.is_busy.ensures.rests.1 ((all_rest_is c.args.self.now.plan c.args.self.now.core plan_is).1 quiet c.loop-number.number inside) in
    cc

pub returns-then-is_busy-clause-quiet : goal.returns-then-is_busy-clause-quiet
returns-then-is_busy-clause-quiet c =
    let at = goal.at.returns-then-is_busy-clause-quiet c in
    let inside : c.loop-number.number ≤ nodes (plan_lists c.args.self.now.plan) = omega (arith, c.loop-number-test.true, many at.After-len-last) in
    (λ e. (cc), λ quiet. absurd (busy at.Then-is_busy inside (is_plan at.After-len-last) quiet))

pub returns-then-is_busy-clause-idle : goal.returns-then-is_busy-clause-idle
returns-then-is_busy-clause-idle c s stands =
    let at = goal.at.returns-then-is_busy-clause-idle c in
    let inside : c.loop-number.number ≤ nodes (plan_lists c.args.self.now.plan) = omega (arith, c.loop-number-test.true, many at.After-len-last) in
    let idle = quiet_is_idle c.args.self.now.plan c.args.self.now.core s (is_plan at.After-len-last) stands in
    (λ e. (cc), λ none. absurd (busy at.Then-is_busy inside (is_plan at.After-len-last) (idle.1 none)))

-- every node is at rest
quiet_is : (c : After-loop-number) → c.len-last.result ≡ nodes (plan_lists c.args.self.now.plan) → IsPlan c.args.self.now.plan →
    IsQuiet c.args.self.now.plan c.args.self.now.core
quiet_is c last plan_is =
    (all_rest_is c.args.self.now.plan c.args.self.now.core plan_is).0 (λ x inside.
    c.loop-number.invariant x (omega (arith, inside, c.loop-number-test.false, last)))

pub returns-clause-quiet : goal.returns-clause-quiet
returns-clause-quiet c =
    let at = goal.at.returns-clause-quiet c in
    (λ e. quiet_is at.After-loop-number (many at.After-len-last) (is_plan at.After-len-last), λ quiet. refl)

pub returns-clause-idle : goal.returns-clause-idle
returns-clause-idle c s stands =
    let at = goal.at.returns-clause-idle c in
    let quiet = quiet_is at.After-loop-number (many at.After-len-last) (is_plan at.After-len-last) in
    (λ e. (quiet_is_idle c.args.self.now.plan c.args.self.now.core s (is_plan at.After-len-last) stands).0 quiet, λ none. refl)

pub returns-clause-current : goal.returns-clause-current
returns-clause-current c e s stands =
    let at = goal.at.returns-clause-current c in
    let plan = c.args.self.now.plan in
    let core = c.args.self.now.core in
    let quiet = quiet_is at.After-loop-number (many at.After-len-last) (is_plan at.After-len-last) in
    quiet_current plan core s (is_plan at.After-len-last) stands ((quiet_is_idle plan core s (is_plan at.After-len-last) stands).0 quiet)
