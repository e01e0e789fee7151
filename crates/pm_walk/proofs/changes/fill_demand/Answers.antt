-- Of `fill_demand`: its clauses `demand` and `steps`; what the call of `fill_bid` requires.
use Rattle.std.proofs.Common.{◌≡◌, ◌∙◌, ap, sym, subst, ℕ, ℤ, List, length, Some}
use Rattle.pm_bid.specs.Bids.{HaveSteps, zeros}
use Rattle.pm_bid.proofs.Sums.{length-zeros}
use Rattle.pm_device.specs.declared.kind.Kind.{Kind}
use Rattle.pm_strategy.specs.Strategies.{bid_of}
use Rattle.pm_plan.specs.Plans.{PlanData, NodeData, node, kind_of}
use Rattle.pm_plan.specs.Auction.{node_bid}
use Rattle.pm_plan.proofs.DeviceNodes.{kind_of-tells}
use Rattle.pm_walk.proofs.Devices.{reached-fits, kind-valid}
use Rattle.pm_walk.proofs.changes.fill_demand.Goals as goal

pub fill_bid-requires-clause-fits : goal.fill_bid-requires-clause-fits
fill_bid-requires-clause-fits c =
    reached-fits c.args.plan.now c.args.device.0 c.args.here c.kind.result c.kind.ensures.sound c.requires.leaf c.requires.reached c.kind.ensures.kind

pub fill_bid-requires-clause-valid : goal.fill_bid-requires-clause-valid
fill_bid-requires-clause-valid c = kind-valid c.args.plan.now c.args.device.0 c.kind.result c.kind.ensures.sound c.kind.ensures.kind

-- the bid of a device of this kind is that of its node
bid_here : (plan : PlanData) (d : ℕ) (kind : Kind) (z : ℤ) → kind_of (node plan d) ≡ Some kind →
    bid_of kind z plan.arrays plan.basis.steps ≡ node_bid plan (node plan d) z
bid_here plan d kind z kind_is =
    let has = kind_of-tells (node plan d) kind kind_is in
    ap (λ (k : Kind). bid_of k z plan.arrays plan.basis.steps) (sym has.kind_is) ∙ ap (λ (n : NodeData). node_bid plan n z) (sym has.is)

pub fill_bid-requires-clause-arrays : goal.fill_bid-requires-clause-arrays
fill_bid-requires-clause-arrays c =
    let steps : HaveSteps c.args.plan.now.basis.steps c.arrays.result.now =
    subst (HaveSteps c.args.plan.now.basis.steps) (sym c.arrays.ensures.arrays) c.arrays.ensures.sound.arrays.steps in
    λ k d inside. steps k d inside ∙ sym c.requires.steps

pub returns-then-here-clause-demand : goal.returns-then-here-clause-demand
returns-then-here-clause-demand c =
    let plan = c.args.plan.now in
    let z = c.args.here.state.0 in
    rw c.if-here.true
    (c.fill_bid.ensures.bid ∙ ap (λ (a : List (List ℤ)). bid_of c.kind.result z a (length c.args.out.now)) c.arrays.ensures.arrays
    ∙ ap (λ (n : ℕ). bid_of c.kind.result z plan.arrays n) c.requires.steps ∙ bid_here plan c.args.device.0 c.kind.result z c.kind.ensures.kind)

pub returns-then-here-clause-steps : goal.returns-then-here-clause-steps
returns-then-here-clause-steps c = c.fill_bid.ensures.steps ∙ c.requires.steps

pub returns-else-here-clause-demand : goal.returns-else-here-clause-demand
returns-else-here-clause-demand c = rw c.if-here.false (c.set_zero.ensures.bid ∙ ap (λ n. zeros n) c.requires.steps)

pub returns-else-here-clause-steps : goal.returns-else-here-clause-steps
returns-else-here-clause-steps c =
    ap (λ (l : List ℤ). length l) c.set_zero.ensures.bid ∙ length-zeros _ ∙ c.requires.steps
