-- Of `Cluster::phase_end_into`: what it ensures; what the calls of `begin`, `tell_member` and `tell_limited` require; the turns of its loop over `number`.
use Rattle.std.proofs.Common.{◌≡◌, ◌∙◌, sym, ap, subst, ℕ, ◌-◌, ◌≤◌, length, arith, rules, w64, FitsSigned}
use Rattle.std.proofs.lemmas.Int.{to_z-of_z}
use Rattle.pm_base.specs.Cuts.{Cut}
use Rattle.pm_basis.specs.Prices.{price_at}
use Rattle.pm_bid.specs.Bids.{demand_at}
use Rattle.pm_cache.specs.Cache.{aggregate_of}
use Rattle.pm_market.specs.Lists.{nodes}
use Rattle.pm_market.specs.State.{State}
use Rattle.pm_plan.specs.Plans.{end_cut}
use Rattle.pm_plan.specs.Auction.{EndData}
use Rattle.pm_plan.specs.States.{end_of}
use Rattle.pm_plan.specs.Market.{plan_lists}
use Rattle.pm_offer.specs.EndLines.{TellsEnd}
use Rattle.pm_offer.proofs.EndLines.{tells_end}
use Rattle.pm_plan.specs.EndLines.{members_to}
use Rattle.pm_stands.specs.Stands.{StandsFor}
use Rattle.pm_stands.specs.Quiet.{IsQuiet}
use Rattle.pm_cluster.specs.Ends.{AreMade}
use Rattle.pm_cluster.proofs.EndsAlike.{end_alike}
use Rattle.pm_cluster.specs.Clusters.{ClusterValue}
use Rattle.pm_cluster.proofs.Kept.{of_value}
use Rattle.pm_cluster.proofs.Parents.{nodes_are}
use Rattle.pm_cluster.proofs.LinesTold.{IsEndTo, no_lines, end_more, whole_end}
use Rattle.pm_cluster.proofs.Readers.{auction_steps}
use Rattle.pm_cluster.specs.ClusterFields.{core_of}
use Rattle.pm_cluster.proofs.cluster.Cluster.phase_end_into.Goals as goal
use Rattle.pm_cluster.proofs.cluster.Cluster.phase_end_into.Goals.{After-tell_member-arg-1}

pub begin-requires : goal.begin-requires
begin-requires c =
    omega (
      arith,
      c.step-step.ensures.inside,
      auction_steps c.self.inside.plan.now (core_of c.self.inside) c.self.invariant.stands,
      ap (λ b. b.steps) c.basis.ensures.basis,
    )

pub loop-number-init : goal.loop-number-init
loop-number-init c =
    let head : EndData = c.begin.new.self.end in
    record {
      lines = λ s stands.
          ap (λ xs. record head { members = xs; limited = head.limited }) (ap (λ (e : EndData). e.members) c.begin.ensures.end
          ∙ (no_lines c.args.self.now.plan s.counts).0)
          ∙ ap (λ xs. record head { members = members_to c.args.self.now.plan s.counts 0; limited = xs })
          (ap (λ (e : EndData). e.limited) c.begin.ensures.end ∙ (no_lines c.args.self.now.plan s.counts).1);
      member_room = omega (arith, c.begin.ensures.members, c.requires.members);
      limited_room = omega (arith, c.begin.ensures.limited, c.requires.limited);
    }

pub loop-number-preserved : goal.loop-number-preserved
loop-number-preserved c =
    let plan = c.self.inside.plan.now in
    let inside = subst (λ (v : ClusterValue). c.loop-number.number ≤ nodes (plan_lists v.plan)) c.self.view_is
    (omega (arith, c.loop-number-test.true, c.len-number-end.ensures.len, ap length c.tree.ensures.tree, nodes_are plan)) in
    end_more c.args.self.now.plan c.args.self.now.core c.loop-number.number c.begin.new.self.end c.loop-number.out c.tell_member.new.out c.tell_limited.new.out
    c.loop-number.auto.number inside c.loop-number.invariant c.tell_member.ensures.end c.tell_member.ensures.members c.tell_member.ensures.limited
    c.tell_limited.ensures.end c.tell_limited.ensures.members c.tell_limited.ensures.limited

pub returns : goal.returns
returns c =
    let plan = c.self.inside.plan.now in
    let head : EndData = c.begin.new.self.end in
    let fits : FitsSigned w64 c.at-total.result = search rules in
    let all : c.loop-number.number - 1 ≡ length plan.nodes =
    omega (
      arith,
      c.loop-number-test.false,
      c.loop-number.auto.number,
      c.loop-number.auto.number-end,
      c.len-number-end.ensures.len,
      ap length c.tree.ensures.tree,
      c.self.invariant.is_plan.nodes.one_each,
    ) in
    let begun = c.begin.ensures.end in
    let step_is : head.step ≡ c.self.inside.auctioneer.step = ap (λ (e : EndData). e.step) begun ∙ c.step-step.ensures.step in
    let price_is : head.price ≡ price_at plan.basis head.step =
    ap (λ (e : EndData). e.price) begun ∙ ap (λ b. price_at b c.step-step.result) c.basis.ensures.basis
    ∙ ap (price_at plan.basis) (sym (ap (λ (e : EndData). e.step) begun)) in
    let total_is : head.total ≡ demand_at (aggregate_of c.self.inside.auctioneer.cache) head.step =
    ap (λ (e : EndData). e.total) begun ∙ to_z-of_z w64 c.at-total.result fits ∙ c.at-total.ensures.demand
    ∙ ap (λ sum. demand_at sum c.step-step.result) (c.aggregate-sum.ensures.sum ∙ ap aggregate_of c.cache.ensures.cache)
    ∙ ap (demand_at (aggregate_of c.self.inside.auctioneer.cache)) (sym (ap (λ (e : EndData). e.step) begun)) in
    let quiet = subst (λ (v : ClusterValue). IsQuiet v.plan v.core) (sym c.self.view_is) c.requires.quiet in
    let told = subst (λ (v : ClusterValue). IsEndTo v.plan v.core c.loop-number.number head c.loop-number.out) (sym c.self.view_is) c.loop-number.invariant in
    let whole : (s : State) → StandsFor plan (core_of c.self.inside) s → c.loop-number.out.end ≡ end_of plan s.counts = λ s stands.
    whole_end plan (core_of c.self.inside) s c.loop-number.number head c.loop-number.out c.self.invariant.is_plan stands quiet told
    all step_is price_is total_is in
    let phase : (p : ℕ) (s : State) → StandsFor plan (core_of c.self.inside) s → AreMade plan s.counts p →
    c.loop-number.out.end ≡ end_of plan (end_cut plan p) = λ p s stands made.
    whole s stands ∙ end_alike plan c.self.invariant.is_plan s.counts (end_cut plan p) made in
    let told_of : (cut : Cut) → c.loop-number.out.end ≡ end_of plan cut → TellsEnd plan cut c.loop-number.out.end = λ cut same.
    subst (TellsEnd plan cut) (sym same) (tells_end plan c.self.invariant.is_plan cut) in
    record {
      end = of_value c.self.inside c.args.self.now c.self.view_is (λ p s. c.loop-number.out.end ≡ end_of p s.counts) whole;
      phase = λ s p stands made. of_value c.self.inside c.args.self.now c.self.view_is (λ q s. AreMade q s.counts p →
          c.loop-number.out.end ≡ end_of q (end_cut q p)) (phase p) s stands made;
      tells = of_value c.self.inside c.args.self.now c.self.view_is (λ p s. TellsEnd p s.counts c.loop-number.out.end)
          (λ s stands. told_of s.counts (whole s stands));
      tells_phase = λ s p stands made. of_value c.self.inside c.args.self.now c.self.view_is (λ q s. AreMade q s.counts p →
          TellsEnd q (end_cut q p) c.loop-number.out.end)
          (λ s stands made. told_of (end_cut plan p) (phase p s stands made)) s stands made;
    }

-- the number that the loop is at is a node's
node_inside : (c : After-tell_member-arg-1) → c.loop-number.number ≤ nodes (plan_lists c.args.self.now.plan)
node_inside c = subst (λ (v : ClusterValue). c.loop-number.number ≤ nodes (plan_lists v.plan)) c.self.view_is
    (omega (arith, c.loop-number-test.true, c.len-number-end.ensures.len, ap length c.tree.ensures.tree, nodes_are c.self.inside.plan.now))

pub tell_member-requires-clause-inside : goal.tell_member-requires-clause-inside
tell_member-requires-clause-inside c = node_inside (goal.at.tell_member-requires-clause-inside c).After-tell_member-arg-1

pub tell_member-requires-clause-room : goal.tell_member-requires-clause-room
tell_member-requires-clause-room c =
    omega (arith, node_inside (goal.at.tell_member-requires-clause-room c).After-tell_member-arg-1, c.loop-number.invariant.member_room)

pub tell_limited-requires-clause-inside : goal.tell_limited-requires-clause-inside
tell_limited-requires-clause-inside c = node_inside (goal.at.tell_limited-requires-clause-inside c).After-tell_member-arg-1

pub tell_limited-requires-clause-room : goal.tell_limited-requires-clause-room
tell_limited-requires-clause-room c =
    let inside = node_inside (goal.at.tell_limited-requires-clause-room c).After-tell_member-arg-1 in
    omega (arith, inside, c.loop-number.invariant.limited_room, c.tell_member.ensures.limited)
