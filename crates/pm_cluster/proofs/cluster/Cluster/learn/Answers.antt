-- Of `Cluster::learn`: what it ensures; what the calls of `learn` and `take_bid` require; what the type keeps.
use Rattle.std.proofs.Common.{◌∙◌, refl, rules}
use Rattle.pm_market.specs.State.{State}
use Rattle.pm_market.specs.Lists.{IsNode}
use Rattle.pm_market.specs.declared.moves.Move.TheVariants.{Learn}
use Rattle.pm_session.specs.Links.{UpBid}
use Rattle.pm_plan.specs.Market.{plan_lists}
use Rattle.pm_stands.specs.Made.{DidLearn}
use Rattle.pm_stands.specs.Stands.{StandsFor, MakesMove}
use Rattle.pm_stands.proofs.Made.{learn_did, may_learn_at, cannot_learn}
use Rattle.pm_cluster.specs.declared.cluster.Cluster.TheInside.{Inside}
use Rattle.pm_cluster.specs.ClusterFields.{core_of}
use Rattle.pm_cluster.proofs.MadeBy.{made_by, made_none}
use Rattle.pm_market.specs.declared.moves.Act.TheVariants as act
use Rattle.pm_cluster.proofs.Kept.{parent_there, link_there, moved, of_fields}
use Rattle.pm_cluster.proofs.cluster.Cluster.learn.Goals as goal
use Rattle.pm_cluster.proofs.cluster.Cluster.learn.Goals.{In-Some, After-learn}

node_at : (c : In-Some) → IsNode (plan_lists c.self.inside.plan.now) c.args.child.0
node_at c = of_fields c.self.inside _ c.self.view_is (λ plan. IsNode (plan_lists plan) c.args.child.0) c.requires.node

abbrev the_bid : (c : In-Some) → UpBid
the_bid c = record { number = c.in-Some.head.number; gone = c.in-Some.head.gone; demand = c.take_bid.new.into }

pub learn-requires-clause-parent : goal.learn-requires-clause-parent
learn-requires-clause-parent c =
    parent_there c.self.inside.plan.now c.self.invariant.is_plan (core_of c.self.inside) c.self.invariant.places c.args.child.0 c.parent_of-parent.result
    (node_at (goal.at.learn-requires-clause-parent c).In-Some) c.parent_of-parent.ensures.parent c.parent_of-parent.ensures.inside

pub learn-requires-clause-may : goal.learn-requires-clause-may
learn-requires-clause-may c =
    let at = (goal.at.learn-requires-clause-may c).In-Some in
    may_learn_at c.self.inside.plan.now c.self.invariant.is_plan (core_of c.self.inside) c.self.invariant.stands c.args.child.0
    c.parent_of-parent.result c.place_in_row-place.result (node_at at) c.parent_of-parent.ensures.parent c.place_in_row-place.ensures.place
    (the_bid at) _ c.in-Some.ensures.taken

abbrev after : (c : After-learn) → Inside
after c = record c.self.inside {
  links = c.take_bid.new.links;
  concentrators = c.learn.new.concentrators;
  auctioneer = c.learn.new.auctioneer;
  spare = c.learn.new.demand;
}

did : (c : After-learn) → DidLearn (core_of c.self.inside) (core_of (after c)).links c.learn.new.auctioneer c.learn.new.concentrators.items
    (record { number = c.in-Some.head.number; gone = c.in-Some.head.gone; demand = c.take_bid.new.into })
    c.parent_of-parent.result c.place_in_row-place.result
did c = record {
  taken = c.in-Some.ensures.taken;
  one = c.in-Some.ensures.one;
  learnt = c.learn.ensures.learnt;
}

makes : (c : After-learn) (s : State) → StandsFor c.self.inside.plan.now (core_of c.self.inside) s →
    MakesMove c.self.inside.plan.now (core_of (after c)) s (Learn c.args.child.0 c.in-Some.head.number)
makes c s stands =
    let node = of_fields c.self.inside _ c.self.view_is (λ plan. IsNode (plan_lists plan) c.args.child.0) c.requires.node in
    learn_did c.self.inside.plan.now c.self.invariant.is_plan (core_of c.self.inside) s stands c.args.child.0
    c.parent_of-parent.result c.place_in_row-place.result node c.parent_of-parent.ensures.parent c.place_in_row-place.ensures.place _ _ _ _ (did c)

pub invariant_of-self-2 : goal.invariant_of-self-2
invariant_of-self-2 c = moved c.self.inside (after c) _ c.self.invariant
    (c.learn.ensures.same_length ∙ c.in-Some.ensures.same_length) (makes c)

pub returns : goal.returns
returns c = made_by c.self.inside (after c) _ (act.Learn c.args.child.0) _ c.self.view_is refl (makes c)

pub returns-in_default : goal.returns-in_default
returns-in_default c =
    made_none c.self.inside _ _ (act.Learn c.args.child.0) c.self.view_is (search rules) (λ s stands.
    cannot_learn c.self.inside.plan.now (core_of c.self.inside) s stands c.args.child.0 c.parent_of-parent.result c.place_in_row-place.result
    c.parent_of-parent.ensures.parent c.place_in_row-place.ensures.place _ c.in_default.ensures.taken.0)

pub take_bid-requires-clause-link : goal.take_bid-requires-clause-link
take_bid-requires-clause-link c =
    link_there c.self.inside c.self.invariant.places c.args.child.0 _ _ c.parent_of-parent.ensures.parent c.parent_of-parent.ensures.inside
    c.place_in_row-place.ensures.inside
