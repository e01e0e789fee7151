-- Of `Cluster::publish`: what it ensures; what the call of `publish` requires; what the type keeps.
use Rattle.std.proofs.Common.{rules, refl, arith}
use Rattle.pm_market.specs.State.{State}
use Rattle.pm_market.specs.Lists.{IsConcentrator}
use Rattle.pm_market.specs.declared.moves.Move.TheVariants.{Publish}
use Rattle.pm_plan.specs.Market.{plan_lists}
use Rattle.pm_stands.specs.Made.{DidPublish}
use Rattle.pm_stands.specs.Stands.{StandsFor, MakesMove}
use Rattle.pm_stands.proofs.Made.{publish_did, may_publish_at, cannot_publish}
use Rattle.pm_cluster.specs.declared.cluster.Cluster.TheInside.{Inside}
use Rattle.pm_cluster.specs.ClusterFields.{core_of}
use Rattle.pm_cluster.proofs.MadeBy.{made_by, made_none}
use Rattle.pm_market.specs.declared.moves.Act.TheVariants as act
use Rattle.pm_cluster.proofs.Kept.{concentrator_there, link_there, moved, of_fields}
use Rattle.pm_cluster.proofs.cluster.Cluster.publish.Goals as goal
use Rattle.pm_cluster.proofs.cluster.Cluster.publish.Goals.{After-place_in_row-place, In-Some}

concentrator_at : (c : After-place_in_row-place) → IsConcentrator (plan_lists c.self.inside.plan.now) c.args.node.0
concentrator_at c = of_fields c.self.inside _ c.self.view_is (λ plan. IsConcentrator (plan_lists plan) c.args.node.0) c.requires.concentrator

pub publish-requires-clause-concentrator : goal.publish-requires-clause-concentrator
publish-requires-clause-concentrator c =
    concentrator_there c.self.inside.plan.now (core_of c.self.inside) c.self.invariant.places c.args.node.0
    (concentrator_at (goal.at.publish-requires-clause-concentrator c).After-place_in_row-place)

pub publish-requires-clause-link : goal.publish-requires-clause-link
publish-requires-clause-link c =
    link_there c.self.inside c.self.invariant.places c.args.node.0 _ _ c.parent_of-parent.ensures.parent c.parent_of-parent.ensures.inside
    c.place_in_row-place.ensures.inside

pub publish-requires-clause-fits : goal.publish-requires-clause-fits
publish-requires-clause-fits c =
    let may = may_publish_at c.self.inside.plan.now c.self.invariant.is_plan (core_of c.self.inside) c.self.invariant.stands c.args.node.0
    c.parent_of-parent.result c.place_in_row-place.result (concentrator_at (goal.at.publish-requires-clause-fits c).After-place_in_row-place)
    c.parent_of-parent.ensures.parent c.place_in_row-place.ensures.place in
    record { steps = may.steps; last = omega (arith, may.last); number = may.number }

abbrev after : (c : In-Some) → Inside
after c = record c.self.inside { links = c.publish.new.links; concentrators = c.publish.new.concentrators }

did : (c : In-Some) → DidPublish (core_of c.self.inside) c.args.node.0 (core_of (after c)).links c.publish.new.concentrators.items c.in-Some.number
    c.parent_of-parent.result c.place_in_row-place.result
did c = record { made = c.in-Some.ensures.published; one = c.in-Some.ensures.only.one; alone = c.in-Some.ensures.only.alone }

makes : (c : In-Some) (s : State) → StandsFor c.self.inside.plan.now (core_of c.self.inside) s →
    MakesMove c.self.inside.plan.now (core_of (after c)) s (Publish c.args.node.0 c.in-Some.number)
makes c s stands =
    let concentrator = of_fields c.self.inside _ c.self.view_is (λ plan. IsConcentrator (plan_lists plan) c.args.node.0) c.requires.concentrator in
    publish_did c.self.inside.plan.now c.self.invariant.is_plan (core_of c.self.inside) s stands c.args.node.0
    c.parent_of-parent.result c.place_in_row-place.result concentrator c.parent_of-parent.ensures.parent c.place_in_row-place.ensures.place _ _ _ (did c)

pub invariant_of-self-2 : goal.invariant_of-self-2
invariant_of-self-2 c = moved c.self.inside (after c) _ c.self.invariant refl (makes c)

pub returns : goal.returns
returns c = made_by c.self.inside (after c) _ (act.Publish c.args.node.0) _ c.self.view_is refl (makes c)

pub returns-in_default : goal.returns-in_default
returns-in_default c =
    let concentrator = of_fields c.self.inside _ c.self.view_is (λ plan. IsConcentrator (plan_lists plan) c.args.node.0) c.requires.concentrator in
    made_none c.self.inside _ _ (act.Publish c.args.node.0) c.self.view_is (search rules) (λ s stands.
    cannot_publish c.self.inside.plan.now c.self.invariant.is_plan (core_of c.self.inside) s stands c.args.node.0 concentrator c.in_default.ensures.published)
