-- Of `Cluster::pass_on`: what it ensures; what the calls of `pass` and `take_price` require; what the type keeps.
use Rattle.std.proofs.Common.{rules, refl, arith}
use Rattle.pm_market.specs.State.{State}
use Rattle.pm_market.specs.Lists.{IsConcentrator}
use Rattle.pm_market.specs.declared.moves.Move.TheVariants.{Pass}
use Rattle.pm_plan.specs.Market.{plan_lists}
use Rattle.pm_stands.specs.Made.{DidPass}
use Rattle.pm_stands.specs.Needs.{MayPass}
use Rattle.pm_stands.specs.Core.{row_at, concentrator_of}
use Rattle.pm_stands.specs.Stands.{StandsFor, MakesMove}
use Rattle.pm_stands.proofs.MayPass.{may_pass, pass_did, cannot_pass}
use Rattle.pm_cluster.specs.declared.cluster.Cluster.TheInside.{Inside}
use Rattle.pm_cluster.specs.ClusterFields.{core_of}
use Rattle.pm_cluster.proofs.MadeBy.{made_by, made_none}
use Rattle.pm_market.specs.declared.moves.Act.TheVariants as act
use Rattle.pm_cluster.proofs.Kept.{concentrator_there, link_there, moved, of_fields}
use Rattle.std.proofs.lemmas.List.{length-map}
use Rattle.pm_base.specs.Rows.{rows_of}
use Rattle.pm_cluster.proofs.cluster.Cluster.pass_on.Goals as goal
use Rattle.pm_cluster.proofs.cluster.Cluster.pass_on.Goals.{In-Some, After-pass}

concentrator_at : (c : In-Some) → IsConcentrator (plan_lists c.self.inside.plan.now) c.args.node.0
concentrator_at c = of_fields c.self.inside _ c.self.view_is (λ plan. IsConcentrator (plan_lists plan) c.args.node.0) c.requires.concentrator

may : (c : In-Some) →
    MayPass (concentrator_of (core_of c.self.inside) c.args.node.0) (row_at (rows_of c.take_price.new.links.items) c.args.node.0) c.in-Some.price
may c =
    may_pass c.self.inside.plan.now c.self.invariant.is_plan (core_of c.self.inside) c.self.invariant.stands c.args.node.0
    c.parent_of-parent.result c.place_in_row-place.result (concentrator_at c) c.parent_of-parent.ensures.parent c.place_in_row-place.ensures.place
    (rows_of c.take_price.new.links.items) c.in-Some.price c.in-Some.ensures.taken c.in-Some.ensures.one

pub pass-requires-clause-may : goal.pass-requires-clause-may
pass-requires-clause-may c = may (goal.at.pass-requires-clause-may c).In-Some

pub pass-requires-clause-concentrator : goal.pass-requires-clause-concentrator
pass-requires-clause-concentrator c =
    concentrator_there c.self.inside.plan.now (core_of c.self.inside) c.self.invariant.places c.args.node.0
    (concentrator_at (goal.at.pass-requires-clause-concentrator c).In-Some)

abbrev after : (c : After-pass) → Inside
after c = record c.self.inside { links = c.pass.new.links; concentrators = c.pass.new.concentrators }

did : (c : After-pass) → DidPass (core_of c.self.inside) c.args.node.0 (rows_of c.take_price.new.links.items) (core_of (after c)).links
    c.pass.new.concentrators.items c.in-Some.price c.parent_of-parent.result c.place_in_row-place.result
did c = record {
  taken = c.in-Some.ensures.taken;
  one = c.in-Some.ensures.one;
  made = c.pass.ensures.passed;
  alone = c.pass.ensures.only.alone;
  row = c.pass.ensures.only.row;
}

makes : (c : After-pass) (s : State) → StandsFor c.self.inside.plan.now (core_of c.self.inside) s →
    MakesMove c.self.inside.plan.now (core_of (after c)) s (Pass c.args.node.0 c.in-Some.price.index)
makes c s stands =
    let concentrator = of_fields c.self.inside _ c.self.view_is (λ plan. IsConcentrator (plan_lists plan) c.args.node.0) c.requires.concentrator in
    pass_did c.self.inside.plan.now c.self.invariant.is_plan (core_of c.self.inside) s stands c.args.node.0
    c.parent_of-parent.result c.place_in_row-place.result concentrator c.parent_of-parent.ensures.parent c.place_in_row-place.ensures.place _ _ _ _ (did c)

pub invariant_of-self-2 : goal.invariant_of-self-2
invariant_of-self-2 c = moved c.self.inside (after c) _ c.self.invariant refl (makes c)

pub returns : goal.returns
returns c = made_by c.self.inside (after c) _ (act.Pass c.args.node.0) _ c.self.view_is refl (makes c)

pub returns-in_default : goal.returns-in_default
returns-in_default c =
    let concentrator = of_fields c.self.inside _ c.self.view_is (λ plan. IsConcentrator (plan_lists plan) c.args.node.0) c.requires.concentrator in
    made_none c.self.inside _ _ (act.Pass c.args.node.0) c.self.view_is (search rules) (λ s stands.
    cannot_pass c.self.inside.plan.now (core_of c.self.inside) s stands c.args.node.0 c.parent_of-parent.result c.place_in_row-place.result
    (concentrator.0, concentrator.1) c.parent_of-parent.ensures.parent c.place_in_row-place.ensures.place _ c.in_default.ensures.taken)

pub take_price-requires : goal.take_price-requires
take_price-requires c = record {
  link = link_there c.self.inside c.self.invariant.places c.args.node.0 _ _ c.parent_of-parent.ensures.parent c.parent_of-parent.ensures.inside
      c.place_in_row-place.ensures.inside;
}

pub pass-requires-clause-row : goal.pass-requires-clause-row
pass-requires-clause-row c =
    let concentrator = concentrator_at (goal.at.pass-requires-clause-row c).In-Some in
    let same_length = length-map c.take_price.new.links.items (λ row. row.items) in
    omega (arith, concentrator.1, c.self.invariant.places.all_links, c.in-Some.ensures.one.all, same_length)
