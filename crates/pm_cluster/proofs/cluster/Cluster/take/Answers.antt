-- Of `Cluster::take`: what it ensures; what the calls of `parent_of`, `place_in_row` and `take_price` require; what the type keeps; that its numbers fit.
use Rattle.std.proofs.Common.{rules, refl, arith, sym, ap, ◌∙◌, ◌<◌, length, Some}
use Rattle.std.proofs.Math.ListN.{length-set}
use Rattle.std.specs.Vec.{with_item}
use Rattle.pm_market.specs.State.{State}
use Rattle.pm_market.specs.Lists.{IsLeaf}
use Rattle.pm_market.specs.declared.moves.Move.TheVariants.{Pass}
use Rattle.pm_session.specs.Ports.{Seat}
use Rattle.pm_plan.specs.Market.{plan_lists}
use Rattle.pm_stands.specs.Made.{DidTake}
use Rattle.pm_stands.specs.Stands.{StandsFor, MakesMove}
use Rattle.pm_stands.proofs.MayPass.{cannot_pass}
use Rattle.pm_stands.proofs.Taking.{take_did}
use Rattle.pm_cluster.specs.declared.cluster.Cluster.TheInside.{Inside}
use Rattle.pm_cluster.specs.ClusterFields.{core_of}
use Rattle.pm_cluster.proofs.MadeBy.{made_by, made_none}
use Rattle.pm_market.specs.declared.moves.Act.TheVariants as act
use Rattle.pm_cluster.proofs.Kept.{link_there, moved, of_fields, leaf_is_node}
use Rattle.pm_cluster.proofs.Seats.{seat_set, seat_other, seat_read}
use Rattle.pm_cluster.proofs.cluster.Cluster.take.Goals as goal
use Rattle.pm_cluster.proofs.cluster.Cluster.take.Goals.{After-index_mut, After-price}

pub parent_of-parent-requires : goal.parent_of-parent-requires
parent_of-parent-requires c = record { node = leaf_is_node c.self.inside _ c.self.view_is c.self.invariant.is_plan c.args.device.0 c.requires.leaf }

pub place_in_row-place-requires : goal.place_in_row-place-requires
place_in_row-place-requires c = record { node = leaf_is_node c.self.inside _ c.self.view_is c.self.invariant.is_plan c.args.device.0 c.requires.leaf }

pub index_mut-requires : goal.index_mut-requires
index_mut-requires c =
    let node = leaf_is_node c.self.inside _ c.self.view_is c.self.invariant.is_plan c.args.device.0 c.requires.leaf in
    omega (arith, node.1, c.self.inside.ports.ok.0, c.self.invariant.places.all_ports)

inside_ports : (c : After-price) → c.args.device.0 < length c.self.inside.ports.items
inside_ports c =
    let node = leaf_is_node c.self.inside _ c.self.view_is c.self.invariant.is_plan c.args.device.0 c.requires.leaf in
    omega (arith, node.1, c.self.invariant.places.all_ports)

abbrev after : (c : After-price) → Inside
after c = record c.self.inside { links = c.take_price.new.links; ports = with_item c.self.inside.ports c.args.device.0 c.price.new.self }

did : (c : After-price) → DidTake (core_of c.self.inside) c.args.device.0 (core_of (after c)).links (core_of (after c)).ports c.in-Some.price
    c.parent_of-parent.result c.place_in_row-place.result
did c = record {
  taken = c.in-Some.ensures.taken;
  one = c.in-Some.ensures.one;
  same_ports = length-set c.self.inside.ports.items c.args.device.0 c.price.new.self;
  given = seat_set c.self.inside.ports.items c.args.device.0 c.price.new.self (inside_ports c) ∙ c.price.ensures.given
      ∙ ap (λ (seat : Seat). record seat { given = Some c.in-Some.price })
      (sym (seat_read c.self.inside.ports.items c.args.device.0 c.index_mut.result.now (inside_ports c) c.index_mut.ensures.value));
  others = seat_other c.self.inside.ports.items c.args.device.0 c.price.new.self;
}

makes : (c : After-price) (s : State) → StandsFor c.self.inside.plan.now (core_of c.self.inside) s →
    MakesMove c.self.inside.plan.now (core_of (after c)) s (Pass c.args.device.0 c.in-Some.price.index)
makes c s stands =
    let leaf = of_fields c.self.inside _ c.self.view_is (λ plan. IsLeaf (plan_lists plan) c.args.device.0) c.requires.leaf in
    take_did c.self.inside.plan.now c.self.invariant.is_plan (core_of c.self.inside) s stands c.args.device.0
    c.parent_of-parent.result c.place_in_row-place.result leaf c.parent_of-parent.ensures.parent c.place_in_row-place.ensures.place _ _ _ (did c)

pub invariant_of-self-2 : goal.invariant_of-self-2
invariant_of-self-2 c =
    moved c.self.inside (after (goal.at.invariant_of-self-2 c).After-price) _ c.self.invariant refl (makes (goal.at.invariant_of-self-2 c).After-price)

pub returns : goal.returns
returns c =
    let at = (goal.at.returns c).After-price in
    made_by c.self.inside (after at) _ (act.Pass c.args.device.0) _ c.self.view_is refl (makes at)

pub returns-in_default : goal.returns-in_default
returns-in_default c =
    let node = leaf_is_node c.self.inside _ c.self.view_is c.self.invariant.is_plan c.args.device.0 c.requires.leaf in
    made_none c.self.inside _ _ (act.Pass c.args.device.0) c.self.view_is (search rules) (λ s stands.
    cannot_pass c.self.inside.plan.now (core_of c.self.inside) s stands c.args.device.0 c.parent_of-parent.result c.place_in_row-place.result
    node c.parent_of-parent.ensures.parent c.place_in_row-place.ensures.place _ c.in_default.ensures.taken)

pub take_price-requires : goal.take_price-requires
take_price-requires c = record {
  link = link_there c.self.inside c.self.invariant.places c.args.device.0 _ _ c.parent_of-parent.ensures.parent c.parent_of-parent.ensures.inside
      c.place_in_row-place.ensures.inside;
}
