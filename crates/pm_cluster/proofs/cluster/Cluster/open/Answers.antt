-- Of `Cluster::open`: its clause `start`; what the call of `new` requires; what the type keeps.
use Rattle.std.proofs.Common.{◌∙◌, ◌≡◌, ℕ, ◌+◌, ℤ, Bool, List, sym, ap, arith, length, get_or, replicate, None, false}
use Rattle.std.proofs.lemmas.Grind.{merely}
use Rattle.std.proofs.lemmas.List.{length-map, length-replicate, get_or-replicate}
use Rattle.pm_basis.specs.Prices.{BasisValue}
use Rattle.pm_tree.specs.declared.node.NodeId.{NodeId}
use Rattle.pm_tree.specs.Entries.{Entry, children_of}
use Rattle.pm_market.specs.Lists.{nodes, IsLeaf}
use Rattle.pm_market.specs.State.{start}
use Rattle.pm_auctioneer.specs.Auctions.{new_auction}
use Rattle.pm_plan.specs.Plans.{is_member}
use Rattle.pm_plan.specs.Market.{plan_lists}
use Rattle.pm_stands.specs.Stands.{StandsFor}
use Rattle.pm_stands.proofs.Starting.{opened_stands}
use Rattle.pm_cluster.specs.ClusterFields.{core_of}
use Rattle.pm_cluster.specs.declared.cluster.Cluster.TheInside.{Inside}
use Rattle.pm_cluster.proofs.Parents.{nodes_are}
use Rattle.pm_cluster.proofs.Opened.{few_children, device_node, no_member}
use Rattle.pm_cluster.proofs.OpenedCore.{IsNewCore, places_in, shaped, count_is, opened_core}
use Rattle.pm_cluster.proofs.cluster.Cluster.open.Goals as goal
use Rattle.pm_cluster.proofs.cluster.Cluster.open.Goals.{In_ok-zero}

pub new-requires-clause-few_children : goal.new-requires-clause-few_children
new-requires-clause-few_children c =
    omega (
      arith,
      few_children c.args.plan.now 0 c.tree.ensures.sound,
      length-map c.children.result.now (λ (n : NodeId). n.0),
      ap length c.children.ensures,
      ap (λ (l : List Entry). length (children_of l 0)) c.tree-2.ensures.tree,
    )

abbrev made : (c : In_ok-zero) → Inside
made c = record {
  plan = c.args.plan;
  counts = c.in_ok-vec.field-0;
  states = c.in_ok-starts.field-0;
  members = c.in_ok-vec-2.field-0;
  due = c.in_ok-first_due.field-0;
  powers = c.in_ok-vec-3.field-0;
  closed = 0;
  links = c.in_ok-rows.field-0;
  concentrators = c.in_ok-concentrators.field-0;
  auctioneer = c.in_ok-new.field-0;
  ports = c.in_ok-ports.field-0;
  spare = c.in_ok-zero.field-0;
}

many : (c : In_ok-zero) → c.len.result + 1 ≡ nodes (plan_lists c.args.plan.now) + 1
many c = omega (arith, nodes_are c.args.plan.now, c.len.ensures.len, ap length c.tree.ensures.tree)

steps_are : (c : In_ok-zero) → c.steps-steps.result ≡ c.args.plan.now.basis.steps
steps_are c = c.steps-steps.ensures.steps ∙ ap (λ (b : BasisValue). b.steps) c.basis.ensures.basis

members_are : (c : In_ok-zero) → (made c).members.items ≡ replicate (nodes (plan_lists c.args.plan.now) + 1) false
members_are c = c.in_ok-vec-2.ensures.items_if_clones_equal (λ y e. e) ∙ ap (λ (n : ℕ). replicate n false) (many c)

new_core : (c : In_ok-zero) → IsNewCore c.args.plan.now (core_of (made c))
new_core c = record {
  counts = c.in_ok-vec.ensures.items_if_clones_equal (λ y e. e) ∙ ap (λ (n : ℕ). replicate n 0) (many c);
  states = c.in_ok-starts.ensures.starts;
  powers = ap length (c.in_ok-vec-3.ensures.items_if_clones_equal (λ y e. e)) ∙ length-replicate _ _ ∙ many c;
  closed = Rattle.std.proofs.Common.refl;
  links = c.in_ok-rows.ensures.rows;
  concentrators = c.in_ok-concentrators.ensures.concentrators;
  auctioneer =
      let children = sym (length-map c.children.result.now (λ (n : NodeId). n.0)) ∙ ap length c.children.ensures
      ∙ ap (λ (l : List Entry). length (children_of l 0)) c.tree-2.ensures.tree in
      c.in_ok-new.ensures.new ∙ ap (λ (n : ℕ). new_auction n c.steps-steps.result) children
      ∙ ap (new_auction (length (children_of c.args.plan.now.entries 0))) (steps_are c);
  ports = c.in_ok-ports.ensures.ports ∙ ap (λ (n : ℕ). replicate n (record { joined = None; given = None })) (many c);
}

stands_for : (c : In_ok-zero) → StandsFor c.args.plan.now (core_of (made c)) start
stands_for c =
    opened_stands c.args.plan.now (core_of (made c)) c.tree.ensures.sound
    (opened_core c.args.plan.now c.tree.ensures.sound (core_of (made c)) (new_core c))

members_at : (c : In_ok-zero) (d : ℕ) → IsLeaf (plan_lists c.args.plan.now) d →
    get_or (made c).members.items d false ≡ is_member c.args.plan.now d (get_or (made c).counts.items d 0)
members_at c d leaf =
    let plan = c.args.plan.now in
    let at = device_node plan d c.tree.ensures.sound leaf in
    ap (λ (l : List Bool). get_or l d false) (members_are c) ∙ get_or-replicate (nodes (plan_lists plan) + 1) d false false (omega (arith, at.1))
    ∙ no_member plan d ∙ sym (ap (is_member plan d) (count_is plan c.tree.ensures.sound (core_of (made c)) (new_core c) d leaf))

pub invariant_of-result : goal.invariant_of-result
invariant_of-result c =
    let plan = c.args.plan.now in
    let z = (goal.at.invariant_of-result c).In_ok-zero in
    record {
      is_plan = c.tree.ensures.sound;
      places = places_in plan (core_of (made z)) (shaped plan c.tree.ensures.sound (core_of (made z)) (new_core z));
      same_members = ap length (members_are z) ∙ length-replicate (nodes (plan_lists plan) + 1) false;
      members = members_at z;
      same_due = c.in_ok-first_due.ensures.due.one_each;
      due = λ some d leaf. c.in_ok-first_due.ensures.due.first some d leaf;
      spare = ap length c.in_ok-zero.ensures.bid ∙ length-replicate _ _ ∙ steps_are z;
      stands = merely (record { state = start; is = stands_for z });
    }

pub returns-clause-start : goal.returns-clause-start
returns-clause-start c = stands_for (goal.at.returns-clause-start c).In_ok-zero
