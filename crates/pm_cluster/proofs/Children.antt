-- The children of a node, as they are read.
use Rattle.std.proofs.Common.{◌≡◌, ◌∙◌, sym, ap, subst, ℕ, ◌<◌, List, length, get_or, arith}
use Rattle.std.proofs.lemmas.List.{get_or-map, length-map}
use Rattle.pm_tree.specs.declared.node.NodeId.{NodeId}
use Rattle.pm_tree.specs.Entries.{Entry, children_of, place_of}
use Rattle.pm_tree.specs.Tables.{id_numbers}
use Rattle.pm_market.specs.Lists.{parent, IsNode}
use Rattle.pm_plan.specs.Kept.{IsPlan}
use Rattle.pm_plan.specs.Plans.{PlanData}
use Rattle.pm_plan.specs.Market.{plan_lists}
use Rattle.pm_stands.specs.Core.{child_at}
use Rattle.pm_plan.proofs.MarketLists.{child_node}
use Rattle.pm_stands.proofs.Places.{placed, child_in_place}

-- the node in a place of a list
abbrev pub item : List NodeId → ℕ → ℕ
item items k = (get_or items k (record { 0 = 0 })).0

-- a child of y that was read in place k
pub record IsChild (plan : PlanData) (y k child : ℕ) : Type 0 where
  -- the child is the node that the plan has in place k among the children of y
  pub at : child ≡ child_at plan y k
  -- the child is a device or a concentrator of the plan, not the auctioneer
  pub node : IsNode (plan_lists plan) child
  -- the parent of the child is y
  pub up : parent (plan_lists plan) child ≡ y

-- the item in place k of a list of the children of y is the child of y in that place
pub child_read : (plan : PlanData) → IsPlan plan → (entries : List Entry) (items : List NodeId) (y k : ℕ) →
    entries ≡ plan.entries → id_numbers items ≡ children_of entries y → k < length items → IsChild plan y k (item items k)
child_read plan is_plan entries items y k tree listed lt =
    let all : id_numbers items ≡ children_of plan.entries y = listed ∙ ap (λ e. children_of e y) tree in
    let read : item items k ≡ child_at plan y k =
    sym (get_or-map (λ (node : NodeId). node.0) items k (record { 0 = 0 }) 0 lt) ∙ ap (λ (l : List ℕ). get_or l k 0) all in
    let at = child_node plan y k (omega (arith, lt, length-map items (λ (node : NodeId). node.0), ap length all)) in
    record {
      at = read;
      node = subst (λ (x : ℕ). IsNode (plan_lists plan) x) (sym read) at.0;
      up = ap (parent (plan_lists plan)) read ∙ at.1;
    }

-- each child stands in one of the places
pub child_among : (plan : PlanData) → IsPlan plan → (entries : List Entry) (items : List NodeId) (y x : ℕ) →
    entries ≡ plan.entries → id_numbers items ≡ children_of entries y → IsNode (plan_lists plan) x → parent (plan_lists plan) x ≡ y →
    (place_of plan.entries x < length items) × (child_at plan y (place_of plan.entries x) ≡ x)
child_among plan is_plan entries items y x tree listed node up =
    let all : id_numbers items ≡ children_of plan.entries y = listed ∙ ap (λ e. children_of e y) tree in (
      omega (
        arith,
        placed plan is_plan x node,
        ap (λ (i : ℕ). length (children_of plan.entries i)) up,
        length-map items (λ (n : NodeId). n.0),
        ap length all,
      ),
      ap (λ (i : ℕ). child_at plan i (place_of plan.entries x)) (sym up) ∙ child_in_place plan is_plan x node,
    )
