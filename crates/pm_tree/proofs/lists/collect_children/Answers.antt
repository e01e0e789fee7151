-- Of `collect_children`: what it ensures; what the call of `push_to` requires; the turns of its loop over `number`; that its numbers fit.
use Rattle.std.proofs.Common.{◌≡◌, ◌≤◌, ◌<◌, ◌∙◌, ap, sym, refl, arith, subst, length, get_or, set, ℕ, List, [], ◌∷◌, ◌++◌}
use Rattle.std.proofs.Common.{◌+◌, ◌-◌, Vec}
use Rattle.std.specs.declared.alloc.Global.{Global}
use Rattle.std.proofs.lemmas.List.{with_items_is}
use Rattle.pm_tree.specs.Shape.{parent_at, children_among, place_at}
use Rattle.pm_tree.specs.Tables.{shape_parents, shape_leaves, AreLists, AreNumbers, node_lists}
use Rattle.pm_tree.specs.declared.node.NodeId.{NodeId}
use Rattle.pm_tree.proofs.Paths.{falls}
use Rattle.pm_tree.proofs.Rows.{row_parent, first_row, length-table}
use Rattle.pm_tree.proofs.TableLists.{children_step, children_done, place_step, place_of_list, places_first, lists_same, length-shape_parents, length-lists_of}
use Rattle.pm_tree.proofs.lists.collect_children.Goals as goal

pub loop-number-init : goal.loop-number-init
loop-number-init c = record {
  lists = lists_same _ _ _ _ (λ node. refl) c.in_ok-lists.ensures;
  places = subst (λ (ps : List ℕ). AreNumbers 1 (place_at (shape_parents c.args.nodes.now)) ps)
      (sym (c.in_ok-push.ensures.items ∙ ap (λ (ps : List ℕ). ps ++ 0 ∷ []) c.in_ok-places.ensures.items))
      (places_first (shape_parents c.args.nodes.now));
}

pub index-requires : goal.index-requires
index-requires c =
    let nodes = c.args.nodes.now in
    let parent : (get_or nodes c.loop-number.number first_row).parent.0 ≡ parent_at (shape_parents nodes) c.loop-number.number =
    row_parent (shape_parents nodes) (shape_leaves nodes) nodes c.requires.table c.loop-number.number first_row c.loop-number-test.true in
    let less : parent_at (shape_parents nodes) c.loop-number.number < c.loop-number.number =
    falls (shape_parents nodes) (shape_leaves nodes) c.requires.lawful c.loop-number.number (omega arith) in
    omega (arith, length-lists_of c.loop-number.lists.items, c.loop-number.lists.ok)

pub push_to-requires : goal.push_to-requires
push_to-requires c =
    let nodes = c.args.nodes.now in
    let parent : (get_or nodes c.loop-number.number first_row).parent.0 ≡ parent_at (shape_parents nodes) c.loop-number.number =
    row_parent (shape_parents nodes) (shape_leaves nodes) nodes c.requires.table c.loop-number.number first_row c.loop-number-test.true in
    let less : parent_at (shape_parents nodes) c.loop-number.number < c.loop-number.number =
    falls (shape_parents nodes) (shape_leaves nodes) c.requires.lawful c.loop-number.number (omega arith) in
    omega (arith, length-lists_of c.loop-number.lists.items)

pub loop-number-preserved : goal.loop-number-preserved
loop-number-preserved c =
    let nodes = c.args.nodes.now in
    let parent : (get_or nodes c.loop-number.number first_row).parent.0 ≡ parent_at (shape_parents nodes) c.loop-number.number =
    row_parent (shape_parents nodes) (shape_leaves nodes) nodes c.requires.table c.loop-number.number first_row c.loop-number-test.true in
    let less : parent_at (shape_parents nodes) c.loop-number.number < c.loop-number.number =
    falls (shape_parents nodes) (shape_leaves nodes) c.requires.lawful c.loop-number.number (omega arith) in
    let low : (get_or nodes c.loop-number.number first_row).parent.0 < length nodes = omega arith in
    let inside : (get_or nodes c.loop-number.number first_row).parent.0 < length c.loop-number.lists.items =
    omega (arith, length-lists_of c.loop-number.lists.items) in
    let same : length c.push_to.new.lists ≡ c.loop-number.lists.len = omega arith in
    let written = with_items_is c.loop-number.lists c.push_to.new.lists same in
    let pushed = c.in_ok-push_to.ensures
    ∙ ap (λ (ls : List (Vec NodeId Global)). set (node_lists ls) (get_or nodes c.loop-number.number first_row).parent.0
    (get_or (node_lists ls) (get_or nodes c.loop-number.number first_row).parent.0 [] ++ c.loop-number.number ∷ [])) c.deref_mut.ensures.value in
    let within : c.loop-number.number - 1 ≤ length (shape_parents nodes) = omega (arith, length-shape_parents nodes) in
    let place = place_of_list (shape_parents nodes) c.loop-number.lists.items c.index.result.now c.loop-number.number
    (get_or nodes c.loop-number.number first_row).parent.0 (length nodes) c.index.ensures inside low parent within c.loop-number.invariant.lists in
    record {
      lists = subst (λ (ls : List (List ℕ)). AreLists (length nodes)
          (children_among (shape_parents nodes) (c.loop-number.number + 1 - 1)) ls) (sym (ap node_lists written ∙ pushed))
          (children_step (shape_parents nodes) (length nodes) c.loop-number.number
          (get_or nodes c.loop-number.number first_row).parent.0 (node_lists c.loop-number.lists.items)
          (omega arith) parent low c.loop-number.invariant.lists);
      places = subst (λ (ps : List ℕ). AreNumbers (c.loop-number.number + 1) (place_at (shape_parents nodes)) ps) (sym c.in_ok-push-2.ensures.items)
          (place_step c.loop-number.number (place_at (shape_parents nodes)) c.loop-number.places.items c.len.result
          (omega (arith, place, c.index.result.now.ok)) c.loop-number.invariant.places);
    }

pub returns : goal.returns
returns c =
    let nodes = c.args.nodes.now in
    let long = length-table (shape_parents nodes) (shape_leaves nodes) nodes c.requires.table in
    let all : c.loop-number.number ≡ length nodes = omega (arith, long) in
    record {
      lists = children_done _ _ c.loop-number.number _ (omega (arith, length-shape_parents nodes, long)) c.loop-number.invariant.lists;
      places = subst (λ n. AreNumbers n (place_at (shape_parents nodes)) c.loop-number.places.items) all c.loop-number.invariant.places;
    }
