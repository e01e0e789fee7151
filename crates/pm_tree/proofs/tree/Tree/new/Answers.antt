-- Of `Tree::new`: what it ensures; what the calls of `collect_children` and `collect_leaves` require; what the type keeps.
use Rattle.std.proofs.Common.{◌≡◌, ◌≤◌, ◌∙◌, ap, subst, inl, length, arith, List, [], map, slice_get, string_bytes, Err, None, Some}
use Rattle.std.proofs.Common.{◌⊎◌}
use Rattle.std.proofs.lemmas.Result.{err_from_is_err_and}
use Rattle.pm_base.specs.Limits.{most_nodes}
use Rattle.pm_tree.specs.Shape.{IsTree, children_at, leaves_below_at, place_at}
use Rattle.pm_tree.specs.Entries.{entries_of, parents_of, leaves_of, refusals_after}
use Rattle.pm_tree.specs.Tables.{IsIndexOf, AreLists, AreNumbers, shape_parents, shape_leaves, node_lists}
use Rattle.pm_tree.specs.declared.entry.TreeEntry.{TreeEntry}
use Rattle.pm_tree.specs.declared.fault.TreeFault.{TreeFault}
use Rattle.pm_tree.specs.declared.fault.TreeFault.TheVariants.{NoMemory}
use Rattle.pm_tree.specs.declared.node.TreeNode.{TreeNode}
use Rattle.pm_tree.proofs.Loop.{length-entries_of}
use Rattle.pm_tree.proofs.Whole.{too_many, entry_refused, first_refusal-few, tree_accepted, length-index, kept_all}
use Rattle.pm_tree.proofs.tree.Tree.new.Goals as goal

pub returns-then-len-gt-MOST_NODES : goal.returns-then-len-gt-MOST_NODES
returns-then-len-gt-MOST_NODES c =
    record {
      tree = inl (too_many (entries_of c.args.entries.items) _ (omega (arith, length-entries_of c.args.entries.items, c.args.entries.ok)) (omega arith));
    }

pub returns-in_err-index : goal.returns-in_err-index
returns-in_err-index c =
    let p = err_from_is_err_and c.from_residual.result c.from_residual.ensures.1 in
    let fault = c.in_err-index.field-0.0 in
    let refused = subst (λ (es : List TreeEntry). (slice_get (refusals_after [] (entries_of es)) 0 ≡ Some fault) ⊎ (fault ≡ NoMemory))
    c.deref.ensures.value c.in_err-index.ensures.refused in
    record {
      tree = entry_refused (entries_of c.args.entries.items) c.from_residual.result fault
          (omega (arith, length-entries_of c.args.entries.items, c.args.entries.ok)) (p.1 ∙ ap (λ (e : TreeFault). Err e) p.2) refused;
    }

pub collect_children-requires-clause-few : goal.collect_children-requires-clause-few
collect_children-requires-clause-few c =
    let index = subst (λ (es : List TreeEntry). IsIndexOf (entries_of es) (map string_bytes c.in_ok-index.index.names.keys)
    c.in_ok-index.index.nodes.items) c.deref.ensures.value c.in_ok-index.ensures.index in
    omega (arith, ap length c.deref-2.ensures.value, length-index _ _ _ index, length-entries_of c.args.entries.items, c.args.entries.ok)

pub collect_leaves-requires-clause-few : goal.collect_leaves-requires-clause-few
collect_leaves-requires-clause-few c =
    let index = subst (λ (es : List TreeEntry). IsIndexOf (entries_of es) (map string_bytes c.in_ok-index.index.names.keys)
    c.in_ok-index.index.nodes.items) c.deref.ensures.value c.in_ok-index.ensures.index in
    omega (arith, ap length c.deref-3.ensures.value, length-index _ _ _ index, length-entries_of c.args.entries.items, c.args.entries.ok)

pub invariant_of-result : goal.invariant_of-result
invariant_of-result c =
    let few : length (entries_of c.args.entries.items) ≤ most_nodes = omega (arith, length-entries_of c.args.entries.items, c.args.entries.ok) in
    let accepted = subst (λ (es : List TreeEntry). slice_get (refusals_after [] (entries_of es)) 0 ≡ None) c.deref.ensures.value
    c.in_ok-index.ensures.accepted in
    rw (c.into_parts-names.ensures.names, c.into_parts-names.ensures.nodes)
    (kept_all _ _ _ _ _ _ (first_refusal-few (entries_of c.args.entries.items) few ∙ accepted) few
    (subst (λ (es : List TreeEntry). IsTree (parents_of (entries_of es)) (leaves_of (entries_of es))) c.deref.ensures.value c.in_ok-index.ensures.lawful)
    (subst (λ (es : List TreeEntry). IsIndexOf (entries_of es) (map string_bytes c.in_ok-index.index.names.keys)
    c.in_ok-index.index.nodes.items) c.deref.ensures.value c.in_ok-index.ensures.index)
    (subst (λ (ns : List TreeNode). AreLists (length ns) (children_at (shape_parents ns))
    (node_lists c.in_ok-children.children.lists.items)) c.deref-2.ensures.value c.in_ok-children.ensures.lists)
    (subst (λ (ns : List TreeNode). AreNumbers (length ns) (place_at (shape_parents ns)) c.in_ok-children.children.places.items)
    c.deref-2.ensures.value c.in_ok-children.ensures.places)
    (subst (λ (ns : List TreeNode). AreLists (length ns) (leaves_below_at (shape_parents ns) (shape_leaves ns))
    (node_lists c.in_ok-leaves_below.leaves_below.items)) c.deref-3.ensures.value c.in_ok-leaves_below.ensures))

pub returns : goal.returns
returns c =
    let few : length (entries_of c.args.entries.items) ≤ most_nodes = omega (arith, length-entries_of c.args.entries.items, c.args.entries.ok) in
    let accepted = subst (λ (es : List TreeEntry). slice_get (refusals_after [] (entries_of es)) 0 ≡ None) c.deref.ensures.value
    c.in_ok-index.ensures.accepted in
    record { tree = inl (tree_accepted (entries_of c.args.entries.items) (first_refusal-few (entries_of c.args.entries.items) few ∙ accepted)) }
