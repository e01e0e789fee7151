-- Of `collect_leaves`: what it ensures; what the call of `push_on_path` requires; the turns of its loop over `number`.
use Rattle.std.proofs.Common.{◌≡◌, ◌∙◌, ap, sym, arith, subst, length, get_or, refl, List, [], ◌++◌, ◌+◌, ◌-◌, Vec}
use Rattle.std.specs.declared.alloc.Global.{Global}
use Rattle.std.proofs.lemmas.List.{with_items_is}
use Rattle.pm_tree.specs.Shape.{leaves_among}
use Rattle.pm_tree.specs.Tables.{shape_parents, shape_leaves, added_on_path, AreLists, node_lists}
use Rattle.pm_tree.specs.declared.node.NodeId.{NodeId}
use Rattle.pm_tree.proofs.Rows.{row_leaf, first_row, length-table}
use Rattle.pm_tree.proofs.TableLists.{leaves_step, leaves_skip, leaves_done, lists_same, length-shape_parents, length-lists_of}
use Rattle.pm_tree.proofs.lists.collect_leaves.Goals as goal
use Rattle.pm_tree.proofs.lists.collect_leaves.Goals.{then-nodes-number+in_ok-push_on_path, else-nodes-number}

pub loop-number-init : goal.loop-number-init
loop-number-init c = lists_same _ _ _ _ (λ node. refl) c.in_ok-lists.ensures

pub push_on_path-requires-clause-one_each : goal.push_on_path-requires-clause-one_each
push_on_path-requires-clause-one_each c =
    omega (arith, ap length c.deref_mut.ensures.value, c.loop-number.invariant.count_is, length-lists_of c.loop-number.lists.items)

pub loop-number-preserved : goal.loop-number-preserved
loop-number-preserved c =
    let nodes = c.args.nodes.now in
    let leaf_is = row_leaf (shape_parents nodes) (shape_leaves nodes) nodes c.requires.table c.loop-number.number first_row c.loop-number-test.true in
    elim c.if-nodes-number.branch [
      | then-nodes-number+in_ok-push_on_path w ↦
          let same : length w.push_on_path.new.lists ≡ c.loop-number.lists.len = omega arith in
          let written = ap (λ (v : Vec (Vec NodeId Global) Global). v.items) w.lists-is ∙ with_items_is c.loop-number.lists w.push_on_path.new.lists same in
          subst (λ (ls : List (Vec NodeId Global)). AreLists (length nodes)
          (leaves_among (shape_parents nodes) (shape_leaves nodes) (c.loop-number.number + 1 - 1)) (node_lists ls)) (sym written)
          (leaves_step (shape_parents nodes) (shape_leaves nodes) (length nodes) c.loop-number.number
          (node_lists c.loop-number.lists.items) (node_lists w.push_on_path.new.lists) (omega arith)
          (sym leaf_is ∙ w.if-nodes-number.true)
          (omega (arith, length-lists_of c.loop-number.lists.items, length-lists_of w.push_on_path.new.lists, c.loop-number.lists.ok))
          (λ node. w.in_ok-push_on_path.ensures node
          ∙ ap (λ (ls : List (Vec NodeId Global)). get_or (node_lists ls) node []
          ++ added_on_path (shape_parents nodes) c.loop-number.number c.loop-number.number node) w.deref_mut.ensures.value)
          c.loop-number.invariant)
      | else-nodes-number w ↦
          subst (λ (v : Vec (Vec NodeId Global) Global). AreLists (length nodes)
          (leaves_among (shape_parents nodes) (shape_leaves nodes) (c.loop-number.number + 1 - 1)) (node_lists v.items)) (sym w.lists-is)
          (leaves_skip (shape_parents nodes) (shape_leaves nodes) (length nodes) c.loop-number.number
          (node_lists c.loop-number.lists.items) (omega arith) (sym leaf_is ∙ w.if-nodes-number.false) c.loop-number.invariant)
    ]

pub returns : goal.returns
returns c = leaves_done _ _ _ c.loop-number.number _
    (omega (
      arith,
      length-shape_parents c.args.nodes.now,
      length-table (shape_parents c.args.nodes.now) (shape_leaves c.args.nodes.now) c.args.nodes.now c.requires.table,
    )) c.loop-number.invariant
