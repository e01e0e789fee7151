-- Of `push_on_path`: what it ensures; what the call of `loop` requires; the turns of its loop over `at`.
use Rattle.std.proofs.Common.{rules, ◌≡◌, ◌<◌, arith, get_or}
use Rattle.std.proofs.lemmas.Result.{on_ok_weaker}
use Rattle.pm_tree.specs.Shape.{parent_at}
use Rattle.pm_tree.specs.Tables.{shape_parents, shape_leaves}
use Rattle.pm_tree.proofs.Paths.{falls}
use Rattle.pm_tree.proofs.Rows.{row_parent, first_row}
use Rattle.pm_tree.proofs.TableLists.{path_step, path_end, length-lists_of}
use Rattle.pm_tree.proofs.lists.push_on_path.Goals as goal

pub loop-at-smaller : goal.loop-at-smaller
loop-at-smaller c =
    let nodes = c.args.nodes.now in
    let parent : (get_or nodes c.loop-at.at.0 first_row).parent.0 ≡ parent_at (shape_parents nodes) c.loop-at.at.0 =
    row_parent (shape_parents nodes) (shape_leaves nodes) nodes c.requires.table c.loop-at.at.0 first_row c.loop-at.invariant.inside in
    let less : parent_at (shape_parents nodes) c.loop-at.at.0 < c.loop-at.at.0 =
    falls (shape_parents nodes) (shape_leaves nodes) c.requires.lawful c.loop-at.at.0 (omega arith) in
    let small : (get_or nodes c.loop-at.at.0 first_row).parent.0 < c.loop-at.at.0 = omega arith in
    small

pub loop-at-preserved : goal.loop-at-preserved
loop-at-preserved c =
    let nodes = c.args.nodes.now in
    let parent : (get_or nodes c.loop-at.at.0 first_row).parent.0 ≡ parent_at (shape_parents nodes) c.loop-at.at.0 =
    row_parent (shape_parents nodes) (shape_leaves nodes) nodes c.requires.table c.loop-at.at.0 first_row c.loop-at.invariant.inside in
    let down = falls (shape_parents nodes) (shape_leaves nodes) c.requires.lawful in
    let less : parent_at (shape_parents nodes) c.loop-at.at.0 < c.loop-at.at.0 = down c.loop-at.at.0 (omega arith) in
    record {
      inside = omega arith;
      one_each = omega arith;
      rest = path_step _ _ _ _ _ _ _ down (omega arith) (omega (arith, length-lists_of c.loop-at.lists)) parent
          c.in_ok-push_to.ensures c.loop-at.invariant.rest;
    }

pub returns : goal.returns
returns c = on_ok_weaker c.push_to-2.result (λ pushed. path_end _ _ _ _ _ _ c.loop-at-test.false
    (omega (arith, length-lists_of c.loop-at.lists)) pushed c.loop-at.invariant.rest) c.push_to-2.ensures

pub loop-at-init : goal.loop-at-init
loop-at-init c = search rules
