-- Of `counts_after`: what it ensures; the turns of its loop over `node`.
use Rattle.std.proofs.Common.{◌≡◌, ap, sym, subst, ℕ, ◌+◌, List, length, arith}
use Rattle.pm_tree.specs.Entries.{Entry}
use Rattle.pm_free.proofs.Counted.{CountedTo, counted_here, counted_more, all_counted}
use Rattle.pm_free.proofs.counting.counts_after.Goals as goal

pub loop-node-preserved : goal.loop-node-preserved
loop-node-preserved c =
    let plan = c.args.plan.now in
    let phase = c.args.phase in
    let made = c.args.made.now in
    let changes = c.args.changes.now in
    let n : ℕ = c.loop-node.node in
    let pushed = c.in_ok-push.ensures.items in
    let here = counted_here plan phase made changes n c.in-Some.count c.made_by-before.result c.changes_of.result.now c.made_by-before.ensures
    c.changes_of.ensures c.in-Some.ensures.count c.in-Some.ensures.all c.in-Some.ensures.follow in (
      omega (arith, c.loop-node.invariant.0, c.in_ok-push.ensures.len),
      subst (λ (xs : List ℕ). CountedTo plan phase made changes (n + 1) xs) (sym pushed)
          (counted_more plan phase made changes n c.loop-node.counts.items c.in-Some.count c.loop-node.invariant.0 c.loop-node.invariant.1 here),
    )

pub returns : goal.returns
returns c =
    let entries : length c.tree.result.now ≡ length c.args.plan.now.entries = ap (λ (es : List Entry). length es) c.tree.ensures.tree in
    all_counted c.args.plan.now c.tree.ensures.sound c.args.phase c.args.made.now c.args.changes.now c.loop-node.counts.items
    (omega (arith, c.if-made-places.false, c.len-nodes.ensures.len, entries)) (omega (arith, c.if-changes-places.false, c.len-nodes.ensures.len, entries))
    (omega (arith, c.loop-node.invariant.0, c.loop-node-test.false, c.loop-node.auto.node-end, c.len-nodes.ensures.len, entries))
    (λ d lt. c.loop-node.invariant.1 d (omega (arith, lt, c.loop-node-test.false, c.len-nodes.ensures.len, entries)))
