-- Of `find_leaves`: what it ensures; the turns of its loop over `before`.
use Rattle.std.proofs.Common.{◌≡◌, ◌∙◌, sym, ap, ◌+◌, ◌<◌, ◌++◌, ◌∷◌, [], length, take, get_or, false, add-one, refl, arith}
use Rattle.std.proofs.Math.Seq.{take-length}
use Rattle.std.proofs.lemmas.List.{take_more}
use Rattle.pm_tree.specs.Entries.{leaves_of}
use Rattle.pm_tree.proofs.Named.{length-leaves_of}
use Rattle.pm_bill.proofs.bill.find_leaves.Goals as goal

pub loop-before-preserved : goal.loop-before-preserved
loop-before-preserved c =
    let leaves = leaves_of c.args.tree.now in
    let before = c.loop-before.before in
    let inside : before < length leaves = omega (arith, length-leaves_of c.args.tree.now) in
    let leaf : get_or (false ∷ leaves) (before + 1) false ≡ get_or leaves before false = rw add-one refl in
    c.in_ok-push.ensures.items
    ∙ ap (λ some. some ++ c.is_leaf.result ∷ []) c.loop-before.invariant
    ∙ ap (λ one. take before leaves ++ one ∷ []) (c.is_leaf.ensures ∙ leaf)
    ∙ sym (take_more leaves before false inside)

pub returns : goal.returns
returns c =
    let leaves = leaves_of c.args.tree.now in
    let all : c.loop-before.before ≡ length leaves = omega (arith, length-leaves_of c.args.tree.now) in
    c.loop-before.invariant ∙ ap (λ n. take n leaves) all ∙ take-length leaves
