-- Of `has_settled`: what it ensures; the turns of its loop over `node`.
use Rattle.std.proofs.Common.{sym, ap, ℕ, ◌+◌, ◌<◌, ◌≤◌, List, length, subst, arith, inl, inr}
use Rattle.std.proofs.lemmas.Bool.{cases_eq}
use Rattle.pm_tree.specs.Entries.{Entry}
use Rattle.std.specs.Prelude.{slice_get}
use Rattle.pm_phase.specs.SettledParts.{IsSettledNode, PartCleared}
use Rattle.pm_phase.proofs.DeviceKeeps.{told_of}
use Rattle.pm_phase.proofs.settled.has_settled.Goals as goal

one_more : (P : ℕ → Type 0) (n : ℕ) → ((x : ℕ) → 1 ≤ x → x < n → P x) → P n → (x : ℕ) → 1 ≤ x → x < n + 1 → P x
one_more P n before here x one lt = elim (cases_eq x n) [
  | inl e ↦ subst P (sym e) here
  | inr ne ↦ before x one (omega arith)
]

pub loop-node-init : goal.loop-node-init
loop-node-init c x one lt = absurd (omega arith)

pub loop-node-preserved : goal.loop-node-preserved
loop-node-preserved c =
    one_more (IsSettledNode c.args.plan.now c.args.parts.now c.args.before.now c.args.changes.now c.args.links.now c.in-Some.index) c.loop-node.node
    c.loop-node.invariant (c.node_is_settled.ensures c.if-not-node_is_settled.false)

pub returns : goal.returns
returns c = λ yes. record {
  index = c.in-Some.index;
  some = omega (arith, c.if-index-eq0.false);
  cleared = told_of c.cleared_index.result c.in-Some.index (PartCleared (slice_get c.args.parts.now 0)) c.in-Some.is c.cleared_index.ensures;
  nodes = λ x one lt. c.loop-node.invariant x one
      (omega (arith, lt, c.loop-node-test.false, c.len-node-end.ensures.len, ap (λ (es : List Entry). length es) c.tree.ensures.tree));
}
