-- Of `read_learning`: what it ensures.
use Rattle.std.proofs.Common.{◌≡◌, ◌≤◌, ◌<◌, ◌^◌, ◌∙◌, sym, ap, length, refl, arith, None, ◌∷◌, [], List, ℕ}
use Rattle.std.specs.Prelude.{decimal}
use Rattle.pm_tree.specs.Entries.{Entry, name_of, parent_of}
use Rattle.pm_plan.specs.Plans.{PlanData, parent}
use Rattle.pm_plan.specs.Kept.{IsPlan}
use Rattle.pm_report.specs.Words.{name, text_line}
use Rattle.pm_report.proofs.Names.{node_word, same_node, parent_inside}
use Rattle.pm_check.proofs.Readings.{AreParted, none_split, none_parts, some_parts, first_same}
use Rattle.pm_check.proofs.reading.parts.read_learning.Goals as goal
use Rattle.pm_check.proofs.reading.parts.read_learning.Goals.{After-is_same}

-- the name of the parent comes first
parted : (plan : PlanData) → IsPlan plan →
    AreParted (λ (read : ℕ × ℕ). (1 ≤ read.0) × (read.0 ≤ length plan.nodes) × (read.1 < 2 ^ 32))
    (λ read. text_line (name plan (parent plan read.0) ∷ name plan read.0 ∷ decimal read.1 ∷ []))
    (λ read. name plan (parent plan read.0)) (λ read. text_line (name plan read.0 ∷ decimal read.1 ∷ []))
parted plan is = record {
  words = λ read fits. node_word plan is (parent plan read.0) (parent_inside plan is read.0 fits.1);
  parts = λ read. refl;
}

-- of one name with a number behind it there is one node
same_child : (plan : PlanData) → IsPlan plan → (x y n m : ℕ) → x ≤ length plan.nodes → y ≤ length plan.nodes →
    text_line (name plan x ∷ decimal n ∷ []) ≡ text_line (name plan y ∷ decimal m ∷ []) → x ≡ y
same_child plan is x y n m x_in y_in same = same_node plan is x y x_in y_in
    (first_same (name plan x) (name plan y) _ _ (node_word plan is x x_in) (node_word plan is y y_in) same).word

-- the name that the parent of the child has
above_is : (c : After-is_same) → c.as_bytes.result.now ≡ name c.args.plan.now (parent c.args.plan.now c.in_ok-child.child)
above_is c =
    c.as_bytes.ensures.value ∙ c.name.ensures ∙ ap (λ (x : ℕ). name_of c.tree-2.result.now x) c.parent-parent.ensures.parent
    ∙ ap (λ (entries : List Entry). name_of entries (parent_of c.tree.result.now c.in_ok-child.child)) c.tree-2.ensures.tree
    ∙ ap (λ (entries : List Entry). name_of c.args.plan.now.entries (parent_of entries c.in_ok-child.child)) c.tree.ensures.tree

pub returns-in_err-above : goal.returns-in_err-above
returns-in_err-above c = none_split (parted c.args.plan.now c.requires) _ _ c.from_residual.ensures (c.in_err-above.ensures.none refl)

pub returns-in_err-child : goal.returns-in_err-child
returns-in_err-child c =
    none_parts (parted c.args.plan.now c.requires) _ _ c.from_residual-in_err-child.ensures _ _ c.in_ok-above.ensures.told
    (λ read fits same. c.in_err-child.ensures.none refl read (fits.1, fits.2) same.rest)

pub returns-then-child-eq0 : goal.returns-then-child-eq0
returns-then-child-eq0 c =
    let child = c.in_ok-child.ensures.told in
    none_parts (parted c.args.plan.now c.requires) _ None refl _ _ c.in_ok-above.ensures.told (λ read fits same.
    let node = same_child c.args.plan.now c.requires read.0 _ read.1 _ fits.1 child.0.0 (same.rest ∙ sym child.1) in
    absurd (omega (arith, fits.0, node, c.if-child-eq0.true)))

pub returns-then-not-is_same : goal.returns-then-not-is_same
returns-then-not-is_same c =
    let plan = c.args.plan.now in
    let child = c.in_ok-child.ensures.told in
    none_parts (parted plan c.requires) _ None refl _ _ c.in_ok-above.ensures.told (λ read fits same.
    let node = same_child plan c.requires read.0 _ read.1 _ fits.1 child.0.0 (same.rest ∙ sym child.1) in
    c.is_same.ensures.differ c.if-not-is_same.true (sym same.word ∙ ap (λ (x : ℕ). name plan (parent plan x)) node
    ∙ sym (above_is (goal.at.returns-then-not-is_same c).After-is_same)))

pub returns : goal.returns
returns c =
    let child = c.in_ok-child.ensures.told in
    let above = c.is_same.ensures.same c.if-not-is_same.false ∙ above_is (goal.at.returns c).After-is_same in
    some_parts (parted c.args.plan.now c.requires) _ _ (omega (arith, c.if-child-eq0.false), child.0.0, child.0.1)
    _ _ c.in_ok-above.ensures.told (sym above) child.1
