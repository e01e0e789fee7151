-- Of `read_passing`: what it ensures.
use Rattle.std.proofs.Common.{◌∙◌, sym, ap, refl, arith, None, ◌∷◌, List, ℕ, Option}
use Rattle.std.specs.Prelude.{decimal}
use Rattle.pm_plan.specs.Plans.{PlanData, is_leaf}
use Rattle.pm_plan.specs.Kept.{IsPlan}
use Rattle.pm_report.specs.Words.{name, text_line}
use Rattle.pm_report.specs.Trace.{device_words}
use Rattle.pm_report.proofs.Names.{node_word, same_node}
use Rattle.pm_check.specs.MoveReading.{IsPassing}
use Rattle.pm_check.proofs.Readings.{AreParted, none_split, none_parts, some_parts}
use Rattle.pm_check.proofs.reading.parts.read_passing.Goals as goal

-- what is told of a pass behind the name of its node
abbrev passed_line : PlanData → ℕ → ℕ × Option (ℕ × ℕ) → List ℕ
passed_line plan node read = text_line (decimal read.0 ∷ device_words (is_leaf plan node) plan.basis read.1)

-- the name of the node comes first
parted : (plan : PlanData) → IsPlan plan → AreParted (IsPassing plan)
    (λ read. text_line (name plan read.0 ∷ decimal read.1 ∷ device_words (is_leaf plan read.0) plan.basis read.2))
    (λ read. name plan read.0) (λ read. passed_line plan read.0 (read.1, read.2))
parted plan is = record { words = λ read fits. node_word plan is read.0 fits.last; parts = λ read. refl }

pub returns-in_err-word : goal.returns-in_err-word
returns-in_err-word c = none_split (parted c.args.plan.now c.requires.plan) _ _ c.from_residual.ensures (c.in_err-word.ensures.none refl)

pub returns-in_err-node : goal.returns-in_err-node
returns-in_err-node c =
    none_parts (parted c.args.plan.now c.requires.plan) _ _ c.from_residual-in_err-node.ensures _ _ c.in_ok-word.ensures.told
    (λ read fits same. c.in_err-node.ensures.none refl read.0 fits.last same.word)

pub returns-then-node-eq0 : goal.returns-then-node-eq0
returns-then-node-eq0 c =
    let node = c.in_ok-node.ensures.told in
    none_parts (parted c.args.plan.now c.requires.plan) _ None refl _ _ c.in_ok-word.ensures.told (λ read fits same.
    let here = same_node c.args.plan.now c.requires.plan read.0 c.in_ok-node.node fits.last node.0 (same.word ∙ sym node.1) in
    absurd (omega (arith, fits.first, here, c.if-node-eq0.true)))

pub returns-in_err-index : goal.returns-in_err-index
returns-in_err-index c =
    let plan = c.args.plan.now in
    let node = c.in_ok-node.ensures.told in
    none_parts (parted plan c.requires.plan) _ _ c.from_residual-in_err-index.ensures _ _ c.in_ok-word.ensures.told (λ read fits same.
    let here = same_node plan c.requires.plan read.0 c.in_ok-node.node fits.last node.0 (same.word ∙ sym node.1) in
    c.in_err-index.ensures.none refl (read.1, read.2)
    (record { index = fits.index; held = fits.held; holder = λ inner. fits.holder (ap (is_leaf plan) here ∙ inner) })
    (ap (λ (x : ℕ). passed_line plan x (read.1, read.2)) (sym here) ∙ same.rest))

pub returns : goal.returns
returns c =
    let node = c.in_ok-node.ensures.told in
    let passed = c.in_ok-index.ensures.told in
    some_parts (parted c.args.plan.now c.requires.plan) _ _
    (record {
      first = omega (arith, c.if-node-eq0.false);
      last = node.0;
      index = passed.0.index;
      held = passed.0.held;
      holder = passed.0.holder;
    })
    _ _ c.in_ok-word.ensures.told node.1 passed.1
