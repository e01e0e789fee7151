-- Of `read_node_number`: what it ensures.
use Rattle.std.proofs.Common.{◌≤◌, ◌<◌, ◌^◌, length, refl, ◌∷◌, [], ℕ}
use Rattle.std.specs.Prelude.{decimal}
use Rattle.pm_plan.specs.Plans.{PlanData}
use Rattle.pm_plan.specs.Kept.{IsPlan}
use Rattle.pm_report.specs.Words.{name, text_line}
use Rattle.pm_report.proofs.Names.{node_word}
use Rattle.pm_check.proofs.Readings.{AreParted, none_split, none_parts, some_parts}
use Rattle.pm_check.proofs.reading.parts.read_node_number.Goals as goal

-- the name of the node comes first
parted : (plan : PlanData) → IsPlan plan → AreParted (λ (read : ℕ × ℕ). (read.0 ≤ length plan.nodes) × (read.1 < 2 ^ 32))
    (λ read. text_line (name plan read.0 ∷ decimal read.1 ∷ [])) (λ read. name plan read.0) (λ read. text_line (decimal read.1 ∷ []))
parted plan is = record { words = λ read fits. node_word plan is read.0 fits.0; parts = λ read. refl }

pub returns-in_err-word : goal.returns-in_err-word
returns-in_err-word c = none_split (parted c.args.plan.now c.requires) _ _ c.from_residual.ensures (c.in_err-word.ensures.none refl)

pub returns-in_err-node : goal.returns-in_err-node
returns-in_err-node c =
    none_parts (parted c.args.plan.now c.requires) _ _ c.from_residual-in_err-node.ensures _ _ c.in_ok-word.ensures.told
    (λ read fits same. c.in_err-node.ensures.none refl read.0 fits.0 same.word)

pub returns-in_err-number : goal.returns-in_err-number
returns-in_err-number c =
    none_parts (parted c.args.plan.now c.requires) _ _ c.from_residual-in_err-number.ensures _ _ c.in_ok-word.ensures.told
    (λ read fits same. c.in_err-number.ensures.none refl read.1 fits.1 same.rest)

pub returns : goal.returns
returns c =
    let node = c.in_ok-node.ensures.told in
    let number = c.in_ok-number.ensures.told in
    some_parts (parted c.args.plan.now c.requires) _ _ (node.0, number.0) _ _ c.in_ok-word.ensures.told node.1 number.1
