-- Of `read_passed`: what it ensures.
use Rattle.std.proofs.Common.{◌≡◌, ◌∙◌, sym, ap, subst, refl, None, ◌∷◌, List}
use Rattle.std.specs.Prelude.{decimal}
use Rattle.std.proofs.lemmas.Bool.{both_ways}
use Rattle.pm_basis.specs.Prices.{BasisValue}
use Rattle.pm_tree.specs.Entries.{Entry, is_leaf_at}
use Rattle.pm_plan.specs.Plans.{is_leaf}
use Rattle.pm_report.specs.Words.{text_line}
use Rattle.pm_report.specs.Trace.{device_words}
use Rattle.pm_check.proofs.Readings.{reads_none, reads_some, reads_as}
use Rattle.pm_check.specs.MoveReading.{IsHolding}
use Rattle.pm_check.proofs.reading.parts.read_passed.Goals as goal
use Rattle.pm_check.proofs.reading.parts.read_passed.Goals.{After-is_leaf}

-- whether the node is a device
leaf_is : (c : After-is_leaf) → is_leaf c.args.plan.now c.args.node ≡ c.is_leaf.result
leaf_is c = sym (c.is_leaf.ensures ∙ ap (λ (entries : List Entry). is_leaf_at entries c.args.node) c.tree.ensures.tree)

pub returns-then-is_leaf : goal.returns-then-is_leaf
returns-then-is_leaf c =
    let plan = c.args.plan.now in
    let basis = c.requires.basis in
    let leaf = leaf_is (goal.at.returns-then-is_leaf c).After-is_leaf ∙ c.if-is_leaf.true in
    reads_as _ _
    (λ read fits. record {
      index = fits.0;
      held = subst (λ (b : BasisValue). IsHolding b read.1) basis fits.1;
      holder = λ inner. absurd (both_ways (is_leaf plan c.args.node) inner leaf);
    })
    (λ read fits. (fits.index, subst (λ (b : BasisValue). IsHolding b read.1) (sym basis) fits.held))
    (λ read. λ i. text_line (decimal read.0 ∷ device_words (leaf i) (sym basis i) read.1))
    c.read_device_pass.ensures

pub returns-in_err-index : goal.returns-in_err-index
returns-in_err-index c =
    let inner = leaf_is (goal.at.returns-in_err-index c).After-is_leaf ∙ c.if-is_leaf.false in
    reads_none _ _ c.args.rest.now c.from_residual.result c.from_residual.ensures (λ read fits same.
    c.in_err-index.ensures.none refl read.0 fits.index
    (ap (λ b. text_line (decimal read.0 ∷ device_words b c.args.plan.now.basis read.1)) (sym inner) ∙ same))

pub returns-in_ok-index : goal.returns-in_ok-index
returns-in_ok-index c =
    let index = c.in_ok-index.ensures.told in
    let inner = leaf_is (goal.at.returns-in_ok-index c).After-is_leaf ∙ c.if-is_leaf.false in
    reads_some _ _ c.args.rest.now _ _ refl (record { index = index.0; held = record { step = tt; number = tt }; holder = λ e. refl })
    (ap (λ b. text_line (decimal c.in_ok-index.index ∷ device_words b c.args.plan.now.basis None)) inner ∙ index.1)
