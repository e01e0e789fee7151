-- Of `Judge::held`: what it ensures; what the call of `step` requires.
use Rattle.std.proofs.Common.{◌≡◌, ◌∙◌, sym, ap, false, arith}
use Rattle.std.specs.Prelude.{None}
use Rattle.std.proofs.lemmas.Bool.{cond-false}
use Rattle.pm_base.specs.Cuts.{Cut}
use Rattle.pm_tree.specs.Entries.{is_leaf_at}
use Rattle.pm_market.specs.Lists.{IsLeaf, is_leaf}
use Rattle.pm_plan.specs.Market.{plan_lists}
use Rattle.pm_plan.proofs.MarketLists.{is_leaf-is}
use Rattle.pm_check.proofs.Making.{was_passed, has_steps, told_held}
use Rattle.pm_check.proofs.judge.Judge.held.Goals as goal

-- the node is a device
leaf_at : (c : goal.After-number_in_cut-number) → IsLeaf (plan_lists c.args.plan.now) c.args.node
leaf_at c =
    is_leaf-is c.args.plan.now c.args.node ∙ ap (λ e. is_leaf_at e c.args.node) (sym c.tree.ensures.tree) ∙ sym c.is_leaf.ensures
    ∙ c.if-not-is_leaf.false

pub step-step-requires-clause-first : goal.step-step-requires-clause-first
step-step-requires-clause-first c =
    let holds = sym c.holds_price.ensures ∙ c.if-not-holds_price.false in
    omega (arith, was_passed c.args.plan.now c.args.self.now c.requires.judge c.args.node (leaf_at c) holds, c.last_passed-index.ensures)

pub step-step-requires-clause-last : goal.step-step-requires-clause-last
step-step-requires-clause-last c =
    let holds = sym c.holds_price.ensures ∙ c.if-not-holds_price.false in
    omega (arith, has_steps c.args.plan.now c.args.self.now c.requires.judge c.args.node (leaf_at c) holds, c.last_passed-index.ensures)

pub returns-then-not-is_leaf : goal.returns-then-not-is_leaf
returns-then-not-is_leaf c =
    let plan = c.args.plan.now in
    let other : is_leaf (plan_lists plan) c.args.node ≡ false =
    is_leaf-is plan c.args.node ∙ ap (λ e. is_leaf_at e c.args.node) (sym c.tree.ensures.tree) ∙ sym c.is_leaf.ensures ∙ c.if-not-is_leaf.true in
    sym (cond-false (is_leaf (plan_lists plan) c.args.node) _ None other)

pub returns : goal.returns
returns c =
    let holds = sym c.holds_price.ensures ∙ c.if-not-holds_price.false in
    let leaf : IsLeaf (plan_lists c.args.plan.now) c.args.node =
    is_leaf-is c.args.plan.now c.args.node ∙ ap (λ e. is_leaf_at e c.args.node) (sym c.tree.ensures.tree) ∙ sym c.is_leaf.ensures
    ∙ c.if-not-is_leaf.false in
    told_held c.args.plan.now c.args.self.now c.requires.judge c.args.node leaf holds c.last_passed-index.result c.number_in_cut-number.result
    c.step-step.result
    c.last_passed-index.ensures (c.number_in_cut-number.ensures ∙ ap (λ (cut : Cut). cut c.args.node) c.cleared.ensures) c.step-step.ensures
