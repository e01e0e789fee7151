-- Of `Market::may_pass_none`: what it ensures.
use Rattle.std.proofs.Common.{ℕ, leb, not, sym, ◌∙◌, ap}
use Rattle.pm_market.specs.Market.{market_lists, market_state, market_due}
use Rattle.pm_market.proofs.Due.{no_pass_outside, no_pass_is}
use Rattle.pm_market.proofs.market.Market.may_pass_none.Goals as goal

pub returns-then-not-is_node : goal.returns-then-not-is_node
returns-then-not-is_node c =
    ap not c.if-not-is_node.true ∙ sym (no_pass_outside (market_lists c.args.self.now) (market_state c.args.self.now) c.args.node
    (sym c.is_node.ensures ∙ c.if-not-is_node.true))

pub returns-else-not-is_node : goal.returns-else-not-is_node
returns-else-not-is_node c =
    let m = c.args.self.now in
    ap (λ (due : ℕ). leb due c.last.result) c.due.ensures ∙ ap (leb (market_due m c.args.node)) c.last.ensures
    ∙ no_pass_is (market_lists m) (market_state m) (market_due m) m.greatest_due c.args.node (sym c.is_node.ensures ∙ c.if-not-is_node.false)
