-- Of `first_next`: its clause `none`; the turns of its loop over `number`.
use Rattle.std.proofs.Common.{◌∙◌, ap, subst, sym, ◌≡◌, ℕ, length, arith, inl, inr}
use Rattle.std.proofs.lemmas.Bool.{cases_lt}
use Rattle.pm_base.proofs.Options.{none_of}
use Rattle.pm_board.specs.Boards.{board_state}
use Rattle.pm_cluster.specs.Next.{HasNoNext}
use Rattle.pm_market.specs.Lists.{IsLeaf}
use Rattle.pm_market.proofs.Tree.{leaf_node}
use Rattle.pm_plan.specs.Kept.{IsPlan}
use Rattle.pm_plan.specs.Market.{plan_lists}
use Rattle.pm_plan.proofs.MarketLists.{lawful}
use Rattle.pm_plan.proofs.MarketLists.{nodes_are}
use Rattle.pm_turns.proofs.one_thread.first_next.Goals as goal

pub loop-number-preserved : goal.loop-number-preserved
loop-number-preserved c = λ d low leaf. elim (cases_lt d c.loop-number.number) [
  | inl old ↦ c.loop-number.invariant d old leaf
  | inr at ↦
      let same : d ≡ c.loop-number.number = omega arith in
      let s = board_state c.args.board.now in
      subst (λ (k : ℕ). HasNoNext c.args.board.now.plan s.closed s.counts k) (sym same)
      (c.next_of-next.ensures.none (none_of c.next_of-next.result (sym c.is_some.ensures ∙ c.if-is_some.false))
      (subst (λ (k : ℕ). IsLeaf (plan_lists c.args.board.now.plan) k) same leaf))
]

pub returns-clause-none : goal.returns-clause-none
returns-clause-none c none d leaf =
    let plan = c.args.board.now.plan in
    let is_plan : IsPlan c.args.board.now.plan = subst IsPlan c.plan.ensures.plan c.tree.ensures.sound in
    c.loop-number.invariant d (omega (
      arith,
      leaf_node (plan_lists plan) (lawful plan is_plan) d leaf,
      nodes_are plan,
      c.len-nodes.ensures.len,
      ap length (c.tree.ensures.tree ∙ ap (λ p. p.entries) c.plan.ensures.plan),
    )) leaf
