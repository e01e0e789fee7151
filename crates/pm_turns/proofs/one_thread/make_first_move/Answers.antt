-- Of `make_first_move`: its clause `idle`; what the call of `turn_of` requires; the turns of its loop over `number`.
use Rattle.std.proofs.Common.{◌≡◌, ◌∙◌, sym, ap, subst, ℕ, length, arith, inl, inr}
use Rattle.std.proofs.lemmas.Bool.{cases_lt}
use Rattle.pm_board.specs.Boards.{BoardValue, board_state}
use Rattle.pm_market.specs.Lists.{nodes}
use Rattle.pm_plan.specs.Kept.{IsPlan}
use Rattle.pm_plan.specs.Market.{plan_lists}
use Rattle.pm_plan.proofs.MarketLists.{lawful}
use Rattle.pm_stands.specs.Actors.{NoMoveOf}
use Rattle.pm_plan.proofs.MarketLists.{nodes_are}
use Rattle.pm_turns.proofs.Finishing.{idle}
use Rattle.pm_turns.proofs.one_thread.make_first_move.Goals as goal

pub turn_of-requires-clause-inside : goal.turn_of-requires-clause-inside
turn_of-requires-clause-inside g c κs within =
    omega (
      arith,
      c.loop-number-test.true,
      nodes_are c.args.board.now.plan,
      c.len-nodes.ensures.len,
      ap length (c.tree.ensures.tree ∙ ap (λ p. p.entries) c.plan.ensures.plan),
      ap (λ (b : BoardValue). nodes (plan_lists b.plan)) c.loop-number.invariant.same,
    )

pub loop-number-preserved : goal.loop-number-preserved
loop-number-preserved g c = record {
  same = c.turn_of.ensures.same c.if-turn_of.false ∙ c.loop-number.invariant.same;
  none = λ x low. elim (cases_lt x c.loop-number.number) [
    | inl old ↦ c.loop-number.invariant.none x old
    | inr at ↦
        let same : x ≡ c.loop-number.number = omega arith in
        let here = subst (λ (b : BoardValue). NoMoveOf (plan_lists b.plan) (board_state b) c.loop-number.number) c.loop-number.invariant.same
        (c.turn_of.ensures.none c.if-turn_of.false) in
        subst (λ (k : ℕ). NoMoveOf (plan_lists c.args.board.now.plan) (board_state c.args.board.now) k) (sym same) here
  ];
}

pub returns-clause-idle : goal.returns-clause-idle
returns-clause-idle g c off =
    let plan = c.args.board.now.plan in
    let is_plan : IsPlan c.args.board.now.plan = subst IsPlan c.plan.ensures.plan c.tree.ensures.sound in
    idle (plan_lists plan) (board_state c.args.board.now) (lawful plan is_plan)
    (λ x le. c.loop-number.invariant.none x (omega (
      arith,
      le,
      nodes_are plan,
      c.len-nodes.ensures.len,
      ap length (c.tree.ensures.tree ∙ ap (λ p. p.entries) c.plan.ensures.plan),
    )))
