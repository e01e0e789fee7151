-- Of `Board::turn`: its clause `adds`; what the type keeps.
use Rattle.std.proofs.Common.{◌≡◌, subst, take}
use Rattle.std.specs.Prelude.{Option, MatchOption, IfSome, ◌≤◌}
use Rattle.pm_market.specs.Moves.{after}
use Rattle.pm_market.specs.declared.journal.Line.{Line}
use Rattle.pm_plan.specs.Market.{plan_lists}
use Rattle.pm_stands.specs.Actors.{IsMadeLine, IsMoveOf, NoMoveOf}
use Rattle.pm_cluster.specs.Acts.{moves_of}
use Rattle.pm_board.specs.Boards.{BoardValue, AddsLine}
use Rattle.pm_board.proofs.Grows.{pushed, has_spare, board_on, adds_line, closed_on, closes_none}
use Rattle.pm_board.proofs.board.Board.turn.Goals as goal
use Rattle.pm_board.proofs.board.Board.turn.Goals.{After-push}

-- the line of the move that was made
made_line : (c : After-push) → IsMadeLine c.self.inside.cluster.plan c.step.new.self.core
    (after (plan_lists c.self.inside.cluster.plan) (moves_of c.self.inside.journal.lines)) c.in-Some.line
made_line c =
    let plan = c.self.inside.cluster.plan in
    let s = after (plan_lists plan) (moves_of c.self.inside.journal.lines) in
    subst (λ (o : Option Line). MatchOption o (NoMoveOf (plan_lists plan) s c.args.node.0) (IsMadeLine plan c.step.new.self.core s)) c.in-Some.is
    (c.in_ok-line.ensures.made s c.self.invariant.run.stands)

no_phase_closed : (c : After-push) → c.step.new.self.core.closed ≡ c.self.inside.cluster.core.closed
no_phase_closed c =
    let plan = c.self.inside.cluster.plan in
    let s = after (plan_lists plan) (moves_of c.self.inside.journal.lines) in
    closed_on plan c.self.inside.cluster.core c.step.new.self.core c.self.inside.journal c.self.inside.ends.items c.in-Some.line c.self.invariant (made_line c)
    (closes_none (plan_lists plan) s c.args.node.0 c.in-Some.line.what
    (subst (λ (o : Option Line). IfSome o (λ line. IsMoveOf (plan_lists plan) c.args.node.0 line.what)) c.in-Some.is c.in_ok-line.ensures.mine))

spare_is : (c : After-push) → 1 ≤ c.self.inside.journal.spare
spare_is c =
    has_spare c.self.inside.cluster.plan c.self.inside.cluster.core c.step.new.self.core c.self.inside.journal
    c.self.inside.ends.items c.in-Some.line c.self.invariant (made_line c)

pub invariant_of-self-2 : goal.invariant_of-self-2
invariant_of-self-2 c =
    let at = (goal.at.invariant_of-self-2 c).After-push in
    let on = board_on c.self.inside.cluster.plan c.self.inside.cluster.core c.step.new.self.core c.self.inside.journal
    c.self.inside.ends.items c.in-Some.line c.self.invariant (made_line at)
    c.push.new.self (pushed c.push.result (c.push.ensures.within (spare_is at)) c.push.ensures.lines) c.push.ensures.spare (no_phase_closed at) in
    rw c.step.ensures.plan on

pub returns-clause-adds : goal.returns-clause-adds
returns-clause-adds c =
    let at = (goal.at.returns-clause-adds c).After-push in
    let after_turn : BoardValue =
    record { plan = c.step.new.self.plan; lines = c.push.new.self.lines; ends = take c.step.new.self.core.closed c.self.inside.ends.items } in
    subst (λ (v : BoardValue). AddsLine v after_turn c.in-Some.line) c.self.view_is
    (adds_line c.self.inside.cluster.plan c.self.inside.cluster.core c.step.new.self.core c.self.inside.journal
    c.self.inside.ends.items c.in-Some.line c.self.invariant (made_line at)
    c.step.new.self.plan _ _ c.push.new.self.lines c.step.ensures.plan (pushed c.push.result (c.push.ensures.within (spare_is at)) c.push.ensures.lines))
