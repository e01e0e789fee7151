-- Of `Board::post`: its clauses `adds` and `refused`; what the type keeps.
use Rattle.std.proofs.Common.{◌≡◌, ◌∙◌, sym, ap, subst, refl, take, None, Err}
use Rattle.std.specs.Prelude.{IfErr, ◌≤◌}
use Rattle.std.proofs.lemmas.Result.{err_from_is_err_and}
use Rattle.pm_market.specs.Moves.{after}
use Rattle.pm_plan.specs.Market.{plan_lists}
use Rattle.pm_stands.specs.Actors.{IsMadeLine}
use Rattle.pm_cluster.specs.Acts.{moves_of, NotChanged}
use Rattle.pm_board.specs.Boards.{BoardValue, board_state, AddsLine}
use Rattle.pm_board.proofs.Grows.{pushed, has_spare, board_on, adds_line, closed_on}
use Rattle.pm_board.proofs.SameNext.{refused_alike}
use Rattle.pm_board.proofs.board.Board.post.Goals as goal
use Rattle.pm_board.proofs.board.Board.post.Goals.{After-push}

-- the line of the change that was made
made_line : (c : After-push) → IsMadeLine c.self.inside.cluster.plan c.change.new.self.core
    (after (plan_lists c.self.inside.cluster.plan) (moves_of c.self.inside.journal.lines))
    (record { what = c.in_ok-what.what; held = None })
made_line c = record {
  makes = c.in_ok-what.ensures.made _ c.self.invariant.run.stands;
  line = rw c.in_ok-what.ensures.form refl;
}

no_phase_closed : (c : After-push) → c.change.new.self.core.closed ≡ c.self.inside.cluster.core.closed
no_phase_closed c =
    closed_on c.self.inside.cluster.plan c.self.inside.cluster.core c.change.new.self.core c.self.inside.journal
    c.self.inside.ends.items _ c.self.invariant (made_line c)
    (rw c.in_ok-what.ensures.form refl)

spare_is : (c : After-push) → 1 ≤ c.self.inside.journal.spare
spare_is c =
    has_spare c.self.inside.cluster.plan c.self.inside.cluster.core c.change.new.self.core c.self.inside.journal
    c.self.inside.ends.items _ c.self.invariant (made_line c)

pub invariant_of-self-2 : goal.invariant_of-self-2
invariant_of-self-2 c =
    let at = (goal.at.invariant_of-self-2 c).After-push in
    let plan = c.self.inside.cluster.plan in
    let on = board_on plan c.self.inside.cluster.core c.change.new.self.core c.self.inside.journal c.self.inside.ends.items _ c.self.invariant (made_line at)
    c.push.new.self (pushed c.push.result (c.push.ensures.within (spare_is at)) c.push.ensures.lines) c.push.ensures.spare (no_phase_closed at) in
    rw c.change.ensures.plan on

pub returns-clause-adds : goal.returns-clause-adds
returns-clause-adds c =
    let at = (goal.at.returns-clause-adds c).After-push in
    let after_post : BoardValue =
    record { plan = c.change.new.self.plan; lines = c.push.new.self.lines; ends = take c.change.new.self.core.closed c.self.inside.ends.items } in
    subst (λ (v : BoardValue). AddsLine v after_post (record { what = c.in_ok-what.what; held = None })) c.self.view_is
    (adds_line c.self.inside.cluster.plan c.self.inside.cluster.core c.change.new.self.core c.self.inside.journal
    c.self.inside.ends.items _ c.self.invariant (made_line at)
    c.change.new.self.plan _ _ c.push.new.self.lines c.change.ensures.plan (pushed c.push.result (c.push.ensures.within (spare_is at)) c.push.ensures.lines))

pub returns-in_err-what-clause-refused : goal.returns-in_err-what-clause-refused
returns-in_err-what-clause-refused c =
    let p = err_from_is_err_and c.from_residual.result c.from_residual.ensures.1 in
    let plan = c.self.inside.cluster.plan in
    let s = after (plan_lists plan) (moves_of c.self.inside.journal.lines) in
    let refused = refused_alike plan c.self.inside.cluster.core s c.args.made.now _ c.self.invariant.run.stands c.in_err-what.ensures.refused in
    subst (λ (v : BoardValue). IfErr c.from_residual.result (NotChanged v.plan (board_state v).closed (board_state v).counts c.args.made.now)) c.self.view_is
    (subst (λ r. IfErr r (NotChanged plan s.closed s.counts c.args.made.now)) (sym (p.1 ∙ ap (λ e. Err e) p.2)) refused)
