-- Of `Board::post_owned`: its clauses `adds` and `refused`; what the type keeps.
use Rattle.std.proofs.Common.{◌≡◌, subst, refl, take, None, ◌++◌, ◌∷◌, []}
use Rattle.std.specs.Prelude.{IfOk, IfErr}
use Rattle.pm_market.specs.Moves.{after}
use Rattle.pm_market.specs.declared.moves.Move.TheVariants.{Change}
use Rattle.pm_plan.specs.Market.{plan_lists}
use Rattle.pm_stands.specs.Stands.{MakesMove}
use Rattle.pm_stands.specs.Actors.{IsMadeLine}
use Rattle.pm_cluster.specs.Next.{count_of}
use Rattle.pm_cluster.specs.Acts.{moves_of, NotChanged}
use Rattle.pm_board.specs.Boards.{BoardValue, board_state, AddsLine}
use Rattle.pm_board.proofs.Grows.{pushed, has_spare, board_on, adds_line, closed_on}
use Rattle.pm_board.proofs.SameNext.{refused_alike}
use Rattle.pm_board.proofs.board.Board.post_owned.Goals as goal
use Rattle.pm_board.proofs.board.Board.post_owned.Goals.{After-push}

is_change : (c : After-push) → c.in-Ok.what ≡ Change c.args.made.next.device c.args.made.next.number
is_change c =
    subst (λ r. IfOk r (λ what. what ≡ Change c.args.made.next.device c.args.made.next.number)) c.in-Ok.is c.change_owned-outcome.ensures.form

-- the line of the change that was made
made_line : (c : After-push) → IsMadeLine c.self.inside.cluster.plan c.change_owned-outcome.new.self.core
    (after (plan_lists c.self.inside.cluster.plan) (moves_of c.self.inside.journal.lines))
    (record { what = c.in-Ok.what; held = None })
made_line c =
    let plan = c.self.inside.cluster.plan in
    let s = after (plan_lists plan) (moves_of c.self.inside.journal.lines) in
    record {
      makes = subst (λ r. IfOk r (MakesMove plan c.change_owned-outcome.new.self.core s)) c.in-Ok.is
          (c.change_owned-outcome.ensures.made s c.self.invariant.run.stands);
      line = rw (is_change c) refl;
    }

no_phase_closed : (c : After-push) → c.change_owned-outcome.new.self.core.closed ≡ c.self.inside.cluster.core.closed
no_phase_closed c =
    closed_on c.self.inside.cluster.plan c.self.inside.cluster.core c.change_owned-outcome.new.self.core c.self.inside.journal
    c.self.inside.ends.items _ c.self.invariant (made_line c) (rw (is_change c) refl)

-- the journal has the line
added : (c : After-push) → c.push.new.self.lines ≡ c.self.inside.journal.lines ++ (record { what = c.in-Ok.what; held = None }) ∷ []
added c =
    pushed c.push.result (c.push.ensures.within (has_spare c.self.inside.cluster.plan c.self.inside.cluster.core
    c.change_owned-outcome.new.self.core c.self.inside.journal c.self.inside.ends.items _ c.self.invariant (made_line c))) c.push.ensures.lines

pub invariant_of-self : goal.invariant_of-self
invariant_of-self c =
    let at = (goal.at.invariant_of-self c).After-push in
    let plan = c.self.inside.cluster.plan in
    let on = board_on plan c.self.inside.cluster.core c.change_owned-outcome.new.self.core c.self.inside.journal c.self.inside.ends.items _
    c.self.invariant (made_line at) c.push.new.self (added at) c.push.ensures.spare (no_phase_closed at) in
    rw c.change_owned-outcome.ensures.plan on

pub returns-in-Ok-clause-adds : goal.returns-in-Ok-clause-adds
returns-in-Ok-clause-adds c =
    let at = (goal.at.returns-in-Ok-clause-adds c).After-push in
    let new = c.change_owned-outcome.new.self in
    let after_post : BoardValue =
    record { plan = new.plan; lines = c.push.new.self.lines; ends = take new.core.closed c.self.inside.ends.items } in
    subst (λ (v : BoardValue). AddsLine v after_post (record { what = c.in-Ok.what; held = None })) c.self.view_is
    (adds_line c.self.inside.cluster.plan c.self.inside.cluster.core new.core c.self.inside.journal c.self.inside.ends.items _
    c.self.invariant (made_line at) new.plan _ _ c.push.new.self.lines c.change_owned-outcome.ensures.plan (added at))

pub returns-in-Err-clause-refused : goal.returns-in-Err-clause-refused
returns-in-Err-clause-refused c =
    let plan = c.self.inside.cluster.plan in
    let core = c.self.inside.cluster.core in
    let s = after (plan_lists plan) (moves_of c.self.inside.journal.lines) in
    let refused = subst (λ r. IfErr r (NotChanged plan core.closed (count_of core) c.args.made)) c.in-Err.is c.change_owned-outcome.ensures.refused in
    subst (λ (v : BoardValue). NotChanged v.plan (board_state v).closed (board_state v).counts c.args.made c.in-Err.fault) c.self.view_is
    (refused_alike plan core s c.args.made _ c.self.invariant.run.stands refused)
