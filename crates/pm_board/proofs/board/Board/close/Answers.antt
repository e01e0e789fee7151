-- Of `Board::close`: its clause `closed`; what the call of `phase_end_into` requires; what the type keeps; that its numbers fit.
use Rattle.std.proofs.Common.{◌≡◌, ◌∙◌, sym, ap, subst, ℕ, ◌+◌, ◌<◌, [], ◌∷◌, ◌++◌, take, length, arith}
use Rattle.std.proofs.Math.ListN.{set}
use Rattle.std.proofs.lemmas.List.{get_or_read}
use Rattle.pm_market.specs.State.{State}
use Rattle.pm_market.specs.Moves.{after, step}
use Rattle.pm_market.specs.declared.moves.Move.TheVariants.{Close}
use Rattle.pm_plan.specs.Plans.{PlanData, end_cut}
use Rattle.pm_plan.specs.States.{end_of}
use Rattle.pm_plan.specs.Market.{plan_lists}
use Rattle.pm_stands.specs.Stands.{StandsFor, MakesMove}
use Rattle.pm_cluster.specs.Acts.{moves_of}
use Rattle.pm_cluster.specs.Ends.{AreMade}
use Rattle.pm_board.specs.Boards.{BoardValue, ClosesPhase}
use Rattle.pm_board.specs.Kept.{HasRoomForAll, no_value}
use Rattle.pm_board.proofs.Grows.{pushed, has_spare}
use Rattle.pm_board.proofs.Closed.{closing_line, made, has_end, all_made, board_closed, phase_closed}
use Rattle.pm_board.proofs.board.Board.close.Goals as goal
use Rattle.pm_board.proofs.board.Board.close.Goals.{After-index_mut, After-push}

pub index_mut-requires : goal.index_mut-requires
index_mut-requires c =
    let plan = c.self.inside.cluster.plan in
    let s = after (plan_lists plan) (moves_of c.self.inside.journal.lines) in
    let makes = c.close.ensures.made c.if-not-close.false s c.self.invariant.run.stands in
    omega (
      arith,
      c.closed-closed.ensures.closed,
      has_end plan c.self.inside.cluster.core c.close.new.self.core c.self.inside.journal c.self.inside.ends.items c.self.invariant makes,
      c.self.inside.ends.ok.0,
    )

-- the close that was made
makes : (c : After-index_mut) → let plan = c.self.inside.cluster.plan in let s = after (plan_lists plan) (moves_of c.self.inside.journal.lines) in
    MakesMove plan c.close.new.self.core s (Close (s.closed + 1))
makes c = c.close.ensures.made c.if-not-close.false
    (after (plan_lists c.self.inside.cluster.plan) (moves_of c.self.inside.journal.lines)) c.self.invariant.run.stands

-- there is an end for the phase
inside : (c : After-index_mut) → c.closed-closed.result < length c.self.inside.ends.items
inside c =
    omega (
      arith,
      c.closed-closed.ensures.closed,
      has_end c.self.inside.cluster.plan c.self.inside.cluster.core c.close.new.self.core c.self.inside.journal
          c.self.inside.ends.items c.self.invariant (makes c),
    )

has_room : (c : After-index_mut) → HasRoomForAll c.self.inside.cluster.plan c.index_mut.result.now
has_room c =
    let k = c.closed-closed.result in
    let there = inside c in
    subst (HasRoomForAll c.self.inside.cluster.plan)
    (sym (get_or_read c.self.inside.ends.items k c.index_mut.result.now there c.index_mut.ensures.value no_value))
    (c.self.invariant.vacant k (omega (arith, c.closed-closed.ensures.closed)) (omega (arith, there, c.self.invariant.one_each)))

pub phase_end_into-requires-clause-members : goal.phase_end_into-requires-clause-members
phase_end_into-requires-clause-members c = rw c.close.ensures.plan (has_room (goal.at.phase_end_into-requires-clause-members c).After-index_mut).members

pub phase_end_into-requires-clause-limited : goal.phase_end_into-requires-clause-limited
phase_end_into-requires-clause-limited c = rw c.close.ensures.plan (has_room (goal.at.phase_end_into-requires-clause-limited c).After-index_mut).limited

pub overflow_add-what : goal.overflow_add-what
overflow_add-what c =
    omega (arith, inside (goal.at.overflow_add-what c).After-index_mut, c.self.invariant.one_each, c.self.invariant.is_plan.within.few_phases)

abbrev IsMade : After-push → Type 0
IsMade c = let plan = c.self.inside.cluster.plan in let s = after (plan_lists plan) (moves_of c.self.inside.journal.lines) in
    MakesMove plan c.close.new.self.core s (Close (s.closed + 1))

-- the end that was written is that of the phase
its_end : (c : After-push) → IsMade c → let plan = c.self.inside.cluster.plan in
    c.phase_end_into.new.out.end ≡ end_of plan (end_cut plan (c.self.inside.cluster.core.closed + 1))
its_end c is_made =
    let plan = c.self.inside.cluster.plan in
    let s : State = after (plan_lists plan) (moves_of c.self.inside.journal.lines) in
    let t : State = step (plan_lists plan) s (Close (s.closed + 1)) in
    let p : ℕ = c.self.inside.cluster.core.closed + 1 in
    let Claim : PlanData → Type 0 = λ q. StandsFor q c.close.new.self.core t → AreMade q t.counts p →
    c.phase_end_into.new.out.end ≡ end_of q (end_cut q p) in
    subst Claim c.close.ensures.plan (c.phase_end_into.ensures.phase t p) is_made.stands
    (all_made plan c.self.inside.cluster.core c.close.new.self.core c.self.inside.journal c.self.inside.ends.items c.self.invariant is_made)

-- the journal with its line
added : (c : After-push) → IsMade c → let s = after (plan_lists c.self.inside.cluster.plan) (moves_of c.self.inside.journal.lines) in
    c.push.new.self.lines ≡ c.self.inside.journal.lines ++ closing_line (s.closed + 1) ∷ []
added c is_made =
    let plan = c.self.inside.cluster.plan in
    let s = after (plan_lists plan) (moves_of c.self.inside.journal.lines) in
    let spare = has_spare plan c.self.inside.cluster.core c.close.new.self.core c.self.inside.journal c.self.inside.ends.items
    (closing_line (s.closed + 1)) c.self.invariant
    (made plan c.self.inside.cluster.core c.close.new.self.core c.self.inside.journal c.self.inside.ends.items c.self.invariant is_made) in
    pushed c.push.result (c.push.ensures.within spare) c.push.ensures.lines
    ∙ ap (λ (p : ℕ). c.self.inside.journal.lines ++ closing_line (p + 1) ∷ []) (c.closed-closed.ensures.closed ∙ c.self.invariant.run.stands.closed)

pub invariant_of-self-2 : goal.invariant_of-self-2
invariant_of-self-2 c =
    let at = (goal.at.invariant_of-self-2 c).After-push in
    let is_made = makes (goal.at.invariant_of-self-2 c).After-index_mut in
    let closed' = board_closed c.self.inside.cluster.plan c.self.inside.cluster.core c.close.new.self.core c.self.inside.journal
    c.self.inside.ends.items c.self.invariant is_made
    c.phase_end_into.new.out (its_end at is_made) c.push.new.self (added at is_made) c.push.ensures.spare in
    rw (c.close.ensures.plan, c.closed-closed.ensures.closed) closed'

pub returns-clause-closed : goal.returns-clause-closed
returns-clause-closed c = λ done.
    let at = (goal.at.returns-clause-closed c).After-push in
    let after_close : BoardValue = record {
      plan = c.close.new.self.plan;
      lines = c.push.new.self.lines;
      ends = take c.close.new.self.core.closed (set c.self.inside.ends.items c.closed-closed.result c.phase_end_into.new.out);
    } in
    let is_made = makes (goal.at.returns-clause-closed c).After-index_mut in
    let closed' = phase_closed c.self.inside.cluster.plan c.self.inside.cluster.core c.close.new.self.core c.self.inside.journal
    c.self.inside.ends.items c.self.invariant is_made
    c.phase_end_into.new.out (its_end at is_made) c.close.new.self.plan c.push.new.self.lines c.close.ensures.plan (added at is_made) in
    subst (λ (v : BoardValue). ClosesPhase v after_close) c.self.view_is (rw c.closed-closed.ensures.closed closed')
