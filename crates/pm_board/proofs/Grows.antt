-- How a board grows by a line.
use Rattle.std.proofs.Common.{◌≡◌, ◌∙◌, sym, ap, subst, refl, ℕ, ◌+◌, ◌-◌, ◌≤◌, List, [], ◌∷◌, ◌++◌, length, map, arith}
use Rattle.std.proofs.Common.{length-append}
use Rattle.std.specs.Prelude.{Result, Ok, Err, IsOk, OnOk}
use Rattle.std.proofs.lemmas.Bool.{false≢true}
use Rattle.std.proofs.lemmas.List.{map-append}
use Rattle.pm_market.specs.Lists.{Lists}
use Rattle.pm_market.specs.State.{State}
use Rattle.pm_market.specs.Moves.{after, step, act_of}
use Rattle.pm_market.specs.Journal.{JournalData}
use Rattle.pm_market.specs.declared.moves.Move.{Move}
use Rattle.pm_market.specs.declared.moves.Move.TheVariants.{Change, Learn, Publish, Clear, Pass, Close}
use Rattle.pm_market.specs.declared.moves.Act.{Act}
use Rattle.pm_market.specs.declared.journal.Line.{Line}
use Rattle.pm_plan.specs.Plans.{PlanData, plan_bound}
use Rattle.pm_plan.specs.Ends.{EndValue}
use Rattle.pm_plan.specs.Market.{plan_lists}
use Rattle.pm_stands.specs.Core.{Core}
use Rattle.pm_stands.specs.Actors.{IsMoveOf, IsMadeLine}
use Rattle.pm_cluster.specs.Acts.{moves_of, IsRunOf}
use Rattle.pm_cluster.proofs.Runs.{run_more, run_bounded}
use Rattle.pm_board.specs.Boards.{AddsLine}
use Rattle.pm_board.specs.Kept.{IsBoard}

moves_more : (lines : List Line) (l : Line) → moves_of (lines ++ l ∷ []) ≡ moves_of lines ++ l.what ∷ []
moves_more lines l = map-append (λ (l : Line). l.what) lines (l ∷ [])

acts_more : (lines : List Line) (l : Line) → map act_of (moves_of (lines ++ l ∷ [])) ≡ map act_of (moves_of lines) ++ act_of l.what ∷ []
acts_more lines l = ap (map act_of) (moves_more lines l) ∙ map-append act_of (moves_of lines) (l.what ∷ [])

-- what holds where a push succeeds
pub pushed : {T E : Type 0} {P : Type 0} (result : Result T E) → IsOk result → OnOk result P → P
pushed (Ok done) succeeds holds = holds
pushed (Err fault) fails holds = absurd (false≢true fails)

-- a node's move closes no phase
pub closes_none : (lists : Lists) (s : State) (x : ℕ) (m : Move) → IsMoveOf lists x m → (step lists s m).closed ≡ s.closed
closes_none lists s x (Learn child n) mine = refl
closes_none lists s x (Publish node n) mine = refl
closes_none lists s x (Clear j) mine = refl
closes_none lists s x (Pass node j) mine = refl
closes_none lists s x (Change d n) mine = absurd mine
closes_none lists s x (Close p) mine = absurd mine

module _ (plan : PlanData) (c new : Core) (j : JournalData) (ends : List EndValue) (l : Line) (is : IsBoard plan c j ends)
    (made : IsMadeLine plan new (after (plan_lists plan) (moves_of j.lines)) l) where
  run_longer : IsRunOf plan (map act_of (moves_of j.lines) ++ act_of l.what ∷ []) new (j.lines ++ l ∷ [])
  run_longer = run_more plan (map act_of (moves_of j.lines)) (act_of l.what) c new j.lines l is.run refl made

  -- with the line the journal is within the bound, so that there is room for it
  pub has_spare : 1 ≤ j.spare
  has_spare = omega (
    arith,
    run_bounded plan is.is_plan (map act_of (moves_of j.lines) ++ act_of l.what ∷ []) new
        (j.lines ++ l ∷ []) run_longer,
    length-append j.lines (l ∷ []),
    is.room,
  )

  -- the journal with the line of the move is a run of the plan, and the new cluster stands for the state after it
  pub run_on : (lines : List Line) → lines ≡ j.lines ++ l ∷ [] → IsRunOf plan (map act_of (moves_of lines)) new lines
  run_on lines added =
      subst (λ (ls : List Line). IsRunOf plan (map act_of (moves_of ls)) new ls) (sym added)
      (subst (λ (acts : List Act). IsRunOf plan acts new (j.lines ++ l ∷ [])) (sym (acts_more j.lines l)) run_longer)

  -- once the line took one place of its room, the journal still has room for all moves of a run
  pub room_on : (j' : JournalData) → j'.lines ≡ j.lines ++ l ∷ [] → j'.spare ≡ j.spare - 1 → plan_bound plan ≤ length j'.lines + j'.spare
  room_on j' added spared = omega (arith, has_spare, ap length added, length-append j.lines (l ∷ []), spared, is.room)

  -- where no phase was closed
  pub board_on : (j' : JournalData) → j'.lines ≡ j.lines ++ l ∷ [] → j'.spare ≡ j.spare - 1 → new.closed ≡ c.closed → IsBoard plan new j' ends
  board_on j' added spared closed = record {
    is_plan = is.is_plan;
    run = run_on j'.lines added;
    room = room_on j' added spared;
    one_each = is.one_each;
    ended = rw closed is.ended;
    vacant = rw closed is.vacant;
  }

  -- the line of the move that was made joined the board's lines, whatever the ends are
  pub adds_line : (plan' : PlanData) (before after' : List EndValue) (lines : List Line) → plan' ≡ plan → lines ≡ j.lines ++ l ∷ [] →
      AddsLine (record { plan = plan; lines = j.lines; ends = before }) (record { plan = plan'; lines = lines; ends = after' }) l
  adds_line plan' before after' lines same added = record { plan = same; legal = made.makes.legal; told = made.line; lines = added }

-- the cluster's count of closed phases after a node's move
pub closed_on : (plan : PlanData) (c new : Core) (j : JournalData) (ends : List EndValue) (l : Line) → IsBoard plan c j ends →
    IsMadeLine plan new (after (plan_lists plan) (moves_of j.lines)) l →
    (step (plan_lists plan) (after (plan_lists plan) (moves_of j.lines)) l.what).closed
    ≡ (after (plan_lists plan) (moves_of j.lines)).closed → new.closed ≡ c.closed
closed_on plan c new j ends l is made same = made.makes.stands.closed ∙ same ∙ sym is.run.stands.closed
