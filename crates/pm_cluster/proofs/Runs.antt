-- Runs of acts: a run and one act more, and what holds of each run.
use Rattle.std.proofs.Common.{◌≡◌, ◌∙◌, sym, ap, subst, ℕ, ◌<◌, ◌≤◌, List, [], ◌∷◌, ◌++◌, length, map, take, refl, arith}
use Rattle.std.specs.Prelude.{Some, slice_get}
use Rattle.std.proofs.lemmas.List.{map-append, length-map}
use Rattle.pm_base.specs.Cuts.{Cut}
use Rattle.pm_market.specs.Lists.{Lists, IsLeaf}
use Rattle.pm_market.specs.State.{State, start, cleared_cut}
use Rattle.pm_market.specs.Moves.{LegalJournal, after, after_from, step, act_of}
use Rattle.pm_market.specs.Held.{lines, lines_from, line_of}
use Rattle.pm_market.specs.declared.moves.Move.{Move}
use Rattle.pm_market.specs.declared.moves.Act.{Act}
use Rattle.pm_market.specs.declared.journal.Line.{Line}
use Rattle.pm_laws.proofs.Order.{after_append, legal_append, never_back}
use Rattle.pm_laws.proofs.Bound.{journal_bound}
use Rattle.pm_plan.specs.Kept.{IsPlan}
use Rattle.pm_plan.specs.Plans.{PlanData, plan_bound}
use Rattle.pm_plan.specs.Market.{plan_lists}
use Rattle.pm_plan.proofs.MarketLists.{bound-is}
use Rattle.pm_offer.specs.Offers.{local_step_at}
use Rattle.pm_stands.specs.Core.{Core}
use Rattle.pm_stands.specs.Stands.{StandsFor}
use Rattle.pm_stands.specs.Actors.{IsMadeLine}
use Rattle.pm_plan.proofs.MarketLists.{lawful}
use Rattle.pm_cluster.specs.Acts.{moves_of, IsRunOf, NeverGoesBack, IsFirstIllegal, NoMoveBy}

-- the lines of a list of moves with one more
pub lines_more : (lists : Lists) (local : Cut → ℕ → ℕ) (ms : List Move) (m : Move) (s : State) →
    lines_from lists local s (ms ++ m ∷ []) ≡ lines_from lists local s ms ++ line_of lists local (after_from lists s ms) m ∷ []
lines_more lists local [] m s = refl
lines_more lists local (n ∷ ns) m s = ap (λ (l : List Line). line_of lists local s n ∷ l) (lines_more lists local ns m (step lists s n))

-- a cluster that stands for the start is that of a run of no acts, with an empty journal
pub run_start : (plan : PlanData) (c : Core) → StandsFor plan c start → IsRunOf plan [] c []
run_start plan c stands = record { legal = tt; forms = refl; lines = refl; stands = stands }

-- a run and a line made in the state after its journal are a run with the act of the line's move at its end
pub run_more : (plan : PlanData) (acts : List Act) (a : Act) (old new : Core) (journal : List Line) (line : Line) → IsRunOf plan acts old journal →
    act_of line.what ≡ a → IsMadeLine plan new (after (plan_lists plan) (moves_of journal)) line →
    IsRunOf plan (acts ++ a ∷ []) new (journal ++ line ∷ [])
run_more plan acts a old new journal line run form made =
    let lists : Lists = plan_lists plan in
    let ms : List Move = moves_of journal in
    let m : Move = line.what in
    let moves : moves_of (journal ++ line ∷ []) ≡ ms ++ m ∷ [] = map-append (λ (l : Line). l.what) journal (line ∷ []) in
    record {
      legal = subst (λ (l : List Move). LegalJournal lists l) (sym moves) (legal_append lists ms (m ∷ []) start run.legal (made.makes.legal, tt));
      forms =
          ap (map act_of) moves ∙ map-append act_of ms (m ∷ []) ∙ ap (λ (l : List Act). l ++ act_of m ∷ []) run.forms
          ∙ ap (λ (x : Act). acts ++ x ∷ []) form;
      lines =
          ap (λ (l : List Line). l ++ line ∷ []) run.lines
          ∙ ap (λ (x : Line). lines lists (local_step_at plan) ms ++ x ∷ []) made.line
          ∙ sym (lines_more lists (local_step_at plan) ms m start) ∙ ap (lines lists (local_step_at plan)) (sym moves);
      stands = subst (λ (t : State). StandsFor plan new t)
          (sym (ap (after lists) moves ∙ after_append lists ms (m ∷ []) start)) made.makes.stands;
    }

-- in a run's journal, of two prices passed to a node the later is of a later clearing, over no older bid
pub run_forward : (plan : PlanData) → IsPlan plan → (acts : List Act) (c : Core)
    (journal : List Line) → IsRunOf plan acts c journal → NeverGoesBack plan journal
run_forward plan is_plan acts c journal run front mid rest x i j is =
    let lists : Lists = plan_lists plan in
    let Back : List Move → Type 0 = λ l. (i < j) × ((d : ℕ) → IsLeaf lists d → cleared_cut (after lists l) i d ≤ cleared_cut (after lists l) j d) in
    subst Back (sym is) (never_back lists (lawful plan is_plan) front mid rest x i j (subst (λ (l : List Move). LegalJournal lists l) is run.legal))

-- the journal of a run has at most as many lines as the plan's bound on moves
pub run_bounded : (plan : PlanData) → IsPlan plan → (acts : List Act) (c : Core)
    (journal : List Line) → IsRunOf plan acts c journal → length journal ≤ plan_bound plan
run_bounded plan is_plan acts c journal run =
    omega (
      arith,
      journal_bound (plan_lists plan) (lawful plan is_plan) (moves_of journal) run.legal,
      bound-is plan is_plan,
      length-map journal (λ (l : Line). l.what),
    )

some_act : (x y : Act) → Some x ≡ Some y → x ≡ y
some_act x y e = cc e

-- where the acts before a place ran and no move by the act there is legal, it is the first illegal act
pub run_illegal : (plan : PlanData) (acts : List Act) (at : ℕ) (a : Act) (c : Core) (journal : List Line) → IsRunOf plan (take at acts) c journal →
    at < length acts → slice_get acts at ≡ Some a → NoMoveBy plan (after (plan_lists plan) (moves_of journal)) a → IsFirstIllegal plan acts at
run_illegal plan acts at a c journal run inside here none = record {
  inside = inside;
  before = moves_of journal;
  legal = run.legal;
  forms = run.forms;
  none = λ m form legal. none m (sym (some_act a (act_of m) (sym here ∙ form))) legal;
}
