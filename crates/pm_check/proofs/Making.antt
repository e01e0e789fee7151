-- A judge makes a move, and says what is then held.
use Rattle.std.proofs.Common.{◌≡◌, ◌∙◌, sym, ap, subst, refl, ℕ, ◌+◌, ◌-◌, ◌<◌, ◌≤◌, true, List}
use Rattle.std.proofs.Common.{[], length, get_or, arith}
use Rattle.std.specs.Prelude.{Some, None, Result, Ok, Err, OnOk, nat_lt, ◌&&◌}
use Rattle.std.proofs.lemmas.Bool.{and_parts, ltb-true, cond-true}
use Rattle.pm_base.specs.Cuts.{Cut, cut_of}
use Rattle.pm_market.specs.Lists.{Lists, is_leaf, is_member, IsLeaf}
use Rattle.pm_market.specs.State.{State, start, last_index, clearings, cleared_cut}
use Rattle.pm_market.specs.Moves.{Legal, step}
use Rattle.pm_market.specs.Held.{holds_price, holding, holding_after}
use Rattle.pm_market.specs.Legality.{is_legal}
use Rattle.pm_market.specs.Sound.{Sound}
use Rattle.pm_market.specs.Market.{market_lists, market_state}
use Rattle.pm_market.specs.declared.market.Market.{Market}
use Rattle.pm_market.specs.declared.moves.Move.{Move}
use Rattle.pm_market.specs.declared.moves.Move.TheVariants.{Change, Learn, Publish, Clear, Pass, Close}
use Rattle.pm_market.proofs.Tree.{leaf_node}
use Rattle.pm_laws.proofs.Facts.{last_within}
use Rattle.pm_laws.proofs.Kept.{sound_start, sound_step}
use Rattle.pm_laws.proofs.Legality.{legal_tested}
use Rattle.pm_plan.specs.Plans.{PlanData, group, end_cut}
use Rattle.pm_plan.specs.Plans as plans
use Rattle.pm_plan.specs.Kept.{IsPlan}
use Rattle.pm_plan.specs.Market.{plan_lists}
use Rattle.pm_plan.proofs.MarketLists.{lawful, is_leaf-is}
use Rattle.pm_offer.specs.Offers.{local_step_at}
use Rattle.pm_walk.specs.Auctions.{IsAuction, auction_cut}
use Rattle.pm_check.specs.declared.judge.Judge.{Judge}
use Rattle.pm_check.specs.declared.steps.ClearedSteps.{ClearedSteps}
use Rattle.pm_check.specs.Judges.{step_rows, HasRow, AreCleared, IsJudge, HasMade, holding_at, held_in}
use Rattle.pm_check.proofs.Cleared.{change_keeps, learn_keeps, pass_keeps, publish_keeps, phase_open, cut_rises, cut_planned, clear_adds}
use Rattle.pm_check.proofs.Cleared.{ends_closed, close_keeps, cleared_start}

-- what follows from one fact on success follows from another
pub on_ok : {A E : Type 0} (P Q : Type 0) → (P → Q) → (r : Result A E) → OnOk r P → OnOk r Q
on_ok P Q follows (Ok x) fact = follows fact
on_ok P Q follows (Err e) fact = fact

-- the plan of a judge is one
pub plan_of : (plan : PlanData) (judge : Judge) → IsJudge plan judge → IsPlan plan
plan_of plan judge is = is.cleared.auction.run.stands.sound

-- a judge before the first move
pub judge_start : (plan : PlanData) (market : Market) (steps : ClearedSteps) → market_lists market ≡ plan_lists plan → market_state market ≡ start →
    steps.closed ≡ 0 → IsAuction plan 0 steps.auction → ((x : ℕ) → auction_cut steps.auction x ≡ 0) → step_rows steps ≡ [] →
    IsJudge plan (record { market = market; steps = steps })
judge_start plan market steps lists state closed auction none rows = record {
  lists = lists;
  sound = subst (Sound (plan_lists plan)) (sym state) (sound_start (plan_lists plan) (lawful plan auction.run.stands.sound));
  cleared = subst (λ (s : State). AreCleared plan s steps) (sym state) (cleared_start plan steps closed auction none rows);
}

module _ (plan : PlanData) (old : Judge) (judge : IsJudge plan old) (m : Move)
    (tested : is_legal (market_lists old.market) (market_state old.market) m ≡ true) where
  abbrev lists : Lists
  lists = plan_lists plan

  abbrev s : State
  s = market_state old.market

  is_plan : IsPlan plan
  is_plan = plan_of plan old judge

  -- a move that passes the test of legality in a judge's market is legal in its state
  pub legal_is : Legal lists s m
  legal_is = (legal_tested lists s m (lawful plan is_plan) judge.sound).0 (subst (λ (ls : Lists). is_legal ls s m ≡ true) judge.lists tested)

  -- where a move passes the test of legality, the judge has not closed all phases of the plan
  pub closed_within : old.steps.closed < plans.phases plan
  closed_within = omega (arith, judge.cleared.closed, phase_open plan is_plan s judge.sound m legal_is)

  module _ (market : Market) (lists_is : market_lists market ≡ market_lists old.market)
      (state_is : market_state market ≡ step (market_lists old.market) s m) where
    made_is : market_state market ≡ step lists s m
    made_is = state_is ∙ ap (λ (ls : Lists). step ls s m) judge.lists

    makes : (steps : ClearedSteps) → AreCleared plan (step lists s m) steps → HasMade plan old (record { market = market; steps = steps }) m
    makes steps are = record {
      judge = record {
        lists = lists_is ∙ judge.lists;
        sound = subst (Sound lists) (sym made_is) (sound_step lists (lawful plan is_plan) s judge.sound m legal_is);
        cleared = subst (λ (t : State). AreCleared plan t steps) (sym made_is) are;
      };
      made = made_is;
    }

    module _ (j : ℕ) (is : m ≡ Clear j) (cut : List ℕ) (cut_is : cut_of cut ≡ cleared_cut (market_state market) j) where
      legal_clear : Legal lists s (Clear j)
      legal_clear = subst (Legal lists s) is legal_is

      cut_cleared : cut_of cut ≡ cleared_cut (step lists s (Clear j)) (clearings s + 1)
      cut_cleared =
          cut_is ∙ ap (λ (t : State). cleared_cut t j) (made_is ∙ ap (step lists s) is)
          ∙ ap (cleared_cut (step lists s (Clear j))) legal_clear.1

      -- the cut of a clearing is at no device below the cut at which the auction stands
      pub clear_rises : (d : ℕ) → plans.is_leaf plan d ≡ true → auction_cut old.steps.auction d ≤ cut_of cut d
      clear_rises d leaf' =
          let leaf : IsLeaf lists d = is_leaf-is plan d ∙ leaf' in
          omega (arith, judge.cleared.cut d leaf, cut_rises plan is_plan s judge.sound j legal_clear d leaf, ap (λ (c : Cut). c d) cut_cleared)

      -- the cut of a clearing is at no device above the end of the open phase
      pub clear_planned : (d : ℕ) → plans.is_leaf plan d ≡ true → cut_of cut d ≤ end_cut plan (old.steps.closed + 1) d
      clear_planned d leaf' =
          let leaf : IsLeaf lists d = is_leaf-is plan d ∙ leaf' in
          omega (
            arith,
            cut_planned plan is_plan s judge.sound j legal_clear d leaf,
            ap (λ (c : Cut). c d) cut_cleared,
            ap (λ (p : ℕ). end_cut plan (p + 1) d) judge.cleared.closed,
          )

      -- a clearing was made once the auction stands at its cut and one row of steps joins those kept
      pub clear_made : (steps : ClearedSteps) → steps.closed ≡ old.steps.closed → IsAuction plan steps.closed steps.auction →
          ((d : ℕ) → plans.is_leaf plan d ≡ true → auction_cut steps.auction d ≡ cut_of cut d) → HasRow plan old.steps steps →
          HasMade plan old (record { market = market; steps = steps }) m
      clear_made steps closed auction cut' row =
          makes steps (subst (λ (k : Move). AreCleared plan (step lists s k) steps) (sym is)
          (clear_adds plan is_plan s judge.sound j legal_clear old.steps steps cut judge.cleared cut_cleared closed auction cut' row))

    module _ (p : ℕ) (is : m ≡ Close p) where
      legal_close : Legal lists s (Close p)
      legal_close = subst (Legal lists s) is legal_is

      -- before a closing the auction stands at the end of the phase that is closed
      pub close_ended : (d : ℕ) → plans.is_leaf plan d ≡ true → auction_cut old.steps.auction d ≡ end_cut plan (old.steps.closed + 1) d
      close_ended d leaf = ends_closed plan is_plan s judge.sound p legal_close old.steps old.steps judge.cleared d leaf

      -- a closing was made once one phase more is closed while the auction's cut and the rows stay
      pub close_made : (steps : ClearedSteps) → steps.closed ≡ old.steps.closed + 1 → IsAuction plan steps.closed steps.auction →
          auction_cut steps.auction ≡ auction_cut old.steps.auction → step_rows steps ≡ step_rows old.steps →
          HasMade plan old (record { market = market; steps = steps }) m
      close_made steps closed auction cut rows =
          makes steps (subst (λ (k : Move). AreCleared plan (step lists s k) steps) (sym is)
          (close_keeps plan is_plan s judge.sound p legal_close old.steps steps judge.cleared closed auction cut rows))

    -- a move that neither clears nor closes leaves what is kept of the clearings
    other_keeps : (k : Move) → Legal lists s k → ((j : ℕ) → k ≡ Clear j → ⊥) → ((p : ℕ) → k ≡ Close p → ⊥) →
        AreCleared plan (step lists s k) old.steps
    other_keeps (Change d n) legal no_clear no_close = change_keeps plan s old.steps d n judge.cleared
    other_keeps (Learn x n) legal no_clear no_close = learn_keeps plan s old.steps x n judge.cleared
    other_keeps (Publish c n) legal no_clear no_close = publish_keeps plan s old.steps c n legal.0.0 judge.cleared
    other_keeps (Clear j) legal no_clear no_close = absurd (no_clear j refl)
    other_keeps (Pass x j) legal no_clear no_close = pass_keeps plan s old.steps x j judge.cleared
    other_keeps (Close p) legal no_clear no_close = absurd (no_close p refl)

    -- a move that neither clears nor closes was made with what is kept of the clearings left as it was
    pub other_made : ((j : ℕ) → m ≡ Clear j → ⊥) → ((p : ℕ) → m ≡ Close p → ⊥) →
        HasMade plan old (record { market = market; steps = old.steps }) m
    other_made no_clear no_close = makes old.steps (other_keeps m legal_is no_clear no_close)

-- ---- what is held

module _ (plan : PlanData) (judge : Judge) (is : IsJudge plan judge) (d : ℕ) (leaf : IsLeaf (plan_lists plan) d)
    (holds : holds_price (market_lists judge.market) (market_state judge.market) d ≡ true) where
  holds_in_plan : holds_price (plan_lists plan) (market_state judge.market) d ≡ true
  holds_in_plan = subst (λ (ls : Lists). holds_price ls (market_state judge.market) d ≡ true) is.lists holds

  -- a price was passed to a device that holds one
  pub was_passed : 1 ≤ last_index (market_state judge.market) d
  unfolding holds_price
  was_passed =
      let t = market_state judge.market in
      let parts = and_parts (nat_lt 0 (last_index t d) && is_member (plan_lists plan) d (t.counts d)) _ holds_in_plan in
      let first = and_parts (nat_lt 0 (last_index t d)) (is_member (plan_lists plan) d (t.counts d)) parts.0 in
      omega (arith, ltb-true 0 (last_index t d) first.0)

  -- for the last clearing passed to a device that holds a price there is a row of steps
  pub has_steps : last_index (market_state judge.market) d ≤ length (step_rows judge.steps)
  has_steps =
      omega (arith, is.cleared.steps_are.one_each, last_within (plan_lists plan) (market_state judge.market) is.sound d)

  -- the step in the row of the clearing passed last and the number in its cut are what the device holds
  pub told_held : (index number step : ℕ) → index ≡ last_index (market_state judge.market) d →
      number ≡ cleared_cut (market_state judge.market) index d →
      step ≡ get_or (get_or (step_rows judge.steps) (index - 1) []) (group plan d) 0 → Some (step, number) ≡ holding_at plan (market_state judge.market) d
  told_held index number step index_is number_is step_is =
      let t = market_state judge.market in
      let node = leaf_node (plan_lists plan) (lawful plan (plan_of plan judge is)) d leaf in
      let within = has_steps in
      let low = was_passed in
      let steps = step_is ∙ is.cleared.steps_are.steps index d (omega (arith, index_is, low))
      (omega (arith, index_is, within, is.cleared.steps_are.one_each)) node
      ∙ ap (λ (j : ℕ). local_step_at plan (cleared_cut t j) d) index_is in
      let numbers = number_is ∙ ap (λ (j : ℕ). cleared_cut t j d) index_is in
      (λ i. Some (steps i, numbers i))
      ∙ sym (cond-true (holds_price (plan_lists plan) t d) (Some (local_step_at plan (cleared_cut t (last_index t d)) d, cleared_cut t (last_index t d) d))
      None holds_in_plan)
      ∙ sym (cond-true (is_leaf (plan_lists plan) d) (holding (plan_lists plan) (local_step_at plan) t d) None leaf)

-- the line of a move says what is held after it
pub held_same : (plan : PlanData) (s : State) (m : Move) → held_in plan (step (plan_lists plan) s m) m
    ≡ holding_after (plan_lists plan) (local_step_at plan) s m
held_same plan s (Change d n) = refl
held_same plan s (Learn x n) = refl
held_same plan s (Publish c n) = refl
held_same plan s (Clear j) = refl
held_same plan s (Pass x j) = refl
held_same plan s (Close p) = refl
