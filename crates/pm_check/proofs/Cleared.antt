-- What a judge keeps of the clearings, after each move.
use Rattle.std.proofs.Common.{◌≡◌, ◌∙◌, sym, ap, subst, refl, ℕ, ◌+◌, ◌-◌, ◌<◌, ◌≤◌, Bool, true, false, cond, List}
use Rattle.std.proofs.Common.{[], ◌∷◌, ◌++◌, length, map, get_or, arith, inl, inr}
use Rattle.std.specs.Prelude.{ℤ, ◌==◌}
use Rattle.std.proofs.Math.Path.{fun_ext}
use Rattle.std.proofs.lemmas.Bool.{cases_Bool, cases_eq, cases_lt}
use Rattle.std.proofs.lemmas.List.{get_or_append_left, get_or_push, length-append}
use Rattle.std.proofs.lemmas.List.Elements.{All-append, All-cons, All-nil}
use Rattle.pm_base.specs.Cuts.{Cut, cut_of}
use Rattle.pm_bid.specs.Bids.{zeros, sum_of}
use Rattle.pm_bid.specs.Clearing.{clearing_step}
use Rattle.pm_bid.specs.Limited.{local_step}
use Rattle.pm_market.specs.Lists.{Lists, IsNode, IsLeaf, phases, Lawful}
use Rattle.pm_market.specs.State.{State, start, cut_at, clearings, cleared_cut, knowledge}
use Rattle.pm_market.specs.Moves.{Legal, step}
use Rattle.pm_market.specs.Sound.{Sound}
use Rattle.pm_market.specs.declared.moves.Move.{Move}
use Rattle.pm_market.specs.declared.moves.Move.TheVariants.{Change, Learn, Publish, Clear, Pass, Close}
use Rattle.pm_market.proofs.Tree.{leaf_node, leaf_zero, leaf_of_auctioneer}
use Rattle.pm_market.proofs.Cuts.{updated_other, updated_same, entry_zero, entry_kept, cut_at_new, newest_leaf}
use Rattle.pm_laws.proofs.Kept.{sound_step}
use Rattle.pm_laws.proofs.Numbers.{cleared_is_part, number_leaf}
use Rattle.pm_laws.proofs.Quiet.{quiet_counts}
use Rattle.pm_plan.specs.Plans.{PlanData, NodeData, node, is_device, limits_of, group, end_cut, node_numbers}
use Rattle.pm_plan.specs.Plans as plans
use Rattle.pm_plan.specs.Kept.{IsPlan}
use Rattle.pm_plan.specs.declared.node.Node.TheVariants.{Concentrator, Limited, Device}
use Rattle.pm_plan.specs.Auction.{States, node_bid, demand_in_cut, part_in, sum_in, plain_step, local_step_of_group, local_step_in}
use Rattle.pm_plan.specs.States.{state}
use Rattle.pm_plan.specs.Market.{plan_lists}
use Rattle.pm_plan.proofs.MarketLists.{lawful, end-is, is_leaf-is, phases-is}
use Rattle.pm_offer.specs.Offers.{local_step_at}
use Rattle.pm_offer.proofs.Laws.{total_alike}
use Rattle.pm_offer.proofs.GroupNodes as group_nodes
use Rattle.pm_walk.specs.Auctions.{IsAuction, auction_cut}
use Rattle.pm_walk.specs.Clearing.{AreGroupSteps}
use Rattle.pm_walk.proofs.Nodes.{group_inside}
use Rattle.pm_check.specs.declared.steps.ClearedSteps.{ClearedSteps}
use Rattle.pm_check.specs.Judges.{step_rows, AreRows, HasRow, AreCleared}
use Rattle.pm_check.proofs.Dues.{no_more}

-- ---- the plain auction knows of a cut the numbers of the devices alone

no_bid : (plan : PlanData) (n : NodeData) (z : ℤ) → is_device n ≡ false → node_bid plan n z ≡ zeros plan.basis.steps
no_bid plan Concentrator z none = refl
no_bid plan (Limited limits) z none = refl
no_bid plan (Device planned) z none = absurd (cc none)

either : {X : Type 0} → (b : Bool) (x : X) → cond b x x ≡ x
either true x = refl
either false x = refl

-- what is no device has no demand
no_demand : (plan : PlanData) (s : States) (cut : Cut) (x : ℕ) → is_device (node plan x) ≡ false → demand_in_cut plan s cut x ≡ zeros plan.basis.steps
unfolding demand_in_cut
no_demand plan s cut x none =
    ap (λ bid. cond (plans.is_member plan x (cut x)) bid (zeros plan.basis.steps)) (no_bid plan (node plan x) (s x (cut x)) none)
    ∙ either (plans.is_member plan x (cut x)) (zeros plan.basis.steps)

module _ (plan : PlanData) (is_plan : IsPlan plan) (a b : Cut) (same : (d : ℕ) → IsLeaf (plan_lists plan) d → a d ≡ b d) where
  same_demand : (x : ℕ) → demand_in_cut plan (state plan) a x ≡ demand_in_cut plan (state plan) b x
  unfolding demand_in_cut
  same_demand x = elim (cases_Bool (plans.is_leaf plan x)) [
    | inl leaf ↦ ap (λ n. cond (plans.is_member plan x n) (node_bid plan (node plan x) (state plan x n)) (zeros plan.basis.steps))
        (same x (is_leaf-is plan x ∙ leaf))
    | inr other ↦
        let none = is_plan.nodes.devices x ∙ other in
        no_demand plan (state plan) a x none ∙ sym (no_demand plan (state plan) b x none)
  ]

  same_part : (g x : ℕ) → part_in plan (state plan) a g x ≡ part_in plan (state plan) b g x
  unfolding part_in
  same_part g x = ap (λ demand. cond (group plan x == g) demand (zeros plan.basis.steps)) (same_demand x)

  same_sum : (g : ℕ) → sum_in plan (state plan) a g ≡ sum_in plan (state plan) b g
  unfolding sum_in
  same_sum g = ap (λ (part : ℕ → List ℤ). sum_of plan.basis.steps (map part (node_numbers plan))) (fun_ext (same_part g))

  same_plain : plain_step plan (state plan) a ≡ plain_step plan (state plan) b
  unfolding plain_step
  same_plain = ap clearing_step (total_alike plan a b is_plan same)

  same_group_step : (g : ℕ) → local_step_of_group plan (state plan) a (plain_step plan (state plan) a) g
      ≡ local_step_of_group plan (state plan) b (plain_step plan (state plan) b) g
  unfolding local_step_of_group
  same_group_step g =
      ap (λ k. local_step (limits_of (node plan g)) k (sum_in plan (state plan) a g)) same_plain
      ∙ ap (local_step (limits_of (node plan g)) (plain_step plan (state plan) b)) (same_sum g)

  -- the steps of one cut are those of the other
  steps_of : (row : List ℕ) → AreGroupSteps plan a row → (x : ℕ) → IsNode (plan_lists plan) x →
      get_or row (group plan x) 0 ≡ local_step_at plan b x
  unfolding local_step_in
  steps_of row are x node =
      are.same (group plan x) (group_inside plan x is_plan (omega (arith, node.1, group_nodes.nodes_are plan is_plan))) ∙ same_group_step (group plan x)

-- ---- moves that clear and close nothing

-- only the clearings and the closed phases matter
cleared_alike : (plan : PlanData) (s t : State) (steps : ClearedSteps) → t.published 0 ≡ s.published 0 → t.closed ≡ s.closed →
    AreCleared plan s steps → AreCleared plan t steps
cleared_alike plan s t steps same closed are = record {
  closed = are.closed ∙ sym closed;
  auction = subst (λ (p : ℕ). IsAuction plan p steps.auction) (sym closed) are.auction;
  cut = λ d leaf. are.cut d leaf ∙ ap (λ (cuts : List Cut). cut_at cuts (length cuts) d) (sym same);
  steps_are = record {
    long = are.steps_are.long;
    one_each = are.steps_are.one_each ∙ ap (λ (cuts : List Cut). length cuts) (sym same);
    steps = λ j x low high node.
        are.steps_are.steps j x low (omega (arith, high, ap (λ (cuts : List Cut). length cuts) same)) node
        ∙ ap (λ (cuts : List Cut). local_step_at plan (cut_at cuts j) x) (sym same);
  };
}

-- what is kept of the clearings is that of the state after a change too
pub change_keeps : (plan : PlanData) (s : State) (steps : ClearedSteps) (d n : ℕ) → AreCleared plan s steps →
    AreCleared plan (step (plan_lists plan) s (Change d n)) steps
change_keeps plan s steps d n are = cleared_alike plan s (step (plan_lists plan) s (Change d n)) steps refl refl are

-- what is kept of the clearings is that of the state after a learning too
pub learn_keeps : (plan : PlanData) (s : State) (steps : ClearedSteps) (x n : ℕ) → AreCleared plan s steps →
    AreCleared plan (step (plan_lists plan) s (Learn x n)) steps
learn_keeps plan s steps x n are = cleared_alike plan s (step (plan_lists plan) s (Learn x n)) steps refl refl are

-- what is kept of the clearings is that of the state after a pass too
pub pass_keeps : (plan : PlanData) (s : State) (steps : ClearedSteps) (x j : ℕ) → AreCleared plan s steps →
    AreCleared plan (step (plan_lists plan) s (Pass x j)) steps
pass_keeps plan s steps x j are = cleared_alike plan s (step (plan_lists plan) s (Pass x j)) steps refl refl are

-- what is kept of the clearings is that of the state after a publishing too, by any node but the auctioneer
pub publish_keeps : (plan : PlanData) (s : State) (steps : ClearedSteps) (c n : ℕ) → 1 ≤ c → AreCleared plan s steps →
    AreCleared plan (step (plan_lists plan) s (Publish c n)) steps
publish_keeps plan s steps c n low are =
    cleared_alike plan s (step (plan_lists plan) s (Publish c n)) steps
    (updated_other s.published c (s.published c ++ knowledge (plan_lists plan) s c ∷ []) 0 (λ same. omega (arith, same, low))) refl are

-- ---- clearings

module _ (plan : PlanData) (is_plan : IsPlan plan) (s : State) (sound : Sound (plan_lists plan) s) where
  abbrev lists : Lists
  lists = plan_lists plan

  law : Lawful lists
  law = lawful plan is_plan

  leaf_in_plan : (d : ℕ) → IsLeaf lists d → plans.is_leaf plan d ≡ true
  leaf_in_plan d leaf = sym (is_leaf-is plan d) ∙ leaf

  -- while a move is legal a phase is open
  pub phase_open : (m : Move) → Legal lists s m → s.closed < plans.phases plan
  phase_open m legal = elim (cases_lt s.closed (phases lists)) [
    | inl going ↦ omega (arith, going, phases-is plan)
    | inr past ↦ absurd (no_more lists s m sound (omega (arith, past, sound.closed_within)) legal)
  ]

  module _ (j : ℕ) (legal : Legal lists s (Clear j)) where
    abbrev next : State
    next = step lists s (Clear j)

    cuts_are : next.published 0 ≡ s.published 0 ++ knowledge lists s 0 ∷ []
    cuts_are = updated_same s.published 0 (s.published 0 ++ knowledge lists s 0 ∷ [])

    -- after a legal clearing there is one clearing more
    pub clearings_are : clearings next ≡ clearings s + 1
    clearings_are = omega (arith, ap (λ (cuts : List Cut). length cuts) cuts_are, length-append (s.published 0) (knowledge lists s 0 ∷ []))

    -- the cut of the new clearing is what the auctioneer knew before it
    pub cleared_new : cleared_cut next (clearings s + 1) ≡ knowledge lists s 0
    cleared_new = ap (λ (cuts : List Cut). cut_at cuts (clearings s + 1)) cuts_are ∙ cut_at_new (s.published 0) (knowledge lists s 0) (clearings s + 1) refl

    cleared_kept : (i : ℕ) → i ≤ clearings s → cleared_cut next i ≡ cleared_cut s i
    cleared_kept i le = ap (λ (cuts : List Cut). cut_at cuts i) cuts_are ∙ entry_kept (s.published 0) (knowledge lists s 0) i le

    -- a clearing is nowhere below the one before it
    pub cut_rises : (d : ℕ) → IsLeaf lists d → cleared_cut s (clearings s) d ≤ cleared_cut next (clearings s + 1) d
    cut_rises d leaf =
        omega (arith, sound.published_known 0 (leaf_zero lists) d (leaf_of_auctioneer lists law d leaf), ap (λ (cut : Cut). cut d) cleared_new)

    -- nor above the end of the open phase
    pub cut_planned : (d : ℕ) → IsLeaf lists d → cleared_cut next (clearings s + 1) d ≤ end_cut plan (s.closed + 1) d
    cut_planned d leaf =
        let node = leaf_node lists law d leaf in
        let after' = sound_step lists law s sound (Clear j) legal in
        let part = cleared_is_part lists law next after' d (clearings s + 1) node (omega (arith, clearings_are)) in
        let going = phase_open (Clear j) legal in
        let is_number = number_leaf lists next.published d (cleared_cut next (clearings s + 1)) leaf in
        let end = end-is plan (s.closed + 1) d node.0 (omega (arith, node.1, group_nodes.nodes_are plan is_plan)) (omega (arith, going)) is_plan.in_phases in
        omega (
          arith,
          is_number,
          part.1,
          after'.learnt_within d node,
          newest_leaf lists next.counts next.published d leaf,
          sound.counts_to (omega (arith, going, phases-is plan)) d leaf,
          end,
        )

    module _ (old new : ClearedSteps) (cut : List ℕ) (are : AreCleared plan s old) (cut_is : cut_of cut ≡ cleared_cut next (clearings s + 1)) where
      -- the steps of one clearing more
      pub clear_adds : new.closed ≡ old.closed → IsAuction plan new.closed new.auction →
          ((d : ℕ) → plans.is_leaf plan d ≡ true → auction_cut new.auction d ≡ cut_of cut d) →
          HasRow plan old new → AreCleared plan next new
      clear_adds closed auction cut' row =
          let here : (d : ℕ) → IsLeaf lists d →
          auction_cut new.auction d ≡ cleared_cut next (clearings s + 1) d = λ d leaf. cut' d (leaf_in_plan d leaf) ∙ ap (λ (c : Cut). c d) cut_is in
          let long : AreRows plan (step_rows new) = subst (AreRows plan) (sym row.1.1)
          (All-append (λ (r : List ℕ). length r ≡ length plan.nodes + 1) (step_rows old) (row.0 ∷ []) are.steps_are.long
          (All-cons (λ (r : List ℕ). length r ≡ length plan.nodes + 1) row.0 [] row.1.0.one_each (All-nil _))) in
          record {
            closed = closed ∙ are.closed;
            auction = subst (λ (p : ℕ). IsAuction plan p new.auction) (closed ∙ are.closed) auction;
            cut = λ d leaf. here d leaf ∙ ap (λ (i : ℕ). cleared_cut next i d) (sym clearings_are);
            steps_are = record {
              long = long;
              one_each = omega (
                arith,
                ap (λ (rs : List (List ℕ)). length rs) row.1.1,
                length-append (step_rows old)
                    (row.0 ∷ []),
                are.steps_are.one_each,
                clearings_are,
              );
              steps = λ i x low high node. elim (cases_eq i (clearings s + 1)) [
                | inl last ↦
                    ap (λ (rs : List (List ℕ)). get_or (get_or rs (i - 1) []) (group plan x) 0) row.1.1
                    ∙ ap (λ (r : List ℕ). get_or r (group plan x) 0)
                    (get_or_push (step_rows old) row.0 [] (i - 1) (omega (arith, last, are.steps_are.one_each)))
                    ∙ steps_of plan is_plan (auction_cut new.auction) (cleared_cut next (clearings s + 1)) here row.0 row.1.0 x node
                    ∙ ap (λ (k : ℕ). local_step_at plan (cleared_cut next k) x) (sym last)
                | inr before ↦
                    let within : i ≤ clearings s = omega (arith, before, high, clearings_are) in
                    ap (λ (rs : List (List ℕ)). get_or (get_or rs (i - 1) []) (group plan x) 0) row.1.1
                    ∙ ap (λ (r : List ℕ). get_or r (group plan x) 0)
                    (get_or_append_left (step_rows old) (row.0 ∷ []) [] (i - 1) (omega (arith, low, within, are.steps_are.one_each)))
                    ∙ are.steps_are.steps i x low within node
                    ∙ ap (λ (c : Cut). local_step_at plan c x) (sym (cleared_kept i within))
              ];
            };
          }

  -- ---- closings

  module _ (p : ℕ) (legal : Legal lists s (Close p)) (old new : ClearedSteps) (are : AreCleared plan s old) where
    -- the auction stands at the end of the phase that is closed
    pub ends_closed : (d : ℕ) → plans.is_leaf plan d ≡ true → auction_cut old.auction d ≡ end_cut plan (old.closed + 1) d
    ends_closed d leaf' =
        let leaf : IsLeaf lists d = is_leaf-is plan d ∙ leaf' in
        let node = leaf_node lists law d leaf in
        let end = end-is plan p d node.0 (omega (arith, node.1, group_nodes.nodes_are plan is_plan)) (omega (arith, legal.1, phases-is plan))
        is_plan.in_phases in
        let phase : p ≡ old.closed + 1 = omega (arith, legal.0, are.closed) in
        are.cut d leaf ∙ quiet_counts lists law s sound legal.3 d leaf ∙ legal.2 d leaf ∙ end ∙ ap (λ (q : ℕ). end_cut plan q d) phase

    -- after a legal closing the same rows and cut, with one phase more closed, are those of the state
    pub close_keeps : new.closed ≡ old.closed + 1 → IsAuction plan new.closed new.auction → auction_cut new.auction ≡ auction_cut old.auction →
        step_rows new ≡ step_rows old →
        AreCleared plan (step lists s (Close p)) new
    close_keeps closed auction cut rows =
        let closed_is : new.closed ≡ p = omega (arith, closed, are.closed, legal.0) in
        record {
          closed = closed_is;
          auction = subst (λ (q : ℕ). IsAuction plan q new.auction) closed_is auction;
          cut = λ d leaf. ap (λ (c : Cut). c d) cut ∙ are.cut d leaf;
          steps_are = record {
            long = subst (AreRows plan) (sym rows) are.steps_are.long;
            one_each = ap (λ (rs : List (List ℕ)). length rs) rows ∙ are.steps_are.one_each;
            steps = λ j x low high node. ap (λ (rs : List (List ℕ)). get_or (get_or rs (j - 1) []) (group plan x) 0) rows
                ∙ are.steps_are.steps j x low high node;
          };
        }

-- ---- before the first move

-- what is kept at the start is no closed phase, an auction at the cut without changes, and no rows
pub cleared_start : (plan : PlanData) (steps : ClearedSteps) → steps.closed ≡ 0 → IsAuction plan 0 steps.auction →
    ((x : ℕ) → auction_cut steps.auction x ≡ 0) →
    step_rows steps ≡ [] → AreCleared plan start steps
cleared_start plan steps closed auction none rows = record {
  closed = closed;
  auction = auction;
  cut = λ d leaf. none d ∙ sym (ap (λ (c : Cut). c d) (entry_zero []));
  steps_are = record {
    long = subst (AreRows plan) (sym rows) (All-nil _);
    one_each = ap (λ (rs : List (List ℕ)). length rs) rows;
    steps = λ j x low high node. absurd (omega (arith, low, high));
  };
}
