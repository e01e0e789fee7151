-- A board whose open phase was closed.
use Rattle.std.proofs.Common.{◌≡◌, ◌∙◌, sym, ap, subst, refl, ℕ, ◌+◌, ◌-◌, ◌<◌, ◌≤◌, List, [], ◌∷◌, ◌++◌, length, map}
use Rattle.std.proofs.Common.{take, slice_index_or, arith, None}
use Rattle.std.specs.List.{range_with_len}
use Rattle.std.proofs.Math.ListN.{set, length-set}
use Rattle.std.proofs.lemmas.List.{map-append, take_more_set}
use Rattle.std.proofs.Common.{get_or-set_other}
use Rattle.pm_base.proofs.Lists.{range_with_len-more}
use Rattle.pm_market.specs.State.{State}
use Rattle.pm_market.specs.Moves.{after}
use Rattle.pm_market.specs.Journal.{JournalData}
use Rattle.pm_market.specs.declared.moves.Move.TheVariants.{Close}
use Rattle.pm_market.specs.declared.journal.Line.{Line}
use Rattle.pm_plan.specs.Plans.{PlanData, phases, end_cut}
use Rattle.pm_plan.specs.Auction.{EndData}
use Rattle.pm_plan.specs.Ends.{EndValue}
use Rattle.pm_plan.specs.States.{end_of}
use Rattle.pm_plan.specs.Market.{plan_lists}
use Rattle.pm_plan.proofs.MarketLists.{phases-is}
use Rattle.pm_stands.specs.Core.{Core}
use Rattle.pm_stands.specs.Stands.{MakesMove}
use Rattle.pm_stands.specs.Actors.{IsMadeLine}
use Rattle.pm_cluster.specs.Acts.{moves_of}
use Rattle.pm_cluster.specs.Ends.{AreMade}
use Rattle.pm_cluster.proofs.ClosesLegally.{ends_agree}
use Rattle.pm_board.specs.Boards.{kept_ends, ends_to, ClosesPhase}
use Rattle.pm_board.specs.Kept.{HasRoomForAll, no_value, IsBoard}
use Rattle.pm_board.proofs.Grows.{run_on, room_on, adds_line}

-- the line of a close
abbrev pub closing_line : ℕ → Line
closing_line p = record { what = Close p; held = None }

ends_more : (plan : PlanData) (k : ℕ) → ends_to plan (k + 1) ≡ ends_to plan k ++ end_of plan (end_cut plan (k + 1)) ∷ []
ends_more plan k =
    ap (map (λ q. end_of plan (end_cut plan q))) (range_with_len-more 1 k)
    ∙ map-append (λ q. end_of plan (end_cut plan q)) (range_with_len 1 k) ((1 + k) ∷ [])
    ∙ ap (λ (n : ℕ). ends_to plan k ++ end_of plan (end_cut plan n) ∷ []) (omega arith)

kept_more : (ends : List EndValue) (k : ℕ) (e : EndValue) → k < length ends →
    kept_ends (take (k + 1) (set ends k e)) ≡ kept_ends (take k ends) ++ e.end ∷ []
kept_more ends k e inside = ap kept_ends (take_more_set ends k e inside) ∙ map-append (λ (e : EndValue). e.end) (take k ends) (e ∷ [])

module _ (plan : PlanData) (c new : Core) (j : JournalData) (ends : List EndValue) (is : IsBoard plan c j ends)
    (makes : MakesMove plan new (after (plan_lists plan) (moves_of j.lines)) (Close ((after (plan_lists plan) (moves_of j.lines)).closed + 1))) where
  abbrev s : State
  s = after (plan_lists plan) (moves_of j.lines)

  -- the line of the close is that of a legal move, and the new cluster stands for the state after it
  pub made : IsMadeLine plan new s (closing_line (s.closed + 1))
  made = record { makes = makes; line = refl }

  -- the new cluster has one closed phase more
  pub one_more : new.closed ≡ c.closed + 1
  one_more = makes.stands.closed ∙ ap (λ (k : ℕ). k + 1) (sym is.run.stands.closed)

  -- there is an end for the phase
  pub has_end : c.closed < length ends
  has_end = omega (arith, is.run.stands.closed, makes.legal.1, phases-is plan, is.one_each)

  -- all changes of the phases up to it are made
  pub all_made : AreMade plan s.counts (c.closed + 1)
  all_made d leaf =
      makes.legal.2 d leaf ∙ ends_agree plan (s.closed + 1) d is.is_plan leaf (omega (arith, makes.legal.1, phases-is plan))
      ∙ ap (λ (k : ℕ). end_cut plan (k + 1) d) (sym is.run.stands.closed)

  module _ (e : EndValue) (its_end : e.end ≡ end_of plan (end_cut plan (c.closed + 1))) where
    still_vacant : (p : ℕ) → c.closed + 1 ≤ p → p < phases plan → HasRoomForAll plan (slice_index_or (set ends c.closed e) p no_value)
    still_vacant p low high =
        subst (HasRoomForAll plan) (sym (get_or-set_other ends c.closed p e no_value (omega (arith, low)))) (is.vacant p (omega (arith, low)) high)

    ended_more : kept_ends (take (c.closed + 1) (set ends c.closed e)) ≡ ends_to plan (c.closed + 1)
    ended_more =
        kept_more ends c.closed e has_end ∙ ap (λ (x : EndData). kept_ends (take c.closed ends) ++ x ∷ []) its_end
        ∙ ap (λ (xs : List EndData). xs ++ end_of plan (end_cut plan (c.closed + 1)) ∷ []) is.ended ∙ sym (ends_more plan c.closed)

    -- with the line of the close in the journal and the phase's end among the ends, a board is a board
    pub board_closed : (j' : JournalData) → j'.lines ≡ j.lines ++ closing_line (s.closed + 1) ∷ [] → j'.spare ≡ j.spare - 1 →
        IsBoard plan new j' (set ends c.closed e)
    board_closed j' added spared = record {
      is_plan = is.is_plan;
      run = run_on plan c new j ends (closing_line (s.closed + 1)) is made j'.lines added;
      room = room_on plan c new j ends (closing_line (s.closed + 1)) is made j' added spared;
      one_each = length-set ends c.closed e ∙ is.one_each;
      ended = rw one_more ended_more;
      vacant = rw one_more still_vacant;
    }

    -- with the line of the close in the journal and the phase's end kept, the open phase was closed
    pub phase_closed : (plan' : PlanData) (lines : List Line) → plan' ≡ plan → lines ≡ j.lines ++ closing_line (s.closed + 1) ∷ [] →
        ClosesPhase (record { plan = plan; lines = j.lines; ends = take c.closed ends })
        (record { plan = plan'; lines = lines; ends = take new.closed (set ends c.closed e) })
    phase_closed plan' lines same added = record {
      adds = adds_line plan c new j ends (closing_line (s.closed + 1)) is made plan' _ _ lines same added;
      ends =
          ap (λ (k : ℕ). kept_ends (take k (set ends c.closed e))) one_more ∙ kept_more ends c.closed e has_end
          ∙ ap (λ (x : EndData). kept_ends (take c.closed ends) ++ x ∷ [])
          (its_end ∙ ap (λ (k : ℕ). end_of plan (end_cut plan (k + 1))) is.run.stands.closed);
    }
