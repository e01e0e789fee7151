-- The open phase is closed: the cluster stands for the state after it.
use Rattle.std.proofs.Common.{◌∙◌, ℕ, ℤ, List, refl}
use Rattle.pm_market.specs.State.{State}
use Rattle.pm_market.specs.Moves.{Legal}
use Rattle.pm_market.specs.declared.moves.Move.TheVariants.{Close}
use Rattle.pm_laws.proofs.Kept.{sound_step}
use Rattle.pm_plan.specs.Kept.{IsPlan}
use Rattle.pm_plan.specs.Plans.{PlanData}
use Rattle.pm_plan.specs.Market.{plan_lists}
use Rattle.pm_stands.specs.Core.{Core}
use Rattle.pm_stands.specs.Stands.{StandsFor, MakesMove}
use Rattle.pm_stands.specs.Made.{DidClose, closed_core}
use Rattle.pm_plan.proofs.MarketLists.{lawful}

-- where a close is legal, and the powers at the end of the phase were kept, the move was made
pub close_made : (plan : PlanData) (c : Core) (s : State) (p : ℕ) (powers : List ℤ)
    → IsPlan plan → StandsFor plan c s → Legal (plan_lists plan) s (Close p) → DidClose plan c powers p →
    MakesMove plan (closed_core c powers p) s (Close p)
close_made plan c s p powers is_plan stands legal did = record {
  legal = legal;
  stands = record {
    sound = sound_step (plan_lists plan) (lawful plan is_plan) s stands.sound (Close p) legal;
    shaped = record {
      all_counts = stands.shaped.all_counts;
      all_states = stands.shaped.all_states;
      all_powers = did.same_powers ∙ stands.shaped.all_powers;
      all_links = stands.shaped.all_links;
      all_concentrators = stands.shaped.all_concentrators;
      all_ports = stands.shaped.all_ports;
      rows = stands.shaped.rows;
      link_steps = stands.shaped.link_steps;
      there = stands.shaped.there;
      cache_steps = stands.shaped.cache_steps;
      cache_heads = stands.shaped.cache_heads;
      cache_demands = stands.shaped.cache_demands;
      published_count = stands.shaped.published_count;
      same_limits = stands.shaped.same_limits;
    };
    counts = stands.counts;
    closed = refl;
    states = stands.states;
    powers = λ d leaf positive. did.kept d leaf;
    heads = stands.heads;
    demands = stands.demands;
    bid_offered = stands.bid_offered;
    bid_taken = stands.bid_taken;
    bids = λ x node b waits.
        let at = stands.bids x node b waits in
        record { above = at.above; within = at.within; demand = at.demand; gone = at.gone };
    price_offered = λ x node. let at = stands.price_offered x node in record { due = at.due; most = at.most };
    price_taken = stands.price_taken;
    prices = λ x node q waits.
        let at = stands.prices x node q waits in
        record { above = at.above; due = at.due; step = at.step; number = at.number };
    window_last = stands.window_last;
    window_answered = stands.window_answered;
    records = stands.records;
    sums = stands.sums;
    newest_heads = stands.newest_heads;
    index = stands.index;
    auction_step = stands.auction_step;
    changed = stands.changed;
    joined = stands.joined;
    given_none = stands.given_none;
    given = stands.given;
  };
}
