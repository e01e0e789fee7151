-- The worked system: each call, one by one.
use Rattle.std.proofs.Common.{ℕ, false, List, replicate, refl, inl, inr, arith}
use Rattle.pm_base.specs.Limits.{most_nodes}
use Rattle.pm_bid.specs.Taken.{said_between}
use Rattle.pm_market.specs.Lists.{parent, is_leaf, is_member, changes}
use Rattle.pm_market.specs.State.{update}
use Rattle.pm_net.specs.Messages.{bid_message}
use Rattle.pm_net_plan.specs.Places.{children_to, place_in}
use Rattle.pm_concentrator.specs.Concentrators.{own_demand}
use Rattle.pm_relay.specs.Relays.{RelayValue, limits_places}
use Rattle.pm_relay_net.specs.RelayIs.{LimitsPassBy}
use Rattle.pm_system.specs.System.{System, with_root, with_relay, with_bid_sent}
use Rattle.pm_system.specs.Calls.{RelayRestarts, SystemRuns}
use Rattle.pm_system.specs.Given.{IsStarted}
use Rattle.pm_system.specs.Worked.{small_tree, small_places, small_limits, small_pricing, small_calls}
use Rattle.pm_system.proofs.WorkedValues.{relay_up, comes_back, looks_on, has_changed, sent_relay, may_send, sends, rebuilt_relay, hears_again, has_again}
use Rattle.pm_system.proofs.WorkedValues.{may_pass, may_clear, via}
use Rattle.pm_system.proofs.WorkedCalls.{first_system, is_started, offered, told_relay, told_root, sent, cleared, passed, taken, bids, takes_bid}
use Rattle.pm_system.proofs.WorkedCalls.{root_takes_bid, sends_bid, clears_market, passes_price, takes_price}
use Rattle.pm_system.proofs.WorkedValues.{reaches, suffices}

-- ---- the values

-- a relay of this system, as it comes back
abbrev pub relay_back : ℕ → ℕ → ℕ → List ℕ → RelayValue
relay_back last number index' numbers = relay_up small_limits (replicate limits_places small_limits) last number index' numbers

-- ---- the systems

abbrev told : System → ℕ → ℕ → RelayValue
told sys x k = told_relay small_tree small_pricing small_places sys x k

abbrev heard : System → ℕ → ℕ → System
heard sys x k = with_relay sys 1 (told sys x k)

abbrev root_heard : System → ℕ → System
root_heard sys k = with_root sys (told_root small_pricing small_places sys 1 k)

abbrev first_relay : RelayValue
first_relay = relay_back 0 0 0 (replicate most_nodes 0)

abbrev pub s0 : System
s0 = first_system (λ c. first_relay)

abbrev pub s1 : System
s1 = offered small_pricing s0 2

abbrev pub s2 : System
s2 = offered small_pricing s1 3

abbrev pub s3 : System
s3 = heard s2 2 0

abbrev pub s4 : System
s4 = heard s3 3 0

abbrev pub s5 : System
s5 = sent s4 1

abbrev pub s6 : System
s6 = root_heard s5 0

abbrev pub s7 : System
s7 = cleared small_tree small_places s6

abbrev pub s8 : System
s8 = offered small_pricing s7 2

abbrev pub s9 : System
s9 = heard s8 2 1

abbrev pub s10 : System
s10 = with_relay s9 1 (sent_relay (s9.relays 1))

abbrev pub s11 : System
s11 = with_relay s10 1 (relay_back 2 0 0 (s10.relays 1).recorded)

abbrev pub s12 : System
s12 = heard s11 3 0

abbrev pub s13 : System
s13 = with_relay s12 1 (rebuilt_relay (told s12 2 1))

abbrev pub s14 : System
s14 = with_bid_sent s13 1 (bid_message 2 false (own_demand (s13.relays 1).gathered))

abbrev pub s15 : System
s15 = root_heard s14 1

abbrev pub s16 : System
s16 = cleared small_tree small_places s15

abbrev pub s17 : System
s17 = passed small_tree small_places s16 1 1

abbrev pub s18 : System
s18 = taken s17 2 0

abbrev pub s19 : System
s19 = taken s18 3 0

abbrev pub s20 : System
s20 = taken s19 3 0

-- ---- the calls

-- each node comes up for the first time
pub started : IsStarted small_tree small_pricing s0
started = is_started small_tree small_pricing (λ c. first_relay) refl
    (λ c conc. (small_limits, refl, comes_back small_limits (replicate limits_places small_limits) 0 0 0 (replicate most_nodes 0) small_limits refl))

-- the limits are fixed, so they go by no numbers
passes_by : (x : ℕ) → LimitsPassBy small_pricing 1 x
passes_by x a b same = refl

comes_back_again : RelayRestarts small_tree small_pricing s10 1 0 s11
unfolding is_leaf is_member changes parent update place_in children_to said_between reaches suffices has_changed may_send
comes_back_again = record {
  conc = (omega arith, omega arith, refl);
  limits = small_limits;
  limited = refl;
  under = small_limits;
  under_is = refl;
  relay = _;
  back = comes_back small_limits (replicate limits_places small_limits) 2 0 0 (s10.relays 1).recorded small_limits refl;
  new_is = refl;
}

-- the calls run
pub runs : SystemRuns small_tree small_pricing small_places s0 small_calls s20
unfolding is_leaf is_member changes parent update place_in children_to said_between reaches suffices has_changed may_send hears_again may_pass may_clear
runs =
    -- call 1: device 2 bids
    via s1 (bids small_tree small_pricing s0 2 refl (omega arith) refl refl) (
    -- call 2: device 3 bids
    via s2 (bids small_tree small_pricing s1 3 refl (omega arith) refl refl) (
    -- call 3: the relay takes the bid of device 2
    via s3 (inl (takes_bid small_tree small_pricing small_places s2 2 0 (told s2 2 0) (omega arith, omega arith) (λ e. absurd (omega (arith, e)))
    (omega arith) (passes_by 2) (looks_on (told s2 2 0) refl))) (
    -- call 4: the relay takes the bid of device 3
    via s4 (inl (takes_bid small_tree small_pricing small_places s3 3 0 (told s3 3 0) (omega arith, omega arith) (λ e. absurd (omega (arith, e)))
    (omega arith) (passes_by 3) (looks_on (told s3 3 0) refl))) (
    -- call 5: the relay sends its bid
    via s5 (sends_bid small_tree s4 1 small_limits (omega arith, omega arith, refl) refl refl refl) (
    -- call 6: the auctioneer takes the relay's bid
    via s6 (inr (root_takes_bid small_tree small_pricing small_places s5 1 0 (omega arith, omega arith) refl (omega arith) refl)) (
    -- call 7: the auctioneer clears
    via s7 (clears_market small_tree small_places s6 refl) (
    -- call 8: device 2 bids anew
    via s8 (bids small_tree small_pricing s7 2 refl (omega arith) refl refl) (
    -- call 9: the relay takes the new bid
    via s9 (inl (takes_bid small_tree small_pricing small_places s8 2 1 (told s8 2 1) (omega arith, omega arith) (λ e. absurd (omega (arith, e)))
    (omega arith) (passes_by 2) (looks_on (told s8 2 1) refl))) (
    -- call 10: the relay stops between what it keeps and its bid
    via s10 (inl (record {
      conc = (omega arith, omega arith, refl);
      relay = _;
      number = 2;
      sent = sends (s9.relays 1) small_limits refl refl refl;
      new_is = refl;
    })) (
    -- call 11: the relay restarts
    via s11 (inr (inl comes_back_again)) (
    -- call 12: it hears device 3 again
    via s12 (inl (takes_bid small_tree small_pricing small_places s11 3 0 (told s11 3 0) (omega arith, omega arith) (λ e. absurd (omega (arith, e)))
    (omega arith) (passes_by 3) (inr ((λ h. omega (arith, h.caught_up 0 (omega arith))), refl)))) (
    -- call 13: it hears device 2 again, and has its record
    via s13 (inl (takes_bid small_tree small_pricing small_places s12 2 1 (rebuilt_relay (told s12 2 1)) (omega arith, omega arith)
    (λ e. absurd (omega (arith, e))) (omega arith) (passes_by 2) (has_again (told s12 2 1) refl refl refl))) (
    -- call 14: it sends its bid again
    via s14 (inl (record { conc = (omega arith, omega arith, refl); has = omega arith; new_is = refl })) (
    -- call 15: the auctioneer takes it
    via s15 (inr (root_takes_bid small_tree small_pricing small_places s14 1 1 (omega arith, omega arith) refl (omega arith) refl)) (
    -- call 16: the auctioneer clears again
    via s16 (clears_market small_tree small_places s15 refl) (
    -- call 17: the relay takes the price
    via s17 (inl (passes_price small_tree small_places s16 1 1 (omega arith, omega arith, refl) (omega arith) refl refl)) (
    -- call 18: device 2 takes its price
    via s18 (inr (takes_price small_tree s17 2 0 refl (omega arith))) (
    -- call 19: device 3 takes its price
    via s19 (inr (takes_price small_tree s18 3 0 refl (omega arith))) (
    -- call 20: device 3 takes it once more, and is told nothing
    via s20 (inr (takes_price small_tree s19 3 0 refl (omega arith))) (
    refl))))))))))))))))))))
