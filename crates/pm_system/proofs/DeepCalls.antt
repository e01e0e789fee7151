-- The worked system with two relays on the way: each call, one by one.
use Rattle.std.proofs.Common.{ℕ, replicate, refl, inl, inr, arith}
use Rattle.pm_base.specs.Limits.{most_nodes}
use Rattle.pm_base.specs.declared.limits.Limits.{Limits}
use Rattle.pm_bid.specs.Taken.{said_between}
use Rattle.pm_market.specs.Lists.{parent, is_leaf, is_member, changes}
use Rattle.pm_market.specs.State.{update}
use Rattle.pm_net_plan.specs.Places.{children_to, place_in}
use Rattle.pm_relay.specs.Relays.{RelayValue, limits_places}
use Rattle.pm_relay_net.specs.RelayIs.{LimitsPassBy}
use Rattle.pm_system.specs.System.{System, with_root, with_relay}
use Rattle.pm_system.specs.Calls.{SystemRuns}
use Rattle.pm_system.specs.Given.{IsStarted}
use Rattle.pm_system.specs.WorkedDeep.{deep_tree, deep_places, deep_limits, deep_pricing, deep_calls}
use Rattle.pm_system.proofs.WorkedValues.{reaches, relay_up, comes_back, looks_on, has_changed, may_send, may_pass, may_clear, via}
use Rattle.pm_system.proofs.WorkedCalls.{first_system, is_started, offered, told_relay, told_root, sent, cleared, passed, taken, bids, takes_bid}
use Rattle.pm_system.proofs.WorkedCalls.{root_takes_bid, sends_bid, clears_market, passes_price, takes_price}

-- ---- the systems

-- a relay that comes up for the first time, with these limits
abbrev first_relay : Limits → RelayValue
first_relay l = relay_up l (replicate limits_places l) 0 0 0 (replicate most_nodes 0)

-- the relay above x once it learnt the first bid of x
abbrev told : System → ℕ → RelayValue
told sys x = told_relay deep_tree deep_pricing deep_places sys x 0

abbrev heard : System → ℕ → System
heard sys x = with_relay sys (parent deep_tree x) (told sys x)

-- once relay c took its first price, and passed it on
abbrev passed_first : System → ℕ → System
passed_first sys c = passed deep_tree deep_places sys c 0

abbrev pub s0 : System
s0 = first_system (λ c. first_relay (deep_limits c))

-- each node comes up for the first time
pub started : IsStarted deep_tree deep_pricing s0
started = is_started deep_tree deep_pricing (λ c. first_relay (deep_limits c)) refl (λ c conc. (
  deep_limits c,
  refl,
  comes_back (deep_limits c) (replicate limits_places (deep_limits c)) 0 0 0 (replicate most_nodes 0) (deep_limits c) refl,
))

abbrev pub s1 : System
s1 = offered deep_pricing s0 3

abbrev pub s2 : System
s2 = offered deep_pricing s1 4

abbrev pub s3 : System
s3 = heard s2 3

abbrev pub s4 : System
s4 = sent s3 2

abbrev pub s5 : System
s5 = heard s4 2

abbrev pub s6 : System
s6 = heard s5 4

abbrev pub s7 : System
s7 = sent s6 1

abbrev pub s8 : System
s8 = with_root s7 (told_root deep_pricing deep_places s7 1 0)

abbrev pub s9 : System
s9 = cleared deep_tree deep_places s8

abbrev pub s10 : System
s10 = passed_first s9 1

abbrev pub s11 : System
s11 = passed_first s10 2

abbrev pub s12 : System
s12 = taken s11 3 0

abbrev pub s13 : System
s13 = taken s12 4 0

-- ---- the calls

-- the limits are fixed, so they go by no numbers
passes_by : (c x : ℕ) → LimitsPassBy deep_pricing c x
passes_by c x a b same = refl

-- the calls run
pub runs : SystemRuns deep_tree deep_pricing deep_places s0 deep_calls s13
unfolding is_leaf is_member changes parent update place_in children_to said_between reaches has_changed may_send may_pass may_clear
runs =
    -- call 1: device 3 bids
    via s1 (bids deep_tree deep_pricing s0 3 refl (omega arith) refl refl) (
    -- call 2: device 4 bids
    via s2 (bids deep_tree deep_pricing s1 4 refl (omega arith) refl refl) (
    -- call 3: relay 2 takes the bid of device 3
    via s3 (inl (takes_bid deep_tree deep_pricing deep_places s2 3 0 (told s2 3) (omega arith, omega arith) (λ e. absurd (omega (arith, e)))
    (omega arith) (passes_by 2 3) (looks_on (told s2 3) refl))) (
    -- call 4: relay 2 sends its bid
    via s4 (sends_bid deep_tree s3 2 (deep_limits 2) (omega arith, omega arith, refl) refl refl refl) (
    -- call 5: relay 1 takes the bid of relay 2
    via s5 (inl (takes_bid deep_tree deep_pricing deep_places s4 2 0 (told s4 2) (omega arith, omega arith) (λ e. absurd (omega (arith, e)))
    (omega arith) (passes_by 1 2) (looks_on (told s4 2) refl))) (
    -- call 6: relay 1 takes the bid of device 4
    via s6 (inl (takes_bid deep_tree deep_pricing deep_places s5 4 0 (told s5 4) (omega arith, omega arith) (λ e. absurd (omega (arith, e)))
    (omega arith) (passes_by 1 4) (looks_on (told s5 4) refl))) (
    -- call 7: relay 1 sends its bid
    via s7 (sends_bid deep_tree s6 1 (deep_limits 1) (omega arith, omega arith, refl) refl refl refl) (
    -- call 8: the auctioneer takes the bid of relay 1
    via s8 (inr (root_takes_bid deep_tree deep_pricing deep_places s7 1 0 (omega arith, omega arith) refl (omega arith) refl)) (
    -- call 9: the auctioneer clears
    via s9 (clears_market deep_tree deep_places s8 refl) (
    -- call 10: relay 1 takes the price, and passes it on
    via s10 (inl (passes_price deep_tree deep_places s9 1 0 (omega arith, omega arith, refl) (omega arith) refl refl)) (
    -- call 11: relay 2 takes the price, and passes it on
    via s11 (inl (passes_price deep_tree deep_places s10 2 0 (omega arith, omega arith, refl) (omega arith) refl refl)) (
    -- call 12: device 3 takes its price
    via s12 (inr (takes_price deep_tree s11 3 0 refl (omega arith))) (
    -- call 13: device 4 takes its price
    via s13 (inr (takes_price deep_tree s12 4 0 refl (omega arith))) (
    refl)))))))))))))
