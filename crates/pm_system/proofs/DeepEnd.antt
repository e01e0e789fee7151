-- The worked system with two relays on the way, in the end.
use Rattle.std.proofs.Common.{◌≡◌, ◌∙◌, sym, ap, subst, ℕ, ℤ, Some, [], ◌∷◌, ◌<◌, ◌≤◌, false, pos, negsuc}
use Rattle.std.proofs.Common.{List, length, get_or, refl, arith}
use Rattle.std.proofs.lemmas.Int.{ints}
use Rattle.std.specs.List.{All}
use Rattle.pm_bid.specs.Bids.{demand_at}
use Rattle.pm_bid.specs.Taken.{CanSay, HasStepWithin, IsWithinLimits, said_between}
use Rattle.pm_market.specs.Lists.{parent, is_leaf, is_member, changes, IsNode, IsLeaf, IsConcentrator}
use Rattle.pm_market.specs.State.{update}
use Rattle.pm_market.specs.Offers.{sum_on}
use Rattle.pm_net.specs.Flow.{SaysBelow, sum_of_offers}
use Rattle.pm_net.specs.Messages.{BidMessage}
use Rattle.pm_net.specs.TreeAuction.{offer_in, tree_offer, step_in, tree_step}
use Rattle.pm_net_plan.specs.Places.{children_to, place_in, child_in, demands_of}
use Rattle.pm_relay.specs.declared.fault.SendFault.TheVariants as send_fault
use Rattle.pm_relay.specs.declared.fault.RootFault.TheVariants as root_fault
use Rattle.pm_relay.specs.Roots.{newest_index}
use Rattle.pm_system.specs.System.{price_in_channel}
use Rattle.pm_system.specs.Settled.{number_made, number_held, number_taken, index_of_held, numbers_counted, HasNothingToSend}
use Rattle.pm_system.specs.Settled.{IsSettledSystem, IsTakenSystem}
use Rattle.pm_system.specs.Flow.{TakeWhatWasTold}
use Rattle.pm_system.specs.WorkedDeep.{deep_tree, deep_places, deep_limits, deep_pricing, deep_calls, DeepSettles}
use Rattle.pm_system.proofs.DeviceCalls.{ComesBackAsStored}
use Rattle.pm_system.proofs.Flow.{flows_told}
use Rattle.pm_system.proofs.Runs.{system_runs}
use Rattle.pm_system.proofs.Settling.{current_taken}
use Rattle.pm_system.proofs.WorkedValues.{reaches, reached}
use Rattle.pm_system.proofs.WorkedGiven.{only_one}
use Rattle.pm_system.proofs.DeepCalls as calls
use Rattle.pm_system.proofs.DeepCalls.{s0, s13}
use Rattle.pm_system.proofs.DeepGiven.{market, each_node, each_leaf}

bids_are_held : (x : ℕ) → IsNode deep_tree x → number_made deep_tree s13 x ≤ number_held deep_tree deep_places s13 x
unfolding parent is_leaf is_member changes update place_in children_to said_between
bids_are_held x node = each_node (λ x. number_made deep_tree s13 x ≤ number_held deep_tree deep_places s13 x) (omega arith) (omega arith)
    (omega arith) (omega arith) x node

bids_are_noted : (x : ℕ) → IsNode deep_tree x → number_held deep_tree deep_places s13 x ≤ number_taken deep_tree deep_places s13 x
unfolding parent is_leaf is_member changes update place_in children_to said_between
bids_are_noted x node = each_node (λ x. number_held deep_tree deep_places s13 x ≤ number_taken deep_tree deep_places s13 x) (omega arith)
    (omega arith) (omega arith) (omega arith) x node

expired_are_held : (d : ℕ) → IsLeaf deep_tree d →
    All (λ (bid : BidMessage). bid.number ≤ number_held deep_tree deep_places s13 d) (s13.bids_sent d)
unfolding parent is_leaf is_member changes update place_in children_to said_between
expired_are_held d leaf =
    each_leaf (λ d. All (λ (bid : BidMessage). bid.number ≤ number_held deep_tree deep_places s13 d) (s13.bids_sent d))
    (λ k e inside. only_one (λ k. (get_or (s13.bids_sent 3) k e).number ≤ 2) (omega arith) k inside)
    (λ k e inside. only_one (λ k. (get_or (s13.bids_sent 4) k e).number ≤ 2) (omega arith) k inside)
    d leaf

prices_are_taken : (x k : ℕ) → IsNode deep_tree x → k < length (s13.prices_sent x) →
    (price_in_channel s13 x k).index ≤ index_of_held deep_tree s13 x
unfolding parent is_leaf is_member changes update place_in children_to said_between
prices_are_taken x k node inside =
    each_node (λ x. (k : ℕ) → k < length (s13.prices_sent x) → (price_in_channel s13 x k).index ≤ index_of_held deep_tree s13 x)
    (only_one (λ k. (price_in_channel s13 1 k).index ≤ 1) (omega arith))
    (only_one (λ k. (price_in_channel s13 2 k).index ≤ 1) (omega arith))
    (only_one (λ k. (price_in_channel s13 3 k).index ≤ 1) (omega arith))
    (only_one (λ k. (price_in_channel s13 4 k).index ≤ 1) (omega arith))
    x node k inside

children_are_told : (x : ℕ) → IsNode deep_tree x → parent deep_tree x ≡ 0 →
    (k : ℕ) × (k < length (s13.prices_sent x)) × ((price_in_channel s13 x k).index ≡ newest_index s13.root)
unfolding parent is_leaf is_member changes update place_in children_to said_between
children_are_told x node up =
    each_node (λ x. parent deep_tree x ≡ 0 →
    (k : ℕ) × (k < length (s13.prices_sent x)) × ((price_in_channel s13 x k).index ≡ newest_index s13.root))
    (λ up. (0, omega arith, refl)) (λ up. absurd (omega (arith, up))) (λ up. absurd (omega (arith, up))) (λ up. absurd (omega (arith, up))) x node up

relays_are_quiet : (c : ℕ) → IsConcentrator deep_tree c → HasNothingToSend (s13.relays c)
unfolding parent is_leaf is_member changes update place_in children_to said_between reaches
relays_are_quiet c conc =
    each_node (λ c. is_leaf deep_tree c ≡ false → HasNothingToSend (s13.relays c))
    (λ inner. (send_fault.NotChanged, (reached (s13.relays 1).recorded (s13.relays 1).gathered.cache.heads refl, refl), (λ e. absurd cc)))
    (λ inner. (send_fault.NotChanged, (reached (s13.relays 2).recorded (s13.relays 2).gathered.cache.heads refl, refl), (λ e. absurd cc)))
    (λ inner. absurd cc) (λ inner. absurd cc) c (conc.0, conc.1) conc.2

settled : IsSettledSystem deep_tree deep_places s13
unfolding parent is_leaf is_member changes update place_in children_to said_between reaches
settled = record {
  bids = bids_are_held;
  expired = expired_are_held;
  prices = prices_are_taken;
  told = λ x node up here. children_are_told x node up;
  relays = relays_are_quiet;
  root = (root_fault.NotChanged, (reached s13.root.recorded s13.root.auction.cache.heads refl, refl), (λ e. absurd cc));
}

devices_are_told : (d : ℕ) → IsLeaf deep_tree d → newest_index s13.root ≤ index_of_held deep_tree s13 d
unfolding parent is_leaf is_member changes update place_in children_to said_between
devices_are_told d leaf = each_leaf (λ d. newest_index s13.root ≤ index_of_held deep_tree s13 d) (omega arith) (omega arith) d leaf

-- by its numbers and indices alone
is_taken : IsTakenSystem deep_tree deep_places s13
is_taken = record {
  bids = bids_are_held;
  expired = expired_are_held;
  taken = bids_are_noted;
  devices = λ d leaf there. devices_are_told d leaf;
}

-- ---- the steps over the bids that count, and what flows

abbrev counted : ℕ → ℕ
counted = numbers_counted deep_tree deep_places s13

step_1 : deep_pricing.local counted 1 ≡ 1
unfolding parent is_leaf is_member changes update place_in children_to child_in said_between demands_of offer_in tree_offer step_in tree_step
step_1 = refl

step_2 : deep_pricing.local counted 2 ≡ 1
unfolding parent is_leaf is_member changes update place_in children_to child_in said_between demands_of offer_in tree_offer step_in tree_step
step_2 = refl

sum_1 : sum_of_offers deep_pricing counted 1 ≡ pos 3 ∷ pos 0 ∷ negsuc 3 ∷ []
unfolding parent is_leaf is_member changes update place_in children_to child_in said_between demands_of offer_in tree_offer step_in tree_step
sum_1 = refl

sum_2 : sum_of_offers deep_pricing counted 2 ≡ pos 8 ∷ pos 6 ∷ pos 2 ∷ []
unfolding parent is_leaf is_member changes update place_in children_to child_in said_between demands_of offer_in tree_offer step_in tree_step
sum_2 = refl

offer_1 : deep_pricing.offer 1 counted ≡ pos 3 ∷ pos 0 ∷ negsuc 3 ∷ []
unfolding parent is_leaf is_member changes update place_in children_to child_in said_between demands_of offer_in tree_offer step_in tree_step
offer_1 = refl

offer_2 : deep_pricing.offer 2 counted ≡ pos 2 ∷ pos 2 ∷ pos 2 ∷ []
unfolding parent is_leaf is_member changes update place_in children_to child_in said_between demands_of offer_in tree_offer step_in tree_step
offer_2 = refl

says : (top : ℕ) → SaysBelow deep_tree deep_pricing counted top
unfolding is_leaf
says top c conc under =
    each_node (λ c. is_leaf deep_tree c ≡ false → CanSay (Some (deep_limits c)) (deep_pricing.local counted c) (sum_of_offers deep_pricing counted c))
    (λ inner. subst (λ (k : ℕ). CanSay (Some (deep_limits 1)) k (sum_of_offers deep_pricing counted 1)) (sym step_1)
    (subst (λ (l : List ℤ). CanSay (Some (deep_limits 1)) 1 l) (sym sum_1) (record { low = omega (arith, ints); high = omega (arith, ints) })))
    (λ inner. subst (λ (k : ℕ). CanSay (Some (deep_limits 2)) k (sum_of_offers deep_pricing counted 2)) (sym step_2)
    (subst (λ (l : List ℤ). CanSay (Some (deep_limits 2)) 1 l) (sym sum_2) (record { low = omega (arith, ints); high = omega (arith, ints) })))
    (λ inner. absurd cc) (λ inner. absurd cc) c (conc.0, conc.1) conc.2

-- what flows through a relay, by its step, its sum and its offer
flow : (c : ℕ) → IsConcentrator deep_tree c → (sum offer : List ℤ) → sum_of_offers deep_pricing counted c ≡ sum →
    deep_pricing.offer c counted ≡ offer → deep_pricing.local counted c ≡ 1 → HasStepWithin (deep_limits c) sum → (power : ℕ → ℤ) →
    TakeWhatWasTold deep_tree deep_pricing counted s13 c power →
    (sum_on deep_tree c power ≡ demand_at offer 1) × IsWithinLimits (deep_limits c) (sum_on deep_tree c power)
flow c conc sum offer sum_is offer_is step_is within power take =
    let all = flows_told deep_tree deep_pricing deep_places market s13 counted in (
      all.relays c power conc take (says c) ∙ ap (λ (l : List ℤ). demand_at l (deep_pricing.local counted c)) offer_is
          ∙ ap (λ (k : ℕ). demand_at offer k) step_is,
      all.within c power (deep_limits c) conc take (says c) refl (subst (λ (l : List ℤ). HasStepWithin (deep_limits c) l) (sym sum_is) within),
    )

-- the sum at relay 1 is within its limits at step 1, and that at relay 2 at step 2
within_1 : HasStepWithin (deep_limits 1) (pos 3 ∷ pos 0 ∷ negsuc 3 ∷ [])
within_1 = record { step = 1; inside = omega arith; keeps = record { floor = omega (arith, ints); ceiling = omega (arith, ints) } }

within_2 : HasStepWithin (deep_limits 2) (pos 8 ∷ pos 6 ∷ pos 2 ∷ [])
within_2 = record { step = 2; inside = omega arith; keeps = record { floor = omega (arith, ints); ceiling = omega (arith, ints) } }

module _ (back : ComesBackAsStored) where
  -- the system runs, settles and is current, and its values are these
  pub settles : DeepSettles
  unfolding parent is_leaf is_member changes update place_in children_to said_between
  settles = record {
    market = market;
    start = s0;
    started = calls.started;
    sys = s13;
    runs = calls.runs;
    settled = settled;
    taken = is_taken;
    current = current_taken deep_tree deep_pricing deep_places market deep_calls s13
        (system_runs deep_tree deep_pricing deep_places market back s0 s13 deep_calls calls.started calls.runs) is_taken;
    bids_2 = refl;
    bids_1 = refl;
    prices_1 = refl;
    prices_2 = refl;
    prices_3 = refl;
    prices_4 = refl;
    setpoints_3 = refl;
    setpoints_4 = refl;
    flow_2 = flow 2 (omega arith, omega arith, refl) (pos 8 ∷ pos 6 ∷ pos 2 ∷ []) (pos 2 ∷ pos 2 ∷ pos 2 ∷ []) sum_2 offer_2 step_2 within_2;
    flow_1 = flow 1 (omega arith, omega arith, refl) (pos 3 ∷ pos 0 ∷ negsuc 3 ∷ []) (pos 3 ∷ pos 0 ∷ negsuc 3 ∷ []) sum_1 offer_1 step_1
        within_1;
  }
