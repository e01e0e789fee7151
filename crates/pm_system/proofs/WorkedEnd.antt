-- The worked system in the end.
use Rattle.std.proofs.Common.{◌≡◌, ◌∙◌, sym, ap, subst, ℕ, ℤ, zero, suc, Some, [], ◌∷◌, ◌<◌, ◌≤◌, false, pos, negsuc}
use Rattle.std.proofs.Common.{List, length, get_or, refl, arith}
use Rattle.std.proofs.lemmas.Int.{ints}
use Rattle.pm_bid.specs.Bids.{demand_at}
use Rattle.pm_bid.specs.Taken.{CanSay, HasStepWithin, IsWithinLimits, said_between}
use Rattle.pm_market.specs.Lists.{parent, is_leaf, is_member, changes, IsNode, IsLeaf, IsConcentrator}
use Rattle.pm_market.specs.State.{update}
use Rattle.pm_market.specs.Offers.{sum_on}
use Rattle.pm_net.specs.Flow.{SaysBelow, sum_of_offers}
use Rattle.pm_net.specs.TreeAuction.{offer_in, tree_offer, step_in, tree_step}
use Rattle.pm_net_plan.specs.Places.{children_to, place_in, child_in, demands_of}
use Rattle.std.specs.List.{All}
use Rattle.pm_net.specs.Messages.{BidMessage}
use Rattle.pm_relay.specs.declared.fault.SendFault.TheVariants as send_fault
use Rattle.pm_relay.specs.declared.fault.RootFault.TheVariants as root_fault
use Rattle.pm_relay.specs.Roots.{newest_index}
use Rattle.pm_system.specs.System.{price_in_channel}
use Rattle.pm_system.specs.Settled.{number_made, number_held, index_of_held, numbers_counted, IsSettledSystem, HasNothingToSend}
use Rattle.pm_system.specs.Flow.{TakeWhatWasTold}
use Rattle.pm_system.specs.Worked.{small_tree, small_places, small_limits, small_pricing, small_calls, Settles}
use Rattle.pm_system.proofs.DeviceCalls.{ComesBackAsStored}
use Rattle.pm_system.proofs.Flow.{flows_told}
use Rattle.pm_system.proofs.Runs.{system_runs}
use Rattle.pm_system.proofs.Settling.{current}
use Rattle.pm_system.proofs.Worked as worked
use Rattle.pm_system.proofs.Worked.{s0, s20}
use Rattle.pm_system.proofs.WorkedValues.{reaches, reached}
use Rattle.pm_system.proofs.WorkedGiven.{market, each_node, each_leaf, only_one}

bids_are_held : (x : ℕ) → IsNode small_tree x → number_made small_tree s20 x ≤ number_held small_tree small_places s20 x
unfolding parent is_leaf is_member changes update place_in children_to said_between
bids_are_held x node =
    each_node (λ x. number_made small_tree s20 x ≤ number_held small_tree small_places s20 x) (omega arith) (omega arith) (omega arith) x node

one_or_two : (P : ℕ → Type 0) → P 0 → P 1 → (k : ℕ) → k < 2 → P k
one_or_two P one two zero inside = one
one_or_two P one two (suc zero) inside = two
one_or_two P one two (suc (suc k)) inside = absurd (omega (arith, inside))

expired_are_held : (d : ℕ) → IsLeaf small_tree d →
    All (λ (bid : BidMessage). bid.number ≤ number_held small_tree small_places s20 d) (s20.bids_sent d)
unfolding parent is_leaf is_member changes update place_in children_to said_between
expired_are_held d leaf =
    each_leaf (λ d. All (λ (bid : BidMessage). bid.number ≤ number_held small_tree small_places s20 d) (s20.bids_sent d))
    (λ k e inside. one_or_two (λ k. (get_or (s20.bids_sent 2) k e).number ≤ 4) (omega arith) (omega arith) k inside)
    (λ k e inside. only_one (λ k. (get_or (s20.bids_sent 3) k e).number ≤ 2) (omega arith) k inside)
    d leaf

prices_are_taken : (x k : ℕ) → IsNode small_tree x → k < length (s20.prices_sent x) →
    (price_in_channel s20 x k).index ≤ index_of_held small_tree s20 x
unfolding parent is_leaf is_member changes update place_in children_to said_between
prices_are_taken x k node inside =
    each_node (λ x. (k : ℕ) → k < length (s20.prices_sent x) → (price_in_channel s20 x k).index ≤ index_of_held small_tree s20 x)
    (one_or_two (λ k. (price_in_channel s20 1 k).index ≤ 2) (omega arith) (omega arith))
    (only_one (λ k. (price_in_channel s20 2 k).index ≤ 2) (omega arith))
    (only_one (λ k. (price_in_channel s20 3 k).index ≤ 2) (omega arith))
    x node k inside

children_are_told : (x : ℕ) → IsNode small_tree x → parent small_tree x ≡ 0 →
    (k : ℕ) × (k < length (s20.prices_sent x)) × ((price_in_channel s20 x k).index ≡ newest_index s20.root)
unfolding parent is_leaf is_member changes update place_in children_to said_between
children_are_told x node up =
    each_node (λ x. parent small_tree x ≡ 0 →
    (k : ℕ) × (k < length (s20.prices_sent x)) × ((price_in_channel s20 x k).index ≡ newest_index s20.root))
    (λ up. (1, omega arith, refl)) (λ up. absurd (omega (arith, up))) (λ up. absurd (omega (arith, up))) x node up

relays_are_quiet : (c : ℕ) → IsConcentrator small_tree c → HasNothingToSend (s20.relays c)
unfolding parent is_leaf is_member changes update place_in children_to said_between reaches
relays_are_quiet c conc =
    each_node (λ c. is_leaf small_tree c ≡ false → HasNothingToSend (s20.relays c))
    (λ inner. (send_fault.NotChanged, (reached (s20.relays 1).recorded (s20.relays 1).gathered.cache.heads refl, refl), (λ e. absurd cc)))
    (λ inner. absurd cc) (λ inner. absurd cc) c (conc.0, conc.1) conc.2

settled : IsSettledSystem small_tree small_places s20
unfolding parent is_leaf is_member changes update place_in children_to said_between reaches
settled = record {
  bids = bids_are_held;
  expired = expired_are_held;
  prices = prices_are_taken;
  told = λ x node up here. children_are_told x node up;
  relays = relays_are_quiet;
  root = (root_fault.NotChanged, (reached s20.root.recorded s20.root.auction.cache.heads refl, refl), (λ e. absurd cc));
}

-- ---- the steps over the bids that count, and what flows

abbrev counted : ℕ → ℕ
counted = numbers_counted small_tree small_places s20

step_1 : small_pricing.local counted 1 ≡ 0
unfolding parent is_leaf is_member changes update place_in children_to child_in said_between demands_of offer_in tree_offer step_in tree_step
step_1 = refl

step_2 : small_pricing.local counted 2 ≡ 1
unfolding parent is_leaf is_member changes update place_in children_to child_in said_between demands_of offer_in tree_offer step_in tree_step
step_2 = refl

step_3 : small_pricing.local counted 3 ≡ 1
unfolding parent is_leaf is_member changes update place_in children_to child_in said_between demands_of offer_in tree_offer step_in tree_step
step_3 = refl

sum_is : sum_of_offers small_pricing counted 1 ≡ pos 9 ∷ negsuc 0 ∷ negsuc 3 ∷ []
unfolding parent is_leaf is_member changes update place_in children_to child_in said_between demands_of offer_in tree_offer step_in tree_step
sum_is = refl

offer_is : small_pricing.offer 1 counted ≡ negsuc 0 ∷ negsuc 0 ∷ negsuc 0 ∷ []
unfolding parent is_leaf is_member changes update place_in children_to child_in said_between demands_of offer_in tree_offer step_in tree_step
offer_is = refl

says : SaysBelow small_tree small_pricing counted 1
unfolding is_leaf
says c conc under =
    each_node (λ c. is_leaf small_tree c ≡ false → CanSay (Some small_limits) (small_pricing.local counted c) (sum_of_offers small_pricing counted c))
    (λ inner. subst (λ (k : ℕ). CanSay (Some small_limits) k (sum_of_offers small_pricing counted 1)) (sym step_1)
    (subst (λ (l : List ℤ). CanSay (Some small_limits) 0 l) (sym sum_is) (record { low = omega (arith, ints); high = omega (arith, ints) })))
    (λ inner. absurd cc) (λ inner. absurd cc) c (conc.0, conc.1) conc.2

flow : (power : ℕ → ℤ) → TakeWhatWasTold small_tree small_pricing counted s20 1 power →
    (sum_on small_tree 1 power ≡ negsuc 0) × IsWithinLimits small_limits (sum_on small_tree 1 power)
unfolding is_leaf
flow power take =
    let conc : IsConcentrator small_tree 1 = (omega arith, omega arith, refl) in
    let all = flows_told small_tree small_pricing small_places market s20 counted in (
      all.relays 1 power conc take says ∙ ap (λ (l : List ℤ). demand_at l (small_pricing.local counted 1)) offer_is
          ∙ ap (λ (k : ℕ). demand_at (negsuc 0 ∷ negsuc 0 ∷ negsuc 0 ∷ []) k) step_1,
      all.within 1 power small_limits conc take says refl
          (subst (λ (l : List ℤ). HasStepWithin small_limits l) (sym sum_is)
          (record { step = 1; inside = omega arith; keeps = record { floor = omega (arith, ints); ceiling = omega (arith, ints) } })),
    )

module _ (back : ComesBackAsStored) where
  -- the worked system runs, settles and is current, and its values are these
  pub settles : Settles
  unfolding parent is_leaf is_member changes update place_in children_to said_between
  settles = record {
    market = market;
    start = s0;
    started = worked.started;
    sys = s20;
    runs = worked.runs;
    settled = settled;
    current = current small_tree small_pricing small_places market small_calls s20
        (system_runs small_tree small_pricing small_places market back s0 s20 small_calls worked.started worked.runs) settled;
    prices_1 = refl;
    prices_2 = refl;
    prices_3 = refl;
    setpoints_2 = refl;
    setpoints_3 = refl;
    step_1 = step_1;
    step_2 = step_2;
    step_3 = step_3;
    flow = flow;
  }
