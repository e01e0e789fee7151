-- The worked system is over a market.
use Rattle.std.proofs.Common.{◌≡◌, ◌∙◌, ◌⊎◌, Some, ap, ℕ, zero, suc, ◌+◌, ◌<◌, ◌≤◌, false, length, ℤ, pos, negsuc}
use Rattle.std.proofs.Common.{◌≤ℤ◌}
use Rattle.std.proofs.Common.{List, [], ◌∷◌, cond, eqb}
use Rattle.std.proofs.Common.{refl, inr, arith}
use Rattle.std.proofs.lemmas.Int.{ints}
use Rattle.std.proofs.lemmas.Bool.{cond-false}
use Rattle.pm_base.specs.Limits.{IsWithin, demand_limit, most_depth}
use Rattle.pm_bid.specs.Bids.{zeros, demand_at}
use Rattle.pm_market.specs.Lists.{Lists, phases, parent, is_leaf, is_member, changes, end_count, path_depth, path_depth_in, IsNode, IsLeaf}
use Rattle.pm_laws.proofs.Facts.{end_zero}
use Rattle.pm_net.specs.Pricing.{IsChildDevice, HasOneLimit}
use Rattle.pm_net.proofs.Messages.{either}
use Rattle.pm_net_plan.specs.Places.{HasFewChildren}
use Rattle.pm_net_plan.proofs.Children.{small}
use Rattle.pm_base.specs.declared.limits.Limits.{Limits}
use Rattle.pm_relay.specs.Relays.{AreRelayLimits}
use Rattle.pm_system.specs.Given.{IsDemand, IsGiven, IsTreeMarket}
use Rattle.pm_system.specs.Worked.{small_tree, small_places, small_limits, no_giver, small_device_demand, small_offer, small_pricing}
use Rattle.pm_system.proofs.Given.{is_market}

-- what holds of 0 holds of each number below 1
pub only_one : (P : ℕ → Type 0) → P 0 → (k : ℕ) → k < 1 → P k
only_one P one zero inside = one
only_one P one (suc k) inside = absurd (omega (arith, inside))

three_within : (a b c : ℤ) → IsWithin demand_limit a → IsWithin demand_limit b → IsWithin demand_limit c → (step : ℕ) → step < 3 →
    IsWithin demand_limit (demand_at (a ∷ b ∷ c ∷ []) step)
three_within a b c in_a in_b in_c zero inside = in_a
three_within a b c in_a in_b in_c (suc zero) inside = in_b
three_within a b c in_a in_b in_c (suc (suc zero)) inside = in_c
three_within a b c in_a in_b in_c (suc (suc (suc step))) inside = absurd (omega (arith, inside))

two_fall : (a b c : ℤ) → b ≤ℤ a → c ≤ℤ b → (step : ℕ) → step + 1 < 3 →
    demand_at (a ∷ b ∷ c ∷ []) (step + 1) ≤ℤ demand_at (a ∷ b ∷ c ∷ []) step
two_fall a b c ab bc zero inside = ab
two_fall a b c ab bc (suc zero) inside = bc
two_fall a b c ab bc (suc (suc step)) inside = absurd (omega (arith, inside))

-- three powers within the limit of demands that do not rise are a demand at three steps
pub is_demand : (a b c : ℤ) → IsWithin demand_limit a → IsWithin demand_limit b → IsWithin demand_limit c → b ≤ℤ a → c ≤ℤ b →
    IsDemand 3 (a ∷ b ∷ c ∷ [])
is_demand a b c in_a in_b in_c ab bc = record {
  one_each = refl;
  small = three_within a b c in_a in_b in_c;
  falls = two_fall a b c ab bc;
}

-- the powers of the worked systems are within the limit of demands: those up to 9 watts
pub within : (a : ℤ) → pos 0 ≤ℤ a → a ≤ℤ pos 9 → IsWithin demand_limit a
within a low high = record { low = omega (arith, ints, low); high = omega (arith, ints, high) }

-- and those down to -9 watts
pub below : (a : ℤ) → negsuc 8 ≤ℤ a → a ≤ℤ pos 0 → IsWithin demand_limit a
below a low high = record { low = omega (arith, ints, low); high = omega (arith, ints, high) }

-- limits of up to 9 watts either way are limits of a relay
pub are_small : (floor ceiling : ℤ) → negsuc 8 ≤ℤ floor → floor ≤ℤ pos 0 → pos 0 ≤ℤ ceiling → ceiling ≤ℤ pos 9 →
    AreRelayLimits (record { floor = floor; ceiling = ceiling })
are_small floor ceiling low not_above not_below high = record {
  around = record {
    floor_not_positive = not_above;
    ceiling_not_negative = not_below;
    floor_within = record { low = omega (arith, ints, low); high = omega (arith, ints, not_above) };
    ceiling_within = record { low = omega (arith, ints, not_below); high = omega (arith, ints, high) };
  };
  floor = below floor low not_above;
  ceiling = within ceiling not_below high;
}

zeros_are : IsDemand 3 (zeros 3)
zeros_are = is_demand (pos 0) (pos 0) (pos 0) (within (pos 0) (omega (arith, ints)) (omega (arith, ints)))
    (within (pos 0) (omega (arith, ints)) (omega (arith, ints))) (within (pos 0) (omega (arith, ints)) (omega (arith, ints)))
    (omega (arith, ints)) (omega (arith, ints))

-- A worked system is given if its tree is one of one phase, with few nodes, in which no parent is a leaf or a later node, and if what its
-- devices offer are demands.
pub worked_given : (lists : Lists) (offer : ℕ → ℕ → List ℤ) (limits : ℕ → ℕ → Limits) (giver : ℕ → ℕ) → length
    lists.leaves ≡ length lists.parents →
    phases lists ≡ 1 → HasFewChildren lists → ((x : ℕ) → IsNode lists x → parent lists x < x) →
    ((x : ℕ) → IsNode lists x → is_leaf lists (parent lists x) ≡ false) → ((x : ℕ) → IsNode lists x → path_depth lists x ≤ most_depth) →
    ((d : ℕ) → IsLeaf lists d → end_count lists 1 d ≡ changes lists d) → ((d n : ℕ) → IsDemand 3 (offer d n)) →
    ((c n : ℕ) → AreRelayLimits (limits c n)) → ((c : ℕ) → IsChildDevice lists c (giver c) ⊎ HasOneLimit (λ n. Some (limits c n))) →
    IsGiven lists 3 (λ d n. cond (is_member lists d n) (offer d n) (zeros 3)) limits giver
worked_given lists offer limits giver leaves one few earlier inner depth last offers are givers = record {
  law = record {
    leaves = leaves;
    earlier = earlier;
    inner = inner;
    depth = depth;
    ends_rise = λ q d leaf inside. omega (
      arith,
      inside,
      one,
      ap (λ (k : ℕ). end_count lists k d)
          (first q (omega (arith, inside, one))),
      end_zero lists d,
    );
    ends_last = λ d leaf. ap (λ (k : ℕ). end_count lists k d) one ∙ last d leaf;
  };
  one_phase = one;
  few = few;
  are_steps = record { least = omega arith; most = omega arith };
  demands = λ d n. either (λ (l : List ℤ). IsDemand 3 l) (is_member lists d n) (offer d n) (zeros 3) (λ e. offers d n) (λ e. zeros_are);
  absent = λ d n out. cond-false (is_member lists d n) (offer d n) (zeros 3) out;
  are_limits = are;
  givers = givers;
}
  where
    first : (q : ℕ) → q < 1 → q ≡ 0
    first q inside = omega (arith, inside)

offers_are : (d n : ℕ) → IsDemand 3 (small_offer d n)
offers_are d n =
    let Is : List ℤ → Type 0 = λ l. IsDemand 3 l in
    either Is (eqb d 3) (pos 3 ∷ pos 1 ∷ negsuc 0 ∷ [])
    (cond (eqb n 2) (pos 6 ∷ pos 4 ∷ negsuc 1 ∷ []) (pos 6 ∷ negsuc 1 ∷ negsuc 2 ∷ []))
    (λ e. is_demand (pos 3) (pos 1) (negsuc 0) (within (pos 3) (omega (arith, ints)) (omega (arith, ints)))
    (within (pos 1) (omega (arith, ints)) (omega (arith, ints))) (below (negsuc 0) (omega (arith, ints)) (omega (arith, ints)))
    (omega (arith, ints)) (omega (arith, ints)))
    (λ e. either Is (eqb n 2) (pos 6 ∷ pos 4 ∷ negsuc 1 ∷ []) (pos 6 ∷ negsuc 1 ∷ negsuc 2 ∷ [])
    (λ e. is_demand (pos 6) (pos 4) (negsuc 1) (within (pos 6) (omega (arith, ints)) (omega (arith, ints)))
    (within (pos 4) (omega (arith, ints)) (omega (arith, ints))) (below (negsuc 1) (omega (arith, ints)) (omega (arith, ints)))
    (omega (arith, ints)) (omega (arith, ints)))
    (λ e. is_demand (pos 6) (negsuc 1) (negsuc 2) (within (pos 6) (omega (arith, ints)) (omega (arith, ints)))
    (below (negsuc 1) (omega (arith, ints)) (omega (arith, ints))) (below (negsuc 2) (omega (arith, ints)) (omega (arith, ints)))
    (omega (arith, ints)) (omega (arith, ints))))

-- each node is one of three, and each device one of two
pub each_node : (P : ℕ → Type 0) → P 1 → P 2 → P 3 → (x : ℕ) → IsNode small_tree x → P x
each_node P one two three zero node = absurd (omega (arith, node.0))
each_node P one two three (suc zero) node = one
each_node P one two three (suc (suc zero)) node = two
each_node P one two three (suc (suc (suc zero))) node = three
each_node P one two three (suc (suc (suc (suc x)))) node = absurd (omega (arith, node.1))

-- what holds of devices 2 and 3 holds of each leaf
pub each_leaf : (P : ℕ → Type 0) → P 2 → P 3 → (x : ℕ) → IsLeaf small_tree x → P x
unfolding is_leaf
each_leaf P two three zero leaf = absurd cc
each_leaf P two three (suc zero) leaf = absurd cc
each_leaf P two three (suc (suc zero)) leaf = two
each_leaf P two three (suc (suc (suc zero))) leaf = three
each_leaf P two three (suc (suc (suc (suc x)))) leaf = absurd cc

-- so all that holds of markets holds of the small tree, with any limits that are limits of relays
pub small_given : (limits : ℕ → ℕ → Limits) (giver : ℕ → ℕ) → ((c n : ℕ) → AreRelayLimits (limits c n)) →
    ((c : ℕ) → IsChildDevice small_tree c (giver c) ⊎ HasOneLimit (λ n. Some (limits c n))) →
    IsGiven small_tree 3 small_device_demand limits giver
unfolding parent is_leaf path_depth path_depth_in end_count changes
small_given limits giver are givers = worked_given small_tree small_offer limits giver refl refl (small small_tree (omega arith))
    (each_node (λ x. parent small_tree x < x) (omega arith) (omega arith) (omega arith))
    (each_node (λ x. is_leaf small_tree (parent small_tree x) ≡ false) refl refl refl)
    (each_node (λ x. path_depth small_tree x ≤ most_depth) (omega arith) (omega arith) (omega arith))
    (each_leaf (λ d. end_count small_tree 1 d ≡ changes small_tree d) refl refl) offers_are are givers

-- so of the worked system, in which each relay has the same limits under all numbers
pub given : IsGiven small_tree 3 small_device_demand (λ c n. small_limits) no_giver
given = small_given (λ c n. small_limits) no_giver
    (λ c n. are_small (negsuc 2) (pos 7) (omega (arith, ints)) (omega (arith, ints)) (omega (arith, ints)) (omega (arith, ints)))
    (λ c. inr (λ n. refl))

-- the small tree is a market
pub market : IsTreeMarket small_tree small_pricing small_places
market = is_market small_tree 3 small_device_demand (λ c n. small_limits) no_giver given
