-- The worked system with two relays on the way is over a market.
use Rattle.std.proofs.Common.{◌≡◌, ℕ, zero, suc, ◌<◌, ◌≤◌, false, pos, negsuc, List, ℤ, [], ◌∷◌, eqb, refl, inr, arith}
use Rattle.std.proofs.lemmas.Int.{ints}
use Rattle.pm_base.specs.Limits.{most_depth}
use Rattle.pm_base.specs.declared.limits.Limits.{Limits}
use Rattle.pm_market.specs.Lists.{parent, is_leaf, changes, end_count, path_depth, path_depth_in, IsNode, IsLeaf}
use Rattle.pm_net.proofs.Messages.{either}
use Rattle.pm_net_plan.proofs.Children.{small}
use Rattle.pm_relay.specs.Relays.{AreRelayLimits}
use Rattle.pm_system.specs.Given.{IsDemand, IsGiven, IsTreeMarket}
use Rattle.pm_system.specs.Worked.{no_giver}
use Rattle.pm_system.specs.WorkedDeep.{deep_tree, deep_places, deep_limits, deep_demand, deep_offer, deep_pricing}
use Rattle.pm_system.proofs.Given.{is_market}
use Rattle.pm_system.proofs.WorkedGiven.{is_demand, within, below, are_small, worked_given}

offers_are : (d n : ℕ) → IsDemand 3 (deep_offer d)
offers_are d n = either (λ (l : List ℤ). IsDemand 3 l) (eqb d 3) (pos 8 ∷ pos 6 ∷ pos 2 ∷ []) (pos 1 ∷ negsuc 1 ∷ negsuc 5 ∷ [])
    (λ e. is_demand (pos 8) (pos 6) (pos 2) (within (pos 8) (omega (arith, ints)) (omega (arith, ints)))
    (within (pos 6) (omega (arith, ints)) (omega (arith, ints))) (within (pos 2) (omega (arith, ints)) (omega (arith, ints)))
    (omega (arith, ints)) (omega (arith, ints)))
    (λ e. is_demand (pos 1) (negsuc 1) (negsuc 5) (within (pos 1) (omega (arith, ints)) (omega (arith, ints)))
    (below (negsuc 1) (omega (arith, ints)) (omega (arith, ints))) (below (negsuc 5) (omega (arith, ints)) (omega (arith, ints)))
    (omega (arith, ints)) (omega (arith, ints)))

-- each node is one of four, each relay one of two, and each device one of two
pub each_node : (P : ℕ → Type 0) → P 1 → P 2 → P 3 → P 4 → (x : ℕ) → IsNode deep_tree x → P x
each_node P one two three four zero node = absurd (omega (arith, node.0))
each_node P one two three four (suc zero) node = one
each_node P one two three four (suc (suc zero)) node = two
each_node P one two three four (suc (suc (suc zero))) node = three
each_node P one two three four (suc (suc (suc (suc zero)))) node = four
each_node P one two three four (suc (suc (suc (suc (suc x))))) node = absurd (omega (arith, node.1))

-- what holds of devices 3 and 4 holds of each leaf
pub each_leaf : (P : ℕ → Type 0) → P 3 → P 4 → (x : ℕ) → IsLeaf deep_tree x → P x
unfolding is_leaf
each_leaf P three four zero leaf = absurd cc
each_leaf P three four (suc zero) leaf = absurd cc
each_leaf P three four (suc (suc zero)) leaf = absurd cc
each_leaf P three four (suc (suc (suc zero))) leaf = three
each_leaf P three four (suc (suc (suc (suc zero)))) leaf = four
each_leaf P three four (suc (suc (suc (suc (suc x))))) leaf = absurd cc

are_limits : (c : ℕ) → AreRelayLimits (deep_limits c)
are_limits c =
    either (λ (l : Limits). AreRelayLimits l) (eqb c 2) (record { floor = negsuc 4; ceiling = pos 5 }) (record { floor = negsuc 8; ceiling = pos 9 })
    (λ e. are_small (negsuc 4) (pos 5) (omega (arith, ints)) (omega (arith, ints)) (omega (arith, ints)) (omega (arith, ints)))
    (λ e. are_small (negsuc 8) (pos 9) (omega (arith, ints)) (omega (arith, ints)) (omega (arith, ints)) (omega (arith, ints)))

given : IsGiven deep_tree 3 deep_demand (λ c n. deep_limits c) no_giver
unfolding parent is_leaf path_depth path_depth_in end_count changes
given = worked_given deep_tree (λ d n. deep_offer d) (λ c n. deep_limits c) no_giver refl refl (small deep_tree (omega arith))
    (each_node (λ x. parent deep_tree x < x) (omega arith) (omega arith) (omega arith) (omega arith))
    (each_node (λ x. is_leaf deep_tree (parent deep_tree x) ≡ false) refl refl refl refl)
    (each_node (λ x. path_depth deep_tree x ≤ most_depth) (omega arith) (omega arith) (omega arith) (omega arith))
    (each_leaf (λ d. end_count deep_tree 1 d ≡ changes deep_tree d) refl refl) offers_are (λ c n. are_limits c)
    (λ c. inr (λ n. refl))

-- the tree is a market
pub market : IsTreeMarket deep_tree deep_pricing deep_places
market = is_market deep_tree 3 deep_demand (λ c n. deep_limits c) no_giver given
