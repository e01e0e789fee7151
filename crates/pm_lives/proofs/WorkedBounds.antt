-- The bids of the worked lives are within the bounds of any bid.
use Rattle.std.proofs.Common.{zero, suc, ℤ, pos, negsuc, neg_ℤ, ◌≤ℤ◌, List, [], ◌∷◌, arith}
use Rattle.std.proofs.lemmas.Int.{ints}
use Rattle.pm_base.specs.Limits.{demand_limit}
use Rattle.pm_bid.specs.Limited.{NeverBind}
use Rattle.pm_market.specs.Lists.{is_member}
use Rattle.pm_system.specs.Given.{IsDemand}
use Rattle.pm_system.proofs.WorkedGiven.{given}
use Rattle.pm_services.specs.Bounds.{widest}

-- what the field of a power has
abbrev pub Fits : ℤ → Type 0
Fits z = (neg_ℤ (pos demand_limit) ≤ℤ z) × (z ≤ℤ pos demand_limit)

-- three powers that a bid may have
pub three_keep : (a b c : ℤ) → Fits a → Fits b → Fits c → NeverBind widest (a ∷ b ∷ c ∷ [])
three_keep a b c x y z zero inside = x
three_keep a b c x y z (suc zero) inside = y
three_keep a b c x y z (suc (suc zero)) inside = z
three_keep a b c x y z (suc (suc (suc n))) inside = absurd (omega (arith, inside))

-- a demand at three steps is one
pub demand_keeps : (demand : List ℤ) → IsDemand 3 demand → NeverBind widest demand
demand_keeps demand is step inside = let at = is.small step (omega (arith, inside, is.one_each)) in (at.low, at.high)

-- the bid of device 2
pub first_keeps : NeverBind widest (pos 6 ∷ pos 4 ∷ negsuc 1 ∷ [])
unfolding is_member
first_keeps = demand_keeps (pos 6 ∷ pos 4 ∷ negsuc 1 ∷ []) (given.demands 2 2)

-- and its next one
pub then_keeps : NeverBind widest (pos 6 ∷ negsuc 1 ∷ negsuc 2 ∷ [])
unfolding is_member
then_keeps = demand_keeps (pos 6 ∷ negsuc 1 ∷ negsuc 2 ∷ []) (given.demands 2 4)

-- that of device 3
pub other_keeps : NeverBind widest (pos 3 ∷ pos 1 ∷ negsuc 0 ∷ [])
unfolding is_member
other_keeps = demand_keeps (pos 3 ∷ pos 1 ∷ negsuc 0 ∷ []) (given.demands 3 2)

-- those of the relay
pub relay_keeps : NeverBind widest (pos 5 ∷ pos 5 ∷ negsuc 2 ∷ [])
relay_keeps =
    three_keep (pos 5) (pos 5) (negsuc 2) (omega (arith, ints), omega (arith, ints)) (omega (arith, ints), omega (arith, ints))
    (omega (arith, ints), omega (arith, ints))

-- and its next one
pub again_keeps : NeverBind widest (negsuc 0 ∷ negsuc 0 ∷ negsuc 0 ∷ [])
again_keeps =
    three_keep (negsuc 0) (negsuc 0) (negsuc 0) (omega (arith, ints), omega (arith, ints)) (omega (arith, ints), omega (arith, ints))
    (omega (arith, ints), omega (arith, ints))
