-- Of the worked answers: what the rows of relays and auctioneers share.
use Rattle.std.proofs.Common.{◌≡◌, ◌∙◌, sym, ℕ, zero, suc, ◌<◌, ℤ, ◌≤ℤ◌, List, [], ◌∷◌, length, arith}
use Rattle.std.proofs.lemmas.List.{ext_get_or, length-map}
use Rattle.pm_base.specs.Limits.{most_nodes}
use Rattle.pm_base.specs.declared.limits.Limits.{Limits}
use Rattle.pm_bid.specs.Limited.{NeverBind}
use Rattle.pm_bid.specs.declared.head.BidHead.{BidHead}
use Rattle.pm_relay.specs.Numbers.{child_number, head_number}
use Rattle.pm_system.proofs.WorkedValues.{numbers_of, noted}

-- two powers that are within limits keep them
pub two_keep : (limits : Limits) (a b : ℤ) → (limits.floor ≤ℤ a) × (a ≤ℤ limits.ceiling) →
    (limits.floor ≤ℤ b) × (b ≤ℤ limits.ceiling) →
    NeverBind limits (a ∷ b ∷ [])
two_keep limits a b x y zero inside = x
two_keep limits a b x y (suc zero) inside = y
two_keep limits a b x y (suc (suc n)) inside = absurd (omega (arith, inside))

-- the numbers that are noted of all children are those of their heads
pub recorded_are : (recorded : List ℕ) (heads : List BidHead) → length recorded ≡ most_nodes → length heads ≡ most_nodes →
    ((child : ℕ) → child < most_nodes → child_number recorded child ≡ head_number heads child) → recorded ≡ numbers_of heads
recorded_are recorded heads many all are =
    ext_get_or 0 recorded (numbers_of heads) (many ∙ sym (length-map heads (λ (h : BidHead). h.number) ∙ all))
    (λ child inside. are child (omega (arith, inside, many)) ∙ sym (noted heads child))
