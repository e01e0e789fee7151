-- The offers that an agent keeps are all of the device's present membership.
use Rattle.std.proofs.Common.{◌≡◌, ◌∙◌, ap, ℕ, zero, suc, ◌+◌, ◌<◌, true, List}
use Rattle.std.proofs.Common.{[], ◌∷◌, length, get_or, arith}
use Rattle.std.specs.List.{All}
use Rattle.pm_market.specs.Lists.{Lists, is_member}
use Rattle.pm_net.specs.Pricing.{Pricing}
use Rattle.pm_net.specs.Agents.{Offer, DeviceAgent}
use Rattle.pm_net.specs.Devices.{IsKeptOffer, AreFrom, AgentIs, IsOfThisMembership}

numbered : (xs : List Offer) (a k : ℕ) (o : Offer) → AreFrom a xs → k < length xs → (get_or xs k o).number ≡ a + (k + k)
numbered [] a k o are lt = absurd (omega arith)
numbered (x ∷ xs) a zero o are lt = omega (arith, are.0)
numbered (x ∷ xs) a (suc k) o are lt = omega (arith, numbered xs (a + 2) k o are.1 (omega (arith, lt)))

-- the device is a member under each number of an offer that is kept
members : (lists : Lists) (p : Pricing) (d : ℕ) (xs : List Offer) (a : ℕ) → AreFrom a xs → All (IsKeptOffer lists p d) xs → (n k : ℕ) →
    n ≡ a + (k + k) → k < length xs → is_member lists d n ≡ true
members lists p d [] a are all n k is lt = absurd (omega (arith, lt))
members lists p d (x ∷ xs) a are all n zero is lt =
    let same : n ≡ x.number = omega (arith, is, are.0) in
    ap (is_member lists d) same ∙ (all 0 x (omega arith)).member
members lists p d (x ∷ xs) a are all n (suc k) is lt =
    members lists p d xs (a + 2) are.1 (λ i o under. all (suc i) o (omega (arith, under))) n k (omega (arith, is)) (omega (arith, lt))

-- each offer that an agent keeps is of the present membership
pub of_membership : (lists : Lists) (p : Pricing) (d count index : ℕ) (agent : DeviceAgent) → AgentIs lists p d count index agent →
    All (IsOfThisMembership lists d agent.number) agent.offers
of_membership lists p d count index agent is k o lt n since since_is within =
    let at = numbered agent.offers is.window.first k o is.window.are_from lt in
    members lists p d agent.offers is.window.first is.window.are_from is.offers n (k + since) (omega (arith, since_is, at))
    (omega (arith, since_is, at, within, is.window.to_last))
