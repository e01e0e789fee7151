-- What the agent of a device says of its newest bid.
use Rattle.std.proofs.Common.{◌≡◌, ◌∙◌, sym, ap, subst, ℕ, suc, ◌+◌, ◌-◌, ◌<◌, ◌≤◌, true, false, not, eqb, List, []}
use Rattle.std.proofs.Common.{◌∷◌, length, Option, Some, None, arith, refl}
use Rattle.std.proofs.lemmas.Bool.{eqb-true, both_ways}
use Rattle.std.specs.List.{All, find}
use Rattle.pm_market.specs.Lists.{Lists, is_member, IsLeaf}
use Rattle.pm_net.specs.Pricing.{Pricing}
use Rattle.pm_net.specs.Messages.{bid_message}
use Rattle.pm_net.specs.Running.{device_bid}
use Rattle.pm_net.specs.Agents.{Offer, DeviceAgent, kept_offer}
use Rattle.pm_net.specs.Devices.{IsKeptOffer, AgentIs}
use Rattle.pm_net.proofs.Messages.{either}
use Rattle.pm_net.proofs.Offers.{IsThere, there}
use Rattle.pm_control.specs.Control.{demand_of_kept, newest_demand}
use Rattle.pm_system.specs.Calls.{bid_kept}
use Rattle.pm_system.specs.Given.{IsTreeMarket}
use Rattle.pm_net_plan.specs.Places.{Numbering}

-- what is found under a number is a kept offer of it
abbrev FoundIs : Lists → Pricing → ℕ → ℕ → Option Offer → Type 0
FoundIs lists p d n None = Unit {0}
FoundIs lists p d n (Some offer) = IsKeptOffer lists p d offer × (offer.number ≡ n)

found_is : (lists : Lists) (p : Pricing) (d n : ℕ) (xs : List Offer) → All (IsKeptOffer lists p d) xs →
    FoundIs lists p d n (find (λ (offer : Offer). eqb offer.number n) xs)
found_is lists p d n [] all = tt
found_is lists p d n (x ∷ xs) all =
    either (FoundIs lists p d n) (eqb x.number n) (Some x) (find (λ (offer : Offer). eqb offer.number n) xs)
    (λ e. (all 0 x (omega arith), eqb-true x.number n e))
    (λ e. found_is lists p d n xs (λ k o lt. all (suc k) o (omega (arith, lt))))

module _ (lists : Lists) (p : Pricing) (numbering : Numbering) (market : IsTreeMarket lists p numbering) (d : ℕ) (leaf : IsLeaf lists d) where
  -- a member's bid, and that of one that left
  bid_of : (member : Rattle.std.proofs.Common.Bool) (n : ℕ) → is_member lists d n ≡ member → (o : Option Offer) → FoundIs lists p d n o →
      (member ≡ true → IsThere o) → bid_kept p n (demand_of_kept o) ≡ device_bid lists p d n
  bid_of true n e None is there_is = absurd (there_is refl)
  bid_of true n e (Some offer) is there_is =
      ap (bid_message n false) (is.0.demand ∙ ap (p.demand d) is.1) ∙ ap (λ g. bid_message n (not g) (p.demand d n)) (sym e)
  bid_of false n e None is there_is =
      ap (bid_message n true) (sym (market.absent d n leaf e)) ∙ ap (λ g. bid_message n (not g) (p.demand d n)) (sym e)
  bid_of false n e (Some offer) is there_is = absurd (both_ways (is_member lists d n) e (ap (is_member lists d) (sym is.1) ∙ is.0.member))

  -- what an agent has of its newest bid is that bid
  pub newest_kept : (count index : ℕ) (agent : DeviceAgent) → AgentIs lists p d count index agent →
      bid_kept p agent.number (newest_demand agent) ≡ device_bid lists p d agent.number
  newest_kept count index agent at =
      bid_of (is_member lists d agent.number) agent.number refl (kept_offer agent agent.number)
      (found_is lists p d agent.number agent.offers at.offers)
      (λ member. there agent.number agent.offers at.window.first (length agent.offers - 1) at.window.are_from
      (omega (arith, at.newest member, at.window.to_last)) (omega (arith, at.window.to_last)))
