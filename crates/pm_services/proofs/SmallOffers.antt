-- The offers that an agent keeps fit a message, whatever its control and its parent do.
use Rattle.std.proofs.Common.{◌≡◌, sym, subst, ℕ, ℤ, pos, List, [], ◌∷◌, length, refl, arith, inl, inr}
use Rattle.std.proofs.Common.{Option, Some, None, IfSome, FitsSigned}
use Rattle.std.specs.Prelude.{Bool, nat_lt, nat_le, ◌==◌, ◌+◌, ◌^◌, if◌then◌else◌, slice_index_or, ⊤}
use Rattle.std.specs.Int.{w32}
use Rattle.std.specs.List.{AllByRecursion, find}
use Rattle.std.proofs.lemmas.Bool.{cases_lt}
use Rattle.std.proofs.lemmas.Int.{ints}
use Rattle.std.proofs.lemmas.List.{get_or_past}
use Rattle.std.proofs.lemmas.List.Elements.{All-from_recursion, recursion_from_All, All-filter, All-push}
use Rattle.pm_base.specs.Limits.{demand_limit, IsWithin}
use Rattle.pm_bid.specs.Bids.{AllWithinLimit}
use Rattle.pm_net.specs.Messages.{PriceMessage}
use Rattle.pm_net.specs.Agents.{Offer, Setpoint, DeviceAgent, after_offer, setpoints_of, setpoints_for, answered_by, after_price, kept_offer}
use Rattle.pm_net.proofs.Messages.{either}
use Rattle.pm_control.specs.Control.{newest_demand, demand_of_kept, agent_stored, offered_anew, after_old}
use Rattle.pm_services.specs.DeviceServiceFields.{HasSmallOffers, IsSmall}

abbrev FitsMessage : Offer → Type 0
FitsMessage offer = AllWithinLimit demand_limit offer.demand

found_small : (test : Offer → Bool) (offers : List Offer) → AllByRecursion FitsMessage offers → IfSome (find test offers) FitsMessage
found_small test [] small = tt
found_small test (offer ∷ offers) small =
    either (λ o. IfSome o FitsMessage) (test offer) (Some offer) (find test offers) (λ _. small.0) (λ _. found_small test offers small.1)

-- the newest offer is one of them
demand_small : (found : Option Offer) → IfSome found FitsMessage → IsSmall (demand_of_kept found)
demand_small None small = tt
demand_small (Some offer) small = small

-- the newest offer fits a message
pub newest_small : (agent : DeviceAgent) → HasSmallOffers agent → IsSmall (newest_demand agent)
newest_small agent small =
    demand_small (kept_offer agent agent.number) (found_small (λ (offer : Offer). offer.number == agent.number) agent.offers small)

-- a small offer more
pub offered_small : (agent : DeviceAgent) (demand : List ℤ) → HasSmallOffers agent → AllWithinLimit demand_limit demand →
    HasSmallOffers (after_offer agent demand)
offered_small agent demand small fits =
    recursion_from_All FitsMessage _ (All-push FitsMessage agent.offers _ (All-from_recursion FitsMessage agent.offers small) fits)

-- those that a price leaves
left_small : (agent : DeviceAgent) (price : PriceMessage) (found : Option Offer) → HasSmallOffers agent → HasSmallOffers (answered_by agent price found)
left_small agent price None small = small
left_small agent price (Some offer) small =
    recursion_from_All FitsMessage _
    (All-filter (λ (offer : Offer). nat_le price.number offer.number) FitsMessage agent.offers (All-from_recursion FitsMessage agent.offers small))

-- the offers that a price leaves fit one
pub priced_small : (agent : DeviceAgent) (price : PriceMessage) → HasSmallOffers agent → HasSmallOffers (after_price agent price)
priced_small agent price small =
    either HasSmallOffers (nat_lt agent.index price.index) (answered_by agent price (kept_offer agent price.number)) agent
    (λ _. left_small agent price (kept_offer agent price.number) small) (λ _. small)

-- the one with which an agent comes back
pub stored_small : (number : ℕ) (newest : Option (List ℤ)) (index : ℕ) → IsSmall newest → HasSmallOffers (agent_stored number newest index)
stored_small number None index small = tt
stored_small number (Some demand) index small = (small, tt)

-- an offer that is made anew
anew_small : (agent : DeviceAgent) (newest : Option (List ℤ)) → HasSmallOffers agent → IsSmall newest → HasSmallOffers (offered_anew agent newest)
anew_small agent None small fits = small
anew_small agent (Some demand) small fits = (fits, tt)

-- what is left where the parent let the device go
pub old_small : (agent : DeviceAgent) (kept : ℕ) → HasSmallOffers agent → HasSmallOffers (after_old agent kept)
old_small agent kept small =
    either HasSmallOffers (nat_lt agent.number kept)
    (if nat_lt (agent.number + 7) (2 ^ 32) then offered_anew agent (newest_demand agent) else agent) agent
    (λ _. either HasSmallOffers (nat_lt (agent.number + 7) (2 ^ 32)) (offered_anew agent (newest_demand agent)) agent
    (λ _. anew_small agent (newest_demand agent) small (newest_small agent small)) (λ _. small)) (λ _. small)

-- ---- setpoints

fits_message : (power : ℤ) → IsWithin demand_limit power → FitsSigned w32 power
fits_message power within = omega (arith, ints)

no_power_fits : FitsSigned w32 (pos 0)
no_power_fits = omega (arith, ints)

power_fits : (demand : List ℤ) (step : ℕ) → AllWithinLimit demand_limit demand → FitsSigned w32 (slice_index_or demand step (pos 0))
power_fits demand step small = elim (cases_lt step (length demand)) [
  | inl inside ↦ fits_message _ (small step inside)
  | inr past ↦ subst (FitsSigned w32) (sym (get_or_past demand step (pos 0) past)) no_power_fits
]

-- a setpoint has the price's step, and a power that fits a message
abbrev pub AreFit : PriceMessage → List Setpoint → Type 0
AreFit price [] = ⊤
AreFit price (setpoint ∷ more) = (setpoint.step ≡ price.step) × FitsSigned w32 setpoint.power

one_fit : (price : PriceMessage) (found : Option Offer) → IfSome found FitsMessage → AreFit price (setpoints_of price found)
one_fit price None small = tt
one_fit price (Some offer) small = (refl, power_fits offer.demand price.step small)

setpoints_fit : (agent : DeviceAgent) (price : PriceMessage) → HasSmallOffers agent → AreFit price (setpoints_for agent price)
setpoints_fit agent price small =
    either (AreFit price) (nat_lt agent.index price.index) (setpoints_of price (kept_offer agent price.number)) []
    (λ _. one_fit price (kept_offer agent price.number) (found_small (λ (offer : Offer). offer.number == price.number) agent.offers small)) (λ _. tt)

-- so has the one that is told
pub told_fits : (agent : DeviceAgent) (price : PriceMessage) (setpoint : Setpoint) → HasSmallOffers agent →
    setpoint ∷ [] ≡ setpoints_for agent price → (setpoint.step ≡ price.step) × FitsSigned w32 setpoint.power
told_fits agent price setpoint small told = subst (AreFit price) (sym told) (setpoints_fit agent price small)
