-- The offers that an agent keeps are demands of the market.
use Rattle.std.proofs.Common.{◌≡◌, ◌∙◌, subst, ℕ, ℤ, ◌+◌, ◌<◌, ◌≤◌, ◌^◌, Bool, cond, ltb, leb, eqb, List, [], ◌∷◌}
use Rattle.std.proofs.Common.{length, Option, Some, None, IfSome, Ok, Err, refl, inl, inr, arith}
use Rattle.std.proofs.lemmas.Bool.{cases_lt}
use Rattle.std.proofs.lemmas.Bool.Decides.{nat_tests}
use Rattle.std.proofs.lemmas.List.Elements.{All-from_recursion, recursion_from_All, All-filter, All-push}
use Rattle.std.specs.List.{AllByRecursion, find}
use Rattle.pm_bid.specs.Checks.{first_rising, first_too_large, checked_bid}
use Rattle.pm_bid.specs.declared.fault.BidFault.TheVariants.{Rising, TooLarge}
use Rattle.pm_bid.proofs.EachStep.{all_small}
use Rattle.pm_bid.proofs.FoundStep.{never_rises}
use Rattle.pm_net.specs.Messages.{PriceMessage, price_message}
use Rattle.pm_net.specs.Agents as agents
use Rattle.pm_net.specs.Agents.{DeviceAgent, may_offer, after_offer, after_leaving, answered_by, kept_offer}
use Rattle.pm_net.proofs.Messages.{either}
use Rattle.pm_control.specs.Control.{newest_demand, demand_of_kept, agent_stored, offered_anew}
use Rattle.pm_frames.specs.declared.parent.ParentFrame.TheVariants.{Price, Old}
use Rattle.pm_frames.specs.declared.device.DeviceFrame.{DeviceFrame}
use Rattle.pm_frames.specs.declared.device.DeviceFrame.TheVariants.{Hello, Offer, Kind, Leave, Parent, Resume}
use Rattle.pm_system.specs.Given.{IsDemand}
use Rattle.pm_services.specs.DeviceWrites.{agent_after}
use Rattle.pm_processes.specs.DeviceProcess.{IsAsked}

-- ---- an offer that is accepted

rising_is_refused : (demand : List ℤ) → first_rising demand < length demand → Err (Rising (first_rising demand)) ≡ checked_bid (length demand) demand
rising_is_refused demand inside = grind (arith, nat_tests)

large_is_refused : (demand : List ℤ) → length demand ≤ first_rising demand → first_too_large demand < length demand →
    Err (TooLarge (first_too_large demand)) ≡ checked_bid (length demand) demand
large_is_refused demand never inside = grind (arith, nat_tests)

accepted_falls : (demand : List ℤ) → checked_bid (length demand) demand ≡ Ok demand → length demand ≤ first_rising demand
accepted_falls demand is = elim (cases_lt (first_rising demand) (length demand)) [
  | inl lt ↦ absurd (cc (rising_is_refused demand lt ∙ is))
  | inr ge ↦ ge
]

accepted_small : (demand : List ℤ) → checked_bid (length demand) demand ≡ Ok demand → length demand ≤ first_too_large demand
accepted_small demand is = elim (cases_lt (first_too_large demand) (length demand)) [
  | inl lt ↦ absurd (cc (large_is_refused demand (accepted_falls demand is) lt ∙ is))
  | inr ge ↦ ge
]

-- a bid of so many steps is a demand
pub is_demand : (steps : ℕ) (demand : List ℤ) → length demand ≡ steps → checked_bid (length demand) demand ≡ Ok demand → IsDemand steps demand
is_demand steps demand long is = record {
  one_each = long;
  small = all_small demand (accepted_small demand is);
  falls = never_rises demand (accepted_falls demand is);
}

-- ---- what an agent keeps

module _ (steps : ℕ) where
  abbrev Fits : agents.Offer → Type 0
  Fits offer = IsDemand steps offer.demand

  abbrev pub AreDemands : DeviceAgent → Type 0
  AreDemands agent = AllByRecursion Fits agent.offers

  found_fits : (test : agents.Offer → Bool) (offers : List agents.Offer) → AllByRecursion Fits offers → IfSome (find test offers) Fits
  found_fits test [] are = tt
  found_fits test (offer ∷ offers) are =
      either (λ o. IfSome o Fits) (test offer) (Some offer) (find test offers) (λ _. are.0) (λ _. found_fits test offers are.1)

  demand_fits : (found : Option agents.Offer) → IfSome found Fits → (demand : List ℤ) → demand_of_kept found ≡ Some demand → IsDemand steps demand
  demand_fits None fits demand is = absurd (cc is)
  demand_fits (Some offer) fits demand is = subst (IsDemand steps) (let e : offer.demand ≡ demand = cc is in e) fits

  -- so is the newest
  pub newest_fits : (agent : DeviceAgent) → AreDemands agent → (demand : List ℤ) → newest_demand agent ≡ Some demand → IsDemand steps demand
  newest_fits agent are demand is =
      demand_fits (kept_offer agent agent.number) (found_fits (λ (offer : agents.Offer). eqb offer.number agent.number) agent.offers are) demand is

  -- the one with which an agent comes back
  pub stored_fits : (number : ℕ) (newest : Option (List ℤ)) (index : ℕ) → IfSome newest (IsDemand steps) →
      AreDemands (agent_stored number newest index)
  stored_fits number None index is = tt
  stored_fits number (Some demand) index is = (is, tt)

  offered_fits : (agent : DeviceAgent) (demand : List ℤ) → AreDemands agent → IsDemand steps demand → AreDemands (after_offer agent demand)
  offered_fits agent demand are is = recursion_from_All Fits _ (All-push Fits agent.offers _ (All-from_recursion Fits agent.offers are) is)

  left_fits : (agent : DeviceAgent) (price : PriceMessage) (found : Option agents.Offer) → AreDemands agent → AreDemands (answered_by agent price found)
  left_fits agent price None are = are
  left_fits agent price (Some offer) are =
      recursion_from_All Fits _
      (All-filter (λ (offer : agents.Offer). leb price.number offer.number) Fits agent.offers (All-from_recursion Fits agent.offers are))

  anew_fits : (agent : DeviceAgent) (newest : Option (List ℤ)) → AreDemands agent →
      ((demand : List ℤ) → newest ≡ Some demand → IsDemand steps demand) → AreDemands (offered_anew agent newest)
  anew_fits agent None are is = are
  anew_fits agent (Some demand) are is = (is demand refl, tt)

  -- those after a frame
  pub after_fits : (agent : DeviceAgent) (frame : DeviceFrame) → IsAsked steps frame → AreDemands agent → AreDemands (agent_after agent frame)
  after_fits agent (Hello basis) asked are = are
  after_fits agent (Offer form demand) asked are =
      either AreDemands (may_offer agent) (cond (ltb (agent.number + 5) (2 ^ 32)) (after_offer agent demand) agent) agent
      (λ e. either AreDemands (ltb (agent.number + 5) (2 ^ 32)) (after_offer agent demand) agent (λ e. offered_fits agent demand are asked) (λ e. are))
      (λ e. are)
  after_fits agent (Kind named) asked are = are
  after_fits agent Leave asked are = either AreDemands (ltb (agent.number + 3) (2 ^ 32)) (after_leaving agent) agent (λ e. tt) (λ e. are)
  after_fits agent (Parent (Price child number index step basis)) asked are =
      let price : PriceMessage = price_message number index step in
      either AreDemands (ltb agent.index price.index) (answered_by agent price (kept_offer agent price.number)) agent
      (λ e. left_fits agent price (kept_offer agent price.number) are) (λ e. are)
  after_fits agent (Parent (Old child kept)) asked are =
      either AreDemands (ltb agent.number kept) (cond (ltb (agent.number + 7) (2 ^ 32)) (offered_anew agent (newest_demand agent)) agent) agent
      (λ e. either AreDemands (ltb (agent.number + 7) (2 ^ 32)) (offered_anew agent (newest_demand agent)) agent
      (λ e. anew_fits agent (newest_demand agent) are (newest_fits agent are)) (λ e. are))
      (λ e. are)
  after_fits agent (Resume stored) asked are = absurd asked
