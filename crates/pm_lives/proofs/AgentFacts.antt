-- What a price does to the agent of a device.
use Rattle.std.proofs.Common.{◌≡◌, ◌⊎◌, ◌∙◌, sym, ap, subst, ℕ, ◌+◌, ◌-◌, ◌<◌, ◌≤◌, Bool, true, false, cond}
use Rattle.std.proofs.Common.{eqb, leb, ltb, ℤ, List, [], ◌∷◌, ◌++◌, Option, Some, None, refl, inl, inr, arith, le-leb, le_trans}
use Rattle.std.proofs.lemmas.Bool.{cases_Bool, cond-true, cond-false, eqb-true, eq-eqb, both_ways}
use Rattle.std.specs.List.{AllByRecursion, find, filter}
use Rattle.pm_net.specs.Messages.{PriceMessage}
use Rattle.pm_net.specs.Agents.{Offer, DeviceAgent, kept_offer, offers_from, answered_by, after_price}
use Rattle.pm_net.proofs.Messages.{either}
use Rattle.pm_control.specs.Control.{newest_demand, demand_of_kept}

-- each offer has a number up to this one
abbrev pub AreWithin : ℕ → List Offer → Type 0
AreWithin most offers = AllByRecursion (λ (offer : Offer). offer.number ≤ most) offers

-- offers up to a number are up to a greater one
pub within_more : (most more : ℕ) → most ≤ more → (offers : List Offer) → AreWithin most offers → AreWithin more offers
within_more most more le [] are = tt
within_more most more le (offer ∷ offers) are = (omega (arith, le, are.0), within_more most more le offers are.1)

-- so they are with one more whose number is up to it
pub within_push : (most : ℕ) (offers : List Offer) (last : Offer) → AreWithin most offers → last.number ≤ most →
    AreWithin most (offers ++ last ∷ [])
within_push most [] last are le = (le, tt)
within_push most (offer ∷ offers) last are le = (are.0, within_push most offers last are.1 le)

filter_within : (most : ℕ) (keeps : Offer → Bool) (offers : List Offer) → AreWithin most offers → AreWithin most (filter keeps offers)
filter_within most keeps [] are = tt
filter_within most keeps (offer ∷ offers) are =
    either (AreWithin most) (keeps offer) (offer ∷ filter keeps offers) (filter keeps offers)
    (λ e. (are.0, filter_within most keeps offers are.1)) (λ e. filter_within most keeps offers are.1)

abbrev found : ℕ → List Offer → Option Offer
found n offers = find (λ (offer : Offer). eqb offer.number n) offers

-- what is found under a number is within
found_within : (most n : ℕ) (offers : List Offer) → AreWithin most offers → (offer : Offer) → found n offers ≡ Some offer → n ≤ most
found_within most n [] are offer is = absurd (cc is)
found_within most n (x ∷ offers) are offer is = elim (cases_Bool (eqb x.number n)) [
  | inl e ↦ omega (arith, are.0, eqb-true x.number n e)
  | inr e ↦ found_within most n offers are.1 offer (sym (cond-false (eqb x.number n) (Some x) (found n offers) e) ∙ is)
]

-- the newest is kept
found_kept : (from n : ℕ) → from ≤ n → (offers : List Offer) → found n (offers_from from offers) ≡ found n offers
found_kept from n le [] = refl
found_kept from n le (x ∷ offers) = elim (cases_Bool (eqb x.number n)) [
  | inl e ↦
      let stays : leb from x.number ≡ true = le-leb from x.number (omega (arith, le, eqb-true x.number n e)) in
      ap (found n) (cond-true (leb from x.number) (x ∷ offers_from from offers) (offers_from from offers) stays)
      ∙ cond-true (eqb x.number n) (Some x) (found n (offers_from from offers)) e ∙ sym (cond-true (eqb x.number n) (Some x) (found n offers) e)
  | inr e ↦
      either (λ (l : List Offer). found n l ≡ found n (x ∷ offers)) (leb from x.number) (x ∷ offers_from from offers) (offers_from from offers)
      (λ s. cond-false (eqb x.number n) (Some x) (found n (offers_from from offers)) e ∙ found_kept from n le offers
      ∙ sym (cond-false (eqb x.number n) (Some x) (found n offers) e))
      (λ s. found_kept from n le offers ∙ sym (cond-false (eqb x.number n) (Some x) (found n offers) e))
]

-- what a price leaves
pub record PriceLeaves (old : DeviceAgent) (price : PriceMessage) (new : DeviceAgent) : Type 0 where
  -- its number stays
  pub number : new.number ≡ old.number
  pub newest : newest_demand new ≡ newest_demand old
  -- its newest index never falls
  pub rises : old.index ≤ new.index
  pub index : (new.index ≡ old.index) ⊎ (new.index ≡ price.index)
  -- its offers have numbers up to its own
  pub within : AreWithin new.number new.offers

answered_leaves : (old : DeviceAgent) (price : PriceMessage) → AreWithin old.number old.offers → old.index < price.index → (o : Option Offer) →
    kept_offer old price.number ≡ o → PriceLeaves old price (answered_by old price o)
answered_leaves old price within newer None is = record {
  number = refl;
  newest = refl;
  rises = omega (arith, newer);
  index = inr refl;
  within = within;
}
answered_leaves old price within newer (Some offer) is = record {
  number = refl;
  newest = ap demand_of_kept (found_kept price.number old.number (found_within old.number price.number old.offers within offer is) old.offers);
  rises = omega (arith, newer);
  index = inr refl;
  within = filter_within old.number (λ (x : Offer). leb price.number x.number) old.offers within;
}

-- after a price it is so
pub price_leaves : (old : DeviceAgent) (price : PriceMessage) → AreWithin old.number old.offers → PriceLeaves old price (after_price old price)
price_leaves old price within =
    either (PriceLeaves old price) (ltb old.index price.index) (answered_by old price (kept_offer old price.number)) old
    (λ e. answered_leaves old price within (Rattle.std.proofs.Common.ltb-true old.index price.index e) (kept_offer old price.number) refl)
    (λ e. record { number = refl; newest = refl; rises = omega arith; index = inl refl; within = within })

-- the demand of an offer that was made last
pub pushed_demand : (number : ℕ) (offers : List Offer) (demand : List ℤ) (most : ℕ) → AreWithin most offers → most < number →
    demand_of_kept (found number (offers ++ record { number = number; demand = demand } ∷ [])) ≡ Some demand
pushed_demand number [] demand most are lt =
    ap demand_of_kept (cond-true (eqb number number) (Some (record { number = number; demand = demand })) None (eq-eqb number number refl))
pushed_demand number (x ∷ offers) demand most are lt =
    ap demand_of_kept (cond-false (eqb x.number number) (Some x) (found number (offers ++ record { number = number; demand = demand } ∷ []))
    (Rattle.std.proofs.lemmas.Bool.ne_eqb x.number number (λ e. omega (arith, e, are.0, lt)))) ∙ pushed_demand number offers demand most are.1 lt
