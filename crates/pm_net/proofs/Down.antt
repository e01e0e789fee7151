-- The channels down once a node sent a price to its children.
use Rattle.std.proofs.Common.{◌≡◌, ℕ, ◌<◌, false, not, eqb, ◌&&◌, List, [], ◌∷◌, ◌++◌, length, get_or, sym, subst}
use Rattle.std.proofs.Common.{inl, inr}
use Rattle.std.proofs.lemmas.Bool.{cases_Bool, cond-true, cond-false, and_parts, and_from, eqb-true, eq-eqb, not-true, not_from_false}
use Rattle.pm_market.specs.Lists.{Lists, parent}
use Rattle.pm_net.specs.Messages.{BidMessage, PriceMessage, price_message, no_price}
use Rattle.pm_net.specs.Running.{sent_down}
use Rattle.pm_net.proofs.Messages.{each_push, some_push, new_push}

module _ (lists : Lists) (prices_sent : ℕ → List PriceMessage) (y : ℕ) (basis : ℕ → BidMessage) (index step x : ℕ) where
  abbrev the_price : PriceMessage
  the_price = price_message (basis x).number index step

  abbrev after : List PriceMessage
  after = sent_down lists prices_sent y basis index step x

  -- each price is an old one, or the new one to a child that is not gone
  pub down_each : (P : PriceMessage → Type 0) → ((k : ℕ) → k < length (prices_sent x) → P (get_or (prices_sent x) k no_price)) →
      (parent lists x ≡ y → (basis x).gone ≡ false → P the_price) → (k : ℕ) → k < length after → P (get_or after k no_price)
  unfolding sent_down
  down_each P old new = elim (cases_Bool (eqb (parent lists x) y && not (basis x).gone)) [
    | inl e ↦
        let parts = and_parts (eqb (parent lists x) y) (not (basis x).gone) e in
        subst (λ (l : List PriceMessage). (k : ℕ) → k < length l → P (get_or l k no_price))
        (sym (cond-true (eqb (parent lists x) y && not (basis x).gone) (prices_sent x ++ the_price ∷ []) (prices_sent x) e))
        (each_push P (prices_sent x) the_price no_price old (new (eqb-true (parent lists x) y parts.0) (not-true (basis x).gone parts.1)))
    | inr e ↦ subst (λ (l : List PriceMessage). (k : ℕ) → k < length l → P (get_or l k no_price))
        (sym (cond-false (eqb (parent lists x) y && not (basis x).gone) (prices_sent x ++ the_price ∷ []) (prices_sent x) e)) old
  ]

  -- an old price is still there
  pub down_old : (P : PriceMessage → Type 0) → ((k : ℕ) × (k < length (prices_sent x)) × P (get_or (prices_sent x) k no_price)) →
      (k : ℕ) × (k < length after) × P (get_or after k no_price)
  unfolding sent_down
  down_old P some = elim (cases_Bool (eqb (parent lists x) y && not (basis x).gone)) [
    | inl e ↦ subst (λ (l : List PriceMessage). (k : ℕ) × (k < length l) × P (get_or l k no_price))
        (sym (cond-true (eqb (parent lists x) y && not (basis x).gone) (prices_sent x ++ the_price ∷ []) (prices_sent x) e))
        (some_push P (prices_sent x) the_price no_price some)
    | inr e ↦ subst (λ (l : List PriceMessage). (k : ℕ) × (k < length l) × P (get_or l k no_price))
        (sym (cond-false (eqb (parent lists x) y && not (basis x).gone) (prices_sent x ++ the_price ∷ []) (prices_sent x) e)) some
  ]

  -- the new one is there for each child that is not gone
  pub down_new : (P : PriceMessage → Type 0) → parent lists x ≡ y → (basis x).gone ≡ false → P the_price →
      (k : ℕ) × (k < length after) × P (get_or after k no_price)
  unfolding sent_down
  down_new P up there new =
      subst (λ (l : List PriceMessage). (k : ℕ) × (k < length l) × P (get_or l k no_price))
      (sym (cond-true (eqb (parent lists x) y && not (basis x).gone) (prices_sent x ++ the_price ∷ []) (prices_sent x)
      (and_from _ _ (eq-eqb (parent lists x) y up) (not_from_false (basis x).gone there))))
      (new_push P (prices_sent x) the_price no_price new)
