-- The offers that an agent keeps: which number is found, and what is left after a price and after a restart.
use Rattle.std.proofs.Common.{◌≡◌, ◌∙◌, sym, ap, ℕ, suc, ◌+◌, ◌<◌, ◌≤◌, true, false, eqb, leb, inl, inr, List}
use Rattle.std.proofs.Common.{[], ◌∷◌, ◌++◌}
use Rattle.std.proofs.lemmas.List.{length_push}
use Rattle.std.proofs.Common.{length, Option, Some, None, refl, subst, arith}
use Rattle.std.proofs.lemmas.Bool.{cases_Bool, cond-true, cond-false, eqb-true, eq-eqb, leb-true, le-leb, both_ways, false_from_ne_true}
use Rattle.std.specs.List.{find}
use Rattle.pm_net.specs.Agents.{Offer, DeviceAgent, kept_offer, offers_from}
use Rattle.pm_net.specs.Devices.{AreFrom, IsOfferWindow}
use Rattle.pm_net.proofs.Messages.{either}
use Rattle.pm_net.proofs.Offers.{IsAmong, shorter}
use Rattle.pm_control.specs.Control.{demand_of_kept, offers_stored}

-- what is found under a number has it, and is one of the numbers between these
abbrev pub InRange : ℕ → ℕ → ℕ → Option Offer → Type 0
InRange low high n None = Unit {0}
InRange low high n (Some offer) = (offer.number ≡ n) × IsAmong low high n

wider : (low high b n : ℕ) → high ≤ b → (o : Option Offer) → InRange (low + 2) high n o → InRange low b n o
wider low high b n to None h = tt
wider low high b n to (Some offer) h = (h.0, record { place = suc h.1.place; is = omega (arith, h.1.is); below = omega (arith, to, h.1.below) })

in_range : (n : ℕ) (xs : List Offer) (a : ℕ) → AreFrom a xs →
    InRange a (a + (length xs + length xs)) n (find (λ (offer : Offer). eqb offer.number n) xs)
in_range n [] a are = tt
in_range n (x ∷ xs) a are =
    either (InRange a (a + (length (x ∷ xs) + length (x ∷ xs))) n) (eqb x.number n) (Some x) (find (λ (offer : Offer). eqb offer.number n) xs)
    (λ e. (
      eqb-true x.number n e,
      record { place = 0; is = omega (arith, eqb-true x.number n e, are.0); below = omega (arith, eqb-true x.number n e, are.0) },
    ))
    (λ e. wider a (a + 2 + (length xs + length xs)) (a + (length (x ∷ xs) + length (x ∷ xs))) n (omega arith)
    (find (λ (offer : Offer). eqb offer.number n) xs) (in_range n xs (a + 2) are.1))

-- the window once a price answered a number whose offer is kept
pub record Answers (agent : DeviceAgent) (n index' : ℕ) : Type 0 where
  -- the offers are a window
  pub window : IsOfferWindow (record agent { answered = n; offers = offers_from n agent.offers; index = index' })
  -- no number answered is above the last
  pub order : n ≤ agent.number

-- a price that names a kept offer leaves a window
pub answers : (agent : DeviceAgent) (n index : ℕ) (offer : Offer) → IsOfferWindow agent → kept_offer agent n ≡ Some offer → Answers agent n index
answers agent n index offer window found =
    let high : ℕ = window.first + (length agent.offers + length agent.offers) in
    let at : InRange window.first high n (Some offer) =
    subst (InRange window.first high n) found (in_range n agent.offers window.first window.are_from) in
    let left = shorter n agent.offers window.first window.are_from (omega (arith, at.1.below)) in
    let first_is : left.first ≡ n = elim left.to [
      | inl w ↦ omega (arith, w, left.from_m, at.1.is)
      | inr w ↦ omega (arith, w, left.from_m, left.from_a, at.1.is)
    ] in
    record {
      window = record {
        first = left.first;
        are_from = left.are;
        to_last = left.to_last ∙ window.to_last;
        low = omega (arith, first_is);
        high = omega (arith, first_is);
        few = omega (arith, window.few, window.low, at.1.is);
      };
      order = omega (arith, at.1.is, at.1.below, window.to_last);
    }

empty : (xs : List Offer) → length xs ≡ 0 → xs ≡ []
empty [] none = refl
empty (x ∷ xs) none = absurd (omega (arith, none))

none_from : (n : ℕ) (xs : List Offer) → length xs ≡ 0 → offers_from n xs ≡ []
none_from n xs none = ap (offers_from n) (empty xs none)

stored_from : (n : ℕ) (xs : List Offer) (a : ℕ) → AreFrom a xs → a + (length xs + length xs) ≡ n + 2 →
    offers_stored n (demand_of_kept (find (λ (offer : Offer). eqb offer.number n) xs)) ≡ offers_from n xs
stored_from n [] a are to = refl
stored_from n (x ∷ xs) a are to =
    elim (cases_Bool (eqb x.number n)) [
      | inl e ↦
          let is : x.number ≡ n = eqb-true x.number n e in
          ap (λ o. offers_stored n (demand_of_kept o)) (cond-true (eqb x.number n) (Some x) (find (λ (offer : Offer). eqb offer.number n) xs) e)
          ∙ ap (λ (o : Offer). o ∷ []) (same_offer x n is)
          ∙ ap (λ (l : List Offer). x ∷ l) (sym (none_from n xs (omega (arith, to, is, are.0))))
          ∙ sym (cond-true (leb n x.number) (x ∷ offers_from n xs) (offers_from n xs) (le-leb n x.number (omega (arith, is))))
      | inr e ↦
          let differs : x.number ≡ n → ⊥ = λ is. both_ways (eqb x.number n) e (eq-eqb x.number n is) in
          ap (λ o. offers_stored n (demand_of_kept o)) (cond-false (eqb x.number n) (Some x) (find (λ (offer : Offer). eqb offer.number n) xs) e)
          ∙ stored_from n xs (a + 2) are.1 (omega (arith, to))
          ∙ sym (cond-false (leb n x.number) (x ∷ offers_from n xs) (offers_from n xs)
          (false_from_ne_true (leb n x.number) (λ h. differs (omega (arith, leb-true n x.number h, are.0, to)))))
    ]
  where
    same_offer : (o : Offer) (m : ℕ) → o.number ≡ m → record { number = m; demand = o.demand } ≡ o
    same_offer o m is = ap (λ (k : ℕ). record { number = k; demand = o.demand }) (sym is)

-- of the offers that are kept the newest one comes back, where it is there
pub newest_stored : (agent : DeviceAgent) → IsOfferWindow agent →
    offers_stored agent.number (demand_of_kept (kept_offer agent agent.number)) ≡ offers_from agent.number agent.offers
newest_stored agent window = stored_from agent.number agent.offers window.first window.are_from window.to_last

-- the last of the offers is the newest
pub last_kept : (n : ℕ) (xs : List Offer) (last : Offer) (a : ℕ) → AreFrom a (xs ++ last ∷ []) →
    a + (length (xs ++ last ∷ []) + length (xs ++ last ∷ [])) ≡ n + 2 → find (λ (offer : Offer). eqb offer.number n) (xs ++ last ∷ []) ≡ Some last
last_kept n [] last a are to = cond-true (eqb last.number n) (Some last) None (eq-eqb last.number n (omega (arith, are.0, to)))
last_kept n (x ∷ xs) last a are to =
    let more : length (xs ++ last ∷ []) ≡ length xs + 1 = length_push xs last in
    let differs : x.number ≡ n → ⊥ = λ is. omega (arith, is, are.0, to, more) in
    cond-false (eqb x.number n) (Some x) (find (λ (offer : Offer). eqb offer.number n) (xs ++ last ∷ []))
    (false_from_ne_true (eqb x.number n) (λ h. differs (eqb-true x.number n h)))
    ∙ last_kept n xs last (a + 2) are.1 (omega (arith, to))
