-- What a node that may have restarted holds, beside what the market passed to it last.
use Rattle.std.proofs.Common.{◌≡◌, ◌∙◌, sym, ap, ℕ, ◌≤◌, inl, inr, arith}
use Rattle.pm_base.specs.Cuts.{Cut}
use Rattle.pm_market.specs.Lists.{Lists, IsNode, IsConcentrator, Lawful}
use Rattle.pm_market.specs.State.{State, number, last_index, cleared_cut}
use Rattle.pm_market.specs.Sound.{Sound}
use Rattle.pm_market.proofs.Cuts.{part_zero, entry_zero}
use Rattle.pm_laws.proofs.Facts.{last_within}
use Rattle.pm_laws.proofs.Numbers.{number_of_part, cleared_number_rises}
use Rattle.pm_net.specs.Pricing.{Pricing}
use Rattle.pm_net.specs.Messages.{PriceMessage}
use Rattle.pm_net.specs.Network.{Network}
use Rattle.pm_net.specs.Agrees.{NetworkAgrees}

-- before the first clearing no number is answered
pub number_none : (lists : Lists) → Lawful lists → (s : State) → Sound lists s → (x : ℕ) → IsNode lists x →
    number lists s x (cleared_cut s 0) ≡ 0
number_none lists law s sound x node =
    number_of_part lists law s sound x 0 (cleared_cut s 0) node (omega arith) (λ d leaf.
    ap (λ (a : Cut). a d) (entry_zero (s.published 0)) ∙ sym (part_zero lists s.published x d))

module _ (lists : Lists) (law : Lawful lists) (p : Pricing) (net : Network) (s : State) (agrees : NetworkAgrees lists p net s) (c : ℕ)
    (conc : IsConcentrator lists c) where
  node : IsNode lists c
  node = (conc.0, conc.1)

  -- a relay may have forgotten that a number was answered, and holds none for answered that is not
  pub answered_within : net.answered c ≤ number lists s c (cleared_cut s (last_index s c))
  answered_within = elim (agrees.taken c node) [
    | inl none ↦ omega (arith, agrees.answered c conc, ap (λ (q : PriceMessage). q.number) none)
    | inr its ↦ omega (
      arith,
      agrees.answered c conc,
      ap (λ (q : PriceMessage). q.number) its.1,
      cleared_number_rises lists s law agrees.sound c (net.taken c).index (last_index s c) node (agrees.index c node) (last_within lists s agrees.sound c),
    )
  ]

  -- where it holds the last price passed to it, the number answered is exact
  pub answered_exact : (net.taken c).index ≡ last_index s c → net.answered c ≡ number lists s c (cleared_cut s (last_index s c))
  answered_exact at = elim (agrees.taken c node) [
    | inl none ↦
        let zero_is : last_index s c ≡ 0 = omega (arith, at, ap (λ (q : PriceMessage). q.index) none) in
        agrees.answered c conc ∙ ap (λ (q : PriceMessage). q.number) none
        ∙ sym (ap (λ (j : ℕ). number lists s c (cleared_cut s j)) zero_is ∙ number_none lists law s agrees.sound c node)
    | inr its ↦ agrees.answered c conc ∙ ap (λ (q : PriceMessage). q.number) its.1 ∙ ap (λ (j : ℕ). number lists s c (cleared_cut s j)) at
  ]
