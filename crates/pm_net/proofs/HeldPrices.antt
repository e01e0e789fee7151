-- What a device goes by is what the market says that it holds.
use Rattle.std.proofs.Common.{◌≡◌, ◌∙◌, sym, ap, ℕ, ◌≤◌, true, ltb, leb, ◌&&◌, Option, Some, None, inl}
use Rattle.std.proofs.Common.{inr, arith}
use Rattle.std.specs.Prelude.{cond, unwrap_or}
use Rattle.std.proofs.lemmas.Bool.{cases_Bool, cond-true, cond-false, and_parts, and_from, ltb-true, leb-true, lt-ltb, le-leb}
use Rattle.pm_market.specs.Lists.{Lists, is_member, IsLeaf, IsNode, Lawful}
use Rattle.pm_market.specs.State.{State, last_index, cleared_cut, clearings}
use Rattle.pm_market.specs.Held.{last_join, holds_price, holding}
use Rattle.pm_market.proofs.Tree.{leaf_node}
use Rattle.pm_laws.proofs.Held.{last_join_le}
use Rattle.pm_laws.proofs.MoveLaws.{due_parts}
use Rattle.pm_laws.proofs.Numbers.{number_leaf}
use Rattle.pm_laws.proofs.Quiet.{addresses_leaf}
use Rattle.pm_net.specs.Pricing.{Pricing, GoesByNodes}
use Rattle.pm_net.specs.Messages.{PriceMessage}
use Rattle.pm_net.specs.Network.{Network}
use Rattle.pm_net.specs.Agrees.{price_of_clearing, NetworkAgrees}
use Rattle.pm_net.specs.HeldPrice.{goes_by_its_price, goes_by, IsOfItsClearing}
use Rattle.pm_net.specs.Settled.{IsSettledNetwork}
use Rattle.pm_net.proofs.Settled.{all_held, one_cleared}

-- what a device goes by that made so many bids and holds a price of this index, number and step
abbrev gone_by : Lists → ℕ → ℕ → ℕ → ℕ → ℕ → Option (ℕ × ℕ)
gone_by lists d count index number step =
    cond (ltb 0 index && is_member lists d count && leb (last_join lists d count) number) (Some (step, number)) None

-- of a price with index 0 it goes by none
by_none : (lists : Lists) (d count index number step : ℕ) → index ≡ 0 → gone_by lists d count index number step ≡ None
by_none lists d count index number step e = ap (λ (i : ℕ). gone_by lists d count i number step) e

module _ (lists : Lists) (law : Lawful lists) (p : Pricing) (net : Network) (s : State) (agrees : NetworkAgrees lists p net s) (d : ℕ)
    (leaf : IsLeaf lists d) where
  node : IsNode lists d
  node = leaf_node lists law d leaf

  -- of a device that never restarted it is what the market says that it holds
  pub same_held : net.restarts d ≡ 0 → goes_by lists net d ≡ holding lists p.local s d
  unfolding holds_price
  same_held none =
      let at : (net.taken d).index ≡ last_index s d = agrees.device_index d leaf none in
      elim (agrees.taken d node) [
        | inl nothing ↦
            let zero : (net.taken d).index ≡ 0 = ap (λ (q : PriceMessage). q.index) nothing in
            by_none lists d (net.counts d) (net.taken d).index (net.taken d).number (net.taken d).step zero
            ∙ sym (by_none lists d (s.counts d) (last_index s d) (cleared_cut s (last_index s d) d) (p.local (cleared_cut s (last_index s d)) d)
            (sym at ∙ zero))
        | inr its ↦
            ap (λ (q : PriceMessage). gone_by lists d (net.counts d) q.index q.number q.step) (its.1 ∙ ap (price_of_clearing lists p s d) at)
            ∙ ap (λ (n : ℕ). gone_by lists d n (last_index s d) (price_of_clearing lists p s d (last_index s d)).number
            (p.local (cleared_cut s (last_index s d)) d))
            (agrees.counts d leaf)
            ∙ ap (λ (n : ℕ). gone_by lists d (s.counts d) (last_index s d) n (p.local (cleared_cut s (last_index s d)) d))
            (number_leaf lists s.published d (cleared_cut s
            (last_index s d)) leaf)
      ]

  -- whatever it came back with, what it goes by is of the clearing of the price that it holds
  pub of_its_clearing : (step number : ℕ) → goes_by lists net d ≡ Some (step, number) → IsOfItsClearing lists p net s d step number
  of_its_clearing step number e = elim (cases_Bool (goes_by_its_price lists net d)) [
    | inr drops ↦
        let nothing : Option (ℕ × ℕ) = None in
        let w : nothing ≡ Some (step, number) =
        sym (cond-false (goes_by_its_price lists net d) (Some ((net.taken d).step, (net.taken d).number)) None drops) ∙ e in
        absurd (cc w)
    | inl goes ↦
        let same : Some ((net.taken d).step, (net.taken d).number) ≡ Some (step, number) =
        sym (cond-true (goes_by_its_price lists net d) (Some ((net.taken d).step, (net.taken d).number)) None goes) ∙ e in
        let pair = ap (λ (o : Option (ℕ × ℕ)). unwrap_or o (0, 0)) same in
        let step_same : (net.taken d).step ≡ step = ap (λ (q : ℕ × ℕ). q.0) pair in
        let number_same : (net.taken d).number ≡ number = ap (λ (q : ℕ × ℕ). q.1) pair in
        let some = and_parts (ltb 0 (net.taken d).index && is_member lists d (net.counts d)) (leb (last_join lists d (net.counts d))
        (net.taken d).number) goes in
        let first = and_parts (ltb 0 (net.taken d).index) (is_member lists d (net.counts d)) some.0 in
        let j : ℕ = (net.taken d).index in
        elim (agrees.taken d node) [
          | inl nothing ↦ absurd (omega (arith, ltb-true 0 j first.0, ap (λ (q : PriceMessage). q.index) nothing))
          | inr its ↦
              let number_is : number ≡ cleared_cut s j d =
              sym number_same ∙ ap (λ (q : PriceMessage). q.number) its.1 ∙ number_leaf lists s.published d (cleared_cut s j) leaf in
              record {
                number_is = number_is;
                member = ap (is_member lists d) number_is ∙ sym (addresses_leaf lists (cleared_cut s j) d leaf) ∙ (due_parts lists s d j its.0).1;
                joined = omega (arith, leb-true (last_join lists d (net.counts d)) (net.taken d).number some.1, number_same);
                step_is = sym step_same ∙ ap (λ (q : PriceMessage). q.step) its.1;
              }
        ]
  ]

  -- in a settled network each member goes by its local step over all bids ever made
  pub settled_held : GoesByNodes lists p → IsSettledNetwork lists net → is_member lists d (net.counts d) ≡ true →
      goes_by lists net d ≡ Some (p.local net.counts d, net.counts d)
  settled_held by settled member =
      let has = all_held lists law p by net s agrees settled d leaf member in
      let one : 1 ≤ clearings s = one_cleared lists law p by net s agrees settled d leaf member in
      ap (λ (q : PriceMessage). gone_by lists d (net.counts d) q.index q.number q.step) has
      ∙ cond-true (ltb 0 (clearings s) && is_member lists d (net.counts d) && leb (last_join lists d (net.counts d)) (net.counts d))
      (Some (p.local net.counts d, net.counts d)) None
      (and_from _ _ (and_from _ _ (lt-ltb 0 (clearings s) (omega (arith, one))) member)
      (le-leb (last_join lists d (net.counts d)) (net.counts d) (last_join_le lists d (net.counts d))))
