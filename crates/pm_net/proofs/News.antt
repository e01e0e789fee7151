-- When a node has news, and when it is caught up, by what the market's node learnt.
use Rattle.std.proofs.Common.{◌≡◌, ◌∙◌, sym, ap, ℕ, ◌≤◌, Bool, true, false, cond, not, eqb, leb, inl, inr, arith}
use Rattle.std.proofs.lemmas.Bool.{cases_Bool, cond-true, cond-false, eqb-true, eq-eqb, leb-true, le-leb}
use Rattle.std.proofs.lemmas.Bool.{not-false, true≢false}
use Rattle.pm_market.specs.Lists.{Lists, nodes, parent, IsNode, Lawful}
use Rattle.pm_market.specs.State.{State}
use Rattle.pm_market.proofs.Cuts.{all_to_at, all_to_from}
use Rattle.pm_net.specs.Pricing.{Pricing}
use Rattle.pm_net.specs.Network.{Network}
use Rattle.pm_net.specs.Running.{all_children, recorded_number, has_news, is_caught_up, is_overtaken}
use Rattle.pm_net.specs.Agrees.{NetworkAgrees}

-- a test of each child that passes says what it tests of each of them
pub child_from : (lists : Lists) (y : ℕ) (test : ℕ → Bool) → all_children lists y test ≡ true → (x : ℕ) →
    IsNode lists x → parent lists x ≡ y → test x ≡ true
child_from lists y test h x node up =
    let e = all_to_at (nodes lists) (λ x. cond (eqb (parent lists x) y) (test x) true) h x node.0 node.1 in
    sym (cond-true (eqb (parent lists x) y) (test x) true (eq-eqb (parent lists x) y up)) ∙ e

-- a test of each child passes where it passes for each of them
pub child_at : (lists : Lists) (y : ℕ) (test : ℕ → Bool) → ((x : ℕ) → IsNode lists x → parent lists x ≡ y → test x ≡ true) →
    all_children lists y test ≡ true
child_at lists y test h = all_to_from (nodes lists) (λ x. cond (eqb (parent lists x) y) (test x) true) (λ x one le.
    elim (cases_Bool (eqb (parent lists x) y)) [
      | inl e ↦ cond-true (eqb (parent lists x) y) (test x) true e ∙ h x (one, le) (eqb-true (parent lists x) y e)
      | inr e ↦ cond-false (eqb (parent lists x) y) (test x) true e
    ])

module _ (lists : Lists) (law : Lawful lists) (p : Pricing) (net : Network) (s : State) (agrees : NetworkAgrees lists p net s) (y : ℕ) where
  -- the newest record has of each child the number that the market's node learnt
  pub newest_record : (x : ℕ) → IsNode lists x → parent lists x ≡ y → recorded_number net y x ≡ s.learnt x
  newest_record x node up = ap (λ (i : ℕ). (net.records i (net.last_number i) x).number) (sym up) ∙ agrees.newest_numbers x node

  -- without news each child's number is the one learnt
  pub no_news : has_news lists net y ≡ false → (x : ℕ) → IsNode lists x → parent lists x ≡ y → (net.heard x).number ≡ s.learnt x
  unfolding has_news
  no_news h x node up =
      eqb-true (net.heard x).number (recorded_number net y x)
      (child_from lists y (λ x. eqb (net.heard x).number (recorded_number net y x))
      (not-false (all_children lists y (λ x. eqb (net.heard x).number (recorded_number net y x))) h) x node up)
      ∙ newest_record x node up

  -- with news not each number is the one learnt
  pub news : has_news lists net y ≡ true → ((x : ℕ) → IsNode lists x → parent lists x ≡ y → (net.heard x).number ≡ s.learnt x) → ⊥
  unfolding has_news
  news h same =
      let all = child_at lists y (λ x. eqb (net.heard x).number (recorded_number net y x))
      (λ x node up. eq-eqb (net.heard x).number (recorded_number net y x) (same x node up ∙ sym (newest_record x node up))) in
      true≢false (sym h ∙ ap not all)

  -- one that is caught up holds no child's number below the one learnt
  pub caught_from : is_caught_up lists net y ≡ true → (x : ℕ) → IsNode lists x → parent lists x ≡ y → s.learnt x ≤ (net.heard x).number
  unfolding is_caught_up
  caught_from h x node up = omega (
    arith,
    newest_record x node up,
    leb-true (recorded_number net y x) (net.heard x).number
        (child_from lists y (λ x. leb (recorded_number net y x) (net.heard x).number) h x node up),
  )

  -- one that holds no such number below the one learnt is caught up
  pub caught_at : ((x : ℕ) → IsNode lists x → parent lists x ≡ y → s.learnt x ≤ (net.heard x).number) → is_caught_up lists net y ≡ true
  unfolding is_caught_up
  caught_at h = child_at lists y (λ x. leb (recorded_number net y x) (net.heard x).number) (λ x node up.
      le-leb (recorded_number net y x) (net.heard x).number (omega (arith, newest_record x node up, h x node up)))

  -- a node that is overtaken holds of some child a greater number than the one learnt
  pub overtaken : is_overtaken lists net y ≡ true → ((x : ℕ) → IsNode lists x → parent lists x ≡ y → (net.heard x).number ≤ s.learnt x) → ⊥
  unfolding is_overtaken
  overtaken h same =
      let all = child_at lists y (λ x. leb (net.heard x).number (recorded_number net y x))
      (λ x node up. le-leb (net.heard x).number (recorded_number net y x) (omega (arith, same x node up, newest_record x node up))) in
      true≢false (sym h ∙ ap not all)

-- a node that holds of no child a smaller or a greater number than the one in its newest record has no news
pub level : (lists : Lists) (net : Network) (y : ℕ) → is_caught_up lists net y ≡ true → is_overtaken lists net y ≡ false →
    has_news lists net y ≡ false
unfolding is_caught_up is_overtaken has_news
level lists net y caught not_over =
    let above = not-false (all_children lists y (λ x. leb (net.heard x).number (recorded_number net y x))) not_over in
    ap not (child_at lists y (λ x. eqb (net.heard x).number (recorded_number net y x)) (λ x node up.
    eq-eqb (net.heard x).number (recorded_number net y x) (omega (
      arith,
      leb-true (recorded_number net y x) (net.heard x).number
          (child_from lists y (λ x. leb (recorded_number net y x) (net.heard x).number) caught x node up),
      leb-true (net.heard x).number (recorded_number net y x)
          (child_from lists y (λ x. leb (net.heard x).number (recorded_number net y x)) above x node up),
    ))))
