-- What the devices hold.
use Rattle.std.proofs.Common.{◌≡◌, ℕ, zero, suc, ◌<◌, ◌≤◌, true, ◌&&◌, not, inl, inr, sym, ◌∙◌, ap, arith}
use Rattle.std.proofs.lemmas.Bool.{cases_Bool, and_from, and_parts, lt-ltb, le-leb, ltb-true, cond-true, cond-false}
use Rattle.pm_market.specs.Lists.{Lists, is_member, IsLeaf, Lawful}
use Rattle.pm_market.specs.State.{State, last_index, cleared_cut}
use Rattle.pm_market.specs.Moves.{Idle}
use Rattle.pm_market.specs.Sound.{Sound}
use Rattle.pm_market.specs.Held.{last_join, holds_price}
use Rattle.pm_laws.proofs.Facts.{last_cases}
use Rattle.pm_laws.proofs.Quiet.{addresses_leaf, quiet_counts, quiet_passed}

-- the last join among the first n changes of a device has at most number n
pub last_join_le : (lists : Lists) (d n : ℕ) → last_join lists d n ≤ n
unfolding last_join
last_join_le lists d zero = omega arith
last_join_le lists d (suc n) =
    elim (cases_Bool (is_member lists d (suc n) && not (is_member lists d n))) [
      | inl e ↦ omega (arith, cond-true (is_member lists d (suc n) && not (is_member lists d n)) (suc n) (last_join lists d n) e)
      | inr e ↦ omega (arith, cond-false (is_member lists d (suc n) && not (is_member lists d n)) (suc n) (last_join lists d n) e, last_join_le lists d n)
    ]

-- in an idle state each device that is in holds_price a price of the current cut
pub quiet_holds : (lists : Lists) → Lawful lists → (s : State) → Sound lists s → Idle lists s → (d : ℕ) → IsLeaf lists d →
    is_member lists d (s.counts d) ≡ true → holds_price lists s d ≡ true
unfolding holds_price
quiet_holds lists law s sound idle d leaf at =
    let passed = quiet_passed lists law s sound idle d leaf at in
    let number_is : cleared_cut s (last_index s d) d ≡ s.counts d = ap (λ (j : ℕ). cleared_cut s j d) passed.1
    ∙ quiet_counts lists law s sound idle d leaf in
    and_from _ _ (and_from _ _ (lt-ltb 0 (last_index s d) (omega (arith, passed.0, passed.1))) at)
    (le-leb (last_join lists d (s.counts d)) (cleared_cut s (last_index s d) d) (omega (arith, number_is, last_join_le lists d (s.counts d))))

-- the device is a member of the cut whose price it holds_price
pub holder_included : (lists : Lists) → (s : State) → Sound lists s → (d : ℕ) → IsLeaf lists d → holds_price lists s d ≡ true →
    is_member lists d (cleared_cut s (last_index s d) d) ≡ true
unfolding holds_price
holder_included lists s sound d leaf h =
    let parts = and_parts _ _ (and_parts _ _ h).0 in
    let some : 0 < last_index s d = ltb-true 0 (last_index s d) parts.0 in
    elim (last_cases (s.passed d)) [
      | inl w ↦ absurd (omega (arith, w.1))
      | inr c ↦ sym (addresses_leaf lists (cleared_cut s (last_index s d)) d leaf) ∙ sound.passed_addressed d (last_index s d) c
    ]
