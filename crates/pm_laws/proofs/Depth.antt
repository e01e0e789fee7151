-- The number of concentrators on a path, from the parent's.
use Rattle.std.proofs.Common.{◌≡◌, ℕ, zero, suc, ◌+◌, ◌<◌, ◌≤◌, cond, eqb, inl, inr, refl, sym, ◌∙◌, ap, arith}
use Rattle.std.proofs.lemmas.Bool.{cases_eq, cond-true, cond-false, eq-eqb, ne_eqb}
use Rattle.pm_market.specs.Lists.{Lists, parent, is_leaf, path_depth_in, path_depth}

-- the children stand after the parents: all that the number needs of the lists
concentrators_fuel : (lists : Lists) → ((x : ℕ) → 1 ≤ x → parent lists x < x) → (f g x : ℕ) → x ≤ f → x ≤ g →
    path_depth_in lists f x ≡ path_depth_in lists g x
unfolding path_depth_in
concentrators_fuel lists smaller zero zero x hf hg = refl
concentrators_fuel lists smaller zero (suc g) x hf hg =
    sym (cond-true (eqb x 0) 0 (cond (is_leaf lists x) 0 1 + path_depth_in lists g (parent lists x)) (eq-eqb x 0 (omega arith)))
concentrators_fuel lists smaller (suc f) zero x hf hg =
    cond-true (eqb x 0) 0 (cond (is_leaf lists x) 0 1 + path_depth_in lists f (parent lists x)) (eq-eqb x 0 (omega arith))
concentrators_fuel lists smaller (suc f) (suc g) x hf hg =
    elim (cases_eq x 0) [
      | inl e ↦ cond-true (eqb x 0) 0 (cond (is_leaf lists x) 0 1 + path_depth_in lists f (parent lists x)) (eq-eqb x 0 e)
          ∙ sym (cond-true (eqb x 0) 0 (cond (is_leaf lists x) 0 1 + path_depth_in lists g (parent lists x)) (eq-eqb x 0 e))
      | inr n ↦
          let one : 1 ≤ x = omega arith in
          let small : parent lists x < x = smaller x one in
          ap (λ (k : ℕ). cond (eqb x 0) 0 (cond (is_leaf lists x) 0 1 + k))
          (concentrators_fuel lists smaller f g (parent lists x) (omega arith) (omega arith))
    ]

concentrators_more : (lists : Lists) (f y : ℕ) → 1 ≤ y →
    path_depth_in lists (suc f) y ≡ cond (is_leaf lists y) 0 1 + path_depth_in lists f (parent lists y)
unfolding path_depth_in
concentrators_more lists f y one = cond-false (eqb y 0) 0 (cond (is_leaf lists y) 0 1 + path_depth_in lists f (parent lists y)) (ne_eqb y 0 (λ e. omega arith))

-- no concentrator stands on the path of the auctioneer
pub concentrators_zero : (lists : Lists) → path_depth lists 0 ≡ 0
unfolding path_depth path_depth_in
concentrators_zero lists = refl

-- where parents have smaller numbers a node's depth is its parent's, and one more if it is no device
pub concentrators_step : (lists : Lists) → ((x : ℕ) → 1 ≤ x → parent lists x < x) → (x : ℕ) → 1 ≤ x →
    path_depth lists x ≡ cond (is_leaf lists x) 0 1 + path_depth lists (parent lists x)
unfolding path_depth
concentrators_step lists smaller zero one = absurd (omega arith)
concentrators_step lists smaller (suc x) one =
    let small : parent lists (suc x) < suc x = smaller (suc x) one in
    concentrators_more lists x (suc x) one ∙ ap (λ (k : ℕ). cond (is_leaf lists (suc x)) 0 1 + k)
    (concentrators_fuel lists smaller x (parent lists (suc x)) (parent lists (suc x)) (omega arith) (omega arith))
