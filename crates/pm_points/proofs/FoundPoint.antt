-- The points that a search over a list of points finds.
use Rattle.std.proofs.Common.{◌≡◌, ◌∙◌, sym, ap, ℕ, ◌+◌, ◌-◌, ◌<◌, ◌≤◌, pos, Bool, List, true, false, length, get_or, drop}
use Rattle.std.proofs.Common.{arith}
use Rattle.std.specs.Simd.Lanes.{zip2}
use Rattle.std.proofs.lemmas.List.{get_or-drop, length-drop}
use Rattle.std.proofs.lemmas.List.Sums.{position_or_len_is, fails_before_first}
use Rattle.std.proofs.lemmas.Simd.{get_or-zip2}
use Rattle.pm_base.proofs.Lists.{length-zip2-second}
use Rattle.pm_points.specs.Points.{Point, point_at}
use Rattle.pm_points.specs.Checks.{first_after}

abbrev met_by : (Point → Point → Bool) → List Point → List Bool
met_by test points = zip2 test points (drop 1 points)

length-met_by : (test : Point → Point → Bool) (points : List Point) → length (met_by test points) ≡ length points - 1
length-met_by test points = length-zip2-second test points (drop 1 points) (omega (arith, length-drop 1 points)) ∙ length-drop 1 points

met_by-at : (test : Point → Point → Bool) (points : List Point) (k : ℕ) → k + 1 < length points →
    get_or (met_by test points) k false ≡ test (point_at points k) (point_at points (k + 1))
met_by-at test points k inside =
    get_or-zip2 test points (drop 1 points) k (pos 0, pos 0) (pos 0, pos 0) false (omega arith) (omega (arith, length-drop 1 points))
    ∙ ap (λ point. test (point_at points k) point) (get_or-drop 1 points k (pos 0, pos 0) ∙ ap (λ n. point_at points n) (omega arith))

-- a point that meets the test with the one before it, as no earlier one does, is what the search finds
pub first_after_found : (test : Point → Point → Bool) (points : List Point) (at : ℕ) → 1 ≤ at → at < length points →
    ((k : ℕ) → k + 1 < at → test (point_at points k) (point_at points (k + 1)) ≡ false) →
    test (point_at points (at - 1)) (point_at points at) ≡ true → at ≡ first_after test points
first_after_found test points at positive inside before found =
    let here : (at - 1) + 1 ≡ at = omega arith in
    let met : get_or (met_by test points) (at - 1) false ≡ true = met_by-at test points (at - 1) (omega arith)
    ∙ ap (λ n. test (point_at points (at - 1)) (point_at points n)) here ∙ found in
    omega (
      arith,
      position_or_len_is (λ met. met) (met_by test points) (at - 1) false (omega (arith, length-met_by test points))
          (λ k h. met_by-at test points k (omega arith) ∙ before k (omega arith)) (λ _. met),
    )

-- where no point meets the test with the one before it, the search gives the number of points
pub first_after_none : (test : Point → Point → Bool) (points : List Point) → 1 ≤ length points →
    ((k : ℕ) → k + 1 < length points → test (point_at points k) (point_at points (k + 1)) ≡ false) → length points ≡ first_after test points
first_after_none test points positive before =
    omega (
      arith,
      length-met_by test points,
      position_or_len_is (λ met. met) (met_by test points) (length points - 1) false
          (omega (arith, length-met_by test points)) (λ k h. met_by-at test points k (omega arith) ∙ before k (omega arith))
          (λ h. absurd (omega (arith, length-met_by test points))),
    )

-- no point of a list without a first one meets the test together with the one before it
pub fails_after : (test : Point → Point → Bool) (points : List Point) → length points ≤ first_after test points → (k : ℕ) →
    k + 1 < length points → test (point_at points k) (point_at points (k + 1)) ≡ false
fails_after test points none k inside =
    sym (met_by-at test points k inside) ∙ fails_before_first (λ met. met) (met_by test points) k false (omega arith)
