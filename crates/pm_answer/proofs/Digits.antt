-- The number that digits write grows with each digit.
use Rattle.std.proofs.Common.{◌≡◌, ◌∙◌, sym, ap, ℕ, ◌+◌, ◌<◌, ◌≤◌, List, [], ◌∷◌, take, drop, length, get_or, refl, arith}
use Rattle.std.proofs.Common.{false, None}
use Rattle.std.specs.Prelude.{nat_le}
use Rattle.std.proofs.lemmas.Bool.Decides.{nat_tests}
use Rattle.std.specs.List.{fold}
use Rattle.std.proofs.lemmas.List.{take-append-drop}
use Rattle.std.proofs.lemmas.List.Sums.{fold-append, fold_more}
use Rattle.pm_answer.specs.Arguments.{with_digit, value_of, value_up_to}

grows : (value : ℕ) (digits : List ℕ) → value ≤ fold with_digit value digits
grows value [] = omega arith
grows value (digit ∷ digits) = (let rest = grows (with_digit value digit) digits in omega arith)

-- the number of some first digits is at most that of all
pub front_is_least : (digits : List ℕ) (n : ℕ) → value_of (take n digits) ≤ value_of digits
front_is_least digits n =
    let all = ap (fold with_digit 0) (sym (take-append-drop n digits)) ∙ fold-append with_digit 0 (take n digits) (drop n digits) in
    let rest = grows (value_of (take n digits)) (drop n digits) in
    omega (arith, all, rest)

-- the first n + 1 digits write the number of the first n with one digit more
pub one_digit_more : (digits : List ℕ) (n : ℕ) (d : ℕ) → n < length digits →
    value_of (take (n + 1) digits) ≡ with_digit (value_of (take n digits)) (get_or digits n d)
one_digit_more digits n d inside = fold_more with_digit 0 digits n d inside

-- digits that write a number above the greatest allowed give none
pub too_great : (high : ℕ) (digits : List ℕ) → high < value_of digits → value_up_to high digits ≡ None
too_great high digits above = rw (let no : nat_le (value_of digits) high ≡ false = grind (arith, nat_tests) in no) refl
