-- Accounts added.
use Rattle.std.proofs.Common.{◌≡◌, ◌∙◌, ap, ℕ, zero, suc, ◌+◌, ℤ, pos, negsuc, neg_ℤ, ◌+ℤ◌, ◌*ℤ◌, refl, arith}
use Rattle.std.proofs.lemmas.Int.{ints}
use Rattle.std.specs.Prelude.{IsTrue}
use Rattle.pm_base.specs.Limits.{IsWithin}
use Rattle.pm_device.specs.Kinds.{minutes_limit}
use Rattle.pm_plan.specs.Kept.{are_minutes}
use Rattle.pm_bill.specs.declared.account.Account.{Account}
use Rattle.pm_bill.specs.Accounts.{no_account, account_sum, account_of, positive_part, net_taken, IsAccountWithin, cost_limit, tick_limit}
use Rattle.pm_bill.proofs.Products.{sum_within, sum-times, product_within, minutes_within, positive_part_within}

abbrev made : ℤ → ℤ → ℤ → Account
made amount taken given = record { amount = amount; taken = taken; given = given }

-- accounts of the same numbers are one
pub same_account : (one other : Account) → one.amount ≡ other.amount → one.taken ≡ other.taken → one.given ≡ other.given → one ≡ other
same_account one other amount taken given =
    ap (λ z. made z one.taken one.given) amount ∙ ap (λ z. made other.amount z one.given) taken ∙ ap (λ z. made other.amount other.taken z) given

-- accounts may be added in any order; an account without anything adds nothing
pub account_sum_assoc : (a b c : Account) → account_sum (account_sum a b) c ≡ account_sum a (account_sum b c)
account_sum_assoc a b c = same_account _ _ (omega (arith, ints)) (omega (arith, ints)) (omega (arith, ints))

-- with nothing behind it
pub account_sum-none : (a : Account) → account_sum a no_account ≡ a
account_sum-none a = same_account _ _ (omega (arith, ints)) (omega (arith, ints)) (omega (arith, ints))

-- with nothing in front of it
pub none-account_sum : (a : Account) → account_sum no_account a ≡ a
none-account_sum a = same_account _ _ (omega (arith, ints)) (omega (arith, ints)) (omega (arith, ints))

-- a sum of accounts lies within the sum of their limits
pub account_sum_within : (a b c : ℕ) (one other : Account) → a + b ≡ c → IsAccountWithin a one → IsAccountWithin b other →
    IsAccountWithin c (account_sum one other)
account_sum_within a b c one other is one_within other_within = record {
  amount = sum_within a b c _ _ is one_within.amount other_within.amount;
  taken = sum_within a b c _ _ is one_within.taken other_within.taken;
  given = sum_within a b c _ _ is one_within.given other_within.given;
}

-- what is taken less what is given is the power
positive_parts : (power : ℤ) → positive_part power ≡ positive_part (neg_ℤ power) +ℤ power
positive_parts (pos zero) = refl
positive_parts (pos (suc n)) = omega (arith, ints)
positive_parts (negsuc n) = omega (arith, ints)

-- what a sum of accounts took less what it gave
pub net_taken-account_sum : (one other : Account) → net_taken (account_sum one other) ≡ net_taken one +ℤ net_taken other
net_taken-account_sum one other = omega (arith, ints)

-- what a power came to, taken less given
pub net_taken-account_of : (minutes cost power : ℤ) → net_taken (account_of minutes cost power) ≡ power *ℤ minutes
net_taken-account_of minutes cost power =
    let given = positive_part (neg_ℤ power) in
    let parts : positive_part power *ℤ minutes ≡ (given *ℤ minutes) +ℤ (power *ℤ minutes) =
    ap (λ z. z *ℤ minutes) (positive_parts power)
    ∙ sum-times given power minutes in
    omega (arith, ints, parts)

-- a tick adds no more than the most
pub account_of_within : (minutes cost power : ℤ) → IsTrue (are_minutes minutes) → IsWithin cost_limit cost → IsWithin cost_limit power →
    IsAccountWithin tick_limit (account_of minutes cost power)
account_of_within minutes cost power are cost_within power_within =
    let most = minutes_within minutes are in
    let opposite : IsWithin cost_limit (neg_ℤ power) = record { low = omega (arith, ints, power_within); high = omega (arith, ints, power_within) } in
    record {
      amount = product_within cost_limit minutes_limit cost minutes cost_within most;
      taken = product_within cost_limit minutes_limit (positive_part power) minutes (positive_part_within cost_limit power power_within) most;
      given = product_within cost_limit minutes_limit (positive_part (neg_ℤ power)) minutes (positive_part_within cost_limit (neg_ℤ power) opposite) most;
    }
