-- Of `number_up_to`: its clause `none`.
use Rattle.std.proofs.Common.{rules, ◌≡◌, ◌<◌, arith, length, get_or}
use Rattle.std.proofs.lemmas.Bool.Decides.{nat_tests}
use Rattle.pm_envelope.proofs.Numerals.{numeral_of, value_is_number}
use Rattle.pm_envelope.proofs.number.number_up_to.Goals as goal
use Rattle.pm_envelope.proofs.number.number_up_to.Goals.{then-is_empty-via-then-is_empty, then-is_empty-via-else-is_empty+then-has_leading_zero}

pub returns-then-is_empty-clause-none : goal.returns-then-is_empty-clause-none
returns-then-is_empty-clause-none c = λ number small is.
    let numeral = numeral_of number c.args.text.now (omega arith) is in
    elim c.then-is_empty.branch [
      | then-is_empty-via-then-is_empty w ↦ grind (arith, nat_tests)
      | then-is_empty-via-else-is_empty+then-has_leading_zero w ↦ grind (arith, nat_tests, numeral.no_leading_zero)
    ]

pub returns : goal.returns
returns c =
    let some : 0 < length c.args.text.now = grind (arith, nat_tests) in
    let lone : get_or c.args.text.now 0 0 ≡ 48 → length c.args.text.now ≡ 1 = λ zero. grind (arith, nat_tests) in
    let is = value_is_number c.args.most c.args.text.now c.value_of_digits.result (omega arith) some lone c.value_of_digits.ensures in
    record { most = search rules; text = is.0; none = is.1 }
