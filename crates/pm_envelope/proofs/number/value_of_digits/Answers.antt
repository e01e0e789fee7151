-- Of `value_of_digits`: what it ensures; the turns of its loop over `byte`.
use Rattle.std.proofs.Common.{arith, ap, ◌+◌, get_or}
use Rattle.std.specs.Char.{digit_value}
use Rattle.std.proofs.lemmas.Int.Digits.{digits_more, digits_value_more}
use Rattle.std.proofs.lemmas.Str.{digit_value_digit}
use Rattle.std.proofs.lemmas.Str.Parse.{digit_at, digits_value-take-le}
use Rattle.pm_envelope.proofs.number.value_of_digits.Goals as goal

pub returns-in_err-digit : goal.returns-in_err-digit
returns-in_err-digit c = rw c.from_residual.ensures (λ is.
    let digits = c.args.digits.now in
    let digit = digit_at digits c.loop-byte.byte-index is.0 c.loop-byte-test.true in
    let value = digit_value_digit (get_or digits c.loop-byte.byte-index 0) digit in
    c.in_err-digit.ensures.value (omega (arith, digit.1, value, ap digit_value c.from.ensures)))

pub returns-then-value-from : goal.returns-then-value-from
returns-then-value-from c = λ is.
    let digits = c.args.digits.now in
    let value = digits_value_more 10 digits c.loop-byte.byte-index c.loop-byte-test.true in
    let part = digits_value-take-le 10 digits (c.loop-byte.byte-index + 1) (omega arith) in
    omega (arith, value, part, is.1, c.in_ok-digit.ensures.value, ap digit_value c.from.ensures)

pub loop-byte-preserved : goal.loop-byte-preserved
loop-byte-preserved c =
    let digits = c.args.digits.now in
    let value = digits_value_more 10 digits c.loop-byte.byte-index c.loop-byte-test.true in
    let digit = ap digit_value c.from.ensures in
    record {
      digits = digits_more 10 digits c.loop-byte.byte-index c.loop-byte-test.true c.loop-byte.invariant.digits
          (omega (arith, digit, c.in_ok-digit.ensures.value));
      value = omega (arith, value, digit, c.in_ok-digit.ensures.value);
      small = omega arith;
    }
