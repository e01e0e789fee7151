-- Of `value_up_to`: what it ensures.
use Rattle.std.proofs.Common.{sym, ◌+◌, arith}
use Rattle.pm_answer.proofs.Digits.{front_is_least, one_digit_more, too_great}
use Rattle.pm_answer.proofs.arguments.value_up_to.Goals as goal

pub returns-then-value-from : goal.returns-then-value-from
returns-then-value-from c =
    let more = one_digit_more c.args.digits.now c.loop-digit.digit-index 0 c.loop-digit-test.true in
    let front = front_is_least c.args.digits.now (c.loop-digit.digit-index + 1) in
    sym (too_great c.args.high c.args.digits.now
    (omega (
      arith,
      more,
      front,
      c.if-value-from.true,
      c.from-in-loop-digit.ensures,
      c.from.ensures,
      c.saturating_sub.ensures,
      c.loop-digit.invariant.value,
    )))
