-- Of `signed_up_to`: its clause `none`.
use Rattle.std.proofs.Common.{◌≡◌, ◌∙◌, sym, arith, List, ℕ, take, drop, length, ◌-◌}
use Rattle.std.proofs.lemmas.Bool.Decides.{nat_tests}
use Rattle.std.proofs.lemmas.Fmt.{decimal_injective}
use Rattle.std.proofs.lemmas.List.{take_all, length-drop}
use Rattle.pm_live.proofs.Texts.{no_number}
use Rattle.pm_live.proofs.named.signed_up_to.Goals as goal

-- all but the first byte
after_sign : (text : List ℕ) → take (length text - 1) (drop 1 text) ≡ drop 1 text
after_sign text = take_all (length text - 1) (drop 1 text) (omega (arith, length-drop 1 text))

pub returns-in_err-number-2-clause-none : goal.returns-in_err-number-2-clause-none
returns-in_err-number-2-clause-none c =
    rw c.from_residual-in_err-number-2.ensures λ number within is.
    no_number c.args.most number c.args.text.now (omega (arith, c.ranges.most.fits)) within (grind (arith, nat_tests))
    (λ n some few rest. c.in_err-number-2.ensures.none n few (after_sign c.args.text.now ∙ rest)) is

pub returns-then-number-eq0-clause-none : goal.returns-then-number-eq0-clause-none
returns-then-number-eq0-clause-none c = λ number within is.
    no_number c.args.most number c.args.text.now (omega (arith, c.ranges.most.fits)) within (grind (arith, nat_tests))
    (λ n some few rest.
    let same = decimal_injective c.in_ok-number-2.number n (omega (arith, c.in_ok-number-2.ensures.most, c.ranges.most.fits))
    (omega (arith, few, c.ranges.most.fits))
    (sym c.in_ok-number-2.ensures.text ∙ after_sign c.args.text.now ∙ rest) in
    omega (arith, same, some, c.if-number-eq0.true)) is
