-- Of `read_number`: what it ensures.
use Rattle.std.proofs.Common.{◌≡◌, ◌∙◌, sym, subst, refl, arith, None, ℕ, List, length}
use Rattle.std.specs.Prelude.{Result, Ok, Err}
use Rattle.std.specs.Str.{IsUtf8}
use Rattle.std.proofs.lemmas.Bool.{eqb-true, eqb-false}
use Rattle.std.proofs.lemmas.Fmt.{IsAscii-decimal}
use Rattle.std.proofs.lemmas.Str.{IsUtf8-from_ascii}
use Rattle.std.specs.Str.Parse.{ParsesUnsigned}
use Rattle.pm_check.proofs.Digits.{IsPlain, decimal_plain, number_told, number_parsed}
use Rattle.pm_check.proofs.Readings.{reads_none, reads_some}
use Rattle.pm_check.proofs.reading.numbers.read_number.Goals as goal
use Rattle.pm_check.proofs.reading.numbers.read_number.Goals.{then-is_empty-via-then-is_empty, then-is_empty-via-else-is_empty+then-word-eq43}
use Rattle.pm_check.proofs.reading.numbers.read_number.Goals.{else-word-eq48-via-then-word-eq48+else-word-gt1, else-word-eq48-via-else-word-eq48}

-- what is no number is none
no_number : {E : Type 0} (parsed : Result ℕ E) (n : ℕ) (e : E) → parsed ≡ Ok n → parsed ≡ Err e → ⊥
no_number parsed n e is err = absurd cc

pub returns-then-is_empty : goal.returns-then-is_empty
returns-then-is_empty c =
    reads_none _ _ c.args.word.now None refl (λ n small same. let plain = decimal_plain c.args.word.now n small same in
    elim c.then-is_empty.branch [
      | then-is_empty-via-then-is_empty w ↦ absurd
          (omega (arith, plain.some, eqb-true (length c.args.word.now) 0 (sym c.is_empty.ensures ∙ w.if-is_empty.true)))
      | then-is_empty-via-else-is_empty+then-word-eq43 w ↦ plain.no_plus w.if-word-eq43.true
    ])

pub returns-then-word-gt1 : goal.returns-then-word-gt1
returns-then-word-gt1 c =
    reads_none _ _ c.args.word.now None refl (λ n small same. let plain = decimal_plain c.args.word.now n small same in
    absurd (omega (arith, plain.no_zero c.if-word-eq48.true, c.if-word-gt1.true)))

pub returns-in_err-digits : goal.returns-in_err-digits
returns-in_err-digits c =
    reads_none _ _ _ c.from_residual.result c.from_residual.ensures
    (λ n small same. c.in_err-digits.ensures.none refl (subst IsUtf8 same (IsUtf8-from_ascii _ (IsAscii-decimal n (omega arith)))))

pub returns-in-Ok : goal.returns-in-Ok
returns-in-Ok c =
    let word = c.args.word.now in
    let text = c.in_ok-digits.ensures.text in
    let parses = subst (λ (bytes : List ℕ). ParsesUnsigned 32 10 bytes c.parse.result) text c.parse.ensures.value.0 in
    let plain : IsPlain word = record {
      some = omega (arith, c.is_empty.ensures, eqb-false (length word) 0 (sym c.is_empty.ensures ∙ c.if-is_empty.false));
      no_plus = c.if-word-eq43.false;
      no_zero = λ e. elim c.else-word-eq48.branch [
        | else-word-eq48-via-then-word-eq48+else-word-gt1 w ↦
            omega (arith, w.if-word-gt1.false, eqb-false (length word) 0 (sym c.is_empty.ensures ∙ c.if-is_empty.false))
        | else-word-eq48-via-else-word-eq48 w ↦ absurd (w.if-word-eq48.false e)
      ];
    } in
    let told = number_told word c.in-Ok.number c.parse.result plain parses c.in-Ok.is in
    reads_some _ _ word _ _ refl told.0 told.1

pub returns-in-Err : goal.returns-in-Err
returns-in-Err c =
    let parses = subst (λ (bytes : List ℕ). ParsesUnsigned 32 10 bytes c.parse.result) c.in_ok-digits.ensures.text c.parse.ensures.value.0 in
    reads_none _ _ c.args.word.now None refl (λ n small same.
    no_number c.parse.result n _ (number_parsed c.args.word.now n c.parse.result small same parses) c.in-Err.is)
