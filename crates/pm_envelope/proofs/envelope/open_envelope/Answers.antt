-- Of `open_envelope`: its clauses `none` and `some`.
use Rattle.std.proofs.Common.{arith, ◌∷◌, ◌++◌, length, ap, ◌∙◌, sym, take-append-drop}
use Rattle.std.specs.Prelude.{decimal}
use Rattle.std.proofs.lemmas.List.{length-append}
use Rattle.std.proofs.lemmas.Fmt.{decimal_injective}
use Rattle.pm_envelope.proofs.FirstLines.{no_first_line}
use Rattle.pm_envelope.proofs.Openings.{has_header}
use Rattle.pm_envelope.proofs.envelope.open_envelope.Goals as goal

pub returns-in_err-header-clause-none : goal.returns-in_err-header-clause-none
returns-in_err-header-clause-none c = rw c.from_residual.ensures (λ file rest is. no_first_line c.args.input.now _ _ (c.in_err-header.ensures.none) is.parts)

pub returns-in_err-length-clause-none : goal.returns-in_err-length-clause-none
returns-in_err-length-clause-none c = rw c.from_residual-in_err-length.ensures (λ file rest is.
    let header = has_header c.args.input.now _ _ file rest c.in_ok-header.ensures.some is in
    c.in_err-length.ensures.none (length file) (omega (arith, is.short)) header.number)

pub returns-then-body-length-clause-none : goal.returns-then-body-length-clause-none
returns-then-body-length-clause-none c = λ file rest is.
    let header = has_header c.args.input.now _ _ file rest c.in_ok-header.ensures.some is in
    let same = sym c.in_ok-length.ensures.text ∙ header.number in
    let long = decimal_injective _ (length file) (omega (arith, c.in_ok-length.ensures.most)) (omega (arith, is.short)) same in
    omega (arith, long, ap length header.parts, length-append file rest)

pub returns-clause-some : goal.returns-clause-some
returns-clause-some c =
    let number = c.in_ok-length.ensures.text ∙ ap decimal (sym c.split_at.ensures.front_len) in
    let whole = sym (take-append-drop c.in_ok-length.field-0 c.in_ok-header.body.now) in
    let split = whole ∙ (λ i. sym c.split_at.ensures.front i ++ sym c.split_at.ensures.back i) in
    record {
      parts = c.in_ok-header.ensures.some.parts ∙ (λ i. number i ++ (10 ∷ split i));
      short = omega (arith, c.in_ok-length.ensures.most);
    }
