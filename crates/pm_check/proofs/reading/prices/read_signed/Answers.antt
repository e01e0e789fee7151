-- Of `read_signed`: what it ensures.
use Rattle.std.proofs.Common.{◌≡◌, ◌∙◌, sym, ap, refl, ℕ, ◌-◌, ◌<◌, ◌≤◌, ◌^◌, ℤ, pos, neg_ℤ, Bool, false, eqb}
use Rattle.std.proofs.Common.{List, ◌∷◌, length, get_or, drop, take, None, w64, to_z, of_z, arith}
use Rattle.std.specs.Prelude.{decimal, ◌-ℤ◌}
use Rattle.std.proofs.lemmas.Int.{ints}
use Rattle.std.proofs.lemmas.Bool.{eqb-false}
use Rattle.std.proofs.lemmas.Fmt.{decimal_injective}
use Rattle.pm_check.proofs.Digits.{minus_none, minus_parts, minus_some}
use Rattle.pm_check.proofs.Readings.{reads_none, reads_some}
use Rattle.pm_check.proofs.reading.prices.read_signed.Goals as goal

-- a word that begins with a minus
behind_minus : (word : List ℕ) (empty : Bool) → empty ≡ eqb (length word) 0 → empty ≡ false → get_or word 0 0 ≡ 45 →
    word ≡ 45 ∷ take (length word - 1) (drop 1 word)
behind_minus word empty is some minus = minus_parts word (omega (arith, eqb-false (length word) 0 (sym is ∙ some))) minus

-- a size that is not 0, and its negative, as the code computes it
some_size : (size : ℕ) → (size ≡ 0 → ⊥) → 1 ≤ size
some_size size other = omega (arith, other)

negative : (size : ℕ) (from : ℤ) → size < 2 ^ 32 → from ≡ pos size →
    to_z w64 (of_z w64 (pos 0 -ℤ to_z w64 (of_z w64 from))) ≡ neg_ℤ (pos size)
negative size from small is = omega (arith, ints, small, is)

pub returns-in_err-size : goal.returns-in_err-size
returns-in_err-size c =
    let word = c.args.word.now in
    let parts = behind_minus word _ c.is_empty.ensures c.if-is_empty.false c.if-word-ne45.false in
    reads_none _ _ word c.from_residual-in_err-size.result c.from_residual-in_err-size.ensures
    (minus_none word (take (length word - 1) (drop 1 word)) parts (λ n some small same. c.in_err-size.ensures.none refl n small same))

pub returns-then-size-eq0 : goal.returns-then-size-eq0
returns-then-size-eq0 c =
    let word = c.args.word.now in
    let parts = behind_minus word _ c.is_empty.ensures c.if-is_empty.false c.if-word-ne45.false in
    reads_none _ _ word None refl (minus_none word (take (length word - 1) (drop 1 word)) parts (λ n some small same.
    let nothing : decimal n ≡ decimal 0 = same ∙ sym c.in_ok-size.ensures.told.1 ∙ ap decimal c.if-size-eq0.true in
    absurd (omega (arith, some, decimal_injective n 0 (omega arith) (omega arith) nothing))))

pub returns : goal.returns
returns c =
    let word = c.args.word.now in
    let parts = behind_minus word _ c.is_empty.ensures c.if-is_empty.false c.if-word-ne45.false in
    let told = c.in_ok-size.ensures.told in
    let read = minus_some word c.in_ok-size.size _ (some_size c.in_ok-size.size c.if-size-eq0.false) told.0
    (negative c.in_ok-size.size c.from-2.result told.0 c.from-2.ensures) (parts ∙ ap (λ digits. 45 ∷ digits) (sym told.1)) in
    reads_some _ _ word _ _ refl read.0 read.1
