-- Of `after_word`: its clauses `none` and `told`.
use Rattle.std.proofs.Common.{◌∙◌, sym, ap, refl, ◌++◌, ◌∷◌, List, ℕ}
use Rattle.pm_check.proofs.Readings.{first_same}
use Rattle.pm_check.proofs.reading.words.after_word.Goals as goal

pub returns-in_err-first-clause-none : goal.returns-in_err-first-clause-none
returns-in_err-first-clause-none c = λ _ is rest same. c.in_err-first.ensures.none refl c.args.word.now rest is same

pub returns-then-is_same-clause-told : goal.returns-then-is_same-clause-told
returns-then-is_same-clause-told c =
    c.in_ok-first.ensures.told.1 ∙ ap (λ (word : List ℕ). word ++ 32 ∷ c.in_ok-first.rest.now) (c.is_same.ensures.same c.if-is_same.true)

pub returns-else-is_same-clause-none : goal.returns-else-is_same-clause-none
returns-else-is_same-clause-none c = λ _ is rest same.
    let split = c.in_ok-first.ensures.told in
    c.is_same.ensures.differ c.if-is_same.false
    (first_same c.in_ok-first.first.now c.args.word.now _ rest split.0 is (sym split.1 ∙ same)).word
