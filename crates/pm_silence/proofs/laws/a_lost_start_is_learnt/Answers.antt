-- Of `a_lost_start_is_learnt`: by the tests of numbers.
use Rattle.std.proofs.Common.{◌≡◌, ◌∙◌, ap, ℕ, ◌+◌, ◌≤◌, Bool, true, false, ltb, eqb, ◌&&◌, ◌||◌, Some, Option, arith}
use Rattle.std.proofs.lemmas.Bool.{le-ltb, lt-ltb, and_right, or_left, cond-false, cond_both}
use Rattle.pm_silence.specs.declared.beating.Beat.{Beat}
use Rattle.pm_silence.specs.declared.beating.Beats.{Beats}
use Rattle.pm_silence.specs.Beating.{is_newer, is_new, beaten, beat_of}
use Rattle.pm_silence.proofs.laws.a_lost_start_is_learnt.Goals as goal

not_newer : (start old count : ℕ) → count ≤ old → is_newer (record { start = start; count = count }) (record { start = start; count = old }) ≡ false
not_newer start old count less =
    ap (λ (b : Bool). b || (eqb start start && ltb old count)) (le-ltb start start (omega arith)) ∙ and_right (eqb start start) (ltb old count)
    (le-ltb old count less)

pub returns-clause-silent : goal.returns-clause-silent
returns-clause-silent c start old count now l newest less =
    cond-false (is_new l.newest (record { start = start; count = count })) (record { newest = Some (record { start = start; count = count }); heard = now }) l
    (ap (λ (o : Option Beat). is_new o (record { start = start; count = count })) newest ∙ not_newer start old count less)

pub returns-clause-news : goal.returns-clause-news
returns-clause-news c beats known =
    cond_both (ltb known.start beats.start) beats (record { start = known.start + 1; count = 0 })
    (λ (b : Beats). is_newer (beat_of (beaten b)) known ≡ true)
    (λ less. or_left (ltb known.start beats.start) _ less)
    (λ _. or_left (ltb known.start (known.start + 1)) _ (lt-ltb known.start (known.start + 1) (omega arith)))
