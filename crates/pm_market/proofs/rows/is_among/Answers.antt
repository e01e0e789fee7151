-- Of `is_among`: what it ensures; the turns of its loop over `back`.
use Rattle.std.proofs.Common.{◌<◌, ◌-◌, ℕ, get_or, length, sym, ◌∙◌, ap, arith, inl, inr}
use Rattle.std.proofs.lemmas.Bool.{cases_eq}
use Rattle.std.proofs.lemmas.List.{get_or_default}
use Rattle.pm_market.specs.Legality.{is_one_of}
use Rattle.pm_market.proofs.Legality.{is_one_of_from, is_one_of_at}
use Rattle.pm_market.proofs.Loops.{refused}
use Rattle.pm_market.proofs.rows.is_among.Goals as goal

pub loop-back-init : goal.loop-back-init
loop-back-init c k ge lt e = absurd (omega arith)

pub returns-then-list-len : goal.returns-then-list-len
returns-then-list-len c =
    let at : ℕ = length c.args.list.now - c.loop-back.back - 1 in
    let inside : at < length c.args.list.now = omega arith in
    sym (is_one_of_at c.args.list.now c.args.item at inside (get_or_default c.args.list.now at c.args.item 0 inside ∙ c.if-list-len.true))

pub loop-back-preserved : goal.loop-back-preserved
loop-back-preserved c k ge lt e =
    let at : ℕ = length c.args.list.now - c.loop-back.back - 1 in
    elim (cases_eq k at) [
      | inl same ↦ c.if-list-len.false (sym (ap (λ (j : ℕ). get_or c.args.list.now j 0) same) ∙ e)
      | inr ne ↦ c.loop-back.invariant k (omega arith) lt e
    ]

pub returns : goal.returns
returns c = refused (is_one_of c.args.list.now c.args.item) (λ e.
    let r = is_one_of_from c.args.list.now c.args.item e in
    c.loop-back.invariant r.0 (omega arith) r.1 (get_or_default c.args.list.now r.0 0 c.args.item r.1 ∙ r.2))
