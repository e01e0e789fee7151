-- Of `Market::publish`: its clauses `ok` and `err`; what the type keeps.
use Rattle.std.proofs.Common.{◌<◌, ap, arith, ◌∙◌, ℕ, List, length, sym, subst, map, get_or, [], Vec, Global}
use Rattle.pm_base.specs.Cuts.{Cut, cut_of}
use Rattle.pm_base.specs.Rows.{rows_of}
use Rattle.pm_market.specs.Market.{market_state, market_lists, market_due}
use Rattle.pm_market.proofs.Tables.{cut_joined, on_success, rows_kept, on_either}
use Rattle.pm_market.specs.Due.{KnowsDue}
use Rattle.pm_market.proofs.Cuts.{updated_other}
use Rattle.pm_market.proofs.Kept.{on_failure, knows_published}
use Rattle.pm_market.proofs.market.Market.publish.Goals as goal

pub returns-clause-ok : goal.returns-clause-ok
returns-clause-ok c =
    let m = c.args.self.now in
    let size = c.push_at.auto.table ∙ c.deref_mut.ensures.len in
    let inside : c.args.node < length m.published.items = omega arith in
    on_success c.push_at.result _ _
    (λ pushed. ap (λ (published : ℕ → List Cut). record (market_state m) { published = published })
    (cut_joined m.published _ _ c.args.node _ _ c.in_ok-row.ensures c.deref_mut.ensures.value size inside pushed))
    c.push_at.ensures.ok

pub invariant_of-self-clause-greatest_due : goal.invariant_of-self-clause-greatest_due
invariant_of-self-clause-greatest_due c =
    let m = c.args.self.now in
    let s = market_state m in
    let size = c.push_at.auto.table ∙ c.deref_mut.ensures.len in
    let inside : c.args.node < length m.published.items = omega arith in
    let knows : (ℕ → List Cut) → Type 0 = λ published. KnowsDue (market_lists m) (record s { published = published }) (market_due m) in
    on_either c.push_at.result _ _ _ c.push_at.ensures.ok c.push_at.ensures.err
    (λ pushed. subst knows (sym (cut_joined m.published _ _ c.args.node _ _ c.in_ok-row.ensures c.deref_mut.ensures.value size inside pushed))
    (knows_published (market_lists m) s (market_due m) _ (updated_other s.published c.args.node _ 0 (λ zero. absurd (omega arith))) m.greatest_due))
    (λ same. subst (λ (rows : List (List (Vec ℕ Global))). knows (λ c. map cut_of (rows_of (get_or rows c []))))
    (sym (rows_kept m.published _ _ c.deref_mut.ensures.value size same)) m.greatest_due)

pub returns-clause-err : goal.returns-clause-err
returns-clause-err c =
    let m = c.args.self.now in
    let size = c.push_at.auto.table ∙ c.deref_mut.ensures.len in
    on_failure c.push_at.result _ _
    (λ same. ap (λ (rows : List (List (Vec ℕ Global))).
    record (market_state m) { published = λ c. map cut_of (rows_of (get_or rows c [])) })
    (rows_kept m.published _ _ c.deref_mut.ensures.value size same))
    c.push_at.ensures.err
