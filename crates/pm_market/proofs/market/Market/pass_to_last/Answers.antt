-- Of `Market::pass_to_last`: its clause `ok`; what the type keeps.
use Rattle.std.proofs.Common.{ap, sym, subst, arith, ◌∙◌, [], get_or, ℕ, List}
use Rattle.pm_market.specs.Due.{KnowsDue}
use Rattle.pm_market.specs.Market.{market_lists, market_state, market_due}
use Rattle.pm_market.proofs.Tables.{index_joined, rows_kept, on_either, on_success}
use Rattle.pm_market.proofs.Due.{knows_passed_last}
use Rattle.pm_market.proofs.market.Market.pass_to_last.Goals as goal

pub invariant_of-self-clause-greatest_due : goal.invariant_of-self-clause-greatest_due
invariant_of-self-clause-greatest_due c =
    let m = c.args.self.now in
    let s = market_state m in
    let size = c.push_at.auto.table ∙ c.deref_mut.ensures.len in
    let knows : (ℕ → List ℕ) → Type 0 = λ passed. KnowsDue (market_lists m) (record s { passed = passed }) (market_due m) in
    on_either c.push_at.result _ _ _ c.push_at.ensures.ok c.push_at.ensures.err
    (λ pushed. subst knows (sym (index_joined m.passed _ _ c.args.node c.args.index c.deref_mut.ensures.value size (omega arith) pushed))
    (knows_passed_last (market_lists m) s (market_due m) c.args.node c.args.index c.requires.made m.greatest_due c.requires.childless))
    (λ same. subst (λ (rows : List (List ℕ)). knows (λ (x : ℕ). get_or rows x [])) (sym (rows_kept m.passed _ _ c.deref_mut.ensures.value size same))
    m.greatest_due)

pub returns-clause-ok : goal.returns-clause-ok
returns-clause-ok c =
    let m = c.args.self.now in
    let size = c.push_at.auto.table ∙ c.deref_mut.ensures.len in
    on_success c.push_at.result _ _
    (λ pushed. ap (λ (passed : ℕ → List ℕ). record (market_state m) { passed = passed })
    (index_joined m.passed _ _ c.args.node c.args.index c.deref_mut.ensures.value size (omega arith) pushed))
    c.push_at.ensures.ok
