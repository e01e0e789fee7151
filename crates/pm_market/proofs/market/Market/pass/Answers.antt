-- Of `Market::pass`: its clauses `ok` and `err`; what the call of `pass_to_last` requires; what the type keeps.
use Rattle.std.proofs.Common.{ap, sym, subst, arith, true, ◌∙◌, get_or, ℕ, List, []}
use Rattle.pm_market.specs.Due.{KnowsDue}
use Rattle.pm_market.specs.Market.{market_lists, market_state, market_due}
use Rattle.pm_market.proofs.Tables.{index_joined, rows_kept, on_error}
use Rattle.pm_market.proofs.Due.{childless_from, knows_passed, knows_same}
use Rattle.pm_market.proofs.market.Market.pass.Goals as goal

pub pass_to_last-requires-clause-childless : goal.pass_to_last-requires-clause-childless
pass_to_last-requires-clause-childless c =
    let m = c.args.self.now in
    childless_from (market_lists m) m.has_child.items c.args.node m.parents_marked
    (cc (c.item_at.ensures, ap (λ marks. get_or marks c.args.node true) c.deref.ensures.value))

pub invariant_of-self-2 : goal.invariant_of-self-2
invariant_of-self-2 c =
    let m = c.args.self.now in
    let s = market_state m in
    let due : ℕ → ℕ = λ x. get_or c.in_ok-due.due.items x 0 in
    let knows : (ℕ → List ℕ) → Type 0 = λ passed. KnowsDue (market_lists m) (record s { passed = passed }) due in
    record {
      leaf_of_each = m.leaf_of_each;
      count_of_each = m.count_of_each;
      cuts_of_each = m.cuts_of_each;
      number_of_each = m.number_of_each;
      indices_of_each = m.indices_of_each;
      due_of_each = omega (arith, c.in_ok-due.ensures.length, m.parents.ok);
      none_above = m.none_above;
      parents_marked = m.parents_marked;
      greatest_due = subst knows (sym (index_joined m.passed _ _ c.args.node c.args.index c.deref_mut.ensures.value
          (c.push_at.auto.table ∙ c.deref_mut.ensures.len) (omega arith) c.in_ok-push_at.ensures.ok))
          (knows_same _ _ _ _ (λ x within. cc (c.in_ok-due.ensures.due x within, c.cut_row.ensures))
          (knows_passed (market_lists m) s (market_due m) c.args.node c.args.index c.requires.made m.greatest_due));
    }

pub returns-clause-ok : goal.returns-clause-ok
returns-clause-ok c =
    let m = c.args.self.now in
    ap (λ (passed : ℕ → List ℕ). record (market_state m) { passed = passed })
    (index_joined m.passed _ _ c.args.node c.args.index c.deref_mut.ensures.value (c.push_at.auto.table ∙ c.deref_mut.ensures.len)
    (omega arith) c.in_ok-push_at.ensures.ok)

pub invariant_of-self : goal.invariant_of-self
invariant_of-self c =
    let m = c.args.self.now in
    let s = market_state m in
    let size = c.push_at.auto.table ∙ c.deref_mut.ensures.len in
    record {
      leaf_of_each = m.leaf_of_each;
      count_of_each = m.count_of_each;
      cuts_of_each = m.cuts_of_each;
      number_of_each = m.number_of_each;
      indices_of_each = m.indices_of_each;
      due_of_each = m.due_of_each;
      none_above = m.none_above;
      parents_marked = m.parents_marked;
      greatest_due = subst (λ (rows : List (List ℕ)). KnowsDue (market_lists m) (record s { passed = λ (x : ℕ). get_or rows x [] }) (market_due m))
          (sym (rows_kept m.passed _ _ c.deref_mut.ensures.value size c.in_err-push_at.ensures.err)) m.greatest_due;
    }

pub returns-in_err-push_at-clause-err : goal.returns-in_err-push_at-clause-err
returns-in_err-push_at-clause-err c =
    let m = c.args.self.now in
    let size = c.push_at.auto.table ∙ c.deref_mut.ensures.len in
    on_error c.from_residual-in_err-push_at.result _
    (ap (λ (rows : List (List ℕ)). record (market_state m) { passed = λ (x : ℕ). get_or rows x [] })
    (rows_kept m.passed _ _ c.deref_mut.ensures.value size c.in_err-push_at.ensures.err))
