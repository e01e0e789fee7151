-- Of `Market::clear`: its clauses `ok` and `err`; what the type keeps.
use Rattle.std.proofs.Common.{ap, sym, subst, arith, ◌∙◌, get_or, ℕ, List, [], map, Vec, Global}
use Rattle.pm_base.specs.Cuts.{Cut, cut_of}
use Rattle.pm_base.specs.Rows.{rows_of}
use Rattle.pm_market.specs.Due.{KnowsDue}
use Rattle.pm_market.specs.Market.{market_lists, market_state, market_due}
use Rattle.pm_market.proofs.Tables.{cut_joined, rows_kept, on_error}
use Rattle.pm_market.proofs.Due.{knows_cleared, knows_same}
use Rattle.pm_market.proofs.market.Market.clear.Goals as goal

pub invariant_of-self-2 : goal.invariant_of-self-2
invariant_of-self-2 c =
    let m = c.args.self.now in
    let s = market_state m in
    let due : ℕ → ℕ = λ x. get_or c.in_ok-due.due.items x 0 in
    let knows : (ℕ → List Cut) → Type 0 = λ published. KnowsDue (market_lists m) (record s { published = published }) due in
    let cut = ap cut_of c.deref.ensures.value ∙ c.in_ok-row.ensures in
    record {
      leaf_of_each = m.leaf_of_each;
      count_of_each = m.count_of_each;
      cuts_of_each = m.cuts_of_each;
      number_of_each = m.number_of_each;
      indices_of_each = m.indices_of_each;
      due_of_each = omega (arith, c.in_ok-due.ensures.length, m.parents.ok);
      none_above = m.none_above;
      parents_marked = m.parents_marked;
      greatest_due = subst knows (sym (cut_joined m.published _ _ 0 _ _ c.in_ok-row.ensures c.deref_mut.ensures.value
          (c.push_at.auto.table ∙ c.deref_mut.ensures.len) (omega arith) c.in_ok-push_at.ensures.ok))
          (knows_same _ _ _ _ (λ x within. cc (c.in_ok-due.ensures.due x within, cut, c.next_index.ensures))
          (knows_cleared (market_lists m) s (market_due m) _ m.greatest_due));
    }

pub returns-clause-ok : goal.returns-clause-ok
returns-clause-ok c =
    let m = c.args.self.now in
    ap (λ (published : ℕ → List Cut). record (market_state m) { published = published })
    (cut_joined m.published _ _ 0 _ _ c.in_ok-row.ensures c.deref_mut.ensures.value (c.push_at.auto.table ∙ c.deref_mut.ensures.len)
    (omega arith) c.in_ok-push_at.ensures.ok)

pub invariant_of-self : goal.invariant_of-self
invariant_of-self c =
    let m = c.args.self.now in
    let s = market_state m in
    let size = c.push_at.auto.table ∙ c.deref_mut.ensures.len in
    record {
      leaf_of_each = m.leaf_of_each;
      count_of_each = m.count_of_each;
      cuts_of_each = m.cuts_of_each;
      number_of_each = m.number_of_each;
      indices_of_each = m.indices_of_each;
      due_of_each = m.due_of_each;
      none_above = m.none_above;
      parents_marked = m.parents_marked;
      greatest_due = subst (λ (rows : List (List (Vec ℕ Global))). KnowsDue (market_lists m)
          (record s { published = λ c. map cut_of (rows_of (get_or rows c [])) }) (market_due m))
          (sym (rows_kept m.published _ _ c.deref_mut.ensures.value size c.in_err-push_at.ensures.err)) m.greatest_due;
    }

pub returns-in_err-push_at-clause-err : goal.returns-in_err-push_at-clause-err
returns-in_err-push_at-clause-err c =
    let m = c.args.self.now in
    let size = c.push_at.auto.table ∙ c.deref_mut.ensures.len in
    on_error c.from_residual-in_err-push_at.result _
    (ap (λ (rows : List (List (Vec ℕ Global))). record (market_state m) { published = λ c. map cut_of (rows_of (get_or rows c [])) })
    (rows_kept m.published _ _ c.deref_mut.ensures.value size c.in_err-push_at.ensures.err))
