-- Of `Market::new`: its clause `start`; what the type keeps.
use Rattle.std.proofs.Common.{◌∙◌, ◌+◌, ap, subst, [], map}
use Rattle.std.proofs.Math.Path.{fun_ext}
use Rattle.pm_base.specs.Cuts.{cut_of}
use Rattle.pm_base.specs.Rows.{rows_of}
use Rattle.pm_market.specs.Due.{AreParents}
use Rattle.pm_market.proofs.Due.{knows_start}
use Rattle.pm_market.proofs.Tables.{state_same, all_one, empty_long}
use Rattle.pm_market.proofs.market.Market.new.Goals as goal

pub returns-clause-start : goal.returns-clause-start
returns-clause-start c =
    state_same _ _ _ _ _ _ _ _ _
    (fun_ext (all_one _ _ 0 (c.in_ok-vec.ensures.items_if_clones_equal (λ y e. e))))
    (fun_ext (λ x. ap (λ rows. map cut_of (rows_of rows)) (all_one _ _ [] c.in_ok-empty_rows.ensures x)))
    (fun_ext (all_one _ _ 0 (c.in_ok-vec-2.ensures.items_if_clones_equal (λ y e. e))))
    (fun_ext (all_one _ _ [] c.in_ok-empty_rows-2.ensures))

pub invariant_of-result : goal.invariant_of-result
invariant_of-result c =
    let places = ap (λ n. n + 1) c.len-places.ensures in
    let learnt = c.in_ok-vec-2.ensures.items_if_clones_equal (λ y e. e) in
    record {
      leaf_of_each = c.requires;
      count_of_each = c.in_ok-vec.ensures.len ∙ places;
      cuts_of_each = empty_long c.in_ok-empty_rows.field-0 _ c.in_ok-empty_rows.ensures ∙ places;
      number_of_each = c.in_ok-vec-2.ensures.len ∙ places;
      indices_of_each = empty_long c.in_ok-empty_rows-2.field-0 _ c.in_ok-empty_rows-2.ensures ∙ places;
      due_of_each = c.in_ok-vec-3.ensures.len ∙ places;
      none_above = all_one _ _ 0 learnt 0;
      parents_marked = subst (λ parents. AreParents parents c.in_ok-marked_parents.field-0.items) c.deref.ensures.value
          c.in_ok-marked_parents.ensures;
      greatest_due = knows_start _ _ _
          (ap (λ rows. map cut_of (rows_of rows)) (all_one _ _ [] c.in_ok-empty_rows.ensures 0))
          (all_one _ _ [] c.in_ok-empty_rows-2.ensures)
          (all_one _ _ 0 (c.in_ok-vec-3.ensures.items_if_clones_equal (λ y e. e)));
    }
