-- Of `clear`: its clauses `cleared` and `only`; what the call of `clear` requires.
use Rattle.std.proofs.Common.{ap, ◌∙◌, ◌≡◌, length, sym, subst, ◌+◌}
use Rattle.std.proofs.lemmas.Bool.{false≢true}
use Rattle.std.proofs.lemmas.List.{with_items_is}
use Rattle.std.specs.Vec.{with_items}
use Rattle.pm_cluster.proofs.Rows.{is_row_read, row_read, row_kept}
use Rattle.pm_session.specs.Prices.{IsNewIndex}
use Rattle.pm_cluster.proofs.parts.clear.Goals as goal

pub returns-in-Ok-clause-only : goal.returns-in-Ok-clause-only
returns-in-Ok-clause-only c =
    let prices = c.in-Ok.ensures.cleared.prices in
    let was = is_row_read (λ row. row.items) c.args.links.now.items 0 c.index_mut-row.result.now c.requires.row c.index_mut-row.ensures.value in
    let items = with_items_is c.index_mut-row.result.now c.clear.new.downs (prices.same_length ∙ c.deref_mut.ensures.len) in
    record {
      row = λ some. (was.wrote (with_items c.index_mut-row.result.now c.clear.new.downs)
          (ap length items ∙ prices.same_length ∙ ap length c.deref_mut.ensures.value)).0;
      none = λ e. absurd (cc e);
    }

pub clear-requires-clause-same_length : goal.clear-requires-clause-same_length
clear-requires-clause-same_length c =
    let row = row_read (λ row. row.items) c.args.links.now.items 0 c.index_mut-row.result.now c.requires.row c.index_mut-row.ensures.value in
    ap length (c.deref_mut.ensures.value ∙ sym row) ∙ c.requires.fits.same_length

pub clear-requires-clause-index : goal.clear-requires-clause-index
clear-requires-clause-index c =
    let row = row_read (λ row. row.items) c.args.links.now.items 0 c.index_mut-row.result.now c.requires.row c.index_mut-row.ensures.value in
    subst (IsNewIndex (c.args.auctioneer.now.index + 1)) (row ∙ sym c.deref_mut.ensures.value) c.requires.fits.index

pub returns-in-Ok-clause-cleared : goal.returns-in-Ok-clause-cleared
returns-in-Ok-clause-cleared c =
    let prices = c.in-Ok.ensures.cleared.prices in
    let read = is_row_read (λ row. row.items) c.args.links.now.items 0 c.index_mut-row.result.now c.requires.row c.index_mut-row.ensures.value in
    let items = with_items_is c.index_mut-row.result.now c.clear.new.downs (prices.same_length ∙ c.deref_mut.ensures.len) in
    let old_is = read.row ∙ sym c.deref_mut.ensures.value in
    let new_is = (read.wrote (with_items c.index_mut-row.result.now c.clear.new.downs)
    (ap length items ∙ prices.same_length ∙ ap length c.deref_mut.ensures.value)).1 ∙ items in
    rw (old_is, new_is) c.in-Ok.ensures.cleared

pub returns-in-Err-clause-only : goal.returns-in-Err-clause-only
returns-in-Err-clause-only c =
    let row = c.index_mut-row.result.now in
    let unchanged : c.clear.new.downs ≡ c.deref_mut.result.now = c.in-Err.ensures.unchanged.1 in
    let was : c.deref_mut.result.now ≡ row.items = c.deref_mut.ensures.value in
    let kept = with_items_is row c.clear.new.downs (ap length unchanged ∙ c.deref_mut.ensures.len) ∙ unchanged ∙ was in
    record {
      row = λ some. absurd (false≢true some);
      none = λ e. (
        c.in-Err.ensures.unchanged.0,
        row_kept (λ row. row.items) c.args.links.now.items 0 row (with_items row c.clear.new.downs) c.requires.row c.index_mut-row.ensures.value kept,
      );
    }
