-- Of `Market::was_passed`: what it ensures.
use Rattle.std.proofs.Common.{List, [], get_or, ℕ, ap, ◌∙◌}
use Rattle.pm_base.specs.Rows.{rows_of}
use Rattle.pm_market.specs.Legality.{is_one_of}
use Rattle.pm_market.proofs.market.Market.was_passed.Goals as goal

pub returns : goal.returns
returns c = c.is_among.ensures ∙ ap (λ (l : List ℕ). is_one_of l c.args.index)
    (c.row_at.ensures ∙ ap (λ table. get_or (rows_of table) c.args.node []) c.deref.ensures.value)
