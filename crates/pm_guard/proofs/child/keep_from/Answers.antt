-- Of `keep_from`: what it ensures.
use Rattle.std.proofs.Common.{rules}
use Rattle.std.proofs.lemmas.Fn.{filter_same}
use Rattle.pm_guard.specs.Bands.{is_from}
use Rattle.pm_guard.proofs.child.keep_from.Goals as goal

pub returns : goal.returns
returns c = filter_same _ (is_from c.args.index) _ (λ x b f' t. search rules) _ _ c.retain.ensures.filtered
