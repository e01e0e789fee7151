-- Of `replaced`: the value that was there is kept.
use Rattle.std.proofs.Common.{◌≡◌, ◌∙◌, sym, ap, rules}
use Rattle.pm_store.proofs.memory.replaced.Goals as goal

pub returns-clause-past : goal.returns-clause-past
returns-clause-past c =
    let same : c.in_ok-to_vec.field-0.items ≡ c.args.value.now.items = search rules in
    (c.in_ok-to_vec.field-0, same, c.in_ok-push.ensures.items)
