-- Of `read_limits`: what it ensures of a node that has limits.
use Rattle.std.proofs.Common.{sym, rules}
use Rattle.pm_plan.proofs.MarketLists.{limits_around}
use Rattle.pm_phase.proofs.matcher.read_limits.Goals as goal

pub returns-clause-limits : goal.returns-clause-limits
returns-clause-limits c = search rules

pub returns-clause-are_limits : goal.returns-clause-are_limits
returns-clause-are_limits c = limits_around c.args.plan.now c.tree.ensures.sound c.args.node _ (sym (returns-clause-limits c))
