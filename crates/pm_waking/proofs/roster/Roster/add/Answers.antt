-- The new node is counted nowhere.
use Rattle.std.proofs.Common.{sym, subst}
use Rattle.pm_waking.specs.Sleeping.{IsKept}
use Rattle.pm_waking.proofs.Replaced.{kept_with_more}
use Rattle.pm_waking.proofs.roster.Roster.add.Goals as goal

pub invariant_of-self-2 : goal.invariant_of-self-2
invariant_of-self-2 c =
    subst (λ es. IsKept es c.self.inside.totals) (sym c.in_ok-push.ensures.items)
    (kept_with_more c.self.inside.entries.items _ c.self.inside.totals c.self.invariant c.new-node.ensures.idle c.new-node.ensures.no_change
    c.new-node.ensures.not_offered c.new-node.ensures.sent)
