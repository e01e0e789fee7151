-- Of `post_made`: its clause `unfit`.
use Rattle.std.proofs.Common.{rules}
use Rattle.pm_turns.proofs.posting.post_made.Goals as goal

pub returns-clause-unfit : goal.returns-clause-unfit
returns-clause-unfit c = search rules
