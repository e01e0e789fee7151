-- Of `a_cut_is_told_at_any_depth`: by the nodes down from the cut.
use Rattle.std.proofs.Common.{arith}
use Rattle.pm_silence.proofs.Paths.{over_by_reach}
use Rattle.pm_silence.proofs.laws.a_cut_is_told_at_any_depth.Goals as goal

pub returns-clause-each : goal.returns-clause-each
returns-clause-each c clocks e validity cut first step n until slow fast small far each lease =
    over_by_reach clocks e validity cut first step slow fast small far each n until lease

pub returns-clause-numbers : goal.returns-clause-numbers
returns-clause-numbers c = (omega arith, omega arith)
