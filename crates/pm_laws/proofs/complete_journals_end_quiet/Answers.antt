-- Of `complete_journals_end_quiet`: its clauses `idle` and `made`.
use Rattle.pm_laws.proofs.Kept.{sound_after}
use Rattle.pm_laws.proofs.complete_journals_end_quiet.Goals as goal

pub returns-clause-idle : goal.returns-clause-idle
returns-clause-idle c lists journal law legal complete = (sound_after lists law journal legal).ended_idle complete

pub returns-clause-made : goal.returns-clause-made
returns-clause-made c lists journal law legal complete d leaf = (sound_after lists law journal legal).ended_counts complete d leaf
