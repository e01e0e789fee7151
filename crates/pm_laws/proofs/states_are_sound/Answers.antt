-- Of `states_are_sound`: its clauses `at_start`, `each_move` and `each_journal`.
use Rattle.pm_laws.proofs.Kept.{sound_start, sound_step, sound_after}
use Rattle.pm_laws.proofs.states_are_sound.Goals as goal

pub returns-clause-at_start : goal.returns-clause-at_start
returns-clause-at_start c lists law = sound_start lists law

pub returns-clause-each_move : goal.returns-clause-each_move
returns-clause-each_move c lists s m law sound legal = sound_step lists law s sound m legal

pub returns-clause-each_journal : goal.returns-clause-each_journal
returns-clause-each_journal c lists journal law legal = sound_after lists law journal legal
