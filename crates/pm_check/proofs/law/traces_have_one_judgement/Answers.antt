-- Of `traces_have_one_judgement`: its clauses `moves`, `line` and `apart`.
use Rattle.pm_check.proofs.Judgements.{one_count, one_bad_line, not_both}
use Rattle.pm_check.proofs.law.traces_have_one_judgement.Goals as goal

pub returns-clause-moves : goal.returns-clause-moves
returns-clause-moves c = λ plan report trace moves other is valid also. one_count plan is report trace moves other valid also

pub returns-clause-line : goal.returns-clause-line
returns-clause-line c = one_bad_line

pub returns-clause-apart : goal.returns-clause-apart
returns-clause-apart c = λ plan report trace moves line is valid bad. not_both plan is report trace moves line valid bad
