-- Of `boards_run_the_market`: its clauses `journal`, `ends` and `forward`.
use Rattle.pm_headline.proofs.Boards.{board_runs, board_ends}
use Rattle.pm_headline.proofs.Journals.{forward_in_lines}
use Rattle.pm_headline.proofs.boards_run_the_market.Goals as goal

pub returns-clause-journal : goal.returns-clause-journal
returns-clause-journal c b is settled = board_runs b is settled

pub returns-clause-ends : goal.returns-clause-ends
returns-clause-ends c b is settled = board_ends b is settled

pub returns-clause-forward : goal.returns-clause-forward
returns-clause-forward c plan journal is forward = forward_in_lines plan is journal forward
