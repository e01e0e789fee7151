-- Of `nothing_is_left_out`: its clauses.
use Rattle.pm_headline.proofs.Bills.{bill_only}
use Rattle.pm_headline.proofs.Targets.{answers_only}
use Rattle.pm_headline.proofs.Reports.{report_only}
use Rattle.pm_headline.proofs.Journals.{told_run}
use Rattle.pm_headline.proofs.nothing_is_left_out.Goals as goal

pub returns-clause-report : goal.returns-clause-report
returns-clause-report c plan text is tells = report_only plan text is tells

pub returns-clause-trace : goal.returns-clause-trace
returns-clause-trace c plan journal text is tells = told_run plan is journal text tells

pub returns-clause-bill : goal.returns-clause-bill
returns-clause-bill c plan text is tells = bill_only plan is text tells

pub returns-clause-ask : goal.returns-clause-ask
returns-clause-ask c plan targets text answers = answers_only plan targets text answers
