-- Of `texts_tell_the_market`: its clauses `file`, `invalid`, `demo` and `refused`.
use Rattle.std.proofs.Common.{refl}
use Rattle.pm_answer.specs.declared.status.Status.TheVariants.{Done, Invalid, Refused}
use Rattle.pm_headline.proofs.Headline.{answer_tells, answer_refutes, answer_refuses, summary_tells}
use Rattle.pm_headline.proofs.texts_tell_the_market.Goals as goal

pub returns-clause-file : goal.returns-clause-file
returns-clause-file c asked old new input text consumed at_end short answer =
    answer_tells asked old new input consumed at_end short Done text refl answer

pub returns-clause-invalid : goal.returns-clause-invalid
returns-clause-invalid c asked old new input text consumed at_end short answer =
    answer_refutes old new input consumed at_end asked short Invalid text refl answer

pub returns-clause-demo : goal.returns-clause-demo
returns-clause-demo c size number text within is = summary_tells size number text within is

pub returns-clause-refused : goal.returns-clause-refused
returns-clause-refused c asked old new input text consumed at_end short answer =
    answer_refuses old new input consumed at_end asked short Refused text refl answer
