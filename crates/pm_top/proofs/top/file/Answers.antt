-- Of `file`: its clauses `written`, `write_fault` and `answer`.
use Rattle.std.proofs.Common.{◌∙◌, refl, Some, subst, sym, length, ap, arith}
use Rattle.std.specs.Io.KnownBytes.{Consumes}
use Rattle.pm_io.specs.Taken.{TookMore}
use Rattle.pm_answer.specs.Inputs.{input_limit}
use Rattle.pm_top.specs.Top.{too_long_line, IsDue, too_long, answered, IsRead}
use Rattle.pm_answer.specs.declared.arguments.Command.TheVariants.{File}
use Rattle.pm_answer.specs.declared.status.Status.TheVariants.{TooLong}
use Rattle.pm_top.proofs.Due.{given_is_due, prefix_is_due, read_answers, long_answers}
use Rattle.pm_top.proofs.top.file.Given.{Over}
use Rattle.pm_top.proofs.top.file.Goals as goal
use Rattle.pm_top.proofs.top.file.Goals.{After-give, After-give-in-Err-TooLong}

-- the input was read to its end
was_read : (g : Over) (c : After-give g) → IsRead (Some (File c.args.asked)) c.args.asked (g.S.Source.left c.args.source.now)
    (g.S.Source.left c.read_all.new.source)
    c.deref.result.now
was_read g c = record {
  asks = refl;
  consumes = subst (Consumes _ _) (sym c.deref.ensures.value) c.in-Ok.ensures.all;
  at_end = c.in-Ok.ensures.end;
  short = omega (arith, c.in-Ok.ensures.within, ap length c.deref.ensures.value, c.input_limit.ensures);
}

-- the answer is due
is_due : (g : Over) (c : After-give g) → IsDue (Some (File c.args.asked)) (g.S.Source.left c.args.source.now) (g.S.Source.left c.read_all.new.source)
    c.in-Ok-answer_of.answer.status c.in-Ok-answer_of.answer.text.items
is_due g c = answered c.args.asked c.deref.result.now _ _ (was_read g c) c.in-Ok-answer_of.ensures

pub returns-in-Ok-answer_of-clause-written : goal.returns-in-Ok-answer_of-clause-written
returns-in-Ok-answer_of-clause-written g c = λ _ no_fault _.
    let p = (goal.at.returns-in-Ok-answer_of-clause-written g c).After-give in
    given_is_due _ _ _ _ _ _ _ _ _ (is_due g p) c.deref-in-Ok-answer_of.ensures.value (c.give.ensures.given no_fault)

pub returns-in-Ok-answer_of-clause-write_fault : goal.returns-in-Ok-answer_of-clause-write_fault
returns-in-Ok-answer_of-clause-write_fault g c = λ is.
    let p = (goal.at.returns-in-Ok-answer_of-clause-write_fault g c).After-give in
    let fault = c.give.ensures.fault is in
    (fault.0, prefix_is_due _ _ _ _ _ _ _ _ (is_due g p) c.deref-in-Ok-answer_of.ensures.value fault.1)

pub returns-in-Ok-answer_of-clause-answer : goal.returns-in-Ok-answer_of-clause-answer
returns-in-Ok-answer_of-clause-answer g c =
    let p = (goal.at.returns-in-Ok-answer_of-clause-answer g c).After-give in
    let read = was_read g p in
    read_answers c.args.asked _ _ c.deref.result.now c.give.result _ _ read.consumes read.at_end read.short c.in-Ok-answer_of.ensures c.give.ensures.either

-- more than the limit was taken
took_more : (g : Over) (c : After-give-in-Err-TooLong g) →
    TookMore (g.S.Source.left c.args.source.now) (g.S.Source.left c.read_all.new.source) (input_limit c.args.asked)
took_more g c =
    subst (TookMore (g.S.Source.left c.args.source.now) (g.S.Source.left c.read_all.new.source)) c.input_limit.ensures
    (c.in-Err-TooLong.ensures.too_long c.in-Err-TooLong.field-0-0 c.in-Err-TooLong.field-0-is).1

is_long : (g : Over) (c : After-give-in-Err-TooLong g) →
    IsDue (Some (File c.args.asked)) (g.S.Source.left c.args.source.now) (g.S.Source.left c.read_all.new.source)
    TooLong (too_long_line c.args.asked)
is_long g c = too_long c.args.asked (record { asks = refl; took = took_more g c })

pub returns-clause-written : goal.returns-clause-written
returns-clause-written g c = λ _ no_fault _.
    let p = (goal.at.returns-clause-written g c).After-give-in-Err-TooLong in
    given_is_due _ _ _ _ _ _ _ _ _ (is_long g p) (c.as_bytes.ensures.value ∙ c.too_long_line.ensures) (c.give-in-Err-TooLong.ensures.given no_fault)

pub returns-clause-write_fault : goal.returns-clause-write_fault
returns-clause-write_fault g c = λ is.
    let p = (goal.at.returns-clause-write_fault g c).After-give-in-Err-TooLong in
    let fault = c.give-in-Err-TooLong.ensures.fault is in
    (fault.0, prefix_is_due _ _ _ _ _ _ _ _ (is_long g p) (c.as_bytes.ensures.value ∙ c.too_long_line.ensures) fault.1)

pub returns-clause-answer : goal.returns-clause-answer
returns-clause-answer g c =
    let p = (goal.at.returns-clause-answer g c).After-give-in-Err-TooLong in
    long_answers c.args.asked _ _ c.give-in-Err-TooLong.result (took_more g p) c.give-in-Err-TooLong.ensures.either
