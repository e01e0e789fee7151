-- Of `plan_answer`: what it ensures.
use Rattle.std.proofs.Common.{[], refl}
use Rattle.pm_answer.specs.declared.arguments.FileCommand.TheVariants.{Run, Trace, Bill, Free}
use Rattle.pm_answer.proofs.Answering.{text_answers}
use Rattle.pm_answer.proofs.answer.plan_answer.Goals as goal

pub returns-in_ok-text-in-Run : goal.returns-in_ok-text-in-Run
returns-in_ok-text-in-Run g c =
    let told = c.in_ok-text-in-Run in
    text_answers c.args.asked Run c.args.input.now c.args.rest.now c.args.plan.now [] c.done.result.status c.done.result.text.items
    told.text.items c.in-Run.is c.requires.plan refl told.ensures c.done.ensures.status c.done.ensures.text

pub returns-in_ok-text-in-Trace : goal.returns-in_ok-text-in-Trace
returns-in_ok-text-in-Trace g c =
    let told = c.in_ok-text-in-Trace in
    text_answers c.args.asked Trace c.args.input.now c.args.rest.now c.args.plan.now [] c.done-in-Trace.result.status c.done-in-Trace.result.text.items
    told.text.items c.in-Trace.is c.requires.plan refl told.ensures c.done-in-Trace.ensures.status c.done-in-Trace.ensures.text

pub returns-in_ok-text-in-Bill : goal.returns-in_ok-text-in-Bill
returns-in_ok-text-in-Bill g c =
    let told = c.in_ok-text-in-Bill in
    text_answers c.args.asked Bill c.args.input.now c.args.rest.now c.args.plan.now [] c.done-in-Bill.result.status c.done-in-Bill.result.text.items
    told.text.items c.in-Bill.is c.requires.plan refl told.ensures c.done-in-Bill.ensures.status c.done-in-Bill.ensures.text

pub returns-in_ok-text-in-Free : goal.returns-in_ok-text-in-Free
returns-in_ok-text-in-Free g c =
    let told = c.in_ok-text-in-Free in
    text_answers c.args.asked Free c.args.input.now c.args.rest.now c.args.plan.now [] c.done-in-Free.result.status c.done-in-Free.result.text.items
    told.text.items c.in-Free.is c.requires.plan refl told.ensures c.done-in-Free.ensures.status c.done-in-Free.ensures.text
