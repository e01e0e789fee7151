-- What is due with the status Done tells the market, and with the status Invalid refutes a trace.
use Rattle.std.proofs.Common.{◌≡◌, ◌≢◌, ◌∙◌, sym, ap, subst, ℕ, true, List, Option, Some}
use Rattle.std.specs.Io.KnownBytes.{Appends}
use Rattle.pm_gen.specs.Demo.{is_size}
use Rattle.pm_answer.specs.declared.arguments.Command.{Command}
use Rattle.pm_answer.specs.declared.arguments.Command.TheVariants.{File, Demo, Serve}
use Rattle.pm_answer.specs.declared.arguments.FileCommand.{FileCommand}
use Rattle.pm_answer.specs.declared.status.Status.{Status}
use Rattle.pm_answer.specs.declared.status.Status.TheVariants.{Done, Invalid, ReadFault, WriteFault, NoMemory}
use Rattle.pm_headline.specs.Promises.{TellsTheMarket, RefutesFile, ReadFile}
use Rattle.pm_headline.proofs.Headline.{answer_tells, answer_refutes, summary_tells}
use Rattle.pm_answer.specs.Answers.{IsSummary}
use Rattle.pm_top.specs.Top.{IsDue, usage, too_long, answered, summary, served, served_fault, served_long}
use Rattle.pm_top.specs.Endings.{WroteItsText, WrotePartOfDue}

-- of a service nothing is said
serves : (old new : Option (List ℕ)) (text : List ℕ) (command : Option Command) → command ≡ Some Serve → TellsTheMarket command old new text
serves old new text command asks = subst (λ (c : Option Command). TellsTheMarket c old new text) (sym asks) tt

-- what is due with the status Done tells the market, where a demo has a size
pub due_tells : (command : Option Command) (old new : Option (List ℕ)) (status : Status) (text : List ℕ) →
    ((size number : ℕ) → command ≡ Some (Demo size number) → is_size size ≡ true) → status ≡ Done → IsDue command old new status text →
    TellsTheMarket command old new text
due_tells command old new status text sized done (usage is) = absurd (cc done)
due_tells command old new status text sized done (too_long asked is) = absurd (cc done)
due_tells command old new status text sized done (answered asked input status' text' read answer) =
    subst (λ (c : Option Command). TellsTheMarket c old new text') (sym read.asks)
    (answer_tells asked old new input read.consumes read.at_end read.short status' text' done answer)
due_tells command old new status text sized done (summary size number written asks is) =
    subst (λ (c : Option Command). TellsTheMarket c old new written) (sym asks)
    (summary_tells size number written (sized size number asks) is)
due_tells command old new status text sized done (served frames input asks all end are) = serves old new _ command asks
due_tells command old new status text sized done (served_fault frames input asks all fault) = absurd (cc done)
due_tells command old new status text sized done (served_long frames input asks all has long) = absurd (cc done)

-- and with the status Invalid refutes the trace behind a file
pub due_refutes : (command : Option Command) (old new : Option (List ℕ)) (status : Status) (text : List ℕ) → status ≡ Invalid →
    IsDue command old new status text → RefutesFile command old new text
due_refutes command old new status text bad (usage is) = absurd (cc bad)
due_refutes command old new status text bad (too_long asked is) = absurd (cc bad)
due_refutes command old new status text bad (answered asked input status' text' read answer) =
    let found = answer_refutes old new input read.consumes read.at_end asked read.short status' text' bad answer in
    record {
      asks = read.asks ∙ ap (λ (a : FileCommand). Some (File a)) found.0;
      plan = found.1.0;
      trace = found.1.1.0;
      read = subst (λ (a : FileCommand). ReadFile a old new found.1.0 found.1.1.0) found.0 found.1.1.1.0;
      refutes = found.1.1.1.1;
    }
due_refutes command old new status text bad (summary size number written asks is) = absurd (cc bad)
due_refutes command old new status text bad (served frames input asks all end are) = absurd (cc bad)
due_refutes command old new status text bad (served_fault frames input asks all fault) = absurd (cc bad)
due_refutes command old new status text bad (served_long frames input asks all has long) = absurd (cc bad)

unfailed : (command : Option Command) (old new held holds : Option (List ℕ)) (status due : Status) → status ≡ due → due ≢ ReadFault →
    due ≢ WriteFault → due ≢ NoMemory → WroteItsText command old new held holds status →
    (text : List ℕ) × IsDue command old new status text × Appends held holds text
unfailed command old new held holds status due is no_read no_write no_failure written =
    written (λ e. no_read (sym is ∙ e)) (λ e. no_write (sym is ∙ e)) (λ e. no_failure (sym is ∙ e))

-- a text that was written with Done tells the market
pub headline_of : (command : Option Command) (old new held holds : Option (List ℕ)) (status : Status) →
    ((size number : ℕ) → command ≡ Some (Demo size number) → is_size size ≡ true) → WroteItsText command old new held holds status →
    status ≡ Done →
    (text : List ℕ) × TellsTheMarket command old new text × Appends held holds text
headline_of command old new held holds status sized written done =
    let w = unfailed command old new held holds status Done done (λ e. cc e) (λ e. cc e) (λ e. cc e) written in
    (w.0, due_tells command old new status w.0 sized done w.1, w.2)

-- a text that was written with Invalid refutes a trace
pub refutation_of : (command : Option Command) (old new held holds : Option (List ℕ)) (status : Status) →
    WroteItsText command old new held holds status → status ≡ Invalid →
    (text : List ℕ) × RefutesFile command old new text × Appends held holds text
refutation_of command old new held holds status written bad =
    let w = unfailed command old new held holds status Invalid bad (λ e. cc e) (λ e. cc e) (λ e. cc e) written in
    (w.0, due_refutes command old new status w.0 bad w.1, w.2)

-- the summary of a demo that was written tells the market
pub demo_tells : (command : Option Command) (old new held holds : Option (List ℕ)) (size number : ℕ) → command ≡ Some (Demo size number) →
    is_size size ≡ true → (text : List ℕ) × IsSummary size number text × Appends held holds text →
    (text : List ℕ) × TellsTheMarket command old new text × Appends held holds text
demo_tells command old new held holds size number asks within w =
    (w.0, subst (λ (c : Option Command). TellsTheMarket c old new w.0) (sym asks) (summary_tells size number w.0 within w.1), w.2)

-- a part of a text that is due of one command is so of the same one
pub cut_short_of : (asked other : FileCommand) (old new held holds : Option (List ℕ)) → asked ≡ other →
    WrotePartOfDue (Some (File asked)) old new held holds → WrotePartOfDue (Some (File other)) old new held holds
cut_short_of asked other old new held holds same d =
    (d.0, (d.1.0, subst (λ (a : FileCommand). IsDue (Some (File a)) old new d.0 d.1.0) same d.1.1, d.1.2))
