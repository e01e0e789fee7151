-- What is due for an input tells the market.
use Rattle.std.proofs.Common.{◌≡◌, sym, subst, refl, ℕ, ◌≤◌, ℤ, true, List, length, Option}
use Rattle.std.specs.Io.KnownBytes.{Consumes, IsAtEnd}
use Rattle.pm_plan.specs.Plans.{PlanData}
use Rattle.pm_plan.specs.Kept.{IsPlan}
use Rattle.pm_plan.specs.States.{all_ends}
use Rattle.pm_scene.proofs.PlansOfFiles.{files_plan}
use Rattle.pm_gen.specs.Demo.{is_size}
use Rattle.pm_gen.proofs.PlansOfDemos.{demos_plan}
use Rattle.pm_answer.specs.Inputs.{input_limit, HasPlan, AreAsked, report_of}
use Rattle.pm_answer.specs.Answers.{IsAnswer, IsTextOf, IsSummary, refused, planned, valid, invalid}
use Rattle.pm_answer.specs.declared.arguments.FileCommand.{FileCommand}
use Rattle.pm_answer.specs.declared.arguments.FileCommand.TheVariants.{Run, Trace, Check, Bill, Ask, Free}
use Rattle.pm_answer.specs.declared.status.Status.{Status}
use Rattle.pm_answer.specs.declared.status.Status.TheVariants.{Done, Invalid, Refused}
use Rattle.pm_headline.specs.Demos.{TellsDemo}
use Rattle.pm_answer.proofs.Meanings.{not_both, no_judgement}
use Rattle.pm_headline.specs.Promises.{ReadFile, TellsPlan, TellsFile, ConfirmsTrace, RefutesTrace, RefusesInput}
use Rattle.pm_headline.proofs.Reports.{ends_tell, report_is}
use Rattle.pm_headline.proofs.Journals.{tells_run}
use Rattle.pm_headline.proofs.Judgements.{confirmed, refuted}
use Rattle.pm_headline.proofs.Bills.{bill_is}
use Rattle.pm_headline.proofs.Targets.{answers_are}

-- the text that is asked for of a plan tells it
text_tells : (asked : FileCommand) (plan : PlanData) (rest : List ℕ) (targets : List ℤ) (text : List ℕ) → IsPlan plan →
    AreAsked asked rest targets → IsTextOf asked plan targets text → TellsPlan asked plan rest text
unfolding report_of
text_tells Run plan rest targets text is are text_is = report_is plan text is text_is
text_tells Trace plan rest targets text is are text_is = (text_is.0, tells_run plan is text_is.0 text text_is.1 text_is.2)
text_tells Check plan rest targets text is are text_is = absurd are
text_tells Bill plan rest targets text is are text_is = bill_is plan is text text_is
text_tells Ask plan rest targets text is are text_is = (targets, are, answers_are plan targets text is text_is)
text_tells Free plan rest targets text is are text_is = report_is plan text is text_is

module _ (asked : FileCommand) (old new : Option (List ℕ)) (input : List ℕ) (consumed : Consumes old new input) (at_end : IsAtEnd new)
    (short : length input ≤ input_limit asked) where
  read_file : (plan : PlanData) (rest : List ℕ) → HasPlan asked input plan rest → ReadFile asked old new plan rest
  read_file plan rest has = record {
    input = input;
    consumed = consumed;
    at_end = at_end;
    short = short;
    file = has.file;
    has = has.has;
    means = has.means;
    is_plan = files_plan has.file plan has.means;
  }

  confirms : (plan : PlanData) (rest : List ℕ) (text : List ℕ) → asked ≡ Check → ConfirmsTrace plan rest text → TellsPlan asked plan rest text
  confirms plan rest text asks is = subst (λ (a : FileCommand). TellsPlan a plan rest text) (sym asks) is

  -- an answer with the status Done tells the market
  pub answer_tells : (status : Status) (text : List ℕ) → status ≡ Done → IsAnswer asked input status text → TellsFile asked old new text
  answer_tells status text done (refused refusal is) = absurd (cc done)
  answer_tells status text done (planned plan rest targets t has are text_is) = record {
    plan = plan;
    rest = rest;
    read = read_file plan rest has;
    tells = text_tells asked plan rest targets text (files_plan has.file plan has.means) are text_is;
  }
  answer_tells status text done (valid plan rest moves asks has is) = record {
    plan = plan;
    rest = rest;
    read = read_file plan rest has;
    tells = confirms plan rest text asks (confirmed plan (files_plan has.file plan has.means) rest moves is);
  }
  answer_tells status text done (invalid plan rest line asks has bad) = absurd (cc done)

-- the summary of a demo tells it
pub summary_tells : (size number : ℕ) (text : List ℕ) → is_size size ≡ true → IsSummary size number text → TellsDemo size number text
summary_tells size number text within is =
    let is_plan : IsPlan is.0 = demos_plan size number is.0 within is.1 in
    record {
      plan = is.0;
      means = is.1;
      is_plan = is_plan;
      ends = all_ends is.0;
      are_ends = ends_tell is.0 is_plan;
      written = is.2;
    }

-- an answer with the status Invalid refutes the trace
pub answer_refutes : (old new : Option (List ℕ)) (input : List ℕ) → Consumes old new input → IsAtEnd new →
    (asked : FileCommand) → length input ≤ input_limit asked → (status : Status) (text : List ℕ) → status ≡ Invalid →
    IsAnswer asked input status text →
    (asked ≡ Check) × ((plan : PlanData) × ((trace : List ℕ) × (ReadFile asked old new plan trace × RefutesTrace plan trace text)))
answer_refutes old new input consumed at_end asked short status text bad (refused refusal is) = absurd (cc bad)
answer_refutes old new input consumed at_end asked short status text bad (planned plan rest targets t has are text_is) = absurd (cc bad)
answer_refutes old new input consumed at_end asked short status text bad (valid plan rest moves asks has is) = absurd (cc bad)
answer_refutes old new input consumed at_end asked short status text bad (invalid plan rest line asks has is) = (
  asks,
  (
    plan,
    (
      rest,
      (
        read_file asked old new input consumed at_end short plan rest has,
        refuted plan (files_plan has.file plan has.means) rest line is,
      ),
    ),
  ),
)

-- an answer with the status Refused refuses the input
pub answer_refuses : (old new : Option (List ℕ)) (input : List ℕ) → Consumes old new input → IsAtEnd new →
    (asked : FileCommand) → length input ≤ input_limit asked → (status : Status) (text : List ℕ) → status ≡ Refused →
    IsAnswer asked input status text → RefusesInput asked old new text
answer_refuses old new input consumed at_end asked short status text refuses (refused refusal is) = record {
  input = input;
  consumed = consumed;
  at_end = at_end;
  short = short;
  refusal = refusal;
  why = is;
  written = refl;
  nothing_asked = λ plan rest targets has are. not_both asked input refusal plan rest targets is has are;
  no_trace = λ asks plan rest has. no_judgement asked input refusal plan rest asks is has;
}
answer_refuses old new input consumed at_end asked short status text refuses (planned plan rest targets t has are text_is) = absurd (cc refuses)
answer_refuses old new input consumed at_end asked short status text refuses (valid plan rest moves asks has is) = absurd (cc refuses)
answer_refuses old new input consumed at_end asked short status text refuses (invalid plan rest line asks has is) = absurd (cc refuses)
