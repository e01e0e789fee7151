-- What a refusal answers, which command was asked, and that no total is refused as a curve.
use Rattle.std.proofs.Common.{◌≡◌, ◌∙◌, sym, subst, ℕ, ℤ, List, Result, Ok, Err, Option, Some, arith}
use Rattle.std.specs.Prelude.{IfOk}
use Rattle.pm_base.proofs.Ints.{not_below}
use Rattle.pm_bid.specs.Bids.{NeverRises}
use Rattle.pm_bid.proofs.FoundStep.{first_rising_none}
use Rattle.pm_ask.specs.Causes.{IsFaultOf}
use Rattle.pm_ask.specs.declared.fault.CurveFault.{CurveFault}
use Rattle.pm_ask.specs.declared.fault.CurveFault.TheVariants.{Rising}
use Rattle.pm_plan.specs.declared.refusal.Refusal.{Refusal}
use Rattle.pm_report.specs.Refusal.{refusal_line}
use Rattle.pm_plan.specs.Plans.{PlanData}
use Rattle.pm_answer.specs.Inputs.{HasPlan, AreAsked, IsRefusalOf}
use Rattle.pm_answer.specs.Answers.{IsAnswer, IsTextOf, refused, planned}
use Rattle.pm_answer.specs.declared.answer.Outcome.{Outcome}
use Rattle.pm_answer.specs.declared.arguments.Command.{Command}
use Rattle.pm_answer.specs.declared.arguments.Command.TheVariants.{File}
use Rattle.pm_answer.specs.declared.arguments.FileCommand.{FileCommand}
use Rattle.pm_answer.specs.declared.status.Status.{Status}
use Rattle.pm_answer.specs.declared.status.Status.TheVariants.{Done, Refused}

-- the answer of a refusal is that of an input that has it
pub refusal_answers : {E : Type 0} (asked : FileCommand) (input : List ℕ) (refusal : Refusal) (result : Result Outcome E) →
    IfOk result (λ answer. answer.status ≡ Refused) → IfOk result (λ answer. answer.text.items ≡ refusal_line refusal) →
    IsRefusalOf asked input refusal → IfOk result (λ answer. IsAnswer asked input answer.status answer.text.items)
refusal_answers asked input refusal (Ok answer) status text is =
    subst (λ (s : Status). IsAnswer asked input s answer.text.items) (sym status) (subst (IsAnswer asked input Refused) (sym text) (refused refusal is))
refusal_answers asked input refusal (Err e) status text is = tt

-- a text that is asked for of the plan of an input is its answer, with Done
pub text_answers : (asked other : FileCommand) (input rest : List ℕ) (plan : PlanData) (targets : List ℤ) (status : Status) (text given : List ℕ) →
    asked ≡ other → HasPlan asked input plan rest → AreAsked other rest targets → IsTextOf other plan targets given →
    status ≡ Done → text ≡ given → IsAnswer asked input status text
text_answers asked other input rest plan targets status text given same has are is done text_is =
    subst (λ (s : Status). IsAnswer asked input s text) (sym done)
    (subst (IsAnswer asked input Done) (sym text_is)
    (planned plan rest targets given has
    (subst (λ (a : FileCommand). AreAsked a rest targets) (sym same) are)
    (subst (λ (a : FileCommand). IsTextOf a plan targets given) (sym same) is)))

-- arguments are one command
pub same_command : (a b : FileCommand) (command : Option Command) → command ≡ Some (File a) → command ≡ Some (File b) → a ≡ b
same_command a b command e f =
    let both : Some (File a) ≡ Some (File b) = sym e ∙ f in
    let same : a ≡ b = cc in
    same

-- a total that never rises is not refused
pub never_refused : (total : List ℤ) (fault : CurveFault) (at : ℕ) → NeverRises total → fault ≡ Rising at → IsFaultOf total fault → ⊥
never_refused total fault at falls same is =
    let found : IsFaultOf total (Rising at) = subst (IsFaultOf total) same is in
    omega (arith, found.0, found.1, first_rising_none total (omega (arith, found.1)) (λ k inside. not_below _ _ (falls k inside)))
