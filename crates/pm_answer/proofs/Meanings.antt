-- An input means one thing: it has one file, at most one refusal, and never both a refusal and what is asked for.
use Rattle.std.proofs.Common.{◌≡◌, ◌∙◌, sym, ap, subst, refl, ℕ, ℤ, ◌<◌, ◌≤◌, List, length, Ok, Err, arith}
use Rattle.pm_ask.specs.TargetLists.{IsFirstBadLine}
use Rattle.pm_ask.proofs.TargetTexts.{no_list, one_bad_line}
use Rattle.pm_envelope.proofs.Openings.{same_envelope}
use Rattle.pm_plan.specs.declared.refusal.Cause.TheVariants.{BadTarget}
use Rattle.pm_plan.specs.declared.refusal.Place.TheVariants.{Line}
use Rattle.pm_plan.specs.declared.refusal.Refusal.{Refusal}
use Rattle.pm_plan.specs.Causes.{cause_code}
use Rattle.pm_plan.specs.Plans.{PlanData}
use Rattle.pm_scene.specs.Scene.{scene}
use Rattle.pm_scene.proofs.PlansOfFiles.{files_plan}
use Rattle.pm_answer.specs.declared.arguments.FileCommand.{FileCommand}
use Rattle.pm_answer.specs.declared.arguments.FileCommand.TheVariants.{Run, Trace, Check, Bill, Ask, Free}
use Rattle.pm_answer.specs.declared.status.Status.{Status}
use Rattle.pm_answer.specs.declared.status.Status.TheVariants.{TooLong}
use Rattle.pm_check.specs.Traces.{IsValidTrace, IsBadLine}
use Rattle.pm_check.proofs.Judgements.{not_both as not_judged_twice}
use Rattle.pm_answer.specs.Inputs.{input_limit, HasFile, HasPlan, AreAsked, IsRefusalOf, no_file, bad_file, bad_target, refusal_at, HasStatus, is_too_long}
use Rattle.pm_answer.specs.Inputs.{is_refused, is_done, is_valid, is_invalid, report_of}
use Rattle.pm_answer.specs.Answers.{IsAnswer, refused, planned, valid, invalid}

-- an input has one file, and one rest behind it
pub one_file : (asked : FileCommand) (input file rest file' rest' : List ℕ) → HasFile asked input file rest → HasFile asked input file' rest' →
    (file ≡ file') × (rest ≡ rest')
one_file Run input file rest file' rest' has has' = (has.0 ∙ sym has'.0, has.1 ∙ sym has'.1)
one_file Trace input file rest file' rest' has has' = (has.0 ∙ sym has'.0, has.1 ∙ sym has'.1)
one_file Bill input file rest file' rest' has has' = (has.0 ∙ sym has'.0, has.1 ∙ sym has'.1)
one_file Check input file rest file' rest' has has' = same_envelope input file rest file' rest' has has'
one_file Ask input file rest file' rest' has has' = same_envelope input file rest file' rest' has has'
one_file Free input file rest file' rest' has has' = (has.0 ∙ sym has'.0, has.1 ∙ sym has'.1)

-- a file that is refused has no plan
no_plan : (asked : FileCommand) (input file rest rest' : List ℕ) (refusal : Refusal) (plan : PlanData) → HasFile asked input file rest →
    scene file ≡ Err refusal →
    HasPlan asked input plan rest' → ⊥
no_plan asked input file rest rest' refusal plan has is its_plan =
    let same = (one_file asked input file rest its_plan.file rest' has its_plan.has).0 in
    let both : Err refusal ≡ Ok plan = sym is ∙ ap scene same ∙ its_plan.means in
    absurd (cc)

-- the lines behind a file have one first bad line
one_line : (asked : FileCommand) (input : List ℕ) (plan plan' : PlanData) (rest rest' : List ℕ) (line line' : ℕ) → HasPlan asked input plan rest →
    HasPlan asked input plan' rest' → IsFirstBadLine line rest → IsFirstBadLine line' rest' → line ≡ line'
one_line asked input plan plan' rest rest' line line' its_plan its_plan' bad bad' =
    let same = (one_file asked input its_plan.file rest its_plan'.file rest' its_plan.has its_plan'.has).1 in
    one_bad_line line line' rest bad (subst (λ (r : List ℕ). IsFirstBadLine line' r) (sym same) bad')

-- an input has at most one refusal
pub one_refusal : (asked : FileCommand) (input : List ℕ) (a b : Refusal) → IsRefusalOf asked input a → IsRefusalOf asked input b → a ≡ b
one_refusal asked input a b (no_file none) (no_file none') = refl
one_refusal asked input a b (no_file none) (bad_file file rest r has is) = absurd (none file rest has)
one_refusal asked input a b (no_file none) (bad_target plan rest line asks its_plan bad) = absurd (none its_plan.file rest its_plan.has)
one_refusal asked input a b (bad_file file rest r has is) (no_file none) = absurd (none file rest has)
one_refusal asked input a b (bad_file file rest r has is) (bad_file file' rest' r' has' is') =
    let both : Err r ≡ Err r' = sym is ∙ ap scene (one_file asked input file rest file' rest' has has').0 ∙ is' in
    let one : r ≡ r' = cc in
    one
one_refusal asked input a b (bad_file file rest r has is) (bad_target plan rest' line asks its_plan bad) =
    absurd (no_plan asked input file rest rest' r plan has is its_plan)
one_refusal asked input a b (bad_target plan rest line asks its_plan bad) (no_file none) = absurd (none its_plan.file rest its_plan.has)
one_refusal asked input a b (bad_target plan rest line asks its_plan bad) (bad_file file rest' r has is) =
    absurd (no_plan asked input file rest' rest r plan has is its_plan)
one_refusal asked input a b (bad_target plan rest line asks its_plan bad) (bad_target plan' rest' line' asks' its_plan' bad') =
    ap (λ (n : ℕ). refusal_at (cause_code BadTarget) (Line n)) (one_line asked input plan plan' rest rest' line line' its_plan its_plan' bad bad')

-- what is asked of a plan is no bad line
no_bad_line : (asked : FileCommand) (rest : List ℕ) (targets : List ℤ) (line : ℕ) → asked ≡ Ask → AreAsked asked rest targets →
    IsFirstBadLine line rest → ⊥
no_bad_line Run rest targets line asks are bad = absurd (cc)
no_bad_line Trace rest targets line asks are bad = absurd (cc)
no_bad_line Check rest targets line asks are bad = absurd (cc)
no_bad_line Bill rest targets line asks are bad = absurd (cc)
no_bad_line Ask rest targets line asks are bad = no_list targets line rest are bad
no_bad_line Free rest targets line asks are bad = absurd (cc)

-- an input that is refused has nothing that is asked for
pub not_both : (asked : FileCommand) (input : List ℕ) (refusal : Refusal) (plan : PlanData) (rest : List ℕ) (targets : List ℤ) →
    IsRefusalOf asked input refusal →
    HasPlan asked input plan rest → AreAsked asked rest targets → ⊥
not_both asked input refusal plan rest targets (no_file none) its_plan are = none its_plan.file rest its_plan.has
not_both asked input refusal plan rest targets (bad_file file rest' r has is) its_plan are = no_plan asked input file rest' rest r plan has is its_plan
not_both asked input refusal plan rest targets (bad_target plan' rest' line asks its_plan' bad) its_plan are =
    let same = (one_file asked input its_plan'.file rest' its_plan.file rest its_plan'.has its_plan.has).1 in
    no_bad_line asked rest targets line asks are (subst (λ (r : List ℕ). IsFirstBadLine line r) same bad)

-- ---- traces

-- an input that is refused has no trace
not_traced : (asked : FileCommand) (input : List ℕ) (refusal : Refusal) (plan : PlanData) (rest : List ℕ) → asked ≡ Check →
    IsRefusalOf asked input refusal →
    HasPlan asked input plan rest → ⊥
not_traced asked input refusal plan rest asks (no_file none) its_plan = none its_plan.file rest its_plan.has
not_traced asked input refusal plan rest asks (bad_file file rest' r has is) its_plan = no_plan asked input file rest' rest r plan has is its_plan
not_traced asked input refusal plan rest asks (bad_target plan' rest' line asks' its_plan' bad) its_plan =
    let both : Check ≡ Ask = sym asks ∙ asks' in absurd (cc)

-- of what has a trace nothing else is asked
not_asked : (asked : FileCommand) (rest : List ℕ) (targets : List ℤ) → asked ≡ Check → AreAsked asked rest targets → ⊥
not_asked asked rest targets asks are = subst (λ (a : FileCommand). AreAsked a rest targets) asks are

-- an input has one plan, and one trace
pub same_trace : (asked : FileCommand) (input : List ℕ) (plan plan' : PlanData) (rest rest' : List ℕ) → HasPlan asked input plan rest →
    HasPlan asked input plan' rest' →
    (plan ≡ plan') × (rest ≡ rest')
same_trace asked input plan plan' rest rest' is also =
    let parts = one_file asked input is.file rest also.file rest' is.has also.has in
    let both : Ok plan ≡ Ok plan' = sym is.means ∙ ap scene parts.0 ∙ also.means in
    let same : plan ≡ plan' = cc in
    (same, parts.1)

-- a trace is not both valid and bad
pub not_judged : (asked : FileCommand) (input : List ℕ) (plan plan' : PlanData) (rest rest' : List ℕ) (moves line : ℕ) →
    HasPlan asked input plan rest → HasPlan asked input plan' rest' → IsValidTrace plan (report_of plan) rest moves →
    IsBadLine plan' (report_of plan') rest' line → ⊥
not_judged asked input plan plan' rest rest' moves line is also good bad =
    let same = same_trace asked input plan plan' rest rest' is also in
    let here = subst (λ (p : PlanData). IsBadLine p (report_of p) rest' line) (sym same.0) bad in
    not_judged_twice plan (files_plan is.file plan is.means) (report_of plan) rest moves line good
    (subst (λ (r : List ℕ). IsBadLine plan (report_of plan) r line) (sym same.1) here)

-- an answer has the status for its input
pub one_status : (asked : FileCommand) (input : List ℕ) (status status' : Status) (text : List ℕ) → length input ≤ input_limit asked →
    HasStatus asked input status → IsAnswer asked input status' text → status' ≡ status
one_status asked input status status' text short (is_too_long more) answer = absurd (omega (arith, short, more))
one_status asked input status status' text short (is_refused within r is) (refused r' is') = refl
one_status asked input status status' text short (is_refused within r is) (planned plan rest targets t its_plan are text_is) =
    absurd (not_both asked input r plan rest targets is its_plan are)
one_status asked input status status' text short (is_refused within r is) (valid plan rest moves asks its_plan valid_is) =
    absurd (not_traced asked input r plan rest asks is its_plan)
one_status asked input status status' text short (is_refused within r is) (invalid plan rest line asks its_plan bad) =
    absurd (not_traced asked input r plan rest asks is its_plan)
one_status asked input status status' text short (is_done within plan rest targets its_plan are) (refused r is) =
    absurd (not_both asked input r plan rest targets is its_plan are)
one_status asked input status status' text short (is_done within plan rest targets its_plan are)
    (planned plan' rest' targets' t its_plan' are' text_is) = refl
one_status asked input status status' text short (is_done within plan rest targets its_plan are)
    (valid plan' rest' moves asks its_plan' valid_is) = refl
one_status asked input status status' text short (is_done within plan rest targets its_plan are) (invalid plan' rest' line asks its_plan' bad) =
    absurd (not_asked asked rest targets asks are)
one_status asked input status status' text short (is_valid within plan rest moves asks its_plan valid_is) (refused r is) = absurd
    (not_traced asked input r plan rest asks is its_plan)
one_status asked input status status' text short (is_valid within plan rest moves asks its_plan valid_is)
    (planned plan' rest' targets t its_plan' are text_is) = refl
one_status asked input status status' text short (is_valid within plan rest moves asks its_plan valid_is)
    (valid plan' rest' moves' asks' its_plan' valid_is') = refl
one_status asked input status status' text short (is_valid within plan rest moves asks its_plan valid_is)
    (invalid plan' rest' line asks' its_plan' bad) =
    absurd (not_judged asked input plan plan' rest rest' moves line its_plan its_plan' valid_is bad)
one_status asked input status status' text short (is_invalid within plan rest line asks its_plan bad) (refused r is) = absurd
    (not_traced asked input r plan rest asks is its_plan)
one_status asked input status status' text short (is_invalid within plan rest line asks its_plan bad) (planned plan' rest' targets t its_plan' are text_is) =
    absurd (not_asked asked rest' targets asks are)
one_status asked input status status' text short (is_invalid within plan rest line asks its_plan bad)
    (valid plan' rest' moves asks' its_plan' valid_is) =
    absurd (not_judged asked input plan' plan rest' rest moves line its_plan' its_plan valid_is bad)
one_status asked input status status' text short (is_invalid within plan rest line asks its_plan bad)
    (invalid plan' rest' line' asks' its_plan' bad') = refl

-- an input of more bytes than the limit is too long
pub long_status : (asked : FileCommand) (input : List ℕ) (status : Status) → input_limit asked < length input → HasStatus asked input status →
    TooLong ≡ status
long_status asked input status more (is_too_long is) = refl
long_status asked input status more (is_refused within r is) = absurd (omega (arith, more, within))
long_status asked input status more (is_done within plan rest targets its_plan are) = absurd (omega (arith, more, within))
long_status asked input status more (is_valid within plan rest moves asks its_plan valid_is) = absurd (omega (arith, more, within))
long_status asked input status more (is_invalid within plan rest line asks its_plan bad) = absurd (omega (arith, more, within))

-- what is due for an input with a refusal is no judgement of a trace
pub no_judgement : (asked : FileCommand) (input : List ℕ) (refusal : Refusal) (plan : PlanData) (rest : List ℕ) → asked ≡ Check →
    IsRefusalOf asked input refusal →
    HasPlan asked input plan rest → ⊥
no_judgement = not_traced
