-- The line of a refusal, or of a bad line, stands in the sink only where the answer is that one.
use Rattle.std.proofs.Common.{◌≡◌, ◌∙◌, ℕ, ◌-◌, ◌<◌, ◌≤◌, List, [], ◌∷◌, ◌++◌, length, take, Option, Some, IfSome, sym}
use Rattle.std.proofs.Common.{ap, subst, refl, arith, length-append, append-nil, inl, inr}
use Rattle.std.specs.Prelude.{codes, decimal}
use Rattle.std.proofs.lemmas.List.{length-take}
use Rattle.pm_plan.specs.declared.refusal.Refusal.{Refusal}
use Rattle.pm_plan.specs.Plans.{PlanData}
use Rattle.pm_report.specs.Words.{text_line}
use Rattle.pm_report.specs.Refusal.{refusal_line, place_text, item_words}
use Rattle.pm_check.specs.Traces.{IsBadLine}
use Rattle.pm_check.proofs.Judgements.{one_bad_line}
use Rattle.pm_answer.specs.Inputs.{input_limit, HasPlan, IsRefusalOf, HasStatus, is_refused, is_invalid, report_of}
use Rattle.pm_answer.specs.Answers.{IsAnswer, refused, planned, valid, invalid, invalid_line}
use Rattle.pm_top.specs.Top.{WrotePrefix, IsDue, usage, too_long, answered, summary, served, served_fault}
use Rattle.pm_top.specs.Top.{served_long}
use Rattle.pm_top.specs.Endings.{WrotePartOfDue}
use Rattle.pm_answer.specs.declared.arguments.Command.TheVariants.{File}
use Rattle.pm_answer.specs.declared.arguments.FileCommand.{FileCommand}
use Rattle.pm_answer.specs.declared.arguments.FileCommand.TheVariants.{Check}
use Rattle.pm_answer.specs.declared.status.Status.{Status}
use Rattle.pm_answer.specs.declared.status.Status.TheVariants.{Invalid, Refused, ReadFault, WriteFault, NoMemory}
use Rattle.pm_answer.proofs.Meanings.{one_refusal, not_both, no_judgement, same_trace, not_judged}
use Rattle.pm_top.proofs.Due.{Answers}

not_empty : (r : Refusal) → 0 < length (refusal_line r)
not_empty r = omega (arith, length-append (codes "refused") (32 ∷ text_line (decimal r.code ∷ place_text r.place ∷ item_words r.item)))

some_invalid : (line : ℕ) → 0 < length (invalid_line line)
some_invalid line = omega (arith, length-append (codes "invalid") (32 ∷ text_line (codes "line" ∷ decimal line ∷ [])))

not_grown : (before line : List ℕ) → 0 < length line → before ≡ before ++ line → ⊥
not_grown before line some e = omega (arith, ap length e, length-append before line)

not_prefix : (before line : List ℕ) → WrotePrefix (Some before) (Some (before ++ line)) line → ⊥
not_prefix before line h = omega (arith, h.1, ap length h.2, length-append before line, length-append before (take h.0 line), length-take h.0 line)

-- of an input only this text is an answer
abbrev IsOnlyAnswer : FileCommand → List ℕ → List ℕ → Type 0
IsOnlyAnswer asked input line = (status : Status) (text : List ℕ) → IsAnswer asked input status text → text ≡ line

-- the answer to an input that is refused is the line of the refusal
refusal_due : (asked : FileCommand) (input : List ℕ) (r : Refusal) → IsRefusalOf asked input r → IsOnlyAnswer asked input (refusal_line r)
refusal_due asked input r is_r status text (refused other is) = ap refusal_line (one_refusal asked input other r is is_r)
refusal_due asked input r is_r status text (planned plan rest targets written its_plan are text_is) = absurd
    (not_both asked input r plan rest targets is_r its_plan are)
refusal_due asked input r is_r status text (valid plan rest moves asks its_plan valid_is) = absurd
    (no_judgement asked input r plan rest asks is_r its_plan)
refusal_due asked input r is_r status text (invalid plan rest line asks its_plan bad) = absurd
    (no_judgement asked input r plan rest asks is_r its_plan)

-- the answer to an input whose trace has a bad line is that line's
invalid_due : (input : List ℕ) (plan : PlanData) (trace : List ℕ) (line : ℕ) → HasPlan Check input plan trace →
    IsBadLine plan (report_of plan) trace line → IsOnlyAnswer Check input (invalid_line line)
invalid_due input plan trace line has bad status text (refused r is) = absurd (no_judgement Check input r plan trace refl is has)
invalid_due input plan trace line has bad status text (planned plan' rest targets written has' are text_is) = absurd are
invalid_due input plan trace line has bad status text (valid plan' rest moves asks has' valid_is) = absurd
    (not_judged Check input plan' plan rest trace moves line has' has valid_is bad)
invalid_due input plan trace line has bad status text (invalid plan' rest other asks has' bad') =
    let same = same_trace Check input plan' plan rest trace has' has in
    let here = subst (λ (p : PlanData). IsBadLine p (report_of p) rest other) same.0 bad' in
    ap invalid_line (one_bad_line plan (report_of plan) trace other line (subst (λ (r : List ℕ). IsBadLine plan (report_of plan) r other) same.1 here) bad)

-- of an input that is read whole and has one answer no other text is due
due_is : (asked : FileCommand) (input line : List ℕ) → length input ≤ input_limit asked → IsOnlyAnswer asked input line →
    (status : Status) (text : List ℕ) → IsDue (Some (File asked)) (Some input) (Some []) status text → text ≡ line
due_is asked input line short only status text (usage is) = absurd (cc)
due_is asked input line short only status text (too_long other is) =
    let asks : Some (File asked) ≡ Some (File other) = is.asks in
    let same : asked ≡ other = cc in
    absurd (omega (arith, short, is.took, ap input_limit same, length-take (length input - 0) input))
due_is asked input line short only status text (answered other read status' text' is answer) =
    let asks : Some (File asked) ≡ Some (File other) = is.asks in
    let same : asked ≡ other = cc in
    let whole : read ≡ input = sym (is.consumes ∙ append-nil read) in
    only status' text'
    (subst (λ (i : List ℕ). IsAnswer asked i status' text') whole (subst (λ (a : FileCommand). IsAnswer a read status' text') (sym same) answer))
due_is asked input line short only status text (summary size number written asks is) = absurd (cc)
due_is asked input line short only status text (served frames read asks all end are) = absurd (cc)
due_is asked input line short only status text (served_fault frames read asks all fault) = absurd (cc)
due_is asked input line short only status text (served_long frames read asks all has long) = absurd (cc)

kept : {K : Type 0} (held : K → Option (List ℕ)) (old new : K) (before line : List ℕ) → 0 < length line → held old ≡ Some before →
    held new ≡ Some (before ++ line) → new ≡ old → ⊥
kept held old new before line some had has same =
    let both : Some before ≡ Some (before ++ line) = sym had ∙ ap held (sym same) ∙ has in
    let e : before ≡ before ++ line = cc in
    not_grown before line some e

-- where the sink grew by the whole text of the only answer to an input, the status is that of the input
pub exact : {K : Type 0} (asked : FileCommand) (held : K → Option (List ℕ)) (old new : K) (status due : Status) (input before line : List ℕ)
    → length input ≤ input_limit asked → HasStatus asked input due → 0 < length line → IsOnlyAnswer asked input line
    → held old ≡ Some before → held new ≡ Some (before ++ line)
    → Answers asked status input
    → (status ≡ ReadFault → new ≡ old) → (status ≡ NoMemory → new ≡ old)
    → (status ≡ WriteFault →
    WrotePartOfDue (Some (File asked)) (Some input) (Some []) (held old) (held new))
    → status ≡ due
exact asked held old new status due input before line short has_status some only had has answers at_read at_memory
    at_write = elim (answers due has_status) [
      | inl e ↦ e
      | inr (inl e) ↦ absurd (kept held old new before line some had has (at_read e))
      | inr (inr (inl e)) ↦
          let d = at_write e in
          let w = d.1 in
          let told : w.0 ≡ line = due_is asked input line short only d.0 w.0 w.1 in
          let prefix = subst (λ (b : Option (List ℕ)). WrotePrefix b (held new) w.0) had w.2 in
          let ends = subst (λ (b : Option (List ℕ)). WrotePrefix (Some before) b w.0) has prefix in
          absurd (not_prefix before line (subst (λ (t : List ℕ). WrotePrefix (Some before) (Some (before ++ line)) t) told ends))
      | inr (inr (inr e)) ↦ absurd (kept held old new before line some had has (at_memory e))
    ]

-- the same, where the input is what the source had left before, and nothing of it is left after
exact_at : {K : Type 0} (asked : FileCommand) (held : K → Option (List ℕ)) (old new : K) (left_old left_new : Option (List ℕ))
    (status due : Status) (input before line : List ℕ)
    → length input ≤ input_limit asked → HasStatus asked input due → 0 < length line → IsOnlyAnswer asked input line
    → left_old ≡ Some input → left_new ≡ Some [] → held old ≡ Some before → held new ≡ Some (before ++ line)
    → IfSome left_old (Answers asked status)
    → (status ≡ ReadFault → new ≡ old) → (status ≡ NoMemory → new ≡ old)
    → (status ≡ WriteFault →
    WrotePartOfDue (Some (File asked)) left_old left_new (held old) (held new))
    → status ≡ due
exact_at asked held old new left_old left_new status due input before line short has_status some only was is had has answer at_read at_memory at_write =
    let told : Answers asked status input = subst (λ (o : Option (List ℕ)). IfSome o (Answers asked status)) was answer in
    exact asked held old new status due input before line short has_status some only had has told at_read at_memory
    (λ e. let d = at_write e in
    let w = d.1 in
    let told = subst (λ (o : Option (List ℕ)). IsDue (Some (File asked)) o left_new d.0 w.0) was w.1 in
    (d.0, (w.0, subst (λ (o : Option (List ℕ)). IsDue (Some (File asked)) (Some input) o d.0 w.0) is told, w.2)))

-- where the sink grew by the whole line of the input's refusal, the status is Refused
pub exact_refused_at : {K : Type 0} (asked : FileCommand) (held : K → Option (List ℕ)) (old new : K) (left_old left_new : Option (List ℕ))
    (status : Status) (input before : List ℕ) (r : Refusal)
    → length input ≤ input_limit asked → IsRefusalOf asked input r → left_old ≡ Some input → left_new ≡ Some [] → held old ≡ Some before →
    held new ≡ Some (before ++ refusal_line r)
    → IfSome left_old (Answers asked status)
    → (status ≡ ReadFault → new ≡ old) → (status ≡ NoMemory → new ≡ old)
    → (status ≡ WriteFault →
    WrotePartOfDue (Some (File asked)) left_old left_new (held old) (held new))
    → status ≡ Refused
exact_refused_at asked held old new left_old left_new status input before r short is_r was is had has answer at_read at_memory at_write =
    exact_at asked held old new left_old left_new status Refused input before (refusal_line r) short (is_refused short r is_r) (not_empty r)
    (refusal_due asked input r is_r) was is had has answer at_read at_memory at_write

-- where it grew by the whole line of the input's bad line, the status is Invalid
pub exact_invalid_at : {K : Type 0} (held : K → Option (List ℕ)) (old new : K) (left_old left_new : Option (List ℕ))
    (status : Status) (plan : PlanData) (input trace before : List ℕ) (line : ℕ)
    → length input ≤ input_limit Check → HasPlan Check input plan trace → IsBadLine plan (report_of plan) trace line
    → left_old ≡ Some input → left_new ≡ Some [] → held old ≡ Some before → held new ≡ Some (before ++ invalid_line line)
    → IfSome left_old (Answers Check status)
    → (status ≡ ReadFault → new ≡ old) → (status ≡ NoMemory → new ≡ old)
    → (status ≡ WriteFault →
    WrotePartOfDue (Some (File Check)) left_old left_new (held old) (held new))
    → status ≡ Invalid
exact_invalid_at held old new left_old left_new status plan input trace before line short has_plan bad was is had has answer at_read at_memory at_write =
    exact_at Check held old new left_old left_new status Invalid input before (invalid_line line) short
    (is_invalid short plan trace line refl has_plan bad) (some_invalid line)
    (invalid_due input plan trace line has_plan bad) was is had has answer at_read at_memory at_write
