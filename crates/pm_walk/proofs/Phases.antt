-- A run from phase to phase.
use Rattle.std.proofs.Common.{◌≡◌, ◌∙◌, sym, ap, ℕ, zero, suc, ◌+◌, ◌-◌, ◌≤◌, List, [], ◌∷◌, ◌++◌, length, map, arith}
use Rattle.std.proofs.Common.{inl, inr}
use Rattle.std.proofs.Math.Path.{fun_ext}
use Rattle.std.proofs.Math.ListN.{get_or-eq_default}
use Rattle.std.specs.Prelude.{Result, Ok, Err, IfOk, min}
use Rattle.std.specs.List.{range_with_len}
use Rattle.std.proofs.lemmas.Bool.{cases_lt}
use Rattle.std.proofs.lemmas.List.{map-append}
use Rattle.std.proofs.lemmas.List.FromFn.{map-range_with_len_more}
use Rattle.pm_plan.specs.Plans.{PlanData, phases, change_count, end_cut}
use Rattle.pm_plan.specs.Kept.{IsPlan}
use Rattle.pm_plan.specs.Auction.{EndData}
use Rattle.pm_base.specs.Cuts.{Cut}
use Rattle.pm_plan.specs.States.{end_of}
use Rattle.pm_plan.specs.Ends.{EndValue}
use Rattle.pm_plan.proofs.Ends.{end-none, end-last}
use Rattle.pm_walk.specs.declared.changes.Progress.{Progress}
use Rattle.pm_walk.specs.declared.run.Run.{Run}
use Rattle.pm_walk.specs.Cuts.{AreStops, file_cut, earlier_cut}
use Rattle.pm_walk.specs.Standing.{StandingValue, HaveCome, cut_made}
use Rattle.pm_walk.specs.Runs.{IsRun, IsAtEnd, AreEnds}

-- ---- before the first phase

-- the cut without any change is the cut at the end of phase 0
pub none_made : (plan : PlanData) (cut : Cut) → IsPlan plan → ((x : ℕ) → cut x ≡ 0) → cut ≡ end_cut plan 0
none_made plan cut is none = fun_ext (λ x. none x ∙ sym (end-none plan x is.in_phases))

-- before any change the nodes have made their changes of the phases up to 0, as far as any cut goes
pub start_stops : (plan : PlanData) (counts : List ℕ) (progress : List Progress) → IsPlan plan → HaveCome plan progress →
    ((x : ℕ) → cut_made progress x ≡ 0) → AreStops plan counts 0 progress
start_stops plan counts progress is all none = record {
  reached = all;
  cut = fun_ext (λ x. none x ∙ (let none_of : 0 ≡ min (file_cut counts x) (end_cut plan 0 x) = omega (arith, end-none plan x is.in_phases) in none_of));
}

-- what both clauses of a call say of its value
pub if_both : {A E : Type 0} (P Q R : A → Type 0) → ((x : A) → P x → Q x → R x) → (r : Result A E) → IfOk r P → IfOk r Q → IfOk r R
if_both P Q R both (Ok x) first second = both x first second
if_both P Q R both (Err e) first second = second

-- a sound run whose changes made are those up to the end of phase p is at the end of phase p
pub run_at : (plan : PlanData) (p : ℕ) (standing : StandingValue) → cut_made standing.progress ≡ end_cut plan p → (run : Run) →
    IsRun plan run → run.standing ≡ standing → IsAtEnd plan p run
run_at plan p standing cut run sound same = record { sound = sound; cut = ap (λ (s : StandingValue). cut_made s.progress) same ∙ cut }

-- ---- one more phase

-- the end of phase p behind the ends of the phases before it makes the ends of the phases up to p
pub ends_more : (plan : PlanData) (p : ℕ) (ends : List EndValue) (new : EndValue) → 1 ≤ p → AreEnds plan (p - 1) ends →
    new.end ≡ end_of plan (end_cut plan p) → AreEnds plan p (ends ++ new ∷ [])
ends_more plan p ends new low before new_is =
    let f = λ (q : ℕ). end_of plan (end_cut plan q) in
    map-append (λ (e : EndValue). e.end) ends (new ∷ [])
    ∙ ap (λ xs. xs ++ new.end ∷ []) before
    ∙ ap (λ (x : EndData). map f (range_with_len 1 (p - 1)) ++ x ∷ []) new_is
    ∙ sym ((let e : p ≡ (p - 1) + 1 = omega arith in ap (λ n. map f (range_with_len 1 n)) e)
    ∙ map-range_with_len_more f 1 (p - 1) p (omega arith))

-- ---- after the last phase

-- a cut that asks for no more changes than are planned
abbrev pub IsPlanned : PlanData → List ℕ → Type 0
IsPlanned plan counts = (x : ℕ) → 1 ≤ x → x ≤ length plan.nodes → file_cut counts x ≤ change_count plan x

within_at : (plan : PlanData) (counts : List ℕ) → length counts ≡ length plan.nodes → IsPlanned plan counts → (x : ℕ) →
    file_cut counts x ≤ change_count plan x
within_at plan counts many planned zero = omega arith
within_at plan counts many planned (suc x) = elim (cases_lt (length plan.nodes) (suc x)) [
  | inl far ↦ omega (arith, get_or-eq_default counts 0 {n = x} (omega arith))
  | inr near ↦ planned (suc x) (omega arith) near
]

-- a cut of no more changes than are planned is reached at the end of the last phase
pub cut_reached : (plan : PlanData) (counts : List ℕ) → IsPlan plan → length counts ≡ length plan.nodes → IsPlanned plan counts →
    earlier_cut (file_cut counts) (end_cut plan (phases plan)) ≡ file_cut counts
cut_reached plan counts is many planned =
    fun_ext (λ x. (let same : min (file_cut counts x) (end_cut plan (phases plan) x) ≡ file_cut counts x =
    omega (arith, end-last plan x is.in_phases, within_at plan counts many planned x) in same))
