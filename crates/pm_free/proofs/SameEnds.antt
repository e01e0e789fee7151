-- The ends that came over the links are those of the plan.
use Rattle.std.proofs.Common.{◌≡◌, ◌∙◌, sym, ap, subst, ℕ, zero, suc, ◌+◌, ◌<◌, List, [], ◌∷◌, length, Option, Some, None, refl}
use Rattle.std.proofs.Common.{arith}
use Rattle.std.specs.Prelude.{IfSome, slice_get, unwrap_or}
use Rattle.std.proofs.Math.ListN.{set}
use Rattle.std.proofs.lemmas.List.FromFn.{length-map-range_with_len, get_or-map-range_with_len}
use Rattle.std.proofs.lemmas.Option.{slice_get-get_or, slice_get_within}
use Rattle.pm_board.specs.Boards.{kept_ends, ends_to}
use Rattle.pm_plan.specs.Auction.{EndData}
use Rattle.pm_plan.specs.Ends.{EndValue, no_end}
use Rattle.pm_plan.specs.Plans.{PlanData, end_cut}
use Rattle.pm_plan.specs.States.{end_of}
use Rattle.pm_free.specs.OverLinks.{CameOverLinks, AreOverLinks}
use Rattle.pm_free.specs.SameEnds.{IsSameEnd, AreSameEnds}
use Rattle.pm_free.specs.declared.phase.FreePhase.{FreePhase}

some_too : {X : Type 0} (P Q : X → Type 0) (o : Option X) → ((x : X) → P x → Q x) → IfSome o P → IfSome o Q
some_too P Q None then is = is
some_too P Q (Some x) then is = then x is

-- the end of the plan in a place
end_at : (plan : PlanData) (n k : ℕ) → k < n → slice_get (ends_to plan n) k ≡ Some (end_of plan (end_cut plan (k + 1)))
end_at plan n k lt =
    let f : ℕ → EndData = λ q. end_of plan (end_cut plan q) in
    let long = length-map-range_with_len f 1 n in
    slice_get-get_or (ends_to plan n) k no_end (omega (arith, lt, long))
    ∙ ap Some (get_or-map-range_with_len f 1 n k (k + 1) no_end lt (omega arith))

-- those of the phases are the ends of the plan
pub over_same : (plan : PlanData) (phases : List FreePhase) (ends : List EndData) (n : ℕ) → AreOverLinks plan phases → length phases ≡ n →
    ends ≡ ends_to plan n → AreSameEnds 0 phases ends
over_same plan phases ends n over long is k phase at =
    let inside : k < n = let lt = slice_get_within phases k phase at in omega (arith, lt, long) in
    subst (λ (p : ℕ). IsSameEnd p phase.end ends) (let e : k ≡ 0 + k = omega arith in e) (
    some_too (λ (e : EndValue). CameOverLinks plan (k + 1) (over.parts k) (over.parts (k + 1)) phase e.end)
    (λ (e : EndValue). slice_get ends k ≡ Some e.end) phase.end
    (λ e came. ap (λ (es : List EndData). slice_get es k) is ∙ end_at plan n k inside ∙ ap Some (sym came.plain)) (over.over k phase at)
    )

-- an end put in its own place changes nothing
pub set_same : (ends : List EndValue) (k : ℕ) (end : EndValue) → slice_get (kept_ends ends) k ≡ Some end.end →
    kept_ends (set ends k end) ≡ kept_ends ends
set_same [] k end at = refl
set_same (e ∷ es) zero end at = ap (λ (d : EndData). d ∷ kept_ends es) (sym (ap (λ (o : Option EndData). unwrap_or o e.end) at))
set_same (e ∷ es) (suc k) end at = ap (λ (ds : List EndData). e.end ∷ ds) (set_same es k end at)

-- behind the first phase of some
pub rest_same : (place : ℕ) (phase : FreePhase) (rest : List FreePhase) (ends : List EndData) → AreSameEnds place (phase ∷ rest) ends →
    AreSameEnds (place + 1) rest ends
rest_same place phase rest ends same k other at =
    subst (λ (p : ℕ). IsSameEnd p other.end ends) (let e : place + suc k ≡ place + 1 + k = omega arith in e) (same (suc k) other at)

-- and the first one's
pub first_same : (place : ℕ) (phase : FreePhase) (rest : List FreePhase) (ends : List EndData) → AreSameEnds place (phase ∷ rest) ends →
    IsSameEnd place phase.end ends
first_same place phase rest ends same =
    subst (λ (p : ℕ). IsSameEnd p phase.end ends) (let e : place + 0 ≡ place = omega arith in e) (same 0 phase refl)
