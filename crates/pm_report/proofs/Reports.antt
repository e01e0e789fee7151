-- The texts of phases, one by one.
use Rattle.std.proofs.Common.{◌≡◌, ◌∙◌, sym, ap, subst, refl, ℕ, ◌+◌, ◌<◌, List, [], ◌∷◌, ◌++◌, length, take, get_or}
use Rattle.std.proofs.Common.{append_assoc, arith, ℤ, pos}
use Rattle.std.specs.Prelude.{All, ◌+ℤ◌}
use Rattle.std.proofs.lemmas.List.{take_more, map-append, length-map, length-take, get_or-map}
use Rattle.std.proofs.lemmas.List.Sums.{fold-append}
use Rattle.pm_plan.specs.Plans.{PlanData}
use Rattle.pm_plan.specs.Auction.{EndData}
use Rattle.pm_plan.specs.Ends.{EndValue}
use Rattle.pm_report.specs.Report.{phase_text, phase_texts, ends_of}
use Rattle.pm_report.specs.Summary.{sum_over}

append_nil : (xs : List ℕ) → xs ++ [] ≡ xs
append_nil [] = refl
append_nil (x ∷ xs) = ap (λ r. x ∷ r) (append_nil xs)

phase_texts-append : (plan : PlanData) (first n : ℕ) (ends : List EndData) (end : EndData) → n ≡ first + length ends →
    phase_texts plan first (ends ++ end ∷ []) ≡ phase_texts plan first ends ++ phase_text plan n end
phase_texts-append plan first n [] end count =
    let same : n ≡ first = omega arith in
    append_nil (phase_text plan first end) ∙ ap (λ k. phase_text plan k end) (sym same)
phase_texts-append plan first n (one ∷ ends) end count =
    let next : n ≡ first + 1 + length ends = omega arith in
    ap (λ t. phase_text plan first one ++ t) (phase_texts-append plan (first + 1) n ends end next)
    ∙ sym (append_assoc (phase_text plan first one) (phase_texts plan (first + 1) ends) (phase_text plan n end))

-- the ends up to one more
pub ends_more : (ends : List EndValue) (i : ℕ) (end : EndValue) → i < length ends → end ≡ get_or ends i end →
    ends_of (take (i + 1) ends) ≡ ends_of (take i ends) ++ end.end ∷ []
ends_more ends i end inside read =
    ap ends_of (take_more ends i end inside ∙ ap (λ e. take i ends ++ e ∷ []) (sym read))
    ∙ map-append (λ (e : EndValue). e.end) (take i ends) (end ∷ [])

-- one more phase has its text
pub next_phase : (plan : PlanData) (ends : List EndValue) (i : ℕ) (end : EndValue) (old text new : List ℕ) → i < length ends →
    end ≡ get_or ends i end →
    text ≡ old ++ phase_texts plan 1 (ends_of (take i ends)) → new ≡ text ++ phase_text plan (i + 1) end.end →
    new ≡ old ++ phase_texts plan 1 (ends_of (take (i + 1) ends))
next_phase plan ends i end old text new inside read so_far more =
    let before : List EndData = ends_of (take i ends) in
    let parts = ends_more ends i end inside read in
    let count : i + 1 ≡ 1 + length before = omega (arith, length-map (take i ends) (λ (e : EndValue). e.end), length-take i ends) in
    more
    ∙ ap (λ t. t ++ phase_text plan (i + 1) end.end) so_far
    ∙ append_assoc old (phase_texts plan 1 before) (phase_text plan (i + 1) end.end)
    ∙ ap (λ t. old ++ t) (sym (ap (phase_texts plan 1) parts ∙ phase_texts-append plan 1 (i + 1) before end.end count))

-- one more end joins a sum
pub next_sum : (number : EndData → ℤ) (ends : List EndValue) (i : ℕ) (end : EndValue) (sum new : ℤ) → i < length ends →
    end ≡ get_or ends i end →
    sum ≡ sum_over number (ends_of (take i ends)) → new ≡ sum +ℤ number end.end → new ≡ sum_over number (ends_of (take (i + 1) ends))
next_sum number ends i end sum new inside read so_far more =
    more
    ∙ ap (λ z. z +ℤ number end.end) so_far
    ∙ sym (ap (sum_over number) (ends_more ends i end inside read)
    ∙ fold-append (λ (z : ℤ) (e : EndData). z +ℤ number e) (pos 0) (ends_of (take i ends)) (end.end ∷ []))

-- what holds of each end holds of one of them
pub end_at : (P : EndData → Type 0) (ends : List EndValue) (i : ℕ) (end : EndValue) → All P (ends_of ends) → i < length ends →
    end ≡ get_or ends i end → P end.end
end_at P ends i end all inside read =
    let here : get_or (ends_of ends) i end.end ≡ end.end = get_or-map (λ (e : EndValue). e.end) ends i end end.end inside
    ∙ ap (λ (e : EndValue). e.end) (sym read) in
    subst P here (all i end.end (omega (arith, length-map ends (λ (e : EndValue). e.end))))
