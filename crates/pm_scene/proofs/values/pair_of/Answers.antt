-- Of `pair_of`: what it ensures.
use Rattle.std.proofs.Common.{rules, ◌≡◌, ◌∙◌, ◌<◌, ◌≤◌, sym, ap, List, [], ◌∷◌, length, map, get_or, arith}
use Rattle.std.proofs.lemmas.Int.{to_z-of_z}
use Rattle.serde_json.specs.Data.{Data}
use Rattle.serde_json.specs.View.{view}
use mir.Syntax.{w64}
use mir.Val.{SFits}
use Rattle.pm_scene.specs.Values.{pair_in, whole_or_zero}
use Rattle.pm_scene.proofs.values.pair_of.Goals as goal

-- two elements are a pair
pair_in-two : {V : Type 0} (f : V → Data) (vs : List V) → 2 ≤ length vs → length vs < 3 → (first second : V) →
    first ≡ get_or vs 0 first → second ≡ get_or vs 1 second → pair_in (map f vs) ≡ (whole_or_zero (f first), whole_or_zero (f second))
pair_in-two f [] two few first second first_is second_is = absurd (omega arith)
pair_in-two f (x ∷ []) two few first second first_is second_is = absurd (omega arith)
pair_in-two f (x ∷ y ∷ []) two few first second first_is second_is =
    λ i. (whole_or_zero (f (sym first_is i)), whole_or_zero (f (sym second_is i)))
pair_in-two f (x ∷ y ∷ z ∷ vs) two few first second first_is second_is = absurd (omega arith)

pub returns-in-len2 : goal.returns-in-len2
returns-in-len2 c =
    let fits : SFits w64 c.whole_or_zero.result = search rules in
    let fits-2 : SFits w64 c.whole_or_zero-in-len2.result = search rules in
    let first = to_z-of_z w64 c.whole_or_zero.result fits ∙ c.whole_or_zero.ensures in
    let second = to_z-of_z w64 c.whole_or_zero-in-len2.result fits-2 ∙ c.whole_or_zero-in-len2.ensures in
    (λ i. (first i, second i))
    ∙ sym (pair_in-two view _ c.in-len2.len_at_least c.in-len2.len_below _ _ c.first-item.is c.second-item.is) ∙ ap pair_in c.elements.ensures
