-- Of `is_pair`: what it ensures.
use Rattle.std.proofs.Common.{◌≡◌, ◌∙◌, ap, ◌<◌, ◌≤◌, false, List, [], ◌∷◌, map, length, get_or, arith}
use Rattle.std.specs.Prelude.{◌&&◌}
use Rattle.serde_json.specs.Data.{Data}
use Rattle.serde_json.specs.View.{view}
use Rattle.pm_scene.specs.Members.{is_whole, are_two_wholes}
use Rattle.pm_scene.proofs.members.is_pair.Goals as goal

module _ {V : Type 0} (see : V → Data) (elements : List Data) where
  -- fewer than two are no pair
  few : (values : List V) → map see values ≡ elements → length values < 2 → false ≡ are_two_wholes elements
  few [] are small = ap are_two_wholes are
  few (v ∷ []) are small = ap are_two_wholes are
  few (v ∷ w ∷ values) are small = absurd (omega arith)

  -- two are a pair where both are whole
  two : (values : List V) (first second : V) → map see values ≡ elements → 2 ≤ length values → length values < 3 →
      first ≡ get_or values 0 first → second ≡ get_or values 1 second → (is_whole (see first) && is_whole (see second)) ≡ are_two_wholes elements
  two [] first second are least most one other = absurd (omega arith)
  two (v ∷ []) first second are least most one other = absurd (omega arith)
  two (v ∷ w ∷ []) first second are least most one other = (λ i. is_whole (see (one i)) && is_whole (see (other i))) ∙ ap are_two_wholes are
  two (v ∷ w ∷ x ∷ values) first second are least most one other = absurd (omega arith)

pub returns-in_default : goal.returns-in_default
returns-in_default c = few view _ c.elements.result.now c.elements.ensures c.in_default.len_below

pub returns-then-is_whole : goal.returns-then-is_whole
returns-then-is_whole c =
    c.is_whole-then-is_whole.ensures ∙ ap (λ first. first && is_whole (view c.second-item.result)) c.if-is_whole.ensures
    ∙ two view _ c.elements.result.now _ _ c.elements.ensures c.in-len2.len_at_least c.in-len2.len_below c.first-item.is c.second-item.is

pub returns-else-is_whole : goal.returns-else-is_whole
returns-else-is_whole c =
    c.if-is_whole.false ∙ ap (λ first. first && is_whole (view c.second-item.result)) c.if-is_whole.ensures
    ∙ two view _ c.elements.result.now _ _ c.elements.ensures c.in-len2.len_at_least c.in-len2.len_below c.first-item.is c.second-item.is
