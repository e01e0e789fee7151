-- Turns that follow one another, and turns of the nodes of a list.
use Rattle.std.proofs.Common.{◌≡◌, ◌∙◌, sym, subst, ℕ, ◌<◌, List, length, get_or, set, refl, arith, inl, inr}
use Rattle.std.proofs.Common.{get_or-set_same, get_or-set_other}
use Rattle.std.proofs.Math.ListN.{length-set}
use Rattle.std.specs.Prelude.{Vec, IfSome, slice_get}
use Rattle.std.specs.declared.alloc.Global.{Global}
use Rattle.std.proofs.lemmas.Bool.{cases_eq}
use Rattle.pm_device.specs.declared.state.Next.{Next}
use Rattle.pm_plan.specs.Plans.{PlanData}
use Rattle.pm_phase.specs.declared.node.FreeNode.{FreeNode}
use Rattle.pm_phase.specs.Telling.{AreNext, StepsOn, AllStepOn}

module _ (plan : PlanData) (changes : List (Vec Next Global)) where
  -- a node without a turn steps on
  pub steps_refl : (node : FreeNode) → StepsOn plan changes node node
  steps_refl node = record { number = refl; keeps = λ before was had own list is are kept. kept }

  -- turns that follow one another step on
  pub steps_trans : (a b c : FreeNode) → StepsOn plan changes a b → StepsOn plan changes b c → StepsOn plan changes a c
  steps_trans a b c first then = record {
    number = then.number ∙ first.number;
    keeps = λ before was had own list is are kept.
        then.keeps before was had own list (subst (λ (n : ℕ). IfSome (slice_get changes n) (λ l. l.items ≡ list)) (sym first.number) is)
        (subst (λ (n : ℕ). AreNext plan n before list) (sym first.number) are) (first.keeps before was had own list is are kept);
  }

  -- nodes without a turn step on
  pub all_refl : (nodes : List FreeNode) → AllStepOn plan changes nodes nodes
  all_refl nodes = record { many = refl; each = λ k d inside. steps_refl (get_or nodes k d) }

  -- rounds that follow one another step on
  pub all_trans : (a b c : List FreeNode) → AllStepOn plan changes a b → AllStepOn plan changes b c → AllStepOn plan changes a c
  all_trans a b c first then = record {
    many = then.many ∙ first.many;
    each = λ k d inside.
        steps_trans (get_or a k d) (get_or b k d) (get_or c k d) (first.each k d inside) (then.each k d (omega (arith, inside, first.many)));
  }

  -- one node made a turn
  pub all_set : (nodes : List FreeNode) (at : ℕ) (node : FreeNode) → at < length nodes →
      ((d : FreeNode) → StepsOn plan changes (get_or nodes at d) node) →
      AllStepOn plan changes nodes (set nodes at node)
  all_set nodes at node here steps = record {
    many = length-set nodes at node;
    each = λ k d inside. elim (cases_eq k at) [
      | inl e ↦
          subst (λ (j : ℕ). StepsOn plan changes (get_or nodes j d) (get_or (set nodes at node) j d)) (sym e)
          (subst (StepsOn plan changes (get_or nodes at d)) (sym (get_or-set_same nodes at node d here)) (steps d))
      | inr ne ↦
          subst (StepsOn plan changes (get_or nodes k d)) (sym (get_or-set_other nodes at k node d ne)) (steps_refl (get_or nodes k d))
    ];
  }
