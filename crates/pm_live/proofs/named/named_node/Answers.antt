-- Of `named_node`: its clause `none` of five arguments.
use Rattle.std.proofs.Common.{◌≡◌, ◌∙◌, ap, ◌∷◌, [], ◌≤◌, ◌<◌, List, length, map, get_or, string_bytes, subst}
use Rattle.std.proofs.Common.{IfNone, arith}
use Rattle.pm_live.specs.LiveNodes.{IsNamed}
use Rattle.pm_live.specs.declared.named.LiveNode.{LiveNode}
use Rattle.pm_live.proofs.named.named_node.Goals as goal

-- a list of five has these five
five_of : {A B : Type 0} (f : A → B) (xs : List A) (a b c d e : A) (p q r s t : B) → 5 ≤ length xs → length xs < 6 → a ≡ get_or xs 0 a →
    b ≡ get_or xs 1 b → c ≡ get_or xs 2 c → d ≡ get_or xs 3 d → e ≡ get_or xs 4 e → p ≡ f a → q ≡ f b → r ≡ f c →
    s ≡ f d → t ≡ f e →
    p ∷ q ∷ r ∷ s ∷ t ∷ [] ≡ map f xs
five_of f [] a b c d e p q r s t least below ha hb hc hd he hp hq hr hs ht = absurd (omega (arith, least))
five_of f (v ∷ []) a b c d e p q r s t least below ha hb hc hd he hp hq hr hs ht = absurd (omega (arith, least))
five_of f (v ∷ w ∷ []) a b c d e p q r s t least below ha hb hc hd he hp hq hr hs ht = absurd (omega (arith, least))
five_of f (v ∷ w ∷ x ∷ []) a b c d e p q r s t least below ha hb hc hd he hp hq hr hs ht = absurd (omega (arith, least))
five_of f (v ∷ w ∷ x ∷ y ∷ []) a b c d e p q r s t least below ha hb hc hd he hp hq hr hs ht = absurd (omega (arith, least))
five_of f (v ∷ w ∷ x ∷ y ∷ z ∷ []) a b c d e p q r s t least below ha hb hc hd he hp hq hr hs ht =
    cc (hp ∙ ap f ha, hq ∙ ap f hb, hr ∙ ap f hc, hs ∙ ap f hd, ht ∙ ap f he)
five_of f (v ∷ w ∷ x ∷ y ∷ z ∷ u ∷ more) a b c d e p q r s t least below ha hb hc hd he hp hq hr hs ht = absurd (omega (arith, below))

pub returns-in-len5-clause-none : goal.returns-in-len5-clause-none
returns-in-len5-clause-none c =
    subst (λ l. IfNone c.named_given_relay.result ((node : LiveNode) → ¬ IsNamed l node))
    (five_of string_bytes c.args.arguments.now c.word-item-then-arguments-lt6.result c.child-item-then-arguments-lt6.result
    c.floor-item-then-arguments-lt6.result c.ceiling-item-then-arguments-lt6.result c.giver-item.result _ _ _ _ _ c.in-len5.len_at_least
    c.in-len5.len_below c.word-item-then-arguments-lt6.is c.child-item-then-arguments-lt6.is c.floor-item-then-arguments-lt6.is
    c.ceiling-item-then-arguments-lt6.is c.giver-item.is c.as_str-in-len5.ensures.value c.as_str-in-len5-2.ensures.value
    c.as_str-in-len5-3.ensures.value c.as_str-in-len5-4.ensures.value c.as_str-in-len5-5.ensures.value) c.named_given_relay.ensures.none
