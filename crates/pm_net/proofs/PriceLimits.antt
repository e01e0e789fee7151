-- A price settles by the limits of the bid that it answers.
use Rattle.std.proofs.Common.{◌≡◌, ◌∙◌, sym, ap, subst, ℕ}
use Rattle.pm_market.specs.Lists.{Lists, IsNode, IsLeafOf, Lawful}
use Rattle.pm_market.specs.State.{State, part, cleared_cut}
use Rattle.pm_market.specs.Sound.{Sound}
use Rattle.pm_market.proofs.Tree.{leaf_of_itself, leaf_of_parent}
use Rattle.pm_laws.proofs.Numbers.{cleared_is_part}
use Rattle.pm_laws.proofs.Published.{due_within}
use Rattle.pm_net.specs.Pricing.{Pricing, GoesByNodes, IsChildDevice}
use Rattle.pm_net.specs.Messages.{PriceMessage}
use Rattle.pm_net.specs.Agrees.{IsItsPrice}

module _ (lists : Lists) (law : Lawful lists) (p : Pricing) (s : State) (sound : Sound lists s) (c : ℕ) (node : IsNode lists c) (price : PriceMessage)
    (its : IsItsPrice lists p s c price) where
  -- the devices of the relay have in the clearing the numbers of that bid
  pub same_given : (d : ℕ) → IsChildDevice lists c d → cleared_cut s price.index d ≡ part lists s c price.number d
  same_given d child =
      let within = due_within lists s sound c price.index its.0 in
      let leaf : IsLeafOf lists c d = subst (λ (i : ℕ). IsLeafOf lists i d) child.2 (leaf_of_parent lists law d d (leaf_of_itself lists law d child.1)) in
      (cleared_is_part lists law s sound c price.index node within.1).0 d leaf
      ∙ ap (λ (n : ℕ). part lists s c n d) (sym (ap (λ (q : PriceMessage). q.number) its.1))

  -- the limits over the clearing's cut are those over the part of the number that its price names
  pub same_limits : GoesByNodes lists p → p.limits c (cleared_cut s price.index) ≡ p.limits c (part lists s c price.number)
  same_limits by = by.limits_alike c (cleared_cut s price.index) (part lists s c price.number) (λ d node leaf up. same_given d (node, leaf, up))
