-- Where each parent holds the newest bid of its child and nobody has news, the newest clearing is over all current bids.
use Rattle.std.proofs.Common.{◌≡◌, ◌∙◌, sym, ap, ℕ, zero, suc, ◌≤◌, true, false, not, inl, inr, length, arith, refl}
use Rattle.std.proofs.lemmas.Bool.{cases_eq, cond-true, cond-false}
use Rattle.pm_market.specs.Lists.{Lists, parent, is_leaf, is_member, IsNode, IsLeaf, IsConcentrator, Lawful}
use Rattle.pm_market.specs.State.{State, cut_at, number, clearings, cleared_cut, addresses}
use Rattle.pm_market.proofs.Tree.{leaf_node}
use Rattle.pm_market.proofs.Cuts.{newest_leaf, newest_inner}
use Rattle.pm_laws.proofs.Facts.{last_within}
use Rattle.pm_laws.proofs.Gone.{gone_leaf}
use Rattle.pm_laws.proofs.Numbers.{number_leaf, number_down}
use Rattle.pm_laws.proofs.Quiet.{addressed_index, addresses_leaf}
use Rattle.pm_net.specs.Pricing.{Pricing, GoesByNodes}
use Rattle.pm_net.specs.Messages.{BidMessage, PriceMessage, price_message}
use Rattle.pm_net.specs.Network.{Network}
use Rattle.pm_net.specs.Running.{has_news}
use Rattle.pm_net.specs.Agrees.{price_of_clearing, NetworkAgrees}
use Rattle.pm_net.specs.Settled.{made_number}
use Rattle.pm_net.proofs.News.{no_news}

module _ (lists : Lists) (law : Lawful lists) (p : Pricing) (by : GoesByNodes lists p) (net : Network) (s : State) (agrees : NetworkAgrees lists p net s)
    (bids : (x : ℕ) → IsNode lists x → made_number lists net x ≤ (net.heard x).number)
    (relays : (c : ℕ) → IsConcentrator lists c → has_news lists net c ≡ false) (auctioneer : has_news lists net 0 ≡ false)
    (devices : (d : ℕ) → IsLeaf lists d → (net.heard d).gone ≡ false → clearings s ≤ (net.taken d).index) where
  -- the newest clearing has of each node the number that its parent heard
  number_in : (levels x : ℕ) → x ≤ levels → IsNode lists x → number lists s x (cleared_cut s (clearings s)) ≡ (net.heard x).number
  number_in zero x le node = absurd (omega (arith, le, node.0))
  number_in (suc levels) x le node = elim (cases_eq (parent lists x) 0) [
    | inl up ↦ sym (no_news lists law p net s agrees 0 auctioneer x node up ∙ agrees.learnt x node
        ∙ ap (λ (z : ℕ). number lists s x (cut_at (s.published z) (length (s.published z)))) up)
    | inr ne ↦
        let c : ℕ = parent lists x in
        let c_node : IsNode lists c = (omega arith, omega (arith, law.earlier x node, node.1)) in
        let conc : IsConcentrator lists c = (c_node.0, c_node.1, law.inner x node) in
        let above : number lists s c (cleared_cut s (clearings s)) ≡ (net.heard c).number =
        number_in levels c (omega (arith, le, law.earlier x node)) c_node in
        let whole : number lists s c (cleared_cut s (clearings s)) ≡ length (s.published c) = omega (
          arith,
          above,
          bids c c_node,
          cond-false (is_leaf lists c) (net.counts c) (net.last_number c) conc.2,
          agrees.last_number c conc.2,
          (agrees.heard c c_node).0,
          newest_inner lists s.counts s.published c conc.2,
        ) in
        number_down lists law s agrees.sound x (clearings s) node c_node (omega arith)
        ∙ ap (λ (i : ℕ). number lists s x (cut_at (s.published c) i)) whole ∙ sym (agrees.learnt x node)
        ∙ sym (no_news lists law p net s agrees c (relays c conc) x node refl)
  ]

  -- what is heard of a device is its newest change
  heard_is : (d : ℕ) → IsLeaf lists d → (net.heard d).number ≡ net.counts d
  heard_is d leaf =
      let node : IsNode lists d = leaf_node lists law d leaf in
      omega (
        arith,
        bids d node,
        cond-true (is_leaf lists d) (net.counts d) (net.last_number d) leaf,
        (agrees.heard d node).0,
        newest_leaf lists s.counts s.published d leaf,
        agrees.counts d leaf,
      )

  -- the newest clearing is over all bids ever sent
  pub all_counted : (d : ℕ) → IsLeaf lists d → cleared_cut s (clearings s) d ≡ net.counts d
  all_counted d leaf =
      sym (number_leaf lists s.published d (cleared_cut s (clearings s)) leaf)
      ∙ number_in d d (omega arith) (leaf_node lists law d leaf) ∙ heard_is d leaf

  -- it is a clearing, if there is a member
  pub one_cleared : (d : ℕ) → IsLeaf lists d → is_member lists d (net.counts d) ≡ true → 1 ≤ clearings s
  one_cleared d leaf member =
      let addressed : addresses lists s (clearings s) d ≡ true =
      addresses_leaf lists (cleared_cut s (clearings s)) d leaf ∙ ap (is_member lists d) (all_counted d leaf) ∙ member in
      addressed_index lists law s (clearings s) d addressed

  -- each member holds its local step over them, at its own newest number
  pub all_held : (d : ℕ) → IsLeaf lists d → is_member lists d (net.counts d) ≡ true →
      net.taken d ≡ price_message (net.counts d) (clearings s) (p.local net.counts d)
  all_held d leaf member =
      let node : IsNode lists d = leaf_node lists law d leaf in
      let there : (net.heard d).gone ≡ false = ap (λ (b : BidMessage). b.gone) (agrees.heard d node).1
      ∙ gone_leaf lists d (net.heard d).number leaf ∙ ap (λ (n : ℕ). not (is_member lists d n)) (heard_is d leaf) ∙ ap not member in
      let index_is : (net.taken d).index ≡ clearings s =
      omega (arith, devices d leaf there, agrees.index d node, last_within lists s agrees.sound d) in
      let held : net.taken d ≡ price_of_clearing lists p s d (clearings s) = elim (agrees.taken d node) [
        | inl nothing ↦ absurd (omega (arith, one_cleared d leaf member, index_is, ap (λ (q : PriceMessage). q.index) nothing))
        | inr its ↦ its.1 ∙ ap (price_of_clearing lists p s d) index_is
      ] in
      held
      ∙ ap (λ (n : ℕ). price_message n (clearings s) (p.local (cleared_cut s (clearings s)) d)) (number_leaf lists s.published d (cleared_cut s
      (clearings s)) leaf ∙ all_counted d leaf)
      ∙ ap (price_message (net.counts d) (clearings s)) (by.steps_alike d (cleared_cut s (clearings s)) net.counts node all_counted)
