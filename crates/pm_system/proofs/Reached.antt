-- Where each node that counts was reached by the newest clearing, and nothing can be sent, that is over all current bids.
use Rattle.std.proofs.Common.{◌≡◌, ◌∙◌, sym, ap, ℕ, ◌-◌, ◌<◌, ◌≤◌, true, false, not, inl}
use Rattle.std.proofs.Common.{inr, length, arith, refl}
use Rattle.std.proofs.Common.{◌⊎◌}
use Rattle.std.proofs.lemmas.Bool.{cases_eq, cases_Bool, cond-false}
use Rattle.pm_base.specs.Limits.{window_size}
use Rattle.pm_market.specs.Lists.{Lists, parent, is_leaf, is_member, IsNode, IsLeaf, IsConcentrator, Lawful}
use Rattle.pm_market.specs.State.{State, cut_at, newest_number_of, number, last_index, clearings, cleared_cut, addresses}
use Rattle.pm_market.proofs.Tree.{leaf_node}
use Rattle.pm_market.proofs.Cuts.{newest_leaf, newest_inner}
use Rattle.pm_laws.proofs.Numbers.{number_down, addressed_number, cleared_is_part}
use Rattle.pm_laws.proofs.Facts.{last_within}
use Rattle.pm_net.specs.Pricing.{Pricing, GoesByNodes}
use Rattle.pm_net.specs.Messages.{BidMessage, price_message}
use Rattle.pm_net.specs.Network.{Network}
use Rattle.pm_net.specs.Running.{has_news, can_send, can_clear}
use Rattle.pm_laws.specs.Gone.{is_gone}
use Rattle.pm_net.specs.Agrees.{NetworkAgrees}
use Rattle.pm_net.specs.Settled.{made_number}
use Rattle.pm_net.proofs.Settled.{none_at_root, root_gone}
use Rattle.pm_net.proofs.Resting.{learnt_heard, newest_heard, caught, PassesNone, reached_above, none_there, rest_counted, rest_told, held_step}
use Rattle.pm_net.proofs.News.{no_news}
use Rattle.pm_laws.proofs.Gone.{gone_addresses, gone_leaf}
use Rattle.pm_net.proofs.Answered.{answered_exact}

-- what its parent heard of x counts: a device that is not gone, or a relay with a bid
abbrev pub CountsIn : Lists → Network → ℕ → Type 0
CountsIn lists net x = (IsLeaf lists x × ((net.heard x).gone ≡ false)) ⊎ (IsConcentrator lists x × (1 ≤ (net.heard x).number))

module _ (lists : Lists) (law : Lawful lists) (p : Pricing) (by : GoesByNodes lists p) (net : Network) (s : State) (agrees : NetworkAgrees lists p net s)
    (bids : (x : ℕ) → IsNode lists x → made_number lists net x ≤ (net.heard x).number)
    (relays : (c : ℕ) → IsConcentrator lists c → can_send lists net c ≡ false) (auctioneer : can_clear lists net ≡ false)
    (reached : (x : ℕ) → IsNode lists x → CountsIn lists net x → clearings s ≤ (net.taken x).index) where
  -- a node that counts holds the price passed to it last, and that is of the newest clearing
  holds_newest : (x : ℕ) → IsNode lists x → CountsIn lists net x → ((net.taken x).index ≡ last_index s x) × (last_index s x ≡ clearings s)
  holds_newest x node counts = (
    omega (arith, reached x node counts, agrees.index x node, last_within lists s agrees.sound x),
    omega (arith, reached x node counts, agrees.index x node, last_within lists s agrees.sound x),
  )

  -- a relay all of whose numbers are answered has room
  room_there : (c : ℕ) → IsConcentrator lists c →
      newest_number_of lists s c - number lists s c (cleared_cut s (last_index s c)) < window_size → net.last_number c - net.answered c < window_size
  room_there c conc few =
      let node : IsNode lists c = (conc.0, conc.1) in
      let made : made_number lists net c ≡ net.last_number c = cond-false (is_leaf lists c) (net.counts c) (net.last_number c) conc.2 in
      elim (cases_eq (net.heard c).number 0) [
        | inl none ↦ omega (arith, none, made, bids c node)
        | inr some ↦
            let here = holds_newest c node (inr (conc, omega (arith, some))) in
            omega (
              arith,
              few,
              newest_inner lists s.counts s.published c conc.2,
              agrees.last_number c conc.2,
              answered_exact lists law p net s agrees c conc here.0,
            )
      ]

  -- where the newest clearing has the number that is heard of a node, and addresses it, the node counts
  counts_where : (x : ℕ) → IsNode lists x → (net.heard x).gone ≡ not (addresses lists s (clearings s) x) →
      addresses lists s (clearings s) x ≡ true →
      CountsIn lists net x
  counts_where x node gone addressed = elim (cases_Bool (is_leaf lists x)) [
    | inl leaf ↦ inl (leaf, gone ∙ ap not addressed)
    | inr inner ↦
        let conc : IsConcentrator lists x = (node.0, node.1, inner) in
        let one : 1 ≤ number lists s x (cleared_cut s (clearings s)) =
        (addressed_number lists law s agrees.sound x (clearings s) conc (omega arith)).0 addressed in
        inr (
          conc,
          omega (
            arith,
            one,
            (cleared_is_part lists law s agrees.sound x (clearings s) node (omega arith)).1,
            learnt_heard lists law p net s agrees bids x node,
          ),
        )
  ]

  passes : PassesNone lists p net s agrees
  passes x all legal =
      let node : IsNode lists x = legal.0 in
      let late : CountsIn lists net x → ⊥ = λ counts. omega (arith, (holds_newest x node counts).1, legal.2) in
      elim (cases_eq (parent lists x) 0) [
        | inl up ↦
            let none : has_news lists net 0 ≡ false = none_at_root lists net auctioneer (caught lists law p net s agrees bids 0) in
            late (counts_where x node (root_gone lists law p net s agrees none x node up) legal.3)
        | inr ne ↦
            let c : ℕ = parent lists x in
            let c_node : IsNode lists c = (omega arith, omega (arith, law.earlier x node, node.1)) in
            let conc : IsConcentrator lists c = (c_node.0, c_node.1, law.inner x node) in
            let is : last_index s c ≡ clearings s = reached_above lists p net s agrees x legal ne in
            let none : has_news lists net c ≡ false = none_there lists law p net s agrees bids relays auctioneer room_there c conc (all ne) in
            let at_c = cleared_is_part lists law s agrees.sound c (clearings s) c_node (omega arith) in
            let whole : number lists s c (cleared_cut s (clearings s)) ≡ length (s.published c) =
            omega (
              arith,
              all ne,
              ap (λ (j : ℕ). number lists s c (cleared_cut s j)) is,
              newest_inner lists s.counts s.published c conc.2,
              at_c.1,
              agrees.sound.learnt_within c c_node,
            ) in
            let number_is : number lists s x (cleared_cut s (clearings s)) ≡ (net.heard x).number =
            number_down lists law s agrees.sound x (clearings s) node c_node (omega arith)
            ∙ ap (λ (i : ℕ). number lists s x (cut_at (s.published c) i)) whole ∙ sym (agrees.learnt x node)
            ∙ sym (no_news lists law p net s agrees c none x node refl) in
            let gone : (net.heard x).gone ≡ not (addresses lists s (clearings s) x) = ap (λ (b : BidMessage). b.gone) (agrees.heard x node).1
            ∙ ap (is_gone lists x) (sym number_is) ∙ gone_addresses lists law s agrees.sound x (clearings s) node (omega arith) in
            late (counts_where x node gone legal.3)
      ]

  -- the last clearing is over all bids ever sent
  pub all_counted : (d : ℕ) → IsLeaf lists d → cleared_cut s (clearings s) d ≡ net.counts d
  all_counted d leaf = rest_counted lists law p net s agrees bids relays auctioneer room_there passes d leaf

  -- a member has been told something
  pub one_cleared : (d : ℕ) → IsLeaf lists d → is_member lists d (net.counts d) ≡ true → 1 ≤ clearings s
  one_cleared d leaf member = (rest_told lists law p net s agrees bids relays auctioneer room_there passes d leaf member).0

  -- a member is not gone at its parent
  member_counts : (d : ℕ) → IsLeaf lists d → is_member lists d (net.counts d) ≡ true → CountsIn lists net d
  member_counts d leaf member =
      let node : IsNode lists d = leaf_node lists law d leaf in
      let number_is : (net.heard d).number ≡ net.counts d =
      omega (
        arith,
        (agrees.heard d node).0,
        newest_heard lists law p net s agrees bids d node,
        newest_leaf lists s.counts s.published d leaf,
        agrees.counts d leaf,
      ) in
      inl (
        leaf,
        ap (λ (b : BidMessage). b.gone) (agrees.heard d node).1 ∙ gone_leaf lists d (net.heard d).number leaf
            ∙ ap (λ (n : ℕ). not (is_member lists d n)) number_is ∙ ap not member,
      )

  -- each member holds its local step over them, at its own newest number
  pub all_held : (d : ℕ) → IsLeaf lists d → is_member lists d (net.counts d) ≡ true →
      net.taken d ≡ price_message (net.counts d) (clearings s) (p.local net.counts d)
  all_held d leaf member =
      let at = holds_newest d (leaf_node lists law d leaf) (member_counts d leaf member) in
      held_step lists law p by net s agrees all_counted d leaf (one_cleared d leaf member) at.0 at.1
