-- Where everything was taken and nothing can be sent, everything is over all current bids.
use Rattle.std.proofs.Common.{◌≡◌, ◌∙◌, sym, ap, ℕ, ◌-◌, ◌<◌, ◌≤◌, true, false, not, ◌&&◌, inl}
use Rattle.std.proofs.Common.{inr, length, arith}
use Rattle.std.proofs.lemmas.Bool.{cases_eq, cases_Bool, and_from, both_ways}
use Rattle.pm_base.specs.Limits.{window_size}
use Rattle.pm_market.specs.Lists.{Lists, parent, is_member, IsNode, IsLeaf, IsConcentrator, Lawful}
use Rattle.pm_market.specs.State.{State, cut_at, newest_number_of, number, last_index, clearings, cleared_cut, addresses}
use Rattle.pm_market.proofs.Tree.{leaf_node, leaf_zero}
use Rattle.pm_market.proofs.Cuts.{newest_inner}
use Rattle.pm_laws.proofs.MoveLaws.{due_from}
use Rattle.pm_laws.specs.Due.{is_due}
use Rattle.pm_net.specs.Pricing.{Pricing, GoesByNodes}
use Rattle.pm_net.specs.Messages.{BidMessage, price_message}
use Rattle.pm_net.specs.Network.{IsUnbroken, Network, sent_bid, sent_price}
use Rattle.pm_net.specs.Running.{is_caught_up, has_news, can_clear}
use Rattle.pm_laws.specs.Gone.{is_gone}
use Rattle.pm_net.specs.Agrees.{NetworkAgrees}
use Rattle.pm_net.specs.Settled.{IsSettledNetwork, AllTaken, made_number}
use Rattle.pm_net.proofs.News.{no_news, caught_at}
use Rattle.pm_net.proofs.Resting.{own_is, newest_heard, caught, PassesNone, reached_above, none_there, rest_counted, rest_told, held_step}
use Rattle.pm_laws.proofs.Gone.{gone_addresses}
use Rattle.pm_net.proofs.Gone.{not_flips}
use Rattle.pm_laws.proofs.Quiet.{addressed_index}
use Rattle.pm_net.proofs.Answered.{answered_exact}

-- an auctioneer that cannot clear has no news
pub none_at_root : (lists : Lists) (net : Network) → can_clear lists net ≡ false → is_caught_up lists net 0 ≡ true → has_news lists net 0 ≡ false
unfolding can_clear
none_at_root lists net cannot caught = elim (cases_Bool (has_news lists net 0)) [
  | inr e ↦ e
  | inl e ↦ absurd (both_ways (is_caught_up lists net 0 && has_news lists net 0) cannot (and_from _ _ caught e))
]

-- a child is gone then where the last clearing does not address it
pub root_gone : (lists : Lists) → Lawful lists → (p : Pricing) (net : Network) (s : State) → NetworkAgrees lists p net s →
    has_news lists net 0 ≡ false → (x : ℕ) →
    IsNode lists x → parent lists x ≡ 0 → (net.heard x).gone ≡ not (addresses lists s (clearings s) x)
root_gone lists law p net s agrees none x node up =
    ap (λ (b : BidMessage). b.gone) (agrees.heard x node).1
    ∙ ap (is_gone lists x) (no_news lists law p net s agrees 0 none x node up ∙ agrees.learnt x node
    ∙ ap (λ (z : ℕ). number lists s x (cut_at (s.published z) (length (s.published z)))) up)
    ∙ gone_addresses lists law s agrees.sound x (clearings s) node (omega arith)

-- while nothing restarted an auctioneer that cannot clear has sent the price of its newest clearing
pub told_there : (lists : Lists) → Lawful lists → (p : Pricing) (net : Network) (s : State) → NetworkAgrees lists p net s → IsUnbroken net →
    can_clear lists net ≡ false → (x : ℕ) → IsNode lists x → parent lists x ≡ 0 → (net.heard x).gone ≡ false →
    (k : ℕ) × (k < length (net.prices_sent x)) × ((sent_price net x k).index ≡ net.last_number 0)
told_there lists law p net s agrees unbroken cannot x node up stays =
    let caught : is_caught_up lists net 0 ≡ true = caught_at lists law p net s agrees 0 (λ y y_node y_up. agrees.caught_up unbroken y y_node) in
    let none : has_news lists net 0 ≡ false = none_at_root lists net cannot caught in
    let addressed : addresses lists s (clearings s) x ≡ true =
    not_flips (net.heard x).gone (addresses lists s (clearings s) x) (root_gone lists law p net s agrees none x node up) stays in
    let due : is_due lists s x (clearings s) ≡ true =
    due_from lists s x (clearings s) (inl (up, addressed_index lists law s (clearings s) x addressed, omega arith)) addressed in
    let at = agrees.due_root unbroken x (clearings s) node up due in
    (at.0, at.1, at.2 ∙ sym (agrees.last_number 0 (leaf_zero lists)))

-- while nothing restarted it is enough that every bid ever sent was taken
pub own_heard : (lists : Lists) (p : Pricing) (net : Network) (s : State) → NetworkAgrees lists p net s → IsUnbroken net → (x : ℕ) →
    IsNode lists x →
    ((k : ℕ) → k < length (net.bids_sent x) → (sent_bid p net x k).number ≤ (net.heard x).number) → made_number lists net x ≤ (net.heard x).number
own_heard lists p net s agrees unbroken x node all = elim (cases_eq (newest_number_of lists s x) 0) [
  | inl e ↦ omega (arith, own_is lists p net s agrees x, e)
  | inr ne ↦ let at = agrees.newest_sent unbroken x node (omega arith) in omega (arith, own_is lists p net s agrees x, at.2, all at.0 at.1)
]

module _ (lists : Lists) (law : Lawful lists) (p : Pricing) (by : GoesByNodes lists p) (net : Network) (s : State) (agrees : NetworkAgrees lists p net s)
    (settled : IsSettledNetwork lists net) where
  -- each node holds the price passed to it last
  holds_last : (x : ℕ) → IsNode lists x → (net.taken x).index ≡ last_index s x
  holds_last x node = elim (cases_eq (last_index s x) 0) [
    | inl e ↦ omega (arith, agrees.index x node)
    | inr ne ↦
        let at = agrees.last_sent x node (omega arith) in
        omega (arith, agrees.index x node, at.2, settled.prices x at.0 node at.1)
  ]

  answered_is : (c : ℕ) → IsConcentrator lists c → net.answered c ≡ number lists s c (cleared_cut s (last_index s c))
  answered_is c conc = answered_exact lists law p net s agrees c conc (holds_last c (conc.0, conc.1))

  room_there : (c : ℕ) → IsConcentrator lists c →
      newest_number_of lists s c - number lists s c (cleared_cut s (last_index s c)) < window_size → net.last_number c - net.answered c < window_size
  room_there c conc few = omega (
    arith,
    few,
    newest_inner lists s.counts s.published c conc.2,
    agrees.last_number c conc.2,
    answered_exact lists law p net s agrees c conc (holds_last c (conc.0, conc.1)),
  )

  passes : PassesNone lists p net s agrees
  passes x all legal =
      let node : IsNode lists x = legal.0 in
      let due : is_due lists s x (clearings s) ≡ true = due_from lists s x (clearings s) legal.1 legal.3 in
      elim (cases_eq (parent lists x) 0) [
        | inl up ↦
            let none : has_news lists net 0 ≡ false = none_at_root lists net settled.auctioneer (caught lists law p net s agrees settled.bids 0) in
            let gone : (net.heard x).gone ≡ not (addresses lists s (clearings s) x) = root_gone lists law p net s agrees none x node up in
            let at = settled.told x node up (gone ∙ ap not legal.3) in
            omega (arith, at.2, agrees.last_number 0 (leaf_zero lists), settled.prices x at.0 node at.1, agrees.index x node, legal.2)
        | inr ne ↦
            let c : ℕ = parent lists x in
            let conc : IsConcentrator lists c = (omega arith, omega (arith, law.earlier x node, node.1), law.inner x node) in
            let is : last_index s c ≡ clearings s = reached_above lists p net s agrees x legal ne in
            let none : has_news lists net c ≡ false =
            none_there lists law p net s agrees settled.bids settled.relays settled.auctioneer room_there c conc (all ne) in
            let at = agrees.due_through x node conc (holds_last c (conc.0, conc.1))
            (omega (arith, all ne, agrees.last_number c conc.2, newest_inner lists s.counts s.published c conc.2))
            (λ z z_node up. omega (
              arith,
              no_news lists law p net s agrees c none z z_node up,
              newest_heard lists law p net s agrees settled.bids z z_node,
              agrees.sound.learnt_within z z_node,
            ))
            (ap (is_due lists s x) is ∙ due) in
            omega (arith, at.2, is, settled.prices x at.0 node at.1, agrees.index x node, legal.2)
      ]

  -- the last clearing is over all bids ever sent
  pub all_counted : (d : ℕ) → IsLeaf lists d → cleared_cut s (clearings s) d ≡ net.counts d
  all_counted d leaf = rest_counted lists law p net s agrees settled.bids settled.relays settled.auctioneer room_there passes d leaf

  its_last : (d : ℕ) → IsLeaf lists d → is_member lists d (net.counts d) ≡ true → (1 ≤ clearings s) × (last_index s d ≡ clearings s)
  its_last d leaf member = rest_told lists law p net s agrees settled.bids settled.relays settled.auctioneer room_there passes d leaf member

  -- a member has been told something
  pub one_cleared : (d : ℕ) → IsLeaf lists d → is_member lists d (net.counts d) ≡ true → 1 ≤ clearings s
  one_cleared d leaf member = (its_last d leaf member).0

  -- each member holds its local step over them, at its own newest number
  pub all_held : (d : ℕ) → IsLeaf lists d → is_member lists d (net.counts d) ≡ true →
      net.taken d ≡ price_message (net.counts d) (clearings s) (p.local net.counts d)
  all_held d leaf member =
      let told = its_last d leaf member in
      held_step lists law p by net s agrees all_counted d leaf told.0 (holds_last d (leaf_node lists law d leaf)) told.1

-- while nothing restarted it is enough that no message is left that anybody would take, and nothing new can be sent
pub taken_settles : (lists : Lists) → Lawful lists → (p : Pricing) (net : Network) (s : State) → NetworkAgrees lists p net s → IsUnbroken net →
    AllTaken lists p net → IsSettledNetwork lists net
taken_settles lists law p net s agrees unbroken taken = record {
  bids = λ x node. own_heard lists p net s agrees unbroken x node (λ k lt. taken.bids x k node lt);
  prices = taken.prices;
  told = told_there lists law p net s agrees unbroken taken.auctioneer;
  relays = taken.relays;
  auctioneer = taken.auctioneer;
}
