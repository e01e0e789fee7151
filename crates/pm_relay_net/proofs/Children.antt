-- What the heads and the numbers that a node keeps of its children say of the node.
use Rattle.std.proofs.Common.{◌≡◌, ◌∙◌, sym, ap, ℕ, ◌<◌, ◌≤◌, true, false}
use Rattle.std.proofs.Common.{not, eqb, leb, List, length, arith}
use Rattle.std.proofs.Common.{inl, inr}
use Rattle.std.proofs.lemmas.Bool.{cases_eq, cond-true, cond-false, eq-eqb, ne_eqb, leb-true, le-leb}
use Rattle.pm_base.specs.Limits.{most_nodes}
use Rattle.pm_bid.specs.Heads.{nothing_sent}
use Rattle.pm_bid.specs.declared.head.BidHead.{BidHead}
use Rattle.pm_market.specs.Lists.{Lists, parent, IsNode}
use Rattle.pm_net.specs.Messages.{BidMessage}
use Rattle.pm_net.specs.Network.{Network}
use Rattle.pm_net.specs.Running.{recorded_number, is_caught_up, is_overtaken}
use Rattle.pm_net.proofs.News.{child_from, child_at}
use Rattle.pm_net_plan.specs.Places.{Numbering, IsNumbering}
use Rattle.pm_relay.specs.Numbers.{child_number, head_number, IsCaughtUp, HearsNothingNewer}
use Rattle.pm_relay_net.specs.Heads.{bid_head, heads_of}
use Rattle.pm_relay_net.proofs.Places.{heads_of-at, head_there, in_each_place}

-- the number in a place without a child is 0
pub none_there : (numbering : Numbering) (c k : ℕ) (bids : ℕ → BidMessage) → k < most_nodes → numbering.child c k ≡ 0 →
    head_number (heads_of numbering c bids) k ≡ 0
none_there numbering c k bids inside none =
    ap (λ (h : BidHead). h.number) (heads_of-at numbering c bids k inside
    ∙ cond-true (eqb (numbering.child c k) 0) nothing_sent (bid_head (bids (numbering.child c k))) (eq-eqb (numbering.child c k) 0 none))

-- the heads of bids with the same numbers have the same numbers
pub same_numbers : (numbering : Numbering) (c k : ℕ) (a b : ℕ → BidMessage) → k < most_nodes → ((x : ℕ) → (a x).number ≡ (b x).number) →
    head_number (heads_of numbering c a) k ≡ head_number (heads_of numbering c b) k
same_numbers numbering c k a b inside each =
    elim (cases_eq (numbering.child c k) 0) [
      | inl none ↦ none_there numbering c k a inside none ∙ sym (none_there numbering c k b inside none)
      | inr ne ↦ at a ne ∙ each (numbering.child c k) ∙ sym (at b ne)
    ]
  where
    at : (bids : ℕ → BidMessage) → (numbering.child c k ≡ 0 → ⊥) →
        head_number (heads_of numbering c bids) k ≡ (bids (numbering.child c k)).number
    at bids ne = ap (λ (h : BidHead). h.number) (heads_of-at numbering c bids k inside
        ∙ cond-false (eqb (numbering.child c k) 0) nothing_sent (bid_head (bids (numbering.child c k))) (ne_eqb (numbering.child c k) 0 ne))

-- the heads are those that the network heard of y's children, and the numbers those in the newest record
pub record KnowsChildren (numbering : Numbering) (net : Network) (y : ℕ) (heads : List BidHead) (numbers : List ℕ) : Type 0 where
  -- the heads
  pub heads_are : heads ≡ heads_of numbering y net.heard
  pub children : length numbers ≡ most_nodes
  -- the numbers
  pub numbers_are : (k : ℕ) → k < most_nodes →
      child_number numbers k ≡ head_number (heads_of numbering y (net.records y (net.last_number y))) k

module _ (lists : Lists) (numbering : Numbering) (is : IsNumbering lists numbering) (net : Network) (y : ℕ) (heads : List BidHead) (numbers : List ℕ)
    (knows : KnowsChildren numbering net y heads numbers) where
  -- the number of a child in the newest record, and the one heard
  pub recorded_at : (x : ℕ) → IsNode lists x → parent lists x ≡ y → child_number numbers (numbering.place x) ≡ recorded_number net y x
  recorded_at x node up =
      knows.numbers_are (numbering.place x) (is.inside x node)
      ∙ ap (λ (z : ℕ). head_number (heads_of numbering z (net.records y (net.last_number y))) (numbering.place x)) (sym up)
      ∙ ap (λ (h : BidHead). h.number) (head_there lists numbering is (net.records y (net.last_number y)) x node)

  -- the head in the place of a child has the number that was heard of it
  pub heard_at : (x : ℕ) → IsNode lists x → parent lists x ≡ y → head_number heads (numbering.place x) ≡ (net.heard x).number
  heard_at x node up =
      ap (λ (l : List BidHead). head_number l (numbering.place x)) (knows.heads_are ∙ ap (λ (z : ℕ). heads_of numbering z net.heard) (sym up))
      ∙ ap (λ (h : BidHead). h.number) (head_there lists numbering is net.heard x node)

  -- the numbers are reached just where the node holds of no child less than the recorded one
  pub reached_at : IsCaughtUp numbers heads → (x : ℕ) → IsNode lists x → parent lists x ≡ y → recorded_number net y x ≤ (net.heard x).number
  reached_at reached x node up =
      omega (arith, reached (numbering.place x) (omega (arith, is.inside x node, knows.children)), recorded_at x node up, heard_at x node up)

  -- the numbers are reached if that of each child is
  pub reached_from : ((x : ℕ) → IsNode lists x → parent lists x ≡ y → recorded_number net y x ≤ (net.heard x).number) → IsCaughtUp numbers heads
  reached_from each = λ k inside.
      in_each_place lists numbering is y (λ k. child_number numbers k ≤ head_number heads k)
      (λ k inside none. omega (arith, knows.numbers_are k inside, none_there numbering y k (net.records y (net.last_number y)) inside none))
      (λ x node up. omega (arith, recorded_at x node up, heard_at x node up, each x node up)) k (omega (arith, inside, knows.children))

  -- that is where it is caught up
  pub caught_to : IsCaughtUp numbers heads → is_caught_up lists net y ≡ true
  unfolding is_caught_up
  caught_to reached = child_at lists y (λ x. leb (recorded_number net y x) (net.heard x).number) (λ x node up.
      le-leb (recorded_number net y x) (net.heard x).number (reached_at reached x node up))

  -- and if the node is caught up
  pub caught_from : is_caught_up lists net y ≡ true → IsCaughtUp numbers heads
  unfolding is_caught_up
  caught_from caught = reached_from (λ x node up. leb-true (recorded_number net y x) (net.heard x).number
      (child_from lists y (λ x. leb (recorded_number net y x) (net.heard x).number) caught x node up))

  -- the numbers are enough just where it holds of no child more
  pub enough_at : HearsNothingNewer numbers heads → (x : ℕ) → IsNode lists x → parent lists x ≡ y → (net.heard x).number ≤ recorded_number net y x
  enough_at enough x node up =
      omega (arith, enough (numbering.place x) (omega (arith, is.inside x node, knows.children)), recorded_at x node up, heard_at x node up)

  -- the numbers are enough if that of each child is
  pub enough_from : ((x : ℕ) → IsNode lists x → parent lists x ≡ y → (net.heard x).number ≤ recorded_number net y x) →
      HearsNothingNewer numbers heads
  enough_from each = λ k inside.
      in_each_place lists numbering is y (λ k. head_number heads k ≤ child_number numbers k)
      (λ k inside none. omega (arith, ap (λ (l : List BidHead). head_number l k) knows.heads_are, none_there numbering y k net.heard inside none))
      (λ x node up. omega (arith, recorded_at x node up, heard_at x node up, each x node up)) k (omega (arith, inside, knows.children))

  -- then it is not overtaken
  pub over_to : HearsNothingNewer numbers heads → is_overtaken lists net y ≡ false
  unfolding is_overtaken
  over_to enough = ap not (child_at lists y (λ x. leb (net.heard x).number (recorded_number net y x)) (λ x node up.
      le-leb (net.heard x).number (recorded_number net y x) (enough_at enough x node up)))
