-- What a node heard becomes the record of its next number, and the market's node publishes or clears what it knows.
use Rattle.std.proofs.Common.{◌≡◌, ◌∙◌, sym, ap, ℕ, ◌+◌, ◌≤◌, true, inl, inr, length, arith}
use Rattle.std.proofs.lemmas.Bool.{cases_eq, cases_lt}
use Rattle.pm_base.specs.Cuts.{Cut}
use Rattle.pm_market.specs.Lists.{Lists, parent, IsNode, IsInner, IsConcentrator, Lawful}
use Rattle.pm_market.specs.State.{State, update, is_same_on, DifferOn, cut_at, newest_number_of, part, knowledge, number, last_index, clearings, cleared_cut}
use Rattle.pm_market.specs.Sound.{Sound}
use Rattle.pm_market.proofs.Cuts.{updated_same, updated_other, pushed, pushed_length_same, pushed_length_other, known_at, newest_inner, part_leaf}
use Rattle.pm_market.proofs.Tree.{leaf_of_itself}
use Rattle.std.proofs.lemmas.Bool.{false_from_ne_true}
use Rattle.pm_laws.specs.Added.{HasAdded}
use Rattle.pm_laws.specs.Due.{is_due}
use Rattle.pm_laws.proofs.Facts.{last_within, updated_at}
use Rattle.pm_laws.proofs.Numbers.{published_is_part, cleared_is_part, known_heads}
use Rattle.pm_laws.proofs.Published.{due_within}
use Rattle.pm_net.specs.Pricing.{Pricing, GoesByNodes}
use Rattle.pm_net.specs.Messages.{BidMessage, PriceMessage, bid_message, price_message, numbers_of}
use Rattle.pm_net.specs.Network.{IsUnbroken, Network}
use Rattle.pm_net.specs.Running.{has_news, heard_sum}
use Rattle.pm_laws.specs.Gone.{is_gone}
use Rattle.pm_net.specs.Agrees.{bid_of_number, price_of_clearing, IsItsBid, IsItsPrice, HoldsIts, NetworkAgrees}
use Rattle.pm_net.proofs.Messages.{two_same, two_other}
use Rattle.pm_net.proofs.News.{news}

-- the state in which y knows just what the network's y heard, and the one after y published or cleared that
abbrev pub knowing : State → (ℕ → ℕ) → State
knowing s l = record s { learnt = l }

abbrev pub adding : Lists → State → (ℕ → ℕ) → ℕ → State
adding lists s l y = record s { learnt = l; published = pushed s.published y (knowledge lists (knowing s l) y) }

module _ (lists : Lists) (law : Lawful lists) (p : Pricing) (by : GoesByNodes lists p) (net : Network) (s : State) (agrees : NetworkAgrees lists p net s)
    (y : ℕ) (inner : IsInner lists y) (l : ℕ → ℕ) (sound : Sound lists (knowing s l))
    (heard_here : (x : ℕ) → IsNode lists x → parent lists x ≡ y → l x ≡ (net.heard x).number) where
  -- it has news, so what it knows is not what it published or cleared last
  pub differs : has_news lists net y ≡ true → DifferOn lists y (knowledge lists (knowing s l) y) (cut_at (s.published y) (length (s.published y)))
  differs h = false_from_ne_true (is_same_on lists y (knowledge lists (knowing s l) y) (cut_at (s.published y) (length (s.published y)))) (λ e.
      news lists law p net s agrees y h (λ x node up.
      let top : number lists s x (cut_at (s.published y) (length (s.published y))) ≡ l x =
      (known_heads lists law (knowing s l) sound y inner).0 e x node up in
      sym (heard_here x node up) ∙ sym top
      ∙ ap (λ (z : ℕ). number lists s x (cut_at (s.published z) (length (s.published z)))) (sym up) ∙ sym (agrees.learnt x node)))

  -- the limits that the bids' numbers give are those over what it knows
  pub limits_are : p.limits y (numbers_of net.heard) ≡ p.limits y (knowledge lists (knowing s l) y)
  limits_are = by.limits_alike y (numbers_of net.heard) (knowledge lists (knowing s l) y) (λ d node leaf up.
      sym (heard_here d node up) ∙ sym (part_leaf lists s.published d (l d) d leaf)
      ∙ sym (known_at lists law s.published l d d node.0 (leaf_of_itself lists law d leaf))
      ∙ ap (λ (z : ℕ). knowledge lists (knowing s l) z d) up)

  -- the sum of the bids is that of the offers over what it knows
  pub sum_is : heard_sum p net y ≡ p.add y (λ x. p.offer x (knowledge lists (knowing s l) y))
  sum_is = by.sums y (λ x. (net.heard x).demand) (λ x. p.offer x (knowledge lists (knowing s l) y)) (λ x node up.
      ap (λ (b : BidMessage). b.demand) (agrees.heard x node).1
      ∙ by.alike x (part lists s x (net.heard x).number) (knowledge lists (knowing s l) y) (λ d leaf.
      ap (λ (k : ℕ). part lists s x k d) (sym (heard_here x node up))
      ∙ sym (known_at lists law s.published l x d node.0 leaf) ∙ ap (λ (z : ℕ). knowledge lists (knowing s l) z d) up))

  module _ (heard_there : (x : ℕ) → IsNode lists x → (parent lists x ≡ y → ⊥) →
      l x ≡ s.learnt x) (has : HasAdded lists (knowing s l) (adding lists s l y) y) where
    abbrev next : State
    next = adding lists s l y

    longer : length (next.published y) ≡ length (s.published y) + 1
    longer = pushed_length_same s.published y (knowledge lists (knowing s l) y)

    as_long : (z : ℕ) → (z ≡ y → ⊥) → length (next.published z) ≡ length (s.published z)
    as_long z ne = pushed_length_other s.published y (knowledge lists (knowing s l) y) z ne

    -- newest numbers do not fall
    pub newest_le : (x : ℕ) → newest_number_of lists s x ≤ newest_number_of lists next x
    newest_le x = elim (cases_eq x y) [
      | inl e ↦ omega (arith, has.newest_added, ap (newest_number_of lists s) e, ap (newest_number_of lists next) e)
      | inr ne ↦ omega (arith, has.newest_kept x ne)
    ]

    -- numbers stand for what they stood for
    pub bid_same : (x n : ℕ) → n ≤ newest_number_of lists s x → bid_of_number lists p s x n ≡ bid_of_number lists p next x n
    bid_same x n le = ap (λ (cut : Cut). bid_message n (is_gone lists x n) (p.offer x cut)) (sym (has.part_kept x n le))

    -- a bid that a node could have sent is one still
    pub its_bid : (x : ℕ) (bid : BidMessage) → IsItsBid lists p s x bid → IsItsBid lists p next x bid
    its_bid x bid at = (omega (arith, at.0, newest_le x), at.1 ∙ bid_same x bid.number at.0)

    -- a clearing is over the cut that it was over
    pub cleared_same : (j : ℕ) → j ≤ clearings s → cleared_cut next j ≡ cleared_cut s j
    cleared_same j le = has.kept 0 j le

    -- the price of a clearing stays
    pub price_same : (x j : ℕ) → IsNode lists x → j ≤ clearings s → price_of_clearing lists p s x j ≡ price_of_clearing lists p next x j
    price_same x j node le =
        ap (λ (n : ℕ). price_message n j (p.local (cleared_cut s j) x)) (sym (has.number_cleared x j node le))
        ∙ ap (λ (cut : Cut). price_message (number lists next x (cleared_cut next j)) j (p.local cut x)) (sym (cleared_same j le))

    -- a price that was due still is
    pub its_price : ((x j : ℕ) → is_due lists s x j ≡ true → is_due lists next x j ≡ true) → (x : ℕ) → IsNode lists x →
        (price : PriceMessage) →
        IsItsPrice lists p s x price → IsItsPrice lists p next x price
    its_price due x node price at =
        (due x price.index at.0, at.1 ∙ price_same x price.index node (due_within lists s agrees.sound x price.index at.0).1)

    -- the clauses of what is kept
    pub heard_kept : (x : ℕ) → IsNode lists x → IsItsBid lists p next x (net.heard x)
    heard_kept x node = its_bid x (net.heard x) (agrees.heard x node)

    -- what was learnt is what the newest record has
    pub learnt_is : (x : ℕ) → IsNode lists x →
        l x ≡ number lists next x (cut_at (next.published (parent lists x)) (length (next.published (parent lists x))))
    learnt_is x node = elim (cases_eq (parent lists x) y) [
      | inl up ↦ sym (
          ap (λ (z : ℕ). number lists next x (cut_at (next.published z) (length (next.published z)))) up
          ∙ ap (λ (k : ℕ). number lists next x (cut_at (next.published y) k)) longer ∙ has.number_added x node up)
      | inr ne ↦ heard_there x node ne ∙ agrees.learnt x node ∙ sym (
          ap (λ (k : ℕ). number lists next x (cut_at (next.published (parent lists x)) k)) (as_long (parent lists x) ne)
          ∙ has.number_kept x (length (s.published (parent lists x))) node (omega arith))
    ]

    -- the last number is that of the newest cut
    pub sent_is : (c : ℕ) → IsInner lists c → update net.last_number y (net.last_number y + 1) c ≡ length (next.published c)
    sent_is c c_inner = elim (cases_eq c y) [
      | inl e ↦ omega (
        arith,
        ap (update net.last_number y (net.last_number y + 1)) e,
        updated_same net.last_number y (net.last_number y + 1),
        agrees.last_number y inner,
        longer,
        ap (λ (z : ℕ). length (next.published z)) e,
      )
      | inr ne ↦ updated_other net.last_number y (net.last_number y + 1) c ne ∙ agrees.last_number c c_inner ∙ sym (as_long c ne)
    ]

    -- the newest record has the numbers learnt
    pub newest_numbers_are : (x : ℕ) → IsNode lists x →
        (update net.records y (update (net.records y) (net.last_number y + 1) net.heard) (parent lists x) (update net.last_number y
        (net.last_number y + 1) (parent lists x)) x).number ≡ l x
    newest_numbers_are x node = elim (updated_at net.last_number y (net.last_number y + 1) (parent lists x)) [
      | inl w ↦ ap (λ (f : ℕ → BidMessage). (f x).number)
          (two_same net.records y (net.last_number y + 1) net.heard (parent lists x) (update net.last_number y (net.last_number y + 1)
          (parent lists x)) w.0 w.1)
          ∙ sym (heard_here x node w.0)
      | inr w ↦ ap (λ (f : ℕ → BidMessage). (f x).number)
          (two_other net.records y (net.last_number y + 1) net.heard (parent lists x) (update net.last_number y (net.last_number y + 1) (parent lists x))
          (λ up. absurd (w.0 up)))
          ∙ ap (λ (k : ℕ). (net.records (parent lists x) k x).number) w.1 ∙ agrees.newest_numbers x node ∙ sym (heard_there x node w.0)
    ]

    -- a record that is whole has the bids of its numbers
    pub records_are : (x n : ℕ) → IsNode lists x → net.whole_from (parent lists x) ≤ n → n ≤ length (next.published (parent lists x)) →
        update net.records y (update (net.records y) (net.last_number y + 1) net.heard) (parent lists x) n x
        ≡ bid_of_number lists p next x (number lists next x (cut_at (next.published (parent lists x)) n))
    records_are x n node whole le = elim (cases_lt (length (s.published (parent lists x))) n) [
      | inl above ↦ elim (cases_eq (parent lists x) y) [
        | inl up ↦
            let at : n ≡ length (s.published y) + 1 =
            omega (arith, above, le, ap (λ (z : ℕ). length (s.published z)) up, ap (λ (z : ℕ). length (next.published z)) up, longer) in
            let new : n ≡ net.last_number y + 1 = omega (arith, at, agrees.last_number y inner) in
            let is : number lists next x (cut_at (next.published (parent lists x)) n) ≡ (net.heard x).number =
            ap (λ (z : ℕ). number lists next x (cut_at (next.published z) n)) up ∙ ap (λ (k : ℕ). number lists next x (cut_at (next.published y) k)) at
            ∙ has.number_added x node up ∙ heard_here x node up in
            ap (λ (f : ℕ → BidMessage). f x) (two_same net.records y (net.last_number y + 1) net.heard (parent lists x) n up new)
            ∙ (heard_kept x node).1 ∙ ap (bid_of_number lists p next x) (sym is)
        | inr ne ↦ absurd (omega (arith, above, le, as_long (parent lists x) ne))
      ]
      | inr below ↦
          let m : ℕ = number lists s x (cut_at (s.published (parent lists x)) n) in
          let m_le : m ≤ newest_number_of lists s x = omega (
            arith,
            (published_is_part lists law s agrees.sound x n node below).1,
            agrees.sound.learnt_within x node,
          ) in
          ap (λ (f : ℕ → BidMessage). f x) (two_other net.records y (net.last_number y + 1) net.heard (parent lists x) n (λ up new.
          omega (arith, below, new, agrees.last_number y inner, ap (λ (z : ℕ). length (s.published z)) up)))
          ∙ agrees.records x n node whole below ∙ bid_same x m m_le ∙ ap (bid_of_number lists p next x) (sym (has.number_kept x n node below))
    ]

    -- what a node holds is due to it still
    pub taken_is : ((x j : ℕ) → is_due lists s x j ≡ true → is_due lists next x j ≡ true) → (x : ℕ) → IsNode lists x →
        HoldsIts lists p next x (net.taken x)
    taken_is due x node = elim (agrees.taken x node) [
      | inl none ↦ inl none
      | inr its ↦ inr (its_price due x node (net.taken x) its)
    ]

    -- a relay whose numbers are all in its last clearing did not publish just now, nor did a child of it whose newest number
    -- it learnt
    pub through_is : (x : ℕ) → IsNode lists x → IsConcentrator lists (parent lists x) →
        update net.last_number y (net.last_number y + 1) (parent lists x) ≤ number lists next (parent lists x)
        (cleared_cut next (last_index s (parent lists x))) →
        ((z : ℕ) → IsNode lists z → parent lists z ≡ parent lists x → l z ≡ newest_number_of lists next z) →
        (net.last_number (parent lists x) ≤ number lists s (parent lists x) (cleared_cut s (last_index s (parent lists x))))
        × ((z : ℕ) → IsNode lists z → parent lists z ≡ parent lists x → s.learnt z ≡ newest_number_of lists s z)
    through_is x node conc through all =
        let c : ℕ = parent lists x in
        let within : last_index s c ≤ clearings s = last_within lists s agrees.sound c in
        let same : number lists next c (cleared_cut next (last_index s c)) ≡ number lists s c (cleared_cut s (last_index s c)) =
        has.number_cleared c (last_index s c) (conc.0, conc.1) within in
        let most : number lists s c (cleared_cut s (last_index s c)) ≤ net.last_number c = omega (
          arith,
          (cleared_is_part lists law s agrees.sound c (last_index s c) (conc.0, conc.1) within).1,
          agrees.sound.learnt_within c (conc.0, conc.1),
          newest_inner lists s.counts s.published c conc.2,
          agrees.last_number c conc.2,
        ) in
        elim (updated_at net.last_number y (net.last_number y + 1) c) [
          | inl w ↦ absurd (omega (arith, through, same, most, w.1, ap net.last_number w.0))
          | inr w ↦ (
            omega (arith, through, same, w.1),
            λ z z_node up.
                let was : l z ≡ s.learnt z = heard_there z z_node (λ e. w.0 (sym up ∙ e)) in
                elim (cases_eq z y) [
                  | inl e ↦ absurd (omega (
                    arith,
                    was,
                    all z z_node up,
                    agrees.sound.learnt_within z z_node,
                    has.newest_added,
                    ap (newest_number_of lists s) e,
                    ap (newest_number_of lists next) e,
                  ))
                  | inr ne ↦ sym was ∙ all z z_node up ∙ has.newest_kept z ne
                ],
          )
        ]

    -- a node that never restarted is caught up
    pub caught_up_is : IsUnbroken net → (x : ℕ) → IsNode lists x → l x ≤ (net.heard x).number
    caught_up_is none x node = elim (cases_eq (parent lists x) y) [
      | inl up ↦ omega (arith, heard_here x node up)
      | inr ne ↦ omega (arith, heard_there x node ne, agrees.caught_up none x node)
    ]
