-- A network in which every bid was heard and no node can send is at rest: the market has no legal move left.
use Rattle.std.proofs.Common.{◌≡◌, ◌∙◌, sym, ap, ℕ, ◌-◌, ◌<◌, ◌≤◌, Bool, true, false, not, ltb, ◌&&◌, inl}
use Rattle.std.proofs.Common.{inr, length, refl, arith}
use Rattle.std.proofs.lemmas.Bool.{cases_Bool, cond-true, cond-false, and_from, lt-ltb, not_from_false, both_ways}
use Rattle.pm_base.specs.Cuts.{Cut}
use Rattle.pm_base.specs.Limits.{window_size}
use Rattle.pm_market.specs.Lists.{Lists, parent, is_leaf, is_member, IsNode, IsLeaf, IsInner, IsConcentrator, Lawful}
use Rattle.pm_market.specs.State.{State, is_same_on, cut_at, newest_number_of, part, knowledge, number, last_index, clearings, cleared_cut}
use Rattle.pm_market.specs.Legality.{is_node}
use Rattle.pm_market.specs.Moves.{NodeLegal}
use Rattle.pm_market.specs.Sound.{Sound}
use Rattle.pm_market.specs.declared.moves.Move.TheVariants.{Publish, Clear, Pass}
use Rattle.pm_market.proofs.Tree.{leaf_node, leaf_zero}
use Rattle.pm_market.proofs.Cuts.{newest_leaf, newest_inner, part_inner}
use Rattle.pm_market.proofs.Legality.{is_node_at}
use Rattle.pm_laws.specs.Rest.{Rests}
use Rattle.pm_laws.proofs.Facts.{last_within, contains_within}
use Rattle.pm_laws.proofs.Numbers.{known_heads, number_leaf}
use Rattle.pm_laws.proofs.Quiet.{rest_counts, rest_passed}
use Rattle.pm_net.specs.Pricing.{Pricing, GoesByNodes}
use Rattle.pm_net.specs.Messages.{PriceMessage, price_message}
use Rattle.pm_net.specs.Network.{Network}
use Rattle.pm_net.specs.Running.{is_caught_up, has_news, can_send, can_clear}
use Rattle.pm_net.specs.Agrees.{price_of_clearing, NetworkAgrees}
use Rattle.pm_net.specs.Settled.{made_number}
use Rattle.pm_net.proofs.Learns.{all_learnt, learnt_sound, is_learnt}
use Rattle.pm_net.proofs.Adding.{knowing}
use Rattle.pm_net.proofs.News.{no_news, caught_at}

-- the number of a node's newest bid is its newest number
pub own_is : (lists : Lists) (p : Pricing) (net : Network) (s : State) → NetworkAgrees lists p net s → (x : ℕ) →
    made_number lists net x ≡ newest_number_of lists s x
own_is lists p net s agrees x = elim (cases_Bool (is_leaf lists x)) [
  | inl leaf ↦ cond-true (is_leaf lists x) (net.counts x) (net.last_number x) leaf ∙ agrees.counts x leaf
      ∙ sym (newest_leaf lists s.counts s.published x leaf)
  | inr inner ↦ cond-false (is_leaf lists x) (net.counts x) (net.last_number x) inner ∙ agrees.last_number x inner
      ∙ sym (newest_inner lists s.counts s.published x inner)
]

-- no price of the newest clearing can be passed, where all numbers of the relay above are answered
abbrev pub PassesNone : (lists : Lists) (p : Pricing) (net : Network) (s : State) → NetworkAgrees lists p net s → Type 0
PassesNone lists p net s agrees = (x : ℕ) → ((parent lists x ≡ 0 → ⊥) →
    newest_number_of lists s (parent lists x) - number lists s (parent lists x) (cleared_cut s (last_index s (parent lists x))) ≡ 0) →
    NodeLegal lists (knowing s (all_learnt lists p net s agrees (λ x. true))) (Pass x (clearings s)) → ⊥

-- a price of the newest clearing that may be passed below a relay has reached the relay
pub reached_above : (lists : Lists) (p : Pricing) (net : Network) (s : State) (agrees : NetworkAgrees lists p net s) (x : ℕ) →
    NodeLegal lists (knowing s (all_learnt lists p net s agrees (λ x. true))) (Pass x (clearings s)) → (parent lists x ≡ 0 → ⊥) →
    last_index s (parent lists x) ≡ clearings s
reached_above lists p net s agrees x legal ne =
    let came : clearings s ≤ last_index s (parent lists x) = elim legal.1 [
      | inl root ↦ absurd (ne root.0)
      | inr among ↦ contains_within lists s agrees.sound (parent lists x) (clearings s) among
    ] in
    omega (arith, came, last_within lists s agrees.sound (parent lists x))

module _ (lists : Lists) (law : Lawful lists) (p : Pricing) (net : Network) (s : State) (agrees : NetworkAgrees lists p net s)
    (bids : (x : ℕ) → IsNode lists x → made_number lists net x ≤ (net.heard x).number) where
  -- each parent of the market may learn the newest number of each child
  abbrev test : ℕ → Bool
  test x = true

  abbrev knows : State
  knows = knowing s (all_learnt lists p net s agrees test)

  sound : Sound lists knows
  sound = learnt_sound lists p net s agrees test law

  -- each newest number was heard
  pub newest_heard : (x : ℕ) → IsNode lists x → newest_number_of lists s x ≤ (net.heard x).number
  newest_heard x node = omega (arith, own_is lists p net s agrees x, bids x node)

  -- and so was each that is learnt
  pub learnt_heard : (x : ℕ) → IsNode lists x → s.learnt x ≤ (net.heard x).number
  learnt_heard x node = omega (arith, newest_heard x node, agrees.sound.learnt_within x node)

  heard_is : (x : ℕ) → IsNode lists x → knows.learnt x ≡ (net.heard x).number
  heard_is x node = is_learnt lists p net s agrees test x node refl (learnt_heard x node)

  -- so each node is caught up
  pub caught : (y : ℕ) → is_caught_up lists net y ≡ true
  caught y = caught_at lists law p net s agrees y (λ x node up. learnt_heard x node)

  -- a node without news knows what it published or cleared last
  same_top : (y : ℕ) → IsInner lists y → has_news lists net y ≡ false →
      is_same_on lists y (knowledge lists knows y) (cut_at (s.published y) (length (s.published y))) ≡ true
  same_top y inner none = (known_heads lists law knows sound y inner).1 (λ x node up.
      ap (λ (z : ℕ). number lists s x (cut_at (s.published z) (length (s.published z)))) (sym up) ∙ sym (agrees.learnt x node)
      ∙ sym (no_news lists law p net s agrees y none x node up) ∙ sym (heard_is x node))

  -- no node can send, and each relay has room
  module _ (relays : (c : ℕ) → IsConcentrator lists c → can_send lists net c ≡ false) (auctioneer : can_clear lists net ≡ false)
      (room : (c : ℕ) → IsConcentrator lists c → newest_number_of lists s c - number lists s c (cleared_cut s (last_index s c)) < window_size →
      net.last_number c - net.answered c < window_size) where
    cannot : (c : ℕ) → IsConcentrator lists c →
        newest_number_of lists s c - number lists s c (cleared_cut s (last_index s c)) < window_size → has_news lists net c ≡ true → ⊥
    unfolding can_send
    cannot c conc few e =
        both_ways (is_node lists c && not (is_leaf lists c) && is_caught_up lists net c && has_news lists net c && ltb
        (net.last_number c - net.answered c) window_size)
        (relays c conc)
        (and_from _ _ (and_from _ _ (and_from _ _ (and_from _ _ (is_node_at lists c (conc.0, conc.1)) (not_from_false (is_leaf lists c) conc.2))
        (caught c)) e)
        (lt-ltb (net.last_number c - net.answered c) window_size (room c conc few)))

    -- a relay all of whose numbers are answered has no news
    pub none_there : (c : ℕ) → IsConcentrator lists c → newest_number_of lists s c - number lists s c (cleared_cut s (last_index s c)) ≡ 0 →
        has_news lists net c ≡ false
    none_there c conc all =
        elim (cases_Bool (has_news lists net c)) [
          | inr e ↦ e
          | inl e ↦ absurd (cannot c conc (omega (arith, all)) e)
        ]

    publishes : (c n : ℕ) → NodeLegal lists knows (Publish c n) → ⊥
    publishes c n legal =
        let conc : IsConcentrator lists c = legal.0 in
        elim (cases_Bool (has_news lists net c)) [
          | inl e ↦ cannot c conc legal.2 e
          | inr e ↦
              let its_part : part lists s c (newest_number_of lists s c) ≡ cut_at (s.published c) (length (s.published c)) =
              ap (part lists s c) (newest_inner lists s.counts s.published c conc.2) ∙ part_inner lists s.published c (length (s.published c)) conc.2 in
              both_ways (is_same_on lists c (knowledge lists knows c) (part lists s c (newest_number_of lists s c))) legal.1
              (ap (λ (cut : Cut). is_same_on lists c (knowledge lists knows c) cut) its_part ∙ same_top c conc.2 e)
        ]

    clears : (j : ℕ) → NodeLegal lists knows (Clear j) → ⊥
    unfolding can_clear
    clears j legal =
        elim (cases_Bool (has_news lists net 0)) [
          | inl e ↦ both_ways (is_caught_up lists net 0 && has_news lists net 0) auctioneer (and_from _ _ (caught 0) e)
          | inr e ↦ both_ways (is_same_on lists 0 (knowledge lists knows 0) (cleared_cut s (clearings s))) legal.0 (same_top 0 (leaf_zero lists) e)
        ]

    module _ (passes : PassesNone lists p net s agrees) where
      idle : Rests lists knows
      idle = record {
        learn = λ x n legal. omega (arith, legal.1, legal.2, heard_is x legal.0, newest_heard x legal.0);
        publish = publishes;
        clear = clears;
        pass = passes;
      }

      -- the last clearing is over all bids ever sent
      pub rest_counted : (d : ℕ) → IsLeaf lists d → cleared_cut s (clearings s) d ≡ net.counts d
      rest_counted d leaf = rest_counts lists law knows sound idle d leaf ∙ sym (agrees.counts d leaf)

      -- and its price is the last one passed to each member
      pub rest_told : (d : ℕ) → IsLeaf lists d → is_member lists d (net.counts d) ≡ true → (1 ≤ clearings s) × (last_index s d ≡ clearings s)
      rest_told d leaf member = rest_passed lists law knows sound idle d leaf (ap (is_member lists d) (sym (agrees.counts d leaf)) ∙ member)

-- A device that holds the last price passed to it, of the newest clearing, and that is over all bids: it holds its local step over them.
pub held_step : (lists : Lists) → Lawful lists → (p : Pricing) → GoesByNodes lists p → (net : Network) (s : State) → NetworkAgrees lists p net s →
    ((d : ℕ) → IsLeaf lists d → cleared_cut s (clearings s) d ≡ net.counts d) → (d : ℕ) → IsLeaf lists d → 1 ≤ clearings s →
    (net.taken d).index ≡ last_index s d → last_index s d ≡ clearings s →
    net.taken d ≡ price_message (net.counts d) (clearings s) (p.local net.counts d)
held_step lists law p by net s agrees counted d leaf one holds newest =
    let node : IsNode lists d = leaf_node lists law d leaf in
    let held : net.taken d ≡ price_of_clearing lists p s d (last_index s d) = elim (agrees.taken d node) [
      | inl nothing ↦ absurd (omega (arith, one, newest, holds, ap (λ (q : PriceMessage). q.index) nothing))
      | inr its ↦ its.1 ∙ ap (price_of_clearing lists p s d) holds
    ] in
    held ∙ ap (price_of_clearing lists p s d) newest
    ∙ ap (λ (n : ℕ). price_message n (clearings s) (p.local (cleared_cut s (clearings s)) d))
    (number_leaf lists s.published d (cleared_cut s (clearings s)) leaf ∙ counted d leaf)
    ∙ ap (price_message (net.counts d) (clearings s)) (by.steps_alike d (cleared_cut s (clearings s)) net.counts node counted)
