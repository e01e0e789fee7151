-- Lists by places: the heads and the demands of the children of a node.
use Rattle.std.proofs.Common.{◌≡◌, ◌∙◌, sym, ap, ℕ, ◌<◌, ℤ, pos, cond, eqb, List, [], length, get_or, map, replicate}
use Rattle.std.proofs.Common.{arith, inl, inr, true}
use Rattle.std.proofs.Common.{get_or-set_same, get_or-set_other, refl}
use Rattle.std.proofs.Math.ListN.{set, length-set}
use Rattle.std.specs.List.{range_with_len}
use Rattle.std.proofs.lemmas.Bool.{cases_eq, cond-true, cond-false, eq-eqb, ne_eqb}
use Rattle.std.proofs.lemmas.List.{ext_get_or, get_or-replicate, length-replicate}
use Rattle.std.proofs.lemmas.List.FromFn.{get_or-map-range_with_len, length-map-range_with_len}
use Rattle.pm_base.specs.Limits.{most_nodes}
use Rattle.pm_bid.specs.Bids.{zeros}
use Rattle.pm_bid.specs.Heads.{nothing_sent}
use Rattle.pm_market.specs.Lists.{Lists, parent, IsNode}
use Rattle.pm_market.specs.State.{update}
use Rattle.pm_market.proofs.Cuts.{updated_same, updated_other}
use Rattle.pm_net.specs.Messages.{BidMessage}
use Rattle.pm_net_plan.specs.Places.{Numbering, IsNumbering, demand_in, demands_of}
use Rattle.pm_relay_net.specs.Heads.{bid_head, head_in, heads_of}

-- a list by places with one place set is that of another function
set_by : {A : Type 0} → (g h : ℕ → A) (n k : ℕ) (v d : A) → k < n → h k ≡ v → ((i : ℕ) → i < n → (i ≡ k → ⊥) → g i ≡ h i) →
    set (map g (range_with_len 0 n)) k v ≡ map h (range_with_len 0 n)
set_by g h n k v d inside here there =
    let len = length-map-range_with_len g 0 n in
    let len_set = length-set (map g (range_with_len 0 n)) k v in
    ext_get_or d (set (map g (range_with_len 0 n)) k v) (map h (range_with_len 0 n)) (len_set ∙ len ∙ sym (length-map-range_with_len h 0 n)) (λ i lt.
    let i_in : i < n = omega (arith, lt, len, len_set) in
    elim (cases_eq i k) [
      | inl e ↦ ap (λ j. get_or (set (map g (range_with_len 0 n)) k v) j d) e
          ∙ get_or-set_same (map g (range_with_len 0 n)) k v d (omega (arith, inside, len)) ∙ sym here ∙ ap h (sym e)
          ∙ sym (get_or-map-range_with_len h 0 n i i d i_in (omega arith))
      | inr ne ↦ get_or-set_other (map g (range_with_len 0 n)) k i v d ne ∙ get_or-map-range_with_len g 0 n i i d i_in (omega arith)
          ∙ there i i_in ne ∙ sym (get_or-map-range_with_len h 0 n i i d i_in (omega arith))
    ])

-- lists by places of functions that are the same at each place
same_by : {A : Type 0} → (g h : ℕ → A) (n : ℕ) (d : A) → ((i : ℕ) → i < n → g i ≡ h i) →
    map g (range_with_len 0 n) ≡ map h (range_with_len 0 n)
same_by g h n d each =
    let len = length-map-range_with_len g 0 n in
    ext_get_or d (map g (range_with_len 0 n)) (map h (range_with_len 0 n)) (len ∙ sym (length-map-range_with_len h 0 n)) (λ i lt.
    let i_in : i < n = omega (arith, lt, len) in
    get_or-map-range_with_len g 0 n i i d i_in (omega arith) ∙ each i i_in ∙ sym (get_or-map-range_with_len h 0 n i i d i_in (omega arith)))

-- a list by places of a function that is one value everywhere
one_by : {A : Type 0} → (g : ℕ → A) (n : ℕ) (v : A) → ((i : ℕ) → i < n → g i ≡ v) → map g (range_with_len 0 n) ≡ replicate n v
one_by g n v each =
    let len = length-map-range_with_len g 0 n in
    ext_get_or v (map g (range_with_len 0 n)) (replicate n v) (len ∙ sym (length-replicate n v)) (λ i lt.
    let i_in : i < n = omega (arith, lt, len) in
    get_or-map-range_with_len g 0 n i i v i_in (omega arith) ∙ each i i_in ∙ sym (get_or-replicate n i v v i_in))

module _ (numbering : Numbering) (y : ℕ) where
  -- there is a head in each place
  pub length-heads_of : (bids : ℕ → BidMessage) → length (heads_of numbering y bids) ≡ most_nodes
  unfolding heads_of
  length-heads_of bids = length-map-range_with_len (head_in numbering y bids) 0 most_nodes

  -- the head in a place
  pub heads_of-at : (bids : ℕ → BidMessage) (k : ℕ) → k < most_nodes →
      get_or (heads_of numbering y bids) k nothing_sent ≡ head_in numbering y bids k
  unfolding heads_of
  heads_of-at bids k inside = get_or-map-range_with_len (head_in numbering y bids) 0 most_nodes k k nothing_sent inside (omega arith)

  -- heads and demands of bids that are alike in each place
  pub heads_of-alike : (a b : ℕ → BidMessage) → ((k : ℕ) → k < most_nodes → head_in numbering y a k ≡ head_in numbering y b k) →
      heads_of numbering y a ≡ heads_of numbering y b
  unfolding heads_of
  heads_of-alike a b each = same_by (head_in numbering y a) (head_in numbering y b) most_nodes nothing_sent each

  -- the heads where nothing was heard of anyone
  pub heads_of-none : (bids : ℕ → BidMessage) → ((k : ℕ) → k < most_nodes → head_in numbering y bids k ≡ nothing_sent) →
      heads_of numbering y bids ≡ replicate most_nodes nothing_sent
  unfolding heads_of
  heads_of-none bids each = one_by (head_in numbering y bids) most_nodes nothing_sent each

  -- the demands where nobody asks for anything
  pub demands_of-none : (steps : ℕ) (f : ℕ → List ℤ) → ((k : ℕ) → k < most_nodes → demand_in steps numbering y f k ≡ zeros steps) →
      demands_of steps numbering y f ≡ replicate most_nodes (zeros steps)
  unfolding demands_of
  demands_of-none steps f each = one_by (demand_in steps numbering y f) most_nodes (zeros steps) each

module _ (lists : Lists) (numbering : Numbering) (is : IsNumbering lists numbering) where
  -- in a node's place stands the node
  pub head_there : (bids : ℕ → BidMessage) (x : ℕ) → IsNode lists x →
      get_or (heads_of numbering (parent lists x) bids) (numbering.place x) nothing_sent ≡ bid_head (bids x)
  head_there bids x node =
      let y : ℕ = parent lists x in
      let some : numbering.child y (numbering.place x) ≡ x = is.there x node in
      heads_of-at numbering y bids (numbering.place x) (is.inside x node)
      ∙ cond-false (eqb (numbering.child y (numbering.place x)) 0) nothing_sent (bid_head (bids (numbering.child y (numbering.place x))))
      (ne_eqb (numbering.child y (numbering.place x)) 0 (λ e. omega (arith, e, some, node.0)))
      ∙ ap (λ z. bid_head (bids z)) some

  other_child : (x y k : ℕ) → IsNode lists x → k < most_nodes → (k ≡ numbering.place x → ⊥) → numbering.child y k ≡ x → ⊥
  other_child x y k node inside ne e =
      let at = is.child_is y k inside (λ zero. omega (arith, e, zero, node.0)) in
      ne (sym (at.2) ∙ ap numbering.place e)

  -- a bid of x in its place
  pub heads_set : (bids : ℕ → BidMessage) (x : ℕ) (bid : BidMessage) → IsNode lists x →
      set (heads_of numbering (parent lists x) bids) (numbering.place x) (bid_head bid) ≡ heads_of numbering (parent lists x) (update bids x bid)
  unfolding heads_of
  heads_set bids x bid node =
      let y : ℕ = parent lists x in
      let at : numbering.child y (numbering.place x) ≡ x = is.there x node in
      set_by (head_in numbering y bids) (head_in numbering y (update bids x bid)) most_nodes (numbering.place x) (bid_head bid) nothing_sent (is.inside x node)
      (cond-false (eqb (numbering.child y (numbering.place x)) 0) nothing_sent (bid_head (update bids x bid (numbering.child y (numbering.place x))))
      (ne_eqb (numbering.child y (numbering.place x)) 0 (λ e. omega (arith, e, at, node.0)))
      ∙ ap (λ z. bid_head (update bids x bid z)) at ∙ ap bid_head (updated_same bids x bid))
      (λ k inside ne. ap (λ (b : BidMessage). cond (eqb (numbering.child y k) 0) nothing_sent (bid_head b))
      (sym (updated_other bids x bid (numbering.child y k) (other_child x y k node inside ne))))

  -- its demand in its place
  pub demands_set : (steps : ℕ) (bids : ℕ → BidMessage) (x : ℕ) (bid : BidMessage) → IsNode lists x →
      set (demands_of steps numbering (parent lists x) (λ z. (bids z).demand)) (numbering.place x) bid.demand
      ≡ demands_of steps numbering (parent lists x) (λ z. (update bids x bid z).demand)
  unfolding demands_of
  demands_set steps bids x bid node =
      let y : ℕ = parent lists x in
      let at : numbering.child y (numbering.place x) ≡ x = is.there x node in
      set_by (demand_in steps numbering y (λ z. (bids z).demand)) (demand_in steps numbering y (λ z. (update bids x bid z).demand)) most_nodes
      (numbering.place x) bid.demand []
      (is.inside x node)
      (cond-false (eqb (numbering.child y (numbering.place x)) 0) (zeros steps) (update bids x bid (numbering.child y (numbering.place x))).demand
      (ne_eqb (numbering.child y (numbering.place x)) 0 (λ e. omega (arith, e, at, node.0)))
      ∙ ap (λ z. (update bids x bid z).demand) at ∙ ap (λ (b : BidMessage). b.demand) (updated_same bids x bid))
      (λ k inside ne. ap (λ (b : BidMessage). cond (eqb (numbering.child y k) 0) (zeros steps) b.demand)
      (sym (updated_other bids x bid (numbering.child y k) (other_child x y k node inside ne))))

  -- what holds in each place of y where it holds of each child of y, and where there is none
  pub in_each_place : (y : ℕ) (P : ℕ → Type 0) → ((k : ℕ) → k < most_nodes → numbering.child y k ≡ 0 → P k) →
      ((x : ℕ) → IsNode lists x → parent lists x ≡ y → P (numbering.place x)) → (k : ℕ) → k < most_nodes → P k
  in_each_place y P none child k inside =
      elim (cases_eq (numbering.child y k) 0) [
        | inl e ↦ none k inside e
        | inr ne ↦
            let at = is.child_is y k inside ne in
            Rattle.std.proofs.Common.subst P at.2 (child (numbering.child y k) at.0 at.1)
      ]

  -- the heads of y in two lists of bids that are alike for each child
  pub heads_of-same : (y : ℕ) (a b : ℕ → BidMessage) → ((x : ℕ) → IsNode lists x → parent lists x ≡ y → a x ≡ b x) →
      heads_of numbering y a ≡ heads_of numbering y b
  heads_of-same y a b each = heads_of-alike numbering y a b (λ k inside.
      elim (cases_eq (numbering.child y k) 0) [
        | inl e ↦ cond-true (eqb (numbering.child y k) 0) nothing_sent (bid_head (a (numbering.child y k))) (eq-eqb (numbering.child y k) 0 e)
            ∙ sym (cond-true (eqb (numbering.child y k) 0) nothing_sent (bid_head (b (numbering.child y k))) (eq-eqb (numbering.child y k) 0 e))
        | inr ne ↦ let at = is.child_is y k inside ne in
            ap (λ (m : BidMessage). cond (eqb (numbering.child y k) 0) nothing_sent (bid_head m)) (each (numbering.child y k) at.0 at.1)
      ])

  -- the demands of y in them
  pub demands_of-same : (steps y : ℕ) (a b : ℕ → BidMessage) → ((x : ℕ) → IsNode lists x → parent lists x ≡ y → a x ≡ b x) →
      demands_of steps numbering y (λ z. (a z).demand) ≡ demands_of steps numbering y (λ z. (b z).demand)
  unfolding demands_of
  demands_of-same steps y a b each =
      same_by (demand_in steps numbering y (λ z. (a z).demand)) (demand_in steps numbering y (λ z. (b z).demand)) most_nodes [] (λ k inside.
      elim (cases_eq (numbering.child y k) 0) [
        | inl e ↦ cond-true (eqb (numbering.child y k) 0) (zeros steps) (a (numbering.child y k)).demand (eq-eqb (numbering.child y k) 0 e)
            ∙ sym (cond-true (eqb (numbering.child y k) 0) (zeros steps) (b (numbering.child y k)).demand (eq-eqb (numbering.child y k) 0 e))
        | inr ne ↦ let at = is.child_is y k inside ne in
            ap (λ (m : BidMessage). cond (eqb (numbering.child y k) 0) (zeros steps) m.demand) (each (numbering.child y k) at.0 at.1)
      ])
