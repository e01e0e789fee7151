-- The number that a cut has at a node, as the core keeps it: what children were learnt, and which are addressed.
use Rattle.std.proofs.Common.{◌≡◌, ℕ, ◌≤◌, true, inl, inr, ◌↔◌, List, length, sym, ◌∙◌, ap, subst, arith}
use Rattle.std.proofs.lemmas.Bool.{cases_eq, cases_lt, cases_Bool, cond-true, not_from_false}
use Rattle.pm_market.specs.Lists.{Lists, parent, is_leaf, IsNode, IsLeaf, IsInner, IsConcentrator, IsLeafOf, Lawful}
use Rattle.pm_market.specs.State.{State, is_same_on, SameOn, cut_at, greatest_number, number_of}
use Rattle.pm_market.specs.State.{newest_number_of, part, knowledge, number, clearings, cleared_cut, addresses}
use Rattle.pm_market.specs.State.{no_changes}
use Rattle.pm_base.specs.Cuts.{Cut}
use Rattle.pm_market.specs.Sound.{Sound}
use Rattle.pm_market.proofs.Tree.{leaf_of_itself, leaf_of_parent, child_of}
use Rattle.pm_market.proofs.Cuts.{not_same, not_same_from, same_from, is_same_from, entry_zero, part_leaf, part_inner, part_zero, newest_inner, known_at}
use Rattle.pm_market.proofs.Cuts.{greatest_le, greatest_from, greatest_same, number_inner}
use Rattle.pm_laws.proofs.Facts.{clearing_part, cleared_within, learnt_of_inner, number_rises}
use Rattle.pm_laws.proofs.Quiet.{zeros_address_none, addresses_inner}

-- the number that a cut contains of a device is the cut's number of it
pub number_leaf : (lists : Lists) (p : ℕ → List Cut) (x : ℕ) (cut : Cut) → IsLeaf lists x → number_of lists p x cut ≡ cut x
unfolding number_of
number_leaf lists p x cut leaf = cond-true (is_leaf lists x) (cut x) (greatest_number lists (p x) x cut (length (p x))) leaf

-- a cut that is the node's part n has number n there
pub number_of_part : (lists : Lists) → Lawful lists → (s : State) → Sound lists s → (x n : ℕ) (cut : Cut) → IsNode lists x →
    n ≤ newest_number_of lists s x → SameOn lists x cut (part lists s x n) → number lists s x cut ≡ n
number_of_part lists law s sound x n cut node le same =
    elim (cases_Bool (is_leaf lists x)) [
      | inl e ↦ number_leaf lists s.published x cut e ∙ same x (leaf_of_itself lists law x e) ∙ part_leaf lists s.published x n x e
      | inr e ↦
          let len : ℕ = length (s.published x) in
          let g : ℕ = greatest_number lists (s.published x) x cut len in
          let n_le : n ≤ len = omega (arith, newest_inner lists s.counts s.published x e) in
          let at : SameOn lists x (cut_at (s.published x) n) cut =
          λ d leaf. sym (same d leaf ∙ ap (λ (a : Cut). a d) (part_inner lists s.published x n e)) in
          let most : n ≤ g = greatest_from lists (s.published x) x cut len n n_le at in
          let g_is : g ≡ n = elim (cases_lt n g) [
            | inl lt ↦ elim (greatest_same lists law (s.published x) x cut len) [
              | inl none ↦ omega arith
              | inr top ↦
                  let rise = sound.published_rise x n g e lt (greatest_le lists (s.published x) x cut len) in
                  absurd (not_same lists x (cut_at (s.published x) n) (cut_at (s.published x) g) rise.not_same (λ d leaf. at d leaf ∙ sym (top d leaf)))
            ]
            | inr ge ↦ omega arith
          ] in
          number_inner lists s.published x cut e ∙ g_is
    ]

-- what a node knows has at each child the number that it learnt
pub number_of_known : (lists : Lists) → Lawful lists → (s : State) → Sound lists s → (x : ℕ) → IsNode lists x →
    number lists s x (knowledge lists s (parent lists x)) ≡ s.learnt x
number_of_known lists law s sound x node =
    number_of_part lists law s sound x (s.learnt x) (knowledge lists s (parent lists x)) node (sound.learnt_within x node)
    (λ d leaf. known_at lists law s.published s.learnt x d node.0 leaf)

-- each clearing is at each node the part of its number there
pub cleared_is_part : (lists : Lists) → Lawful lists → (s : State) → Sound lists s → (x j : ℕ) → IsNode lists x → j ≤ clearings s →
    SameOn lists x (cleared_cut s j) (part lists s x (number lists s x (cleared_cut s j))) × (number lists s x (cleared_cut s j) ≤ s.learnt x)
cleared_is_part lists law s sound x j node le =
    let r = clearing_part lists law s sound x j node le in
    let is : number lists s x (cleared_cut s j) ≡ r.0 =
    number_of_part lists law s sound x r.0 (cleared_cut s j) node (omega (arith, r.1, sound.learnt_within x node)) r.2 in
    (λ d leaf. r.2 d leaf ∙ ap (λ (k : ℕ). part lists s x k d) (sym is), omega (arith, is, r.1))

-- so is what a node published, at each child
pub published_is_part : (lists : Lists) → Lawful lists → (s : State) → Sound lists s → (x i : ℕ) → IsNode lists x →
    i ≤ length (s.published (parent lists x)) →
    SameOn lists x (cut_at (s.published (parent lists x)) i)
    (part lists s x (number lists s x (cut_at (s.published (parent lists x)) i))) × (number lists s x (cut_at (s.published (parent lists x)) i) ≤ s.learnt x)
published_is_part lists law s sound x i node le =
    let r = sound.published_parts x i node le in
    let is : number lists s x (cut_at (s.published (parent lists x)) i) ≡ r.0 =
    number_of_part lists law s sound x r.0 (cut_at (s.published (parent lists x)) i) node (omega (arith, r.1, sound.learnt_within x node)) r.2 in
    (λ d leaf. r.2 d leaf ∙ ap (λ (k : ℕ). part lists s x k d) (sym is), omega (arith, is, r.1))

-- the number of a clearing at a child of c is that of the record that c keeps under its own number
pub number_down : (lists : Lists) → Lawful lists → (s : State) → Sound lists s → (x j : ℕ) → IsNode lists x →
    IsNode lists (parent lists x) → j ≤ clearings s →
    number lists s x (cleared_cut s j) ≡ number lists s x (cut_at (s.published (parent lists x)) (number lists s (parent lists x) (cleared_cut s j)))
number_down lists law s sound x j node c_node le =
    let c : ℕ = parent lists x in
    let inner : IsInner lists c = law.inner x node in
    let i : ℕ = number lists s c (cleared_cut s j) in
    let at_c = cleared_is_part lists law s sound c j c_node le in
    let i_le : i ≤ length (s.published c) = omega (arith, at_c.1, learnt_of_inner lists s sound c c_node inner) in
    let at_x = published_is_part lists law s sound x i node i_le in
    let n : ℕ = number lists s x (cut_at (s.published c) i) in
    number_of_part lists law s sound x n (cleared_cut s j) node (omega (arith, at_x.1, sound.learnt_within x node)) (λ d leaf.
    at_c.0 d (leaf_of_parent lists law x d leaf) ∙ ap (λ (a : Cut). a d) (part_inner lists s.published c i inner) ∙ at_x.0 d leaf)

-- a clearing addresses a concentrator exactly where its number there is above 0
pub addressed_number : (lists : Lists) → Lawful lists → (s : State) → Sound lists s → (c j : ℕ) → IsConcentrator lists c →
    j ≤ clearings s → (addresses lists s j c ≡ true) ↔ (1 ≤ number lists s c (cleared_cut s j))
addressed_number lists law s sound c j conc le =
    let node : IsNode lists c = (conc.0, conc.1) in
    let at = cleared_is_part lists law s sound c j node le in
    let n : ℕ = number lists s c (cleared_cut s j) in
    let n_le : n ≤ length (s.published c) = omega (arith, at.1, learnt_of_inner lists s sound c node conc.2) in (
      λ h. elim (cases_eq n 0) [
        | inl e ↦ absurd (zeros_address_none lists law (cleared_cut s j) c (λ d leaf. at.0 d leaf ∙ ap (λ (k : ℕ). part lists s c k d) e
            ∙ part_zero lists s.published c d) h)
        | inr ne ↦ omega arith
      ],
      λ h. let rise = sound.published_rise c 0 n conc.2 h n_le in
          addresses_inner lists (cleared_cut s j) c conc.2
          ∙ not_from_false (is_same_on lists c (cleared_cut s j) no_changes) (not_same_from lists law c (cleared_cut s j) no_changes (λ none.
          not_same lists c (cut_at (s.published c) 0) (cut_at (s.published c) n) rise.not_same (λ d leaf.
          ap (λ (a : Cut). a d) (entry_zero (s.published c)) ∙ sym (none d leaf) ∙ at.0 d leaf
          ∙ ap (λ (a : Cut). a d) (part_inner lists s.published c n conc.2)))),
    )

-- a node knows what it published last exactly where that has at each child the number learnt
pub known_heads : (lists : Lists) → Lawful lists → (s : State) → Sound lists s → (c : ℕ) → IsInner lists c →
    (is_same_on lists c (knowledge lists s c) (cut_at (s.published c) (length (s.published c))) ≡ true)
    ↔ ((x : ℕ) → IsNode lists x → parent lists x ≡ c → number lists s x (cut_at (s.published c) (length (s.published c))) ≡ s.learnt x)
known_heads lists law s sound c inner =
    let top : Cut = cut_at (s.published c) (length (s.published c)) in (
      λ h x node up.
          let same = same_from lists law c (knowledge lists s c) top h in
          number_of_part lists law s sound x (s.learnt x) top node (sound.learnt_within x node) (λ d leaf.
          sym (same d (subst (λ (z : ℕ). IsLeafOf lists z d) up (leaf_of_parent lists law x d leaf)))
          ∙ ap (λ (z : ℕ). knowledge lists s z d) (sym up) ∙ known_at lists law s.published s.learnt x d node.0 leaf),
      λ h. is_same_from lists c (knowledge lists s c) top (λ d leaf.
          let x = child_of lists law c d inner leaf in
          let e : cut_at (s.published (parent lists x.0)) (length (s.published (parent lists x.0))) ≡ top =
          ap (λ (z : ℕ). cut_at (s.published z) (length (s.published z))) x.2 in
          let at = (published_is_part lists law s sound x.0 (length (s.published (parent lists x.0))) x.1 (omega arith)).0 d x.3 in
          let number_is : number lists s x.0 (cut_at (s.published (parent lists x.0)) (length (s.published (parent lists x.0))))
          ≡ s.learnt x.0 = ap (number lists s x.0) e ∙ h x.0 x.1 x.2 in
          ap (λ (z : ℕ). knowledge lists s z d) (sym x.2) ∙ known_at lists law s.published s.learnt x.0 d x.1.0 x.3
          ∙ sym (sym (ap (λ (a : Cut). a d) e) ∙ at ∙ ap (λ (k : ℕ). part lists s x.0 k d) number_is)),
    )

-- a later clearing contains no smaller number of a node
pub cleared_number_rises : (lists : Lists) (s : State) → Lawful lists → Sound lists s → (x i j : ℕ) → IsNode lists x → i ≤ j →
    j ≤ clearings s →
    number lists s x (cleared_cut s i) ≤ number lists s x (cleared_cut s j)
cleared_number_rises lists s law sound x i j node later within =
    elim (cases_Bool (is_leaf lists x)) [
      | inl leaf ↦ omega (
        arith,
        number_leaf lists s.published x (cleared_cut s i) leaf,
        number_leaf lists s.published x (cleared_cut s j) leaf,
        cleared_within lists law s sound i j later within x leaf,
      )
      | inr inner ↦ omega (
        arith,
        number_inner lists s.published x (cleared_cut s i) inner,
        number_inner lists s.published x (cleared_cut s j) inner,
        number_rises lists law s sound x i j node inner later within,
      )
    ]

-- what numbers say of cuts
pub ruleset number_laws = (number_of_known, number_down, addressed_number, known_heads, cleared_number_rises)
