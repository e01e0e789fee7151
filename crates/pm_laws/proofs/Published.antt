-- What stays and what changes where a concentrator publishes, or the auctioneer clears, what it knows.
use Rattle.std.proofs.Common.{◌≡◌, ◌∙◌, sym, ap, ℕ, ◌+◌, ◌≤◌, true, ◌&&◌, ◌||◌, eqb, leb, List, length, arith, inl, inr}
use Rattle.std.proofs.lemmas.Bool.{cases_eq, cases_Bool, and_parts}
use Rattle.pm_market.specs.Lists.{Lists, parent, is_leaf, IsNode, IsInner, Lawful}
use Rattle.pm_market.specs.State.{State, SameOn, cut_at, newest_number_of, part, knowledge, number, clearings, cleared_cut, addresses, addresses_of}
use Rattle.pm_base.specs.Cuts.{Cut}
use Rattle.pm_market.specs.Legality.{has_reached, is_one_of}
use Rattle.pm_market.specs.Sound.{Sound}
use Rattle.pm_market.proofs.Tree.{child_of}
use Rattle.pm_market.proofs.Cuts.{pushed, pushed_same, pushed_other, pushed_cut_at_kept, pushed_length_same, cut_at_new, newest_leaf, newest_inner, part_inner}
use Rattle.pm_market.proofs.Cuts.{part_kept, known_at}
use Rattle.pm_laws.proofs.Facts.{reached_within}
use Rattle.pm_market.proofs.Legality.{reached_from}
use Rattle.pm_laws.proofs.Numbers.{number_of_part, cleared_is_part, published_is_part}
use Rattle.pm_laws.specs.Due.{is_due}

-- a due index is one of the clearings
pub due_within : (lists : Lists) (s : State) → Sound lists s → (x j : ℕ) → is_due lists s x j ≡ true → (1 ≤ j) × (j ≤ clearings s)
due_within lists s sound x j h = reached_within lists s sound (parent lists x) j
    (reached_from s (parent lists x) j (and_parts (has_reached s (parent lists x) j) (addresses lists s j x) h).0)

-- the state in which what a node knows has joined the cuts that it published or cleared
abbrev pub more : Lists → State → ℕ → State
more lists s y = record s { published = pushed s.published y (knowledge lists s y) }

module _ (lists : Lists) (law : Lawful lists) (s : State) (sound : Sound lists s) (y : ℕ) (inner : IsInner lists y)
    (sound' : Sound lists (more lists s y)) where
  abbrev s' : State
  s' = more lists s y

  -- after y published, the cuts of every other node are those that were there
  pub list_kept : (z : ℕ) → (z ≡ y → ⊥) → s'.published z ≡ s.published z
  list_kept z ne = pushed_other s.published y (knowledge lists s y) z ne

  -- after y published, its list has one cut more
  pub list_longer : length (s'.published y) ≡ length (s.published y) + 1
  list_longer = pushed_length_same s.published y (knowledge lists s y)

  -- after y published, each number that a list had stands for the same cut
  pub cut_at_old : (z i : ℕ) → i ≤ length (s.published z) → cut_at (s'.published z) i ≡ cut_at (s.published z) i
  cut_at_old z i le = pushed_cut_at_kept s.published y (knowledge lists s y) z i (λ e. omega (arith, ap (λ (k : ℕ). length (s.published k)) e))

  -- after y published, its new number stands for the cut that it knew
  pub cut_at_last : (i : ℕ) → i ≡ length (s.published y) + 1 → cut_at (s'.published y) i ≡ knowledge lists s y
  cut_at_last i e = ap (λ (l : List Cut). cut_at l i) (pushed_same s.published y (knowledge lists s y))
      ∙ cut_at_new (s.published y) (knowledge lists s y) i e

  -- after y published, the newest number of any other node is the same
  pub newest_other : (z : ℕ) → (z ≡ y → ⊥) → newest_number_of lists s' z ≡ newest_number_of lists s z
  newest_other z ne = elim (cases_Bool (is_leaf lists z)) [
    | inl e ↦ newest_leaf lists s.counts s'.published z e ∙ sym (newest_leaf lists s.counts s.published z e)
    | inr e ↦ newest_inner lists s.counts s'.published z e ∙ ap length (list_kept z ne) ∙ sym (newest_inner lists s.counts s.published z e)
  ]

  -- after y published, its newest number is one more
  pub newest_more : newest_number_of lists s' y ≡ newest_number_of lists s y + 1
  newest_more = omega (arith, newest_inner lists s.counts s'.published y inner, newest_inner lists s.counts s.published y inner, list_longer)

  -- after y published, no node's newest number is smaller
  pub newest_le : (z : ℕ) → newest_number_of lists s z ≤ newest_number_of lists s' z
  newest_le z = elim (cases_eq z y) [
    | inl e ↦ omega (arith, ap (newest_number_of lists s) e, ap (newest_number_of lists s') e, newest_more)
    | inr ne ↦ omega (arith, newest_other z ne)
  ]

  -- after y published, each node's part of a number that it had is the same
  pub part_old : (z i : ℕ) → i ≤ newest_number_of lists s z → part lists s' z i ≡ part lists s z i
  part_old z i le = part_kept lists s.published y (knowledge lists s y) z i (λ e.
      let inner_z : IsInner lists z = ap (is_leaf lists) e
      ∙ inner in omega (arith, newest_inner lists s.counts s.published z inner_z, ap (λ (k : ℕ). length (s.published k)) e))

  -- after y published, its part of the new number is what it knew
  pub part_last : (i : ℕ) → i ≡ newest_number_of lists s y + 1 → part lists s' y i ≡ knowledge lists s y
  part_last i e = part_inner lists s'.published y i inner ∙ cut_at_last i (omega (arith, newest_inner lists s.counts s.published y inner))

  -- after y published, each inner node knows the same of its leaves
  pub known_same : (z : ℕ) → IsInner lists z → SameOn lists z (knowledge lists s z) (knowledge lists s' z)
  known_same z inner_z d leaf =
      let w = child_of lists law z d inner_z leaf in
      ap (λ (i : ℕ). knowledge lists s i d) (sym w.2) ∙ known_at lists law s.published s.learnt w.0 d w.1.0 w.3
      ∙ ap (λ (a : Cut). a d) (sym (part_old w.0 (s.learnt w.0) (sound.learnt_within w.0 w.1)))
      ∙ sym (ap (λ (i : ℕ). knowledge lists s' i d) (sym w.2) ∙ known_at lists law s'.published s.learnt w.0 d w.1.0 w.3)

  -- a cut that is a part keeps its number
  pub number_kept : (z i : ℕ) (cut : Cut) → IsNode lists z → i ≤ newest_number_of lists s z → SameOn lists z cut (part lists s z i) →
      number lists s' z cut ≡ number lists s z cut
  number_kept z i cut node le same =
      number_of_part lists law s' sound' z i cut node (omega (arith, newest_le z)) (λ d leaf. same d leaf ∙ ap (λ (a : Cut). a d) (sym (part_old z i le)))
      ∙ sym (number_of_part lists law s sound z i cut node le same)

  -- after y published, each cut from before of a node's parent contains the same number of the node
  pub number_published : (z i : ℕ) → IsNode lists z → i ≤ length (s.published (parent lists z)) →
      number lists s' z (cut_at (s'.published (parent lists z)) i) ≡ number lists s z (cut_at (s.published (parent lists z)) i)
  number_published z i node le =
      let at = published_is_part lists law s sound z i node le in
      ap (number lists s' z) (cut_at_old (parent lists z) i le)
      ∙ number_kept z (number lists s z (cut_at (s.published (parent lists z)) i)) (cut_at (s.published (parent lists z)) i) node
      (omega (arith, at.1, sound.learnt_within z node)) at.0

  -- what was published now has at each child the number learnt
  pub number_last : (z i : ℕ) → IsNode lists z → parent lists z ≡ y → i ≡ length (s.published y) + 1 →
      number lists s' z (cut_at (s'.published y) i) ≡ s.learnt z
  number_last z i node e is =
      ap (number lists s' z) (cut_at_last i is)
      ∙ number_of_part lists law s' sound' z (s.learnt z) (knowledge lists s y) node (omega (arith, sound.learnt_within z node, newest_le z)) (λ d leaf.
      ap (λ (k : ℕ). knowledge lists s k d) (sym e) ∙ known_at lists law s.published s.learnt z d node.0 leaf
      ∙ ap (λ (a : Cut). a d) (sym (part_old z (s.learnt z) (sound.learnt_within z node))))

  -- after y published, the cut of a clearing as it was before contains the same number of each node
  pub number_cleared_old : (z j : ℕ) → IsNode lists z → j ≤ clearings s → number lists s' z (cleared_cut s j) ≡ number lists s z (cleared_cut s j)
  number_cleared_old z j node le =
      let at = cleared_is_part lists law s sound z j node le in
      number_kept z (number lists s z (cleared_cut s j)) (cleared_cut s j) node (omega (arith, at.1, sound.learnt_within z node)) at.0

  -- after y published, a clearing from before has the same cut
  pub cleared_old : (j : ℕ) → j ≤ clearings s → cleared_cut s' j ≡ cleared_cut s j
  cleared_old j le = cut_at_old 0 j le

  -- after y published, a clearing from before, as it is now, contains the same number of each node
  pub number_cleared : (z j : ℕ) → IsNode lists z → j ≤ clearings s → number lists s' z (cleared_cut s' j) ≡ number lists s z (cleared_cut s j)
  number_cleared z j node le = ap (number lists s' z) (cleared_old j le) ∙ number_cleared_old z j node le

-- a concentrator's publishing leaves the clearings
module _ (lists : Lists) (s : State) (y : ℕ) (some_node : 1 ≤ y) where
  -- what a node other than the auctioneer publishes leaves the cleared cuts as they are
  pub clearings_kept : s.published 0 ≡ (more lists s y).published 0
  clearings_kept = sym (pushed_other s.published y (knowledge lists s y) 0 (λ e. omega arith))

  -- what a node other than the auctioneer publishes leaves which clearings are due to each node
  pub due_kept : (x j : ℕ) → is_due lists (more lists s y) x j ≡ is_due lists s x j
  due_kept x j = ap (λ (l : List Cut). ((eqb (parent lists x) 0 && leb 1 j && leb j (length l))
      || is_one_of (s.passed (parent lists x)) j) && addresses_of lists (cut_at l j) x) (sym clearings_kept)
