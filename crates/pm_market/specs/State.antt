-- Cuts, and the states of the market.
use Rattle.std.specs.Prelude.{◌≡◌, ℕ, zero, suc, ◌+◌, ◌≤◌, Bool, true}
use Rattle.std.specs.Prelude.{false, if◌then◌else◌, ◌==◌, ◌&&◌, not, List, [], ◌∷◌, length}
use Rattle.std.specs.Prelude.{slice_index_or}
use Rattle.pm_base.specs.Cuts.{Cut}
use Rattle.pm_market.specs.Lists.{Lists, nodes, is_leaf, is_member, is_leaf_of, IsLeafOf, child_at_or_above}

-- the cut that contains no change
abbrev pub no_changes : Cut
no_changes d = 0

-- f, with the value at x replaced by v
unfoldable pub update : {A : Type 0} → (ℕ → A) → ℕ → A → ℕ → A
update f x v y = if y == x then v else f y

-- whether each number from 1 to n passes the test
unfoldable pub all_to : ℕ → (ℕ → Bool) → Bool
all_to zero p = true
all_to (suc n) p = p (suc n) && all_to n p

-- the sum of the values at the numbers from 1 to n
unfoldable pub sum_to : ℕ → (ℕ → ℕ) → ℕ
sum_to zero f = 0
sum_to (suc n) f = f (suc n) + sum_to n f

-- whether two cuts are the same on the leaves of x
unfoldable pub is_same_on : Lists → ℕ → Cut → Cut → Bool
is_same_on lists x a b = all_to (nodes lists) (λ d. if is_leaf_of lists x d then (a d == b d) else true)

-- two cuts are the same on the leaves of x
abbrev pub SameOn : Lists → ℕ → Cut → Cut → Type 0
SameOn lists x a b = (d : ℕ) → IsLeafOf lists x d → a d ≡ b d

-- two cuts are not the same on the leaves of x
abbrev pub DifferOn : Lists → ℕ → Cut → Cut → Type 0
DifferOn lists x a b = is_same_on lists x a b ≡ false

-- on the leaves of x no number of a is above that of b
abbrev pub AtMostOn : Lists → ℕ → Cut → Cut → Type 0
AtMostOn lists x a b = (d : ℕ) → IsLeafOf lists x d → a d ≤ b d

-- b is strictly later than a on the leaves of x: no number of a is above that of b, and they are not the same
pub record RisesOn (lists : Lists) (x : ℕ) (a b : Cut) : Type 0 where
  pub within : AtMostOn lists x a b
  pub not_same : DifferOn lists x a b

-- A state of the market:
-- the number of changes that each device made, and of phases closed;
-- of each concentrator the cuts on its leaves that it published, from number 1, and of the auctioneer, node 0,
-- the cuts that it cleared, from index 1;
-- of each other node the number that its parent learnt from it last, and the indices of the clearings passed to it.
pub record State : Type 0 where
  pub counts : Cut
  pub closed : ℕ
  pub published : ℕ → List Cut
  pub learnt : ℕ → ℕ
  pub passed : ℕ → List ℕ

-- at the start all numbers are 0 and all lists are empty
abbrev pub start : State
start = record {
  counts = no_changes;
  closed = 0;
  published = λ c. [];
  learnt = λ x. 0;
  passed = λ x. [];
}

-- the cut of number i in a list of cuts that begins with number 1; all zeros for number 0
unfoldable pub cut_at : List Cut → ℕ → Cut
cut_at cuts i = slice_index_or (no_changes ∷ cuts) i no_changes

-- the newest number of a node: of a device its count, of a concentrator how many cuts it published
unfoldable pub newest_of : Lists → Cut → (ℕ → List Cut) → ℕ → ℕ
newest_of lists counts published x = if is_leaf lists x then counts x else length (published x)

-- what number i of a node stands for on its leaves: of a device the number itself, of a concentrator the cut
-- that it published under that number
unfoldable pub part_of : Lists → (ℕ → List Cut) → ℕ → ℕ → Cut
part_of lists published x i = if is_leaf lists x then (λ d. i) else cut_at (published x) i

-- what y knows of a device below it: the part of the number that y learnt from its child at or above the device
unfoldable pub knowledge_of : Lists → (ℕ → List Cut) → (ℕ → ℕ) → ℕ → Cut
knowledge_of lists published learnt y d = let x = child_at_or_above lists y d in part_of lists published x (learnt x) d

-- the greatest number up to n under which this cut stands in the list, on the leaves of x; 0 if there is none
unfoldable pub greatest_number : Lists → List Cut → ℕ → Cut → ℕ → ℕ
greatest_number lists cuts x cut zero = 0
greatest_number lists cuts x cut (suc n) =
    if is_same_on lists x (cut_at cuts (suc n)) cut then suc n
    else greatest_number lists cuts x cut n

-- the number that a cut contains of a node: of a device the cut's number, of a concentrator the greatest number
-- under which it published this cut, and 0 if there is none
unfoldable pub number_of : Lists → (ℕ → List Cut) → ℕ → Cut → ℕ
number_of lists published x cut =
    if is_leaf lists x then cut x
    else greatest_number lists (published x) x cut (length (published x))

-- the last index of a list of indices, 0 if it is empty
unfoldable pub last_of : List ℕ → ℕ
last_of indices = slice_index_or (0 ∷ indices) (length indices) 0

-- whether a clearing of this cut addresses x: a device if it is a member at the cut's number, a concentrator
-- if the cut is not all zeros on its leaves
unfoldable pub addresses_of : Lists → Cut → ℕ → Bool
addresses_of lists cut x =
    if is_leaf lists x then is_member lists x (cut x)
    else not (is_same_on lists x cut no_changes)

-- the newest number of a node
abbrev pub newest_number_of : Lists → State → ℕ → ℕ
newest_number_of lists s x = newest_of lists s.counts s.published x

-- what number i of a node stands for on its leaves
abbrev pub part : Lists → State → ℕ → ℕ → Cut
part lists s x i = part_of lists s.published x i

-- what a concentrator or the auctioneer knows of the leaves below it
abbrev pub knowledge : Lists → State → ℕ → Cut
knowledge lists s y = knowledge_of lists s.published s.learnt y

-- the number that a cut contains of a node
abbrev pub number : Lists → State → ℕ → Cut → ℕ
number lists s x cut = number_of lists s.published x cut

-- the index of the clearing passed to x last, 0 if there was none
abbrev pub last_index : State → ℕ → ℕ
last_index s x = last_of (s.passed x)

-- how many clearings there were
abbrev pub clearings : State → ℕ
clearings s = length (s.published 0)

-- the cut of a clearing, all zeros for index 0
abbrev pub cleared_cut : State → ℕ → Cut
cleared_cut s j = cut_at (s.published 0) j

-- whether clearing j addresses x
abbrev pub addresses : Lists → State → ℕ → ℕ → Bool
addresses lists s j x = addresses_of lists (cleared_cut s j) x
