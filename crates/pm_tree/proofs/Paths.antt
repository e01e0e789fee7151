-- Paths to the auctioneer.
use Rattle.std.proofs.Common.{◌≡◌, ℕ, ◌+◌, ◌<◌, ◌≤◌, zero, suc, Bool, true, false, cond, ◌&&◌, ◌||◌, not, if◌then◌else◌}
use Rattle.std.proofs.Common.{List, [], ◌∷◌, ◌++◌, length, count_by, refl, sym, ap, ◌∙◌, arith, nat_lt, ◌==◌}
use Rattle.std.specs.List.{list_any}
use Rattle.std.proofs.lemmas.Bool.Decides.{nat_tests}
use Rattle.std.proofs.lemmas.List.{get_or_past, get_or_append_left}
use Rattle.std.proofs.lemmas.List.Sums.{sum_by-cons}
use Rattle.pm_base.proofs.Numbers.{suc_is_not_zero}
use Rattle.pm_tree.specs.Shape.{parent_at, leaf_at, concentrator_at, path_within, path_at, is_on_path, depth_at, IsTree}
use Rattle.pm_tree.specs.Tables.{added_on_path}

-- each node but the auctioneer has an earlier parent
abbrev pub Falls : List ℕ → Type 0
Falls parents = (node : ℕ) → 0 < node → parent_at parents node < node

-- the parent at a number past the last node is the auctioneer
pub parent_at-past : (parents : List ℕ) (node : ℕ) → length parents < node → parent_at parents node ≡ 0
parent_at-past parents node past = get_or_past (0 ∷ parents) node 0 (omega arith)

falls_by : (parents : List ℕ) (leaves : List Bool) (node : ℕ) → IsTree parents leaves → 0 < node →
    (node ≤ length parents → parent_at parents node < node) → (length parents < node → parent_at parents node ≡ 0) → parent_at parents node < node
falls_by parents leaves node tree positive inside past = grind arith

-- in a lawful tree each number above 0, also one past the last node, has a smaller parent
pub falls : (parents : List ℕ) (leaves : List Bool) → IsTree parents leaves → Falls parents
falls parents leaves tree node positive =
    falls_by parents leaves node tree positive (λ inside. tree.earlier node (omega arith) inside) (parent_at-past parents node)

zero_is_zero : (node : ℕ) → node ≤ 0 → (node == 0) ≡ true
zero_is_zero node low = grind (arith, nat_tests)

path_within-suc : (levels : ℕ) (parents : List ℕ) (node : ℕ) → path_within (suc levels) parents (suc node)
    ≡ suc node ∷ path_within levels parents (parent_at parents (suc node))
path_within-suc levels parents node =
    ap (λ b. if b then 0 ∷ [] else suc node ∷ path_within levels parents (parent_at parents (suc node))) (suc_is_not_zero node)

path_within-zero : (levels : ℕ) (parents : List ℕ) (node : ℕ) → node ≤ 0 → path_within levels parents node ≡ 0 ∷ []
path_within-zero zero parents node low = refl
path_within-zero (suc levels) parents node low =
    ap (λ b. if b then 0 ∷ [] else node ∷ path_within levels parents (parent_at parents node)) (zero_is_zero node low)

-- a path is the same with any number of levels that suffices
pub path_within-levels : (parents : List ℕ) → Falls parents → (m n node : ℕ) → node ≤ m → node ≤ n →
    path_within m parents node ≡ path_within n parents node
path_within-levels parents down zero n node low high = sym (path_within-zero n parents node low)
path_within-levels parents down (suc m) zero node low high = path_within-zero (suc m) parents node high
path_within-levels parents down (suc m) (suc n) zero low high = path_within-zero (suc m) parents 0 (omega arith)
    ∙ sym (path_within-zero (suc n) parents 0 (omega arith))
path_within-levels parents down (suc m) (suc n) (suc node) low high =
    let less : parent_at parents (suc node) < suc node = down (suc node) (omega arith) in
    path_within-suc m parents node
    ∙ ap (λ rest. suc node ∷ rest) (path_within-levels parents down m n (parent_at parents (suc node)) (omega arith) (omega arith))
    ∙ sym (path_within-suc n parents node)

-- where each parent is earlier, the path of a node but the auctioneer is the node and then its parent's path
pub path_at-step : (parents : List ℕ) → Falls parents → (node : ℕ) → 0 < node →
    path_at parents node ≡ node ∷ path_at parents (parent_at parents node)
unfolding path_at
path_at-step parents down zero positive = absurd (omega arith)
path_at-step parents down (suc node) positive =
    let less : parent_at parents (suc node) < suc node = down (suc node) positive in
    path_within-suc node parents node
    ∙ ap (λ rest. suc node ∷ rest) (path_within-levels parents down node (parent_at parents (suc node)) (parent_at parents (suc node))
    (omega arith) (omega arith))

-- no node on a path is later than the path's first
on_path_within-later : (parents : List ℕ) → Falls parents → (levels below node : ℕ) → below < node →
    list_any (λ x. x == node) (path_within levels parents below) ≡ false
on_path_within-later parents down zero below node later = grind (arith, nat_tests)
on_path_within-later parents down (suc levels) zero node later = grind (arith, nat_tests)
on_path_within-later parents down (suc levels) (suc below) node later =
    let less : parent_at parents (suc below) < suc below = down (suc below) (omega arith) in
    let differs : (suc below == node) ≡ false = grind (arith, nat_tests) in
    ap (list_any (λ x. x == node)) (path_within-suc levels parents below)
    ∙ ap (λ b. b || list_any (λ x. x == node) (path_within levels parents (parent_at parents (suc below)))) differs
    ∙ on_path_within-later parents down levels (parent_at parents (suc below)) node (omega arith)

-- where each parent is earlier, no later node stands on a node's path to the auctioneer
pub is_on_path-later : (parents : List ℕ) → Falls parents → (below node : ℕ) → below < node → is_on_path parents below node ≡ false
unfolding is_on_path path_at
is_on_path-later parents down below node later = on_path_within-later parents down below below node later

-- where parents are earlier, what is on the path of a node above 0 is that node or is on its parent's path
pub is_on_path-step : (parents : List ℕ) → Falls parents → (below node : ℕ) → 0 < below →
    is_on_path parents below node ≡ ((below == node) || is_on_path parents (parent_at parents below) node)
unfolding is_on_path
is_on_path-step parents down below node positive = ap (list_any (λ x. x == node)) (path_at-step parents down below positive)

-- the auctioneer alone stands on the auctioneer's path
pub is_on_path-auctioneer : (parents : List ℕ) (node : ℕ) → is_on_path parents 0 node ≡ (0 == node)
unfolding is_on_path path_at
is_on_path-auctioneer parents node = elim (0 == node) as (λ b. (b || false) ≡ b) [ true ↦ refl | false ↦ refl ]

-- one step up: the node itself gets the leaf, and then the rest of the path gets it
added_on_path_by : (at : ℕ) (leaf node : ℕ) (whole rest : Bool) → whole ≡ ((at == node) || rest) → (at < node → rest ≡ false) →
    (at ≡ node → rest ≡ false) → (if whole then leaf ∷ [] else []) ≡ (if at == node then leaf ∷ [] else []) ++ (if rest then leaf ∷ [] else [])
added_on_path_by at leaf node whole rest is later same = grind (arith, nat_tests)

-- where parents are earlier, a leaf added from a node above 0 up joins its list, then those from its parent up
pub added_on_path-step : (parents : List ℕ) → Falls parents → (leaf at node : ℕ) → 0 < at →
    added_on_path parents leaf at node ≡ (if at == node then leaf ∷ [] else []) ++ added_on_path parents leaf (parent_at parents at) node
added_on_path-step parents down leaf at node positive =
    let less : parent_at parents at < at = down at positive in
    added_on_path_by at leaf node (is_on_path parents at node) (is_on_path parents (parent_at parents at) node)
    (is_on_path-step parents down at node positive)
    (λ later. is_on_path-later parents down (parent_at parents at) node (omega arith))
    (λ same. is_on_path-later parents down (parent_at parents at) node (omega arith))

-- a leaf added on the auctioneer's path joins the auctioneer's list alone
pub added_on_path-auctioneer : (parents : List ℕ) (leaf node : ℕ) → added_on_path parents leaf 0 node ≡ (if 0 == node then leaf ∷ [] else [])
added_on_path-auctioneer parents leaf node = ap (λ b. if b then leaf ∷ [] else []) (is_on_path-auctioneer parents node)

count_by-cons : {A : Type 0} (p : A → Bool) (x : A) (xs : List A) → count_by p (x ∷ xs) ≡ cond (p x) 1 0 + count_by p xs
count_by-cons p x xs = sum_by-cons (λ y. cond (p y) 1 0) x xs

-- the depth of a node is that of its parent, and one more for a concentrator
pub depth_at-step : (parents : List ℕ) (leaves : List Bool) → Falls parents → (node : ℕ) → 0 < node →
    depth_at parents leaves node ≡ depth_at parents leaves (parent_at parents node) + (if leaf_at leaves node then 0 else 1)
unfolding depth_at
depth_at-step parents leaves down node positive =
    ap (count_by (concentrator_at leaves)) (path_at-step parents down node positive)
    ∙ count_by-cons (concentrator_at leaves) node (path_at parents (parent_at parents node))
    ∙ depth_by leaves node positive (count_by (concentrator_at leaves) (path_at parents (parent_at parents node)))
  where
    depth_by : (leaves : List Bool) (node : ℕ) → 0 < node → (above : ℕ) → cond (concentrator_at leaves node) 1 0 + above
        ≡ above + (if leaf_at leaves node then 0 else 1)
    depth_by leaves node positive above = grind (arith, nat_tests)

-- the depth of the auctioneer is 0
pub depth_at-auctioneer : (parents : List ℕ) (leaves : List Bool) → depth_at parents leaves 0 ≡ 0
unfolding depth_at path_at
depth_at-auctioneer parents leaves = refl

-- more nodes leave the earlier ones as they were
pub parent_at-append : (parents more : List ℕ) (node : ℕ) → node ≤ length parents → parent_at (parents ++ more) node ≡ parent_at parents node
parent_at-append parents more node inside = get_or_append_left (0 ∷ parents) more 0 node (omega arith)

-- more leaf marks leave those of the earlier nodes as they were
pub leaf_at-append : (leaves more : List Bool) (node : ℕ) → node ≤ length leaves → leaf_at (leaves ++ more) node ≡ leaf_at leaves node
leaf_at-append leaves more node inside = get_or_append_left (false ∷ leaves) more false node (omega arith)

concentrator_at-append : (leaves more : List Bool) (node : ℕ) → node ≤ length leaves →
    concentrator_at (leaves ++ more) node ≡ concentrator_at leaves node
concentrator_at-append leaves more node inside = ap (λ b. nat_lt 0 node && not b) (leaf_at-append leaves more node inside)

depth_within-append : (parents more : List ℕ) (leaves marks : List Bool) → Falls parents → length leaves ≡ length parents →
    (levels node : ℕ) → node ≤ length parents →
    count_by (concentrator_at (leaves ++ marks)) (path_within levels (parents ++ more) node) ≡ count_by (concentrator_at leaves)
    (path_within levels parents node)
depth_within-append parents more leaves marks down same zero node inside = refl
depth_within-append parents more leaves marks down same (suc levels) zero inside = refl
depth_within-append parents more leaves marks down same (suc levels) (suc node) inside =
    let less : parent_at parents (suc node) < suc node = down (suc node) (omega arith) in
    let up : parent_at (parents ++ more) (suc node) ≡ parent_at parents (suc node) = parent_at-append parents more (suc node) inside in
    ap (count_by (concentrator_at (leaves ++ marks))) (path_within-suc levels (parents ++ more) node
    ∙ ap (λ p. suc node ∷ path_within levels (parents ++ more) p) up)
    ∙ count_by-cons (concentrator_at (leaves ++ marks)) (suc node) (path_within levels (parents ++ more) (parent_at parents (suc node)))
    ∙ (let kind = concentrator_at-append leaves marks (suc node) (omega arith) in
    let rest = depth_within-append parents more leaves marks down same levels (parent_at parents (suc node)) (omega arith) in
    (λ i. cond (kind i) 1 0 + rest i))
    ∙ sym (ap (count_by (concentrator_at leaves)) (path_within-suc levels parents node)
    ∙ count_by-cons (concentrator_at leaves) (suc node) (path_within levels parents (parent_at parents (suc node))))

-- more nodes leave the depths of the earlier ones as they were, where each parent is earlier
pub depth_at-append : (parents more : List ℕ) (leaves marks : List Bool) → Falls parents → length leaves ≡ length parents →
    (node : ℕ) → node ≤ length parents → depth_at (parents ++ more) (leaves ++ marks) node ≡ depth_at parents leaves node
unfolding depth_at path_at
depth_at-append parents more leaves marks down same node inside = depth_within-append parents more leaves marks down same node node inside
