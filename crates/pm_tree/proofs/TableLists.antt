-- Tables of lists.
use Rattle.std.proofs.Common.{◌≡◌, ℕ, ◌+◌, ◌<◌, ◌≤◌, Bool, true, false, if◌then◌else◌, List, [], ◌∷◌, ◌++◌, length}
use Rattle.std.proofs.Common.{get_or, set, refl, sym, ap, subst, ◌∙◌, arith, Vec, ◌==◌, append-nil, append_assoc, eqb, ◌⊎◌, inl, inr, ◌≢◌}
use Rattle.std.proofs.Common.{◌-◌, ◌&&◌, leb, suc, length-append, replicate}
use Rattle.std.specs.declared.alloc.Global.{Global}
use Rattle.std.proofs.lemmas.Bool.Decides.{eqb_tells, leb_tells}
use Rattle.std.proofs.lemmas.List.{length-map, map-append, get_or-map, get_or_append_left, get_or-set_same, get_or-set_other, map-set, length-set, length-drop}
use Rattle.std.proofs.lemmas.List.{length-replicate, replicate-append-replicate}
use Rattle.std.proofs.Math.Seq.{get_or-append_seam}
use Rattle.pm_base.proofs.Lists.{get_or-replicate_same}
use Rattle.pm_tree.specs.Shape.{parent_at, leaf_at, is_on_path, children_among, leaves_among, children_at, leaves_below_at, place_at}
use Rattle.pm_tree.proofs.Ranges.{children_among-more, leaves_among-more, length-children_among}
use Rattle.pm_tree.specs.Tables.{parent_numbers, shape_parents, added_on_path, AreLists, AreNumbers, node_lists, id_numbers}
use Rattle.pm_tree.specs.declared.node.TreeNode.{TreeNode}
use Rattle.pm_tree.proofs.Paths.{Falls, added_on_path-step, added_on_path-auctioneer}
use Rattle.pm_tree.specs.declared.node.NodeId.{NodeId}

-- a list of the table gets a node at its end
pub lists_of-set : (lists : List (Vec NodeId Global)) (at : ℕ) (node : NodeId) (old new : Vec NodeId Global) → at < length lists →
    old ≡ get_or lists at old → new.items ≡ (get_or lists at old).items ++ node ∷ [] →
    node_lists (set lists at new) ≡ set (node_lists lists) at (get_or (node_lists lists) at [] ++ node.0 ∷ [])
lists_of-set lists at node old new inside read pushed =
    map-set (λ (list : Vec NodeId Global). id_numbers list.items) lists at new
    ∙ ap (set (node_lists lists) at)
    (ap id_numbers pushed ∙ map-append (λ (n : NodeId). n.0) (get_or lists at old).items (node ∷ [])
    ∙ ap (λ xs. xs ++ node.0 ∷ []) (sym (get_or-map (λ (list : Vec NodeId Global). id_numbers list.items) lists at old [] inside)))

-- what a place of a table holds after a node was added to one of the lists
pub get_or-push : (lists : List (List ℕ)) (at node x : ℕ) → at < length lists →
    get_or (set lists at (get_or lists at [] ++ node ∷ [])) x [] ≡ get_or lists x [] ++ (if at == x then node ∷ [] else [])
get_or-push lists at node x inside = by (eqb_tells at x)
  where
    by : ((eqb at x ≡ true) × (at ≡ x)) ⊎ ((eqb at x ≡ false) × (at ≢ x)) →
        get_or (set lists at (get_or lists at [] ++ node ∷ [])) x [] ≡ get_or lists x [] ++ (if at == x then node ∷ [] else [])
    by (inl (is, same)) =
        ap (λ n. get_or (set lists at (get_or lists at [] ++ node ∷ [])) n []) (sym same)
        ∙ get_or-set_same lists at (get_or lists at [] ++ node ∷ []) [] inside
        ∙ (λ i. get_or lists (same i) [] ++ (if sym is i then node ∷ [] else []))
    by (inr (is, other)) =
        get_or-set_other lists at x (get_or lists at [] ++ node ∷ []) [] (λ same. other (sym same))
        ∙ sym (append-nil (get_or lists x [])) ∙ ap (λ b. get_or lists x [] ++ (if b then node ∷ [] else [])) (sym is)

-- a table of the lists of one function is one of the lists of any function with the same values
abbrev pub lists_same : (count : ℕ) (f g : ℕ → List ℕ) (lists : List (List ℕ)) → ((node : ℕ) → f node ≡ g node) →
    AreLists count f lists → AreLists count g lists
lists_same count f g lists same are = record { count_is = are.count_is; list_is = λ node inside. are.list_is node inside ∙ same node }

-- one more empty list
pub none_more : (old new : List (Vec NodeId Global)) (list : Vec NodeId Global) (count : ℕ) → new ≡ old ++ list ∷ [] → list.items ≡ [] →
    node_lists old ≡ replicate count [] → node_lists new ≡ replicate (count + 1) []
none_more old new list count is empty before =
    ap node_lists is ∙ map-append (λ (list : Vec NodeId Global). id_numbers list.items) old (list ∷ [])
    ∙ ap (λ (lists : List (List ℕ)). lists ++ id_numbers list.items ∷ []) before
    ∙ ap (λ (nodes : List NodeId). replicate count [] ++ id_numbers nodes ∷ []) empty
    ∙ replicate-append-replicate count 1 []

-- a table of so many empty lists
pub all_empty : (count : ℕ) (lists : List (List ℕ)) → lists ≡ replicate count [] → AreLists count (λ _. []) lists
all_empty count lists is = record {
  count_is = ap (λ (lists : List (List ℕ)). length lists) is ∙ length-replicate count [];
  list_is = λ node inside. ap (λ (lists : List (List ℕ)). get_or lists node []) is ∙ get_or-replicate_same count node [];
}

-- one node more in the children's lists
pub children_step : (parents : List ℕ) (count number parent : ℕ) (lists : List (List ℕ)) → 1 ≤ number →
    parent ≡ parent_at parents number → parent < count
    → AreLists count (children_among parents (number - 1)) lists →
    AreLists count (children_among parents (number + 1 - 1)) (set lists parent (get_or lists parent [] ++ number ∷ []))
children_step parents count number parent lists positive parent_is inside are =
    let last : number - 1 + 1 ≡ number = omega arith in
    let next : number + 1 - 1 ≡ number - 1 + 1 = omega arith in
    record {
      count_is = length-set lists parent (get_or lists parent [] ++ number ∷ []) ∙ are.count_is;
      list_is = λ node low.
          get_or-push lists parent number node (omega (arith, are.count_is))
          ∙ ap (λ l. l ++ (if parent == node then number ∷ [] else [])) (are.list_is node low)
          ∙ ap (λ p. children_among parents (number - 1) node ++ (if p == node then number ∷ [] else [])) parent_is
          ∙ ap (λ n. children_among parents (number - 1) node ++ (if parent_at parents n == node then n ∷ [] else [])) (sym last)
          ∙ sym (children_among-more parents (number - 1) node)
          ∙ ap (λ n. children_among parents n node) (sym next);
    }

-- the place of one node more
pub place_is : (parents : List ℕ) (number : ℕ) → number - 1 ≤ length parents →
    length (children_among parents (number - 1) (parent_at parents number)) ≡ place_at parents number
unfolding place_at
place_is parents number inside = length-children_among parents (parent_at parents number) (number - 1) inside

-- the place of the auctioneer is 0
pub place-auctioneer : (parents : List ℕ) → place_at parents 0 ≡ 0
unfolding place_at
place-auctioneer parents = refl

-- one step up a path: the list of the node gets the leaf, and then those of the rest of the path
pub path_step : (parents : List ℕ) (lists lists' first : List (List ℕ)) (leaf at parent : ℕ) → Falls parents → 0 < at →
    at < length lists → parent ≡ parent_at parents at
    → lists' ≡ set lists at (get_or lists at [] ++ leaf ∷ [])
    → ((node : ℕ) → get_or lists node [] ++ added_on_path parents leaf at node ≡ get_or first node [] ++ added_on_path parents leaf leaf node)
    → (node : ℕ) → get_or lists' node [] ++ added_on_path parents leaf parent node ≡ get_or first node [] ++ added_on_path parents leaf leaf node
path_step parents lists lists' first leaf at parent down positive inside parent_is pushed rest node =
    ap (λ ls. get_or ls node [] ++ added_on_path parents leaf parent node) pushed
    ∙ ap (λ l. l ++ added_on_path parents leaf parent node) (get_or-push lists at leaf node inside)
    ∙ append_assoc (get_or lists node []) (if at == node then leaf ∷ [] else []) (added_on_path parents leaf parent node)
    ∙ ap (λ p. get_or lists node [] ++ ((if at == node then leaf ∷ [] else []) ++ added_on_path parents leaf p node)) parent_is
    ∙ ap (λ l. get_or lists node [] ++ l) (sym (added_on_path-step parents down leaf at node positive))
    ∙ rest node

-- the end of a path
pub path_end : (parents : List ℕ) (lists lists' first : List (List ℕ)) (leaf at : ℕ) → at ≡ 0 → at < length lists
    → lists' ≡ set lists at (get_or lists at [] ++ leaf ∷ [])
    → ((node : ℕ) → get_or lists node [] ++ added_on_path parents leaf at node ≡ get_or first node [] ++ added_on_path parents leaf leaf node)
    → (node : ℕ) → get_or lists' node [] ≡ get_or first node [] ++ added_on_path parents leaf leaf node
path_end parents lists lists' first leaf at top inside pushed rest node =
    ap (λ ls. get_or ls node []) pushed
    ∙ get_or-push lists at leaf node inside
    ∙ ap (λ n. get_or lists node [] ++ (if n == node then leaf ∷ [] else [])) top
    ∙ ap (λ l. get_or lists node [] ++ l) (sym (added_on_path-auctioneer parents leaf node))
    ∙ ap (λ n. get_or lists node [] ++ added_on_path parents leaf n node) (sym top)
    ∙ rest node

-- a table of lists, read as numbers, has as many lists
pub length-lists_of : (lists : List (Vec NodeId Global)) → length (node_lists lists) ≡ length lists
length-lists_of lists = length-map lists (λ (list : Vec NodeId Global). id_numbers list.items)

-- one node more in the lists of leaves, where it is a leaf and where it is none
leaves_next : (parents : List ℕ) (leaves : List Bool) (number node : ℕ) → 1 ≤ number →
    leaves_among parents leaves (number + 1 - 1) node ≡ leaves_among parents leaves (number - 1) node
    ++ (if leaf_at leaves number && is_on_path parents number node then number ∷ [] else [])
leaves_next parents leaves number node positive =
    let last : number - 1 + 1 ≡ number = omega arith in
    let next : number + 1 - 1 ≡ number - 1 + 1 = omega arith in
    ap (λ n. leaves_among parents leaves n node) next
    ∙ leaves_among-more parents leaves (number - 1) node
    ∙ ap (λ n. leaves_among parents leaves (number - 1) node ++ (if leaf_at leaves n && is_on_path parents n node then n ∷ [] else [])) last

-- the lists of leaves take in one node more that is a leaf, where each list on its path got it
pub leaves_step : (parents : List ℕ) (leaves : List Bool) (count number : ℕ) (lists lists' : List (List ℕ)) → 1 ≤ number →
    leaf_at leaves number ≡ true → length lists' ≡ length lists
    → ((node : ℕ) → get_or lists' node [] ≡ get_or lists node [] ++ added_on_path parents number number node)
    → AreLists count (leaves_among parents leaves (number - 1)) lists → AreLists count (leaves_among parents leaves (number + 1 - 1)) lists'
leaves_step parents leaves count number lists lists' positive leaf same pushed are = record {
  count_is = same ∙ are.count_is;
  list_is = λ node low.
      pushed node ∙ ap (λ l. l ++ added_on_path parents number number node) (are.list_is node low)
      ∙ sym (leaves_next parents leaves number node positive
      ∙ ap (λ b. leaves_among parents leaves (number - 1) node ++ (if b && is_on_path parents number node then number ∷ [] else [])) leaf);
}

-- the lists of leaves take in one node more that is no leaf, and stay as they are
pub leaves_skip : (parents : List ℕ) (leaves : List Bool) (count number : ℕ) (lists : List (List ℕ)) → 1 ≤ number → leaf_at leaves number ≡ false
    → AreLists count (leaves_among parents leaves (number - 1)) lists → AreLists count (leaves_among parents leaves (number + 1 - 1)) lists
leaves_skip parents leaves count number lists positive none are = record {
  count_is = are.count_is;
  list_is = λ node low.
      are.list_is node low
      ∙ sym (leaves_next parents leaves number node positive
      ∙ ap (λ b. leaves_among parents leaves (number - 1) node ++ (if b && is_on_path parents number node then number ∷ [] else []))
      none ∙ append-nil (leaves_among parents leaves (number - 1) node));
}

-- the lists of all nodes
pub leaves_done : (parents : List ℕ) (leaves : List Bool) (count number : ℕ) (lists : List (List ℕ)) → number - 1 ≡ length parents →
    AreLists count (leaves_among parents leaves (number - 1)) lists → AreLists count (leaves_below_at parents leaves) lists
unfolding leaves_below_at
leaves_done parents leaves count number lists all are =
    record { count_is = are.count_is; list_is = λ node low. are.list_is node low ∙ ap (λ n. leaves_among parents leaves n node) all }

-- the lists of children among the nodes so far are those of all children once these are all nodes
pub children_done : (parents : List ℕ) (count number : ℕ) (lists : List (List ℕ)) → number - 1 ≡ length parents →
    AreLists count (children_among parents (number - 1)) lists → AreLists count (children_at parents) lists
unfolding children_at
children_done parents count number lists all are =
    record { count_is = are.count_is; list_is = λ node low. are.list_is node low ∙ ap (λ n. children_among parents n node) all }

-- a node table gives as many parents as it has rows behind the auctioneer's
pub length-shape_parents : (nodes : List TreeNode) → length (shape_parents nodes) ≡ length nodes - 1
length-shape_parents nodes = length-drop 1 (parent_numbers nodes) ∙ ap (λ n. n - 1) (length-map nodes (λ (row : TreeNode). row.parent.0))

-- one place more
pub place_step : (number : ℕ) (number_at : ℕ → ℕ) (places : List ℕ) (place : ℕ) → place ≡ number_at number →
    AreNumbers number number_at places → AreNumbers (number + 1) number_at (places ++ place ∷ [])
place_step number number_at places place is are = record {
  count_is = length-append places (place ∷ []) ∙ ap (λ n. n + 1) are.count_is;
  number_is = λ node low. by node (leb_tells (suc node) number) low;
}
  where
    by : (node : ℕ) → ((leb (suc node) number ≡ true) × (suc node ≤ number))
        ⊎ ((leb (suc node) number ≡ false) × (number < suc node)) → node < number + 1 → get_or (places ++ place ∷ []) node 0 ≡ number_at node
    by node (inl (b, low)) within = get_or_append_left places (place ∷ []) 0 node (omega (arith, are.count_is)) ∙ are.number_is node (omega arith)
    by node (inr (b, high)) within =
        let last : node ≡ length places = omega (arith, are.count_is) in
        let same : number ≡ node = omega arith in
        ap (λ n. get_or (places ++ place ∷ []) n 0) last ∙ get_or-append_seam places place [] 0 ∙ is ∙ ap number_at same

-- a table of the place 0 alone gives the places of the auctioneer alone
pub places_first : (parents : List ℕ) → AreNumbers 1 (place_at parents) (0 ∷ [])
places_first parents = record {
  count_is = refl;
  number_is = λ node low. let top : 0 ≡ node =
      omega arith in subst (λ n. get_or (0 ∷ []) n 0 ≡ place_at parents n) top (sym (place-auctioneer parents));
}

-- a node's place is the length of its parent's list so far
pub place_of_list : (parents : List ℕ) (lists : List (Vec NodeId Global)) (list : Vec NodeId Global) (number parent count : ℕ) →
    list ≡ get_or lists parent list → parent < length lists → parent < count → parent ≡ parent_at parents number → number - 1 ≤ length parents
    → AreLists count (children_among parents (number - 1)) (node_lists lists) → length list.items ≡ place_at parents number
place_of_list parents lists list number parent count read inside low parent_is within are =
    sym (length-map list.items (λ (n : NodeId). n.0))
    ∙ ap (λ (l : Vec NodeId Global). length (id_numbers l.items)) read
    ∙ ap length (sym (get_or-map (λ (l : Vec NodeId Global). id_numbers l.items) lists parent list [] inside) ∙ are.list_is parent low)
    ∙ ap (λ p. length (children_among parents (number - 1) p)) parent_is
    ∙ place_is parents number within
