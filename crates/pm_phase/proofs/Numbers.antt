-- The numbers of nodes, as the nodes change in their places.
use Rattle.std.proofs.Common.{◌≡◌, ℕ, zero, suc, ◌<◌, List, [], ◌∷◌, ◌++◌, length, get_or, set, refl, ap, ◌∙◌, arith}
use Rattle.pm_phase.specs.Nodes.{numbers_of_parts, numbers_of_nodes}
use Rattle.pm_phase.specs.declared.node.FreeNode.{FreeNode}
use Rattle.pm_phase.specs.declared.node.NodePart.{NodePart}

-- a node with the number of the one that stood in its place
pub numbers_set : (nodes : List FreeNode) (k : ℕ) (node d : FreeNode) → node.part.number ≡ (get_or nodes k d).part.number
    → numbers_of_nodes (set nodes k node) ≡ numbers_of_nodes nodes
numbers_set [] k node d same = refl
numbers_set (n ∷ nodes) zero node d same = ap (λ m. m ∷ numbers_of_nodes nodes) same
numbers_set (n ∷ nodes) (suc k) node d same = ap (λ l. n.part.number ∷ l) (numbers_set nodes k node d same)

-- nodes with the same numbers, place by place
pub numbers_by_place : (xs ys : List FreeNode) → length xs ≡ length ys
    → ((k : ℕ) (d : FreeNode) → k < length xs → (get_or xs k d).part.number ≡ (get_or ys k d).part.number)
    → numbers_of_nodes xs ≡ numbers_of_nodes ys
numbers_by_place [] [] same each = refl
numbers_by_place [] (y ∷ ys) same each = absurd (omega (arith, same))
numbers_by_place (x ∷ xs) [] same each = absurd (omega (arith, same))
numbers_by_place (x ∷ xs) (y ∷ ys) same each =
    let front = each zero x (omega arith) in
    let rest = numbers_by_place xs ys (omega (arith, same)) (λ k d inside. each (suc k) d (omega (arith, inside))) in
    ap (λ n. n ∷ numbers_of_nodes xs) front ∙ ap (λ l. y.part.number ∷ l) rest

-- a node's number stands in its place
pub number_at : (xs ys : List FreeNode) (k : ℕ) (d : FreeNode) → numbers_of_nodes xs ≡ numbers_of_nodes ys → k < length xs
    → (get_or xs k d).part.number ≡ (get_or ys k d).part.number
number_at [] ys k d same inside = absurd (omega (arith, inside))
number_at (x ∷ xs) [] k d same inside = absurd (cc)
number_at (x ∷ xs) (y ∷ ys) zero d same inside = cc
number_at (x ∷ xs) (y ∷ ys) (suc k) d same inside = number_at xs ys k d (cc) (omega (arith, inside))

-- as many nodes as numbers
pub as_many : (xs ys : List FreeNode) → numbers_of_nodes xs ≡ numbers_of_nodes ys → length xs ≡ length ys
as_many [] [] same = refl
as_many [] (y ∷ ys) same = absurd (cc)
as_many (x ∷ xs) [] same = absurd (cc)
as_many (x ∷ xs) (y ∷ ys) same = ap suc (as_many xs ys (cc))

-- a part goes from the nodes that are left to the parts that came back
pub part_moved : (parts : List NodePart) (part : NodePart) (node : FreeNode) (rest : List FreeNode) → part ≡ node.part
    → numbers_of_parts (parts ++ part ∷ []) ++ numbers_of_nodes rest ≡ numbers_of_parts parts ++ numbers_of_nodes (node ∷ rest)
part_moved [] part node rest e = ap (λ (p : NodePart). p.number ∷ numbers_of_nodes rest) e
part_moved (p ∷ parts) part node rest e = ap (λ l. p.number ∷ l) (part_moved parts part node rest e)

-- a node is made of the first of the parts that are left
pub node_made : (nodes : List FreeNode) (node : FreeNode) (part : NodePart) (rest : List NodePart) → node.part.number ≡ part.number
    → numbers_of_nodes (nodes ++ node ∷ []) ++ numbers_of_parts rest ≡ numbers_of_nodes nodes ++ numbers_of_parts (part ∷ rest)
node_made [] node part rest e = ap (λ n. n ∷ numbers_of_parts rest) e
node_made (n ∷ nodes) node part rest e = ap (λ l. n.part.number ∷ l) (node_made nodes node part rest e)

-- a list of no length has no elements
pub none_left : {X : Type 0} (xs : List X) → length xs ≡ 0 → xs ≡ []
none_left [] e = refl
none_left (x ∷ xs) e = absurd (omega (arith, e))
