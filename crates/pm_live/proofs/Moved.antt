-- What is said of a node at one value is said at an equal one.
use Rattle.std.proofs.Common.{◌≡◌, subst, ℕ, List, Option}
use Rattle.pm_io.specs.Causes.{Rose}
use Rattle.pm_wire.specs.declared.stream.Served.{Served}
use Rattle.pm_live.specs.Serving.{EndsNodeAsDue}
use Rattle.pm_live.specs.declared.named.LiveNode.{LiveNode}

-- what is due at an end is due at one with the same bytes and counts
pub due_at : (node : LiveNode) (all : List ℕ) (old held new new' holds holds' : Option (List ℕ)) (a b r r' k k' : ℕ) (served : Served) →
    new ≡ new' → holds ≡ holds' → r ≡ r' → k ≡ k' → EndsNodeAsDue node all old new held holds (Rose a r) (Rose b k) served →
    EndsNodeAsDue node all old new' held holds' (Rose a r') (Rose b k') served
due_at node all old held new new' holds holds' a b r r' k k' served n h rs ks ends =
    let Q : Option (List ℕ) → Type 0 = λ o. EndsNodeAsDue node all old o held holds (Rose a r) (Rose b k) served in
    let R : Option (List ℕ) → Type 0 = λ o. EndsNodeAsDue node all old new' held o (Rose a r) (Rose b k) served in
    let S : ℕ → Type 0 = λ i. EndsNodeAsDue node all old new' held holds' (Rose a i) (Rose b k) served in
    let T : ℕ → Type 0 = λ i. EndsNodeAsDue node all old new' held holds' (Rose a r') (Rose b i) served in
    subst T ks (subst S rs (subst R h (subst Q n ends)))
