-- The ends of links in their places.
use Rattle.std.proofs.Common.{◌≡◌, ℕ, zero, suc, ◌<◌, List, [], ◌∷◌, ◌++◌, length, get_or, set, Option, Some, None, refl, sym, ap, subst}
use Rattle.std.proofs.Common.{arith, All}
use Rattle.std.specs.Prelude.{slice_get, IfSome}
use Rattle.pm_cells.specs.Ends.{TableId, LinkEnd}
use Rattle.pm_phase.specs.Ends.{IsUpOf, AreOf, IsPlaced, ArePlaced}
use Rattle.pm_phase.specs.declared.closing.Places.{Places}
use Rattle.pm_phase.specs.declared.node.FreeNode.{FreeNode}
use Rattle.pm_phase.specs.declared.ends.UpEnd.{UpEnd}

-- there are as many places as links
pub same_length : (ls : List TableId) (ps : List Places) → ArePlaced ls ps → length ps ≡ length ls
same_length [] [] h = refl
same_length [] (p ∷ ps) h = absurd h
same_length (l ∷ ls) [] h = absurd h
same_length (l ∷ ls) (p ∷ ps) h = ap suc (same_length ls ps h.1)

-- where a link stands is within the list
pub in_range : (ls : List TableId) (k : ℕ) (l : TableId) → slice_get ls k ≡ Some l → k < length ls
in_range [] k l e = absurd (cc)
in_range (x ∷ ls) zero l e = omega arith
in_range (x ∷ ls) (suc k) l e = let h = in_range ls k l e in omega arith

-- an end goes into the place of its link, where q was
pub puts_up : (ls : List TableId) (ps : List Places) (k : ℕ) (q : Places) (e : LinkEnd) → ArePlaced ls ps → slice_get ls k ≡ Some e.link
    → q ≡ get_or ps k q → ArePlaced ls (set ps k (record { up = Some e; down = q.down }))
puts_up [] ps k q e h f was = absurd (cc)
puts_up (l ∷ ls) [] k q e h f was = absurd h
puts_up (l ∷ ls) (p ∷ ps) zero q e h f was =
    let is : e.link ≡ l = cc in
    ((is, subst (λ (x : Places). IfSome x.down (λ a. a.link ≡ l)) (sym was) h.0.1), h.1)
puts_up (l ∷ ls) (p ∷ ps) (suc k) q e h f was = (h.0, puts_up ls ps k q e h.1 f was)

-- a parent's end goes into the place of its link, as `down`, where q was
pub puts_down : (ls : List TableId) (ps : List Places) (k : ℕ) (q : Places) (e : LinkEnd) → ArePlaced ls ps → slice_get ls k ≡ Some e.link
    → q ≡ get_or ps k q → ArePlaced ls (set ps k (record { up = q.up; down = Some e }))
puts_down [] ps k q e h f was = absurd (cc)
puts_down (l ∷ ls) [] k q e h f was = absurd h
puts_down (l ∷ ls) (p ∷ ps) zero q e h f was =
    let is : e.link ≡ l = cc in
    ((subst (λ (x : Places). IfSome x.up (λ a. a.link ≡ l)) (sym was) h.0.0, is), h.1)
puts_down (l ∷ ls) (p ∷ ps) (suc k) q e h f was = (h.0, puts_down ls ps k q e h.1 f was)

last_placed : (ls : List TableId) (ps : List Places) (l : TableId) (p : Places) → ArePlaced (ls ++ l ∷ []) (ps ++ p ∷ [])
    → ArePlaced ls ps × IsPlaced l p
last_placed [] [] l p h = (tt, h.0)
last_placed [] (q ∷ []) l p h = absurd h.1
last_placed [] (q ∷ r ∷ ps) l p h = absurd h.1
last_placed (m ∷ []) [] l p h = absurd h.1
last_placed (m ∷ n ∷ ls) [] l p h = absurd h.1
last_placed (m ∷ ls) (q ∷ ps) l p h = let (a, b) = last_placed ls ps l p h.1 in ((h.0, a), b)

-- the last link and the last place are taken off
pub popped : (ls ls' : List TableId) (ps ps' : List Places) (l : TableId) (p : Places) → ls ≡ ls' ++ l ∷ [] → ps ≡ ps' ++ p ∷ [] → ArePlaced ls ps
    → ArePlaced ls' ps' × IsPlaced l p
popped ls ls' ps ps' l p a b h = last_placed ls' ps' l p (subst (λ (t : List TableId × List Places). ArePlaced t.0 t.1) (λ i. (a i, b i)) h)

-- a link and a place without ends are added
pub ArePlaced-push : (ls : List TableId) (ps : List Places) (l : TableId) → ArePlaced ls ps
    → ArePlaced (ls ++ l ∷ []) (ps ++ record { up = None; down = None } ∷ [])
ArePlaced-push [] [] l h = ((tt, tt), tt)
ArePlaced-push [] (p ∷ ps) l h = absurd h
ArePlaced-push (m ∷ ls) [] l h = absurd h
ArePlaced-push (m ∷ ls) (p ∷ ps) l h = (h.0, ArePlaced-push ls ps l h.1)

-- a link that stands somewhere stands there when one more is added
pub slice_get-more : (ls : List TableId) (k : ℕ) (l m : TableId) → slice_get ls k ≡ Some l → slice_get (ls ++ m ∷ []) k ≡ Some l
slice_get-more [] k l m e = absurd (cc)
slice_get-more (x ∷ ls) zero l m e = e
slice_get-more (x ∷ ls) (suc k) l m e = slice_get-more ls k l m e

up_more : (ls : List TableId) (m : TableId) (up : Option UpEnd) → IfSome up (IsUpOf ls) → IfSome up (IsUpOf (ls ++ m ∷ []))
up_more ls m None h = tt
up_more ls m (Some up) h = slice_get-more ls up.at up.end.link m h

of_more : (ls : List TableId) (m : TableId) (node : FreeNode) → AreOf ls node → AreOf (ls ++ m ∷ []) node
of_more ls m node h = record {
  up = up_more ls m node.up h.up;
  downs = λ j e inside. slice_get-more ls _ _ m (h.downs j e inside);
}

-- the ends of nodes are of their links when one more is added
pub AreOf-more : (ls : List TableId) (m : TableId) (nodes : List FreeNode) → All (AreOf ls) nodes → All (AreOf (ls ++ m ∷ [])) nodes
AreOf-more ls m nodes h k d l = of_more ls m _ (h k d l)
