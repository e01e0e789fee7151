-- The ends that come back are those of the nodes, also as places are written, taken off and logged.
use Rattle.std.proofs.Common.{◌≡◌, sym, ap, subst, ℕ, ◌+◌, ◌<◌, List, [], ◌∷◌}
use Rattle.std.proofs.Common.{◌++◌, length, get_or, set, Option, Some, None, refl, arith, inl, inr, All}
use Rattle.std.proofs.Common.{get_or-set_same, get_or-set_other}
use Rattle.std.proofs.Math.ListN.{length-set}
use Rattle.std.specs.Prelude.{IfSome}
use Rattle.std.proofs.lemmas.Bool.{cases_eq, cases_lt}
use Rattle.std.proofs.lemmas.List.{length-append, get_or_push, get_or_append_left}
use Rattle.pm_cells.specs.Ends.{LinkEnd}
use Rattle.pm_cells.specs.declared.link.LinkLog.{LinkLog}
use Rattle.pm_phase.specs.Closing.{ChildFrom, ParentFrom, IsReturned, AreReturned, IsEmptyPlace, ClosedLink, parts_of_nodes}
use Rattle.pm_phase.specs.declared.closing.Places.{Places}
use Rattle.pm_phase.specs.declared.node.FreeNode.{FreeNode}
use Rattle.pm_phase.specs.declared.node.NodePart.{NodePart}

-- a place is written
from_set : (nodes : List FreeNode) (places : List Places) (at : ℕ) (ends : Places) → at < length places → IsReturned nodes at ends →
    AreReturned nodes places →
    AreReturned nodes (set places at ends)
from_set nodes places at ends inside here from k d lt = elim (cases_eq k at) [
  | inl e ↦ subst (λ (j : ℕ). IsReturned nodes j (get_or (set places at ends) j d)) (sym e)
      (subst (IsReturned nodes at) (sym (get_or-set_same places at ends d inside)) here)
  | inr ne ↦ subst (IsReturned nodes k) (sym (get_or-set_other places at k ends d ne)) (from k d (omega (arith, lt, length-set places at ends)))
]

-- an end to a parent came back
pub up_came : (nodes : List FreeNode) (places : List Places) (at : ℕ) (q : Places) (end : LinkEnd) → at < length places → q ≡ get_or places at q →
    ChildFrom nodes at end → AreReturned nodes places → AreReturned nodes (set places at (record { up = Some end; down = q.down }))
up_came nodes places at q end inside was here from =
    from_set nodes places at (record { up = Some end; down = q.down }) inside
    (record { up = here; down = (subst (IsReturned nodes at) (sym was) (from at q inside)).down }) from

-- an end to a child came back
pub down_came : (nodes : List FreeNode) (places : List Places) (at : ℕ) (q : Places) (end : LinkEnd) → at < length places → q ≡ get_or places at q →
    ParentFrom nodes at end → AreReturned nodes places → AreReturned nodes (set places at (record { up = q.up; down = Some end }))
down_came nodes places at q end inside was here from =
    from_set nodes places at (record { up = q.up; down = Some end }) inside
    (record { up = (subst (IsReturned nodes at) (sym was) (from at q inside)).up; down = here }) from

-- no end came back yet
pub none_came : (nodes : List FreeNode) (places : List Places) → All IsEmptyPlace places → AreReturned nodes places
none_came nodes places empty k d lt =
    let is = empty k d lt in record {
      up = subst (λ e. IfSome e (ChildFrom nodes k)) (sym is.up) tt;
      down = subst (λ e. IfSome e (ParentFrom nodes k)) (sym is.down) tt;
    }

-- the last place is taken off
pub from_popped : (nodes : List FreeNode) (places places' : List Places) (p : Places) → places ≡ places' ++ p ∷ [] → AreReturned nodes places →
    AreReturned nodes places' × IsReturned nodes (length places') p
from_popped nodes places places' p same from =
    let whole = subst (AreReturned nodes) same from in
    let long = length-append places' (p ∷ []) in (
      (λ k d lt. subst (IsReturned nodes k) (get_or_append_left places' (p ∷ []) d k lt) (whole k d (omega (arith, lt, long)))),
      subst (IsReturned nodes (length places')) (get_or_push places' p p (length places') refl) (whole (length places') p (omega (arith, long))),
    )

-- the logs of the last links, the last one first
pub LogsFrom : List FreeNode → ℕ → List (Option LinkLog) → Type 0
LogsFrom nodes left logs = (j k : ℕ) → j < length logs → k + j + 1 ≡ left + length logs → IfSome (get_or logs j None) (ClosedLink nodes k)

-- no log yet
pub logs_none : (nodes : List FreeNode) (left : ℕ) → LogsFrom nodes left []
unfolding LogsFrom
logs_none nodes left j k lt e = absurd (omega (arith, lt))

-- one link more was closed
pub logs_more : (nodes : List FreeNode) (left : ℕ) (logs : List (Option LinkLog)) (log : Option LinkLog) → LogsFrom nodes (left + 1) logs →
    IfSome log (ClosedLink nodes left) → LogsFrom nodes left (logs ++ log ∷ [])
unfolding LogsFrom
logs_more nodes left logs log before here j k lt e =
    let long = length-append logs (log ∷ []) in
    elim (cases_lt j (length logs)) [
      | inl inside ↦ subst (λ l. IfSome l (ClosedLink nodes k)) (sym (get_or_append_left logs (log ∷ []) None j inside))
          (before j k inside (omega (arith, e, long)))
      | inr past ↦
          let last : j ≡ length logs = omega (arith, lt, past, long) in
          let is : left ≡ k = omega (arith, e, last, long) in
          subst (λ l. IfSome l (ClosedLink nodes k)) (sym (get_or_push logs log None j (sym last)))
          (subst (λ (n : ℕ). IfSome log (ClosedLink nodes n)) is here)
    ]

-- the log in a place
pub logs_at : (nodes : List FreeNode) (left : ℕ) (logs : List (Option LinkLog)) → LogsFrom nodes left logs →
    (j k : ℕ) → j < length logs → k + j + 1 ≡ left + length logs → IfSome (get_or logs j None) (ClosedLink nodes k)
unfolding LogsFrom
logs_at nodes left logs are = are

-- a part goes from the nodes that are left to the parts that came back
pub part_back : (parts : List NodePart) (part : NodePart) (node : FreeNode) (rest : List FreeNode) → part ≡ node.part →
    (parts ++ part ∷ []) ++ parts_of_nodes rest ≡ parts ++ parts_of_nodes (node ∷ rest)
part_back [] part node rest e = ap (λ (p : NodePart). p ∷ parts_of_nodes rest) e
part_back (p ∷ parts) part node rest e = ap (λ l. p ∷ l) (part_back parts part node rest e)
