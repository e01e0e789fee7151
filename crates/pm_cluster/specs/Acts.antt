-- Acts, the changes that are refused, and runs of acts.
use Rattle.std.specs.Prelude.{◌≡◌, ℕ, ◌<◌, ◌≤◌, ◌⊎◌, false, List, ◌∷◌, ◌++◌, length, map, take, slice_get, Option, Some, None}
use Rattle.std.specs.Prelude.{IfSome, MatchOption, ⊤}
use Rattle.pm_base.specs.Cuts.{Cut}
use Rattle.pm_agent.specs.MadeBids.{MadeBid}
use Rattle.pm_device.specs.declared.state.Next.{Next}
use Rattle.pm_market.specs.Lists.{is_leaf, IsLeaf}
use Rattle.pm_market.specs.State.{State, cleared_cut}
use Rattle.pm_market.specs.Moves.{Legal, LegalJournal, after, act_of}
use Rattle.pm_market.specs.Held.{lines}
use Rattle.pm_market.specs.declared.moves.Move.{Move}
use Rattle.pm_market.specs.declared.moves.Move.TheVariants.{Pass}
use Rattle.pm_market.specs.declared.moves.Act.{Act}
use Rattle.pm_market.specs.declared.journal.Line.{Line}
use Rattle.pm_plan.specs.Plans.{PlanData, node, kind_of}
use Rattle.pm_plan.specs.Market.{plan_lists}
use Rattle.pm_offer.specs.Offers.{local_step_at}
use Rattle.pm_stands.specs.Core.{Core}
use Rattle.pm_stands.specs.Stands.{StandsFor, MakesMove}
use Rattle.pm_stands.specs.Actors.{IsMoveOf, NoMoveOf}
use Rattle.pm_cluster.specs.Clusters.{ClusterValue}
use Rattle.pm_cluster.specs.Next.{HasNoNext, IsNext}
use Rattle.pm_cluster.specs.declared.fault.ChangeFault.{ChangeFault}
use Rattle.pm_cluster.specs.declared.fault.ChangeFault.TheVariants as change_faults
use Rattle.pm_cluster.specs.declared.fault.ActFault.{ActFault}
use Rattle.pm_cluster.specs.declared.fault.ActFault.TheVariants as act_faults
use Rattle.pm_cluster.specs.declared.fault.ApplyFault.{ApplyFault}
use Rattle.pm_cluster.specs.declared.fault.ApplyFault.TheVariants as apply_faults

-- the next change of a device, if it has one
abbrev pub IsNextOrNone : PlanData → ℕ → Cut → ℕ → Option Next → Type 0
IsNextOrNone plan closed counts d next = MatchOption next (HasNoNext plan closed counts d) (IsNext plan closed counts d)

-- what was made is the device's next change, and of its kind
pub record Follows (plan : PlanData) (closed : ℕ) (counts : Cut) (made : MadeBid) : Type 0 where
  pub leaf : IsLeaf (plan_lists plan) made.next.device
  pub next : IsNext plan closed counts made.next.device made.next
  pub kind : kind_of (node plan made.next.device) ≡ Some made.kind

-- why a change is refused, with the next change of the device: it is of no device; or what was made is not the next
-- change of its device, or not of its kind
abbrev pub NotChanged : PlanData → ℕ → Cut → MadeBid → ChangeFault → Type 0
NotChanged plan closed counts made (change_faults.NotNext next) =
    ((is_leaf (plan_lists plan) made.next.device ≡ false) × (next ≡ None))
    ⊎ (IsLeaf (plan_lists plan) made.next.device × IsNextOrNone plan closed counts made.next.device next
    × ((next ≡ Some made.next → ⊥) ⊎ (kind_of (node plan made.next.device) ≡ Some made.kind → ⊥)))
NotChanged plan closed counts made change_faults.NoMemory = ⊥

-- no move of the act's form is legal
abbrev pub NoMoveBy : PlanData → State → Act → Type 0
NoMoveBy plan s act = (m : Move) → act_of m ≡ act → Legal (plan_lists plan) s m → ⊥

-- what an act made of a cluster: a legal move of its form, by which the cluster stands for the state behind the move; or nothing, if
-- no move of that form is legal, and the cluster is as it was
pub record IsMadeBy (a : Act) (old new : ClusterValue) (what : Option Move) : Type 0 where
  pub plan : new.plan ≡ old.plan
  pub form : IfSome what (λ m. act_of m ≡ a)
  pub none : what ≡ None → new ≡ old
  pub made : (s : State) → StandsFor old.plan old.core s → MatchOption what (NoMoveBy old.plan s a) (MakesMove old.plan new.core s)

-- what a node made of a cluster: a legal move of its own, by which the cluster stands for the state behind the move; or nothing, if
-- the node has no legal move, and the cluster is as it was
pub record IsMadeOf (x : ℕ) (old new : ClusterValue) (what : Option Move) : Type 0 where
  pub plan : new.plan ≡ old.plan
  pub mine : IfSome what (IsMoveOf (plan_lists old.plan) x)
  pub none : what ≡ None → new ≡ old
  pub made : (s : State) → StandsFor old.plan old.core s →
      MatchOption what (NoMoveOf (plan_lists old.plan) s x) (MakesMove old.plan new.core s)

-- why an act is refused: no move of its form is legal; or an allocation failed, which says nothing
abbrev pub NotActed : PlanData → State → Act → ActFault → Type 0
NotActed plan s act act_faults.Illegal = NoMoveBy plan s act
NotActed plan s act act_faults.NoMemory = ⊤

abbrev pub moves_of : List Line → List Move
moves_of journal = map (λ line. line.what) journal

-- the journal of these acts: its moves are legal and have the forms of the acts in order, its lines tell what devices
-- held, and the cluster stands for the state after it
pub record IsRunOf (plan : PlanData) (acts : List Act) (c : Core) (journal : List Line) : Type 0 where
  pub legal : LegalJournal (plan_lists plan) (moves_of journal)
  pub forms : map act_of (moves_of journal) ≡ acts
  pub lines : journal ≡ lines (plan_lists plan) (local_step_at plan) (moves_of journal)
  pub stands : StandsFor plan c (after (plan_lists plan) (moves_of journal))

-- of two prices that are passed to a device the later is over no older bid of anyone
abbrev pub NeverGoesBack : PlanData → List Line → Type 0
NeverGoesBack plan journal = (front mid rest : List Move) (x i j : ℕ) →
    moves_of journal ≡ front ++ Pass x i ∷ (mid ++ Pass x j ∷ rest) →
    (i < j) × ((d : ℕ) → IsLeaf (plan_lists plan) d →
    cleared_cut (after (plan_lists plan) (moves_of journal)) i d ≤ cleared_cut (after (plan_lists plan) (moves_of journal)) j d)

-- the act in a place is the first that is not legal: the acts before it have a legal journal, after which no move of its
-- form is legal
pub record IsFirstIllegal (plan : PlanData) (acts : List Act) (at : ℕ) : Type 0 where
  pub inside : at < length acts
  pub before : List Move
  pub legal : LegalJournal (plan_lists plan) before
  pub forms : map act_of before ≡ take at acts
  pub none : (m : Move) → slice_get acts at ≡ Some (act_of m) → Legal (plan_lists plan) (after (plan_lists plan) before) m → ⊥

-- why acts are refused: at the first that is not legal; or an allocation failed, which says nothing
abbrev pub AreRefused : PlanData → List Act → ApplyFault → Type 0
AreRefused plan acts (apply_faults.Illegal at) = IsFirstIllegal plan acts at
AreRefused plan acts apply_faults.NoMemory = ⊤
