-- A change is refused by the counts of a cluster where it is by those of a state that the cluster stands for.
use Rattle.std.proofs.Common.{◌≡◌, ◌∙◌, sym, ap, ℕ, ◌+◌, arith, inl, inr}
use Rattle.std.specs.Prelude.{Option, Some, None}
use Rattle.pm_base.specs.Cuts.{Cut}
use Rattle.pm_agent.specs.MadeBids.{MadeBid}
use Rattle.pm_device.specs.declared.state.Next.{Next}
use Rattle.pm_market.specs.State.{State}
use Rattle.pm_plan.specs.Plans.{PlanData, end_cut}
use Rattle.pm_stands.specs.Core.{Core}
use Rattle.pm_stands.specs.Stands.{StandsFor}
use Rattle.pm_cluster.specs.Next.{count_of}
use Rattle.pm_cluster.specs.Acts.{IsNextOrNone, NotChanged}
use Rattle.pm_cluster.specs.declared.fault.ChangeFault.{ChangeFault}
use Rattle.pm_cluster.specs.declared.fault.ChangeFault.TheVariants as change_faults

next_alike : (plan : PlanData) (closed closed' : ℕ) (counts counts' : Cut) (d : ℕ) (next : Option Next) → closed ≡ closed' →
    counts d ≡ counts' d →
    IsNextOrNone plan closed counts d next → IsNextOrNone plan closed' counts' d next
next_alike plan closed closed' counts counts' d None same count (inl all) = inl (omega (arith, all, same))
next_alike plan closed closed' counts counts' d None same count (inr made) = inr (sym count ∙ made ∙ ap (λ (p : ℕ). end_cut plan (p + 1) d) same)
next_alike plan closed closed' counts counts' d (Some next) same count is = record {
  device = is.device;
  open_phase = omega (arith, is.open_phase, same);
  number = is.number ∙ ap (λ (n : ℕ). n + 1) count;
  of_phase = omega (arith, is.of_phase, ap (λ (p : ℕ). end_cut plan (p + 1) d) same);
  member = is.member;
  state = is.state;
}

-- a change refused by a cluster's counts is refused alike by those of the state that it stands for
pub refused_alike : (plan : PlanData) (c : Core) (s : State) (made : MadeBid) (fault : ChangeFault) → StandsFor plan c s →
    NotChanged plan c.closed (count_of c) made fault → NotChanged plan s.closed s.counts made fault
refused_alike plan c s made (change_faults.NotNext next) stands (inl none) = inl none
refused_alike plan c s made (change_faults.NotNext next) stands (inr at) =
    inr (at.0, next_alike plan c.closed s.closed (count_of c) s.counts made.next.device next stands.closed (stands.counts made.next.device at.0) at.1, at.2)
refused_alike plan c s made change_faults.NoMemory stands refused = refused
