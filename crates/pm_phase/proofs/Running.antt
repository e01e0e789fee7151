-- What the steps of a phase come to.
use Rattle.std.proofs.Common.{◌≡◌, ◌∙◌, ◌++◌, ℕ, List, length, take, drop, ap, sym}
use Rattle.std.proofs.Math.Seq.{take-append_seam}
use Rattle.std.specs.List.{refill}
use Rattle.std.specs.Prelude.{Vec, All, IfOk, Result, Ok, Err}
use Rattle.std.specs.declared.alloc.Global.{Global}
use Rattle.std.specs.declared.alloc.AllocError.{AllocError}
use Rattle.pm_device.specs.declared.state.Next.{Next}
use Rattle.pm_plan.specs.Plans.{PlanData}
use Rattle.pm_phase.specs.Beginning.{IsOpenedNode}
use Rattle.pm_phase.specs.Closing.{AreClosed, parts_of_nodes}
use Rattle.pm_phase.specs.Nodes.{numbers_of_parts, numbers_of_nodes}
use Rattle.pm_phase.specs.Running.{HasRun}
use Rattle.pm_phase.specs.Telling.{AllStepOn}
use Rattle.pm_phase.specs.declared.node.FreeNode.{FreeNode}
use Rattle.pm_phase.specs.declared.node.NodePart.{NodePart}
use Rattle.pm_phase.specs.declared.phase.PhaseRun.{PhaseRun}

-- what a phase came to, from the clauses of its calls
pub ran_of : (plan : PlanData) (changes : List (Vec Next Global)) (parts : List NodePart) (opened ended : List FreeNode)
    (result : Result PhaseRun AllocError) →
    numbers_of_nodes opened ≡ numbers_of_parts parts → All (IsOpenedNode plan parts) opened → AllStepOn plan changes opened ended →
    IfOk result (λ run. run.parts.items ≡ parts_of_nodes ended) → IfOk result (λ run. AreClosed ended run.links.items) →
    IfOk result (HasRun plan changes parts)
ran_of plan changes parts opened ended (Ok run) numbers handed steps back closed = record {
  opened = opened;
  ended = ended;
  numbers = numbers;
  handed = handed;
  steps = steps;
  back = back;
  closed = closed;
}
ran_of plan changes parts opened ended (Err fault) numbers handed steps back closed = tt

-- a list that is written over one of the same length
pub refilled : (len : ℕ) (items xs : List FreeNode) → length xs ≡ len → refill len items xs ≡ xs
refilled len items xs e = ap (λ (n : ℕ). take n (xs ++ drop (length xs) items)) (sym e) ∙ take-append_seam xs (drop (length xs) items)
