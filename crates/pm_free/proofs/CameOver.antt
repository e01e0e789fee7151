-- What is read after a phase came over its links.
use Rattle.std.proofs.Common.{◌≡◌, ◌∙◌, sym, ap, subst, ℕ, ◌-◌, ◌≤◌, List, [], map, Option, Some, None, inl, inr, refl}
use Rattle.std.specs.Prelude.{Vec, Result, Ok, Err, IfOk, IfSome, option_map}
use Rattle.std.specs.declared.alloc.Global.{Global}
use Rattle.pm_cells.specs.declared.link.LinkLog.{LinkLog}
use Rattle.pm_device.specs.declared.state.Next.{Next}
use Rattle.pm_plan.specs.Ends.{EndValue}
use Rattle.pm_plan.specs.Kept.{IsPlan}
use Rattle.pm_plan.specs.Plans.{PlanData}
use Rattle.pm_phase.specs.Nodes.{held_by_node}
use Rattle.pm_phase.specs.PartsEnd.{EndsPlainly}
use Rattle.pm_phase.specs.Running.{HasRun}
use Rattle.pm_phase.specs.Standing.{PartsStand}
use Rattle.pm_phase.specs.declared.node.NodePart.{NodePart}
use Rattle.pm_phase.specs.declared.phase.PhaseRun.{PhaseRun}
use Rattle.pm_phase.proofs.HeldEnd.{ends_plainly}
use Rattle.pm_free.specs.Counting.{AreTold, HaveNone}
use Rattle.pm_free.specs.Nodes.{AreAfter, StandAfter, IsReadAfter, IsSettledBy, IsOutcome}
use Rattle.pm_free.specs.OverLinks.{CameOverLinks}
use Rattle.pm_free.specs.declared.phase.FreePhase.{FreePhase}
use Rattle.pm_free.specs.declared.phase.Nodes.{Nodes}
use Rattle.pm_free.specs.declared.phase.Carried.{Carried}
use Rattle.pm_free.proofs.Counted.{after_is, counts_are, changes_next, none_more}

-- the nodes stand after the phase, and its end came over the links
pub record Came (plan : PlanData) (phase : ℕ) (parts left : List NodePart) (kept : FreePhase) (carried : Carried) : Type 0 where
  -- so many changes are made
  pub after : AreAfter plan phase left carried.made.items
  -- and the end is read of the parts
  pub over : CameOverLinks plan phase parts left kept carried.end.end

-- of a settled run
pub run_came : (plan : PlanData) → IsPlan plan → (phase : ℕ) (parts : List NodePart) (made : Option (Vec ℕ Global)) (changes : List (Vec Next Global))
    (run : PhaseRun) (kept : FreePhase) (carried : Carried) → 1 ≤ phase → IfSome made (λ m. AreAfter plan (phase - 1) parts m.items) →
    AreTold plan changes → HasRun plan changes parts run → IsSettledBy plan made changes run →
    IsReadAfter plan phase made changes run.parts.items carried → kept.links.items ≡ run.links.items →
    kept.held.items ≡ map held_by_node run.parts.items → Came plan phase parts run.parts.items kept carried
run_came plan is_plan phase parts None changes run kept carried first stand told ran settled read logs held = absurd settled
run_came plan is_plan phase parts (Some m) changes run kept carried first stand told ran settled read logs held =
    let made : List ℕ = m.items in
    let counts : List ℕ = carried.made.items in
    let stood = subst (PartsStand plan parts) (sym stand.counts) stand.ends.stand in
    let next = changes_next plan phase made counts changes told read.counted in
    let ends = subst (EndsPlainly plan run.parts.items) (after_is plan phase made counts changes first stand.counts read.counted)
    (ends_plainly plan is_plan made changes parts run stood next ran settled) in
    record {
      after = record { counts = counts_are plan phase made counts changes first stand.counts read.counted; ends = ends };
      over = record {
        made = made;
        changes = changes;
        before = stand.counts;
        stood = stood;
        next = next;
        ran = inl (record { run = run; ran = ran; settled = settled; parts_left = refl; logs = logs });
        held = held;
        read = read.read;
        plain = read.read ∙ ends.end;
      };
    }

-- of a phase without changes
pub rest_came : (plan : PlanData) → (phase : ℕ) (parts : List NodePart) (made : Option (Vec ℕ Global)) (changes : List (Vec Next Global))
    (kept : FreePhase) (carried : Carried) → 1 ≤ phase → IfSome made (λ m. AreAfter plan (phase - 1) parts m.items) →
    AreTold plan changes → HaveNone changes → IsReadAfter plan phase made changes parts carried → kept.links.items ≡ [] →
    kept.held.items ≡ map held_by_node parts → Came plan phase parts parts kept carried
rest_came plan phase parts None changes kept carried first stand told none read logs held = absurd read
rest_came plan phase parts (Some m) changes kept carried first stand told none read logs held =
    let made : List ℕ = m.items in
    let counts : List ℕ = carried.made.items in
    let ends = subst (EndsPlainly plan parts) (none_more plan phase made counts changes first stand.counts read.counted none) stand.ends in
    record {
      after = record { counts = counts_are plan phase made counts changes first stand.counts read.counted; ends = ends };
      over = record {
        made = made;
        changes = changes;
        before = stand.counts;
        stood = subst (PartsStand plan parts) (sym stand.counts) stand.ends.stand;
        next = changes_next plan phase made counts changes told read.counted;
        ran = inr (record { none = none; parts_left = refl; logs = logs });
        held = held;
        read = read.read;
        plain = read.read ∙ ends.end;
      };
    }

-- ---- what the phase leaves

-- what follows of a value follows of a result
pub ok_too : {A E : Type 0} (P Q : A → Type 0) (r : Result A E) → ((a : A) → P a → Q a) → IfOk r P → IfOk r Q
ok_too P Q (Ok a) then is = then a is
ok_too P Q (Err e) then is = is

-- the nodes that are left stand, and the end came over the links, if something came
pub record Leaves (plan : PlanData) (phase : ℕ) (parts : List NodePart) (left : Nodes) (kept : FreePhase) : Type 0 where
  -- for the next phase
  pub stand : StandAfter plan phase left
  pub over : IfSome kept.end (λ end. CameOverLinks plan phase parts left.parts.items kept end.end)

leaves : (plan : PlanData) (phase : ℕ) (parts : List NodePart) (own : Vec NodePart Global) (links : Vec (Option LinkLog) Global)
    (came : Option Carried) (left : Nodes) (kept : FreePhase) → IsOutcome own links came left kept →
    IfSome came (λ c. Came plan phase parts own.items kept c) → Leaves plan phase parts left kept
leaves plan phase parts own links came left kept is all =
    let mine = subst (λ (ps : Vec NodePart Global). IfSome came (λ c. Came plan phase parts ps.items kept c)) (sym is.same_parts) all in
    record {
      stand = subst (λ (o : Option (Vec ℕ Global)). IfSome o (λ made. AreAfter plan phase left.parts.items made.items)) (sym is.counts) (stands came mine);
      over = subst (λ (o : Option EndValue). IfSome o (λ end. CameOverLinks plan phase parts left.parts.items kept end.end)) (sym is.ends) (comes came mine);
    }
  where
    stands : (o : Option Carried) → IfSome o (λ c. Came plan phase parts left.parts.items kept c) →
        IfSome (option_map (λ (c : Carried). c.made) o) (λ made. AreAfter plan phase left.parts.items made.items)
    stands None is = is
    stands (Some c) is = is.after

    comes : (o : Option Carried) → IfSome o (λ c. Came plan phase parts left.parts.items kept c) →
        IfSome (option_map (λ (c : Carried). c.end) o) (λ end. CameOverLinks plan phase parts left.parts.items kept end.end)
    comes None is = is
    comes (Some c) is = is.over

-- those of a run with changes do
pub run_leaves : (plan : PlanData) → IsPlan plan → (phase : ℕ) (parts : List NodePart) (made : Option (Vec ℕ Global)) (changes : List (Vec Next Global))
    (run : PhaseRun) (came : Option Carried) (left : Nodes) (kept : FreePhase) → 1 ≤ phase →
    IfSome made (λ m. AreAfter plan (phase - 1) parts m.items) → AreTold plan changes → HasRun plan changes parts run →
    IfSome came (λ c. IsSettledBy plan made changes run) → IfSome came (IsReadAfter plan phase made changes run.parts.items) →
    IsOutcome run.parts run.links came left kept → Leaves plan phase parts left kept
run_leaves plan is_plan phase parts made changes run came left kept first stand told ran settled read is =
    leaves plan phase parts run.parts run.links came left kept is (by came settled read)
  where
    by : (o : Option Carried) → IfSome o (λ c. IsSettledBy plan made changes run) → IfSome o (IsReadAfter plan phase made changes run.parts.items) →
        IfSome o (λ c. Came plan phase parts run.parts.items kept c)
    by None settled read = settled
    by (Some c) settled read =
        run_came plan is_plan phase parts made changes run kept c first stand told ran settled read
        (ap (λ (ls : Vec (Option LinkLog) Global). ls.items) is.same_links) is.held

-- and those of a phase without
pub rest_leaves : (plan : PlanData) (phase : ℕ) (own : Vec NodePart Global) (made : Option (Vec ℕ Global)) (changes : List (Vec Next Global))
    (links : Vec (Option LinkLog) Global) (came : Option Carried) (left : Nodes) (kept : FreePhase) → 1 ≤ phase →
    IfSome made (λ m. AreAfter plan (phase - 1) own.items m.items) → AreTold plan changes → HaveNone changes →
    IfSome came (IsReadAfter plan phase made changes own.items) → links.items ≡ [] → IsOutcome own links came left kept →
    Leaves plan phase own.items left kept
rest_leaves plan phase own made changes links came left kept first stand told none read empty is =
    leaves plan phase own.items own links came left kept is (by came read)
  where
    by : (o : Option Carried) → IfSome o (IsReadAfter plan phase made changes own.items) → IfSome o (λ c. Came plan phase own.items own.items kept c)
    by None read = read
    by (Some c) read =
        rest_came plan phase own.items made changes kept c first stand told none read
        (ap (λ (ls : Vec (Option LinkLog) Global). ls.items) is.same_links ∙ empty) is.held
