-- What the thread that finishes a run alone rests on.
use Rattle.std.proofs.Common.{◌≡◌, ◌≢◌, ◌∙◌, sym, ap, ℕ, ℤ, Bool, ◌+◌, ◌≤◌, refl, arith, inl, inr}
use Rattle.std.specs.Prelude.{Option, Some, None}
use Rattle.std.proofs.lemmas.Bool.{both_ways}
use Rattle.pm_base.specs.Cuts.{Cut}
use Rattle.pm_device.specs.declared.state.DeviceState.{DeviceState}
use Rattle.pm_device.specs.declared.state.Next.{Next}
use Rattle.pm_agent.specs.MadeBids.{MadeBid}
use Rattle.pm_market.specs.Lists.{Lists, nodes, IsLeaf, Lawful}
use Rattle.pm_market.specs.State.{State}
use Rattle.pm_market.specs.Sound.{Sound}
use Rattle.pm_market.specs.Moves.{Idle, Legal}
use Rattle.pm_market.specs.declared.moves.Move.TheVariants.{Change, Learn, Publish, Clear, Pass, Close}
use Rattle.pm_laws.proofs.Kept.{sound_after}
use Rattle.pm_plan.specs.Plans.{PlanData, node, kind_of, phases, is_member}
use Rattle.pm_plan.specs.States.{state}
use Rattle.pm_plan.specs.Kept.{IsPlan}
use Rattle.pm_plan.specs.Market.{plan_lists}
use Rattle.pm_plan.proofs.MarketLists.{lawful, phases-is, end-is}
use Rattle.pm_market.proofs.Tree.{leaf_node}
use Rattle.pm_stands.specs.Actors.{NoMoveOf}
use Rattle.pm_cluster.specs.Next.{HasNoNext, IsNext}
use Rattle.pm_cluster.specs.Acts.{moves_of, IsNextOrNone, NotChanged}
use Rattle.pm_cluster.specs.declared.fault.ChangeFault.{ChangeFault}
use Rattle.pm_cluster.specs.declared.fault.ChangeFault.TheVariants as change_faults
use Rattle.pm_board.specs.Boards.{BoardValue, board_state, IsJournal, kept_ends, ends_to}
use Rattle.pm_turns.specs.Settled.{IsSettled}
use Rattle.pm_plan.proofs.MarketLists.{nodes_are}

-- the state after the journal of a board
pub sound_board : (b : BoardValue) → IsPlan b.plan → IsJournal b.plan b.lines → Sound (plan_lists b.plan) (board_state b)
sound_board b is_plan journal = sound_after (plan_lists b.plan) (lawful b.plan is_plan) (moves_of b.lines) journal.legal

-- where all phases are closed all is made, and nothing is pending
pub settled : (b : BoardValue) → IsPlan b.plan → IsJournal b.plan b.lines → kept_ends b.ends ≡ ends_to b.plan (board_state b).closed →
    (board_state b).closed ≡ phases b.plan → IsSettled b
settled b is_plan journal ends done =
    let sound = sound_board b is_plan journal in
    let complete = done ∙ sym (phases-is b.plan) in record {
      journal = journal;
      complete = complete;
      made = sound.ended_counts complete;
      quiet = sound.ended_idle complete;
      ends = ends ∙ ap (ends_to b.plan) done;
    }

-- where no node has a move nothing is pending
pub idle : (lists : Lists) (s : State) → Lawful lists → ((x : ℕ) → x ≤ nodes lists → NoMoveOf lists s x) → Idle lists s
idle lists s law none (Learn child number') legal =
    none (Rattle.pm_market.specs.Lists.parent lists child) (omega (arith, law.earlier child legal.0, legal.0.1)) (Learn child number') refl legal
idle lists s law none (Publish node' number') legal = none node' legal.0.1 (Publish node' number') refl legal
idle lists s law none (Clear index) legal = none 0 (omega arith) (Clear index) refl legal
idle lists s law none (Pass node' index) legal = none node' legal.0.1 (Pass node' index) refl legal
idle lists s law none (Change device number') legal = legal
idle lists s law none (Close phase) legal = legal

-- where nothing is pending and no device has a change left the open phase can be closed
pub can_close : (b : BoardValue) → IsPlan b.plan → IsJournal b.plan b.lines → (board_state b).closed ≢ phases b.plan →
    Idle (plan_lists b.plan) (board_state b) →
    ((d : ℕ) → IsLeaf (plan_lists b.plan) d → HasNoNext b.plan (board_state b).closed (board_state b).counts d) →
    Legal (plan_lists b.plan) (board_state b) (Close ((board_state b).closed + 1))
can_close b is_plan journal left quiet none =
    let sound = sound_board b is_plan journal in
    let open_phase : (board_state b).closed + 1 ≤ phases b.plan = omega (arith, left, sound.closed_within, phases-is b.plan) in (
      refl,
      omega (arith, open_phase, phases-is b.plan),
      λ d leaf. elim (none d leaf) [
        | inl all ↦ absurd (omega (arith, all, open_phase))
        | inr made ↦
            let here = leaf_node (plan_lists b.plan) (lawful b.plan is_plan) d leaf in
            made ∙ sym (end-is b.plan ((board_state b).closed + 1) d here.0
            (omega (arith, here.1, nodes_are b.plan, is_plan.nodes.one_each)) open_phase is_plan.in_phases)
      ],
      quiet,
    )

one_next : (a b : Next) → a.device ≡ b.device → a.number ≡ b.number → a.member ≡ b.member → a.state.0 ≡ b.state.0 → a ≡ b
one_next a b e f g h =
    let states : a.state ≡ b.state = ap (λ (z : ℤ). record { 0 = z }) h in
    ap (λ (x : ℕ). record a { device = x }) e ∙ ap (λ (x : ℕ). record { device = b.device; number = x; member = a.member; state = a.state }) f
    ∙ ap (λ (x : Bool). record { device = b.device; number = b.number; member = x; state = a.state }) g
    ∙ ap (λ (x : DeviceState). record { device = b.device; number = b.number; member = b.member; state = x }) states

found_next : (plan : PlanData) (closed : ℕ) (counts : Cut) (d : ℕ) (found : Option Next) (b : Next) → IsNextOrNone plan closed counts d found →
    IsNext plan closed counts d b → found ≡ Some b
found_next plan closed counts d (Some a) b at_a at_b =
    let numbers : a.number ≡ b.number = omega (arith, at_a.number, at_b.number) in
    ap Some (one_next a b (at_a.device ∙ sym at_b.device) numbers
    (at_a.member ∙ ap (is_member plan d) numbers ∙ sym at_b.member)
    (at_a.state ∙ ap (state plan d) numbers ∙ sym at_b.state))
found_next plan closed counts d None b none at_b = absurd (elim none [
  | inl all ↦ omega (arith, all, at_b.open_phase)
  | inr made ↦ omega (arith, made, at_b.number, at_b.of_phase)
])

-- a device's next change, of its kind, is not refused
pub not_refused : (plan : PlanData) (closed : ℕ) (counts : Cut) (made : MadeBid) (fault : ChangeFault) → NotChanged plan closed counts made fault →
    IsLeaf (plan_lists plan) made.next.device → IsNext plan closed counts made.next.device made.next →
    kind_of (node plan made.next.device) ≡ Some made.kind → ⊥
not_refused plan closed counts made (change_faults.NotNext next) refused leaf is kind = elim refused [
  | inl none ↦ both_ways _ none.0 leaf
  | inr other ↦ elim other.2 [
    | inl not_next ↦ not_next (found_next plan closed counts made.next.device next made.next other.1 is)
    | inr not_kind ↦ not_kind kind
  ]
]
not_refused plan closed counts made change_faults.NoMemory refused leaf is kind = refused
