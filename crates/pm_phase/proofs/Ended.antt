-- What each node of a phase keeps to the end of it, if the parts stood before it.
use Rattle.std.proofs.Common.{◌≡◌, ◌∙◌, sym, ap, subst, ℕ, zero, suc, ◌+◌, ◌<◌, ◌≤◌, List, [], ◌∷◌, length, get_or}
use Rattle.std.proofs.Common.{Option, Some, None, refl, arith, Contains}
use Rattle.std.specs.Prelude.{IfSome, Vec, slice_get, option_map}
use Rattle.std.specs.declared.alloc.Global.{Global}
use Rattle.std.proofs.lemmas.List.{get_or-map, length-map}
use Rattle.std.proofs.lemmas.Option.{slice_get-get_or, slice_get_within, slice_get-map, get_or_from_slice_get}
use Rattle.pm_base.specs.Cuts.{Cut}
use Rattle.pm_cells.specs.declared.message.Message.{Message}
use Rattle.pm_device.specs.declared.state.Next.{Next}
use Rattle.pm_plan.specs.Plans.{PlanData}
use Rattle.pm_phase.specs.KeepingParents.{IsUpHere}
use Rattle.pm_phase.specs.Running.{HasRun}
use Rattle.pm_phase.specs.SettledParts.{cache_of_duty}
use Rattle.pm_phase.specs.Standing.{learnt_of, OwnTells, StandsBefore, PartsStand}
use Rattle.pm_phase.specs.Telling.{AreNext, AreChanges, listed_changes, DutyKeeps, NodeKeeps}
use Rattle.pm_phase.specs.declared.node.Duty.{Duty}
use Rattle.pm_phase.specs.declared.node.Duty.TheVariants.{Device, Parent}
use Rattle.pm_phase.specs.declared.node.FreeNode.{FreeNode}
use Rattle.pm_phase.specs.declared.node.NodePart.{NodePart}
use Rattle.pm_phase.specs.declared.phase.PhaseRun.{PhaseRun}
use Rattle.pm_phase.proofs.OpenedKeeps.{ended_keeps}

-- ---- lists

pub at_inside : {X : Type 0} (xs : List X) (k : ℕ) → k < length xs → (x : X) × (slice_get xs k ≡ Some x)
at_inside [] k lt = absurd (omega (arith, lt))
at_inside (x ∷ xs) zero lt = (x, refl)
at_inside (x ∷ xs) (suc k) lt = at_inside xs k (omega (arith, lt))

-- what a list contains stands in a place
pub contained : {X : Type 0} (xs : List X) (x : X) → Contains xs x → (k : ℕ) × (slice_get xs k ≡ Some x)
contained xs x has = (has.0, slice_get-get_or xs has.0 x has.1 ∙ ap Some has.2)

-- what stands in a place is contained
pub contains_at : {X : Type 0} (xs : List X) (k : ℕ) (x : X) → slice_get xs k ≡ Some x → Contains xs x
contains_at xs k x is = (k, slice_get_within xs k x is, get_or_from_slice_get xs k x x is)

-- ---- nodes

some_changes : (o : Option (Vec Next Global)) → IfSome o (λ l. l.items ≡ listed_changes o)
some_changes None = tt
some_changes (Some l) = refl

-- no bids tell anything
pub own_none : (duty : Duty) → OwnTells [] duty
own_none (Device device) = tt
own_none (Parent parent) = λ k d lt. absurd (omega (arith, lt))

-- a node with its place among the links, and what it keeps from the part that it was before the phase
pub record NodeEnded (plan : PlanData) (cut : Cut) (parts : List NodePart) (x : ℕ) (node : FreeNode) : Type 0 where
  -- the part that it was
  pub part : NodePart
  pub was : slice_get parts x ≡ Some part
  -- its number and its place among the links
  pub number : node.part.number ≡ x
  pub up : IsUpHere x node.up
  -- what it keeps, with any own bids that told what they are to
  pub duty : (own : List Message) → OwnTells own part.duty →
      DutyKeeps plan x (cut x) (cache_of_duty part.duty) (learnt_of part.duty) own node.part.duty node.up node.downs.items

module _ (plan : PlanData) (cut : Cut) (changes : List (Vec Next Global)) (parts : List NodePart) (run : PhaseRun)
    (stand : PartsStand plan parts cut) (next : AreChanges plan cut changes) (ran : HasRun plan changes parts run) where
  opened_many : length ran.opened ≡ length parts
  opened_many =
      sym (length-map ran.opened (λ (node : FreeNode). node.part.number)) ∙ ap length ran.numbers
      ∙ length-map parts (λ (part : NodePart). part.number)

  -- as many nodes as the plan has, and the auctioneer
  pub ended_many : length ran.ended ≡ length plan.entries + 1
  ended_many = ran.steps.many ∙ opened_many ∙ stand.many

  number_opened : (k : ℕ) (d : FreeNode) → k < length ran.opened → (get_or ran.opened k d).part.number ≡ k
  number_opened k d inside =
      let lt : k < length parts = omega (arith, inside, opened_many) in
      sym (get_or-map (λ (node : FreeNode). node.part.number) ran.opened k d 0 inside)
      ∙ ap (λ (ns : List ℕ). get_or ns k 0) ran.numbers
      ∙ get_or-map (λ (part : NodePart). part.number) parts k d.part 0 lt
      ∙ (stand.each k (get_or parts k d.part) (slice_get-get_or parts k d.part lt)).number

  -- the part that a node is made of stands in its place
  handed_at : (k : ℕ) (d : FreeNode) (inside : k < length ran.opened) → slice_get parts k ≡ Some (ran.handed k d inside).part
  handed_at k d inside =
      let h = ran.handed k d inside in
      let at = contained parts h.part h.has in
      let same : at.0 ≡ k = sym (stand.each at.0 h.part at.1).number ∙ sym h.number ∙ number_opened k d inside in
      ap (slice_get parts) (sym same) ∙ at.1

  ended_kept : (x : ℕ) (node : FreeNode) (is : slice_get ran.ended x ≡ Some node) (inside : x < length ran.opened) (own : List Message) →
      OwnTells own (ran.handed x node inside).part.duty →
      NodeKeeps plan (cut x) (cache_of_duty (ran.handed x node inside).part.duty) (learnt_of (ran.handed x node inside).part.duty) own node
  ended_kept x node is inside own tells =
      let h = ran.handed x node inside in
      let n : ℕ = (get_or ran.opened x node).part.number in
      let same : n ≡ x = number_opened x node inside in
      let stands = stand.each x h.part (handed_at x node inside) in
      subst (NodeKeeps plan (cut x) (cache_of_duty h.part.duty) (learnt_of h.part.duty) own) (get_or_from_slice_get ran.ended x node node is)
      (ended_keeps plan changes parts run ran x node inside (cut x) own (listed_changes (slice_get changes n)) (some_changes (slice_get changes n))
      (subst (λ (j : ℕ). AreNext plan j (cut x) (listed_changes (slice_get changes j))) (sym same) (next x))
      (subst (λ (j : ℕ). StandsBefore plan parts j (cut x) own h.part.duty) (sym same)
      (record { stands = stands.stands; told = stands.told; tells = tells })))

  -- what the node in a place keeps to the end
  pub ended_at : (x : ℕ) (node : FreeNode) → slice_get ran.ended x ≡ Some node → NodeEnded plan cut parts x node
  ended_at x node is =
      let inside : x < length ran.opened = omega (arith, slice_get_within ran.ended x node is, ran.steps.many) in
      let h = ran.handed x node inside in
      let number : node.part.number ≡ x =
      ap (λ (n : FreeNode). n.part.number) (sym (get_or_from_slice_get ran.ended x node node is)) ∙ (ran.steps.each x node inside).number
      ∙ number_opened x node inside in
      record {
        part = h.part;
        was = handed_at x node inside;
        number = number;
        up = subst (λ (j : ℕ). IsUpHere j node.up) number (ended_kept x node is inside [] (own_none h.part.duty)).up;
        duty = λ own tells.
            subst (λ (j : ℕ). DutyKeeps plan j (cut x) (cache_of_duty h.part.duty) (learnt_of h.part.duty) own node.part.duty node.up node.downs.items)
            number
            (ended_kept x node is inside own tells).duty;
      }

  -- and its part came back
  pub part_at : (x : ℕ) (node : FreeNode) → slice_get ran.ended x ≡ Some node → slice_get run.parts.items x ≡ Some node.part
  part_at x node is =
      ap (λ (ps : List NodePart). slice_get ps x) ran.back ∙ slice_get-map (λ (n : FreeNode). n.part) ran.ended x
      ∙ ap (option_map (λ (n : FreeNode). n.part)) is

  -- the node in a place
  pub node_at : (x : ℕ) → x ≤ length plan.entries → (node : FreeNode) × (slice_get ran.ended x ≡ Some node)
  node_at x le = at_inside ran.ended x (omega (arith, le, ended_many))
