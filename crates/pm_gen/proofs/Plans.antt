-- The parts of the demo cluster make a plan.
use Rattle.std.proofs.Common.{◌≡◌, ℕ, zero, suc, ◌+◌, ◌-◌, ◌*◌, ◌<◌, ◌≤◌, pos, true, false, nat_le, List, [], ◌∷◌, ◌++◌}
use Rattle.std.proofs.Common.{length, map, get_or, None, Result, Ok, refl, sym, ap, ◌∙◌, arith}
use Rattle.std.specs.Result.{IsOk, is_ok}
use Rattle.std.specs.List.{range_with_len}
use Rattle.std.proofs.lemmas.List.{length-map}
use Rattle.std.proofs.lemmas.List.FromFn.{length-range_with_len}
use Rattle.std.proofs.lemmas.List.Sums.{sum_by-cons}
use Rattle.std.proofs.lemmas.Bool.Decides.{nat_tests}
use Rattle.pm_basis.specs.Prices.{BasisValue}
use Rattle.pm_tree.specs.Entries.{Entry, leaves_of, is_leaf_at}
use Rattle.pm_plan.specs.declared.refusal.Cause.TheVariants as cause
use Rattle.pm_plan.specs.declared.refusal.PlanFault.{PlanFault}
use Rattle.pm_plan.specs.declared.refusal.PlanFault.TheVariants as faults
use Rattle.pm_plan.specs.declared.refusal.Place.TheVariants.{Document, Phase}
use Rattle.pm_plan.specs.declared.refusal.Refusal.{Refusal}
use Rattle.pm_plan.specs.Parts.{NodePart, concentrator, limited, device, number, array, points, PhasePart, events, tick, is_device, AreNodesOf}
use Rattle.pm_plan.specs.Devices.{is_member_after}
use Rattle.pm_plan.specs.declared.node.Node.TheVariants.{Concentrator}
use Rattle.pm_plan.specs.Plans.{PlanData, NodeData, node_at, changes_of, all_changes}
use Rattle.pm_plan.specs.Plans as plans
use Rattle.pm_base.specs.Limits.{most_phases, most_events, most_changes}
use Rattle.pm_plan.specs.Building.{add_node, add_event, phase_of, add_phase, with_tick, with_phase, empty_plan, checked_plan}
use Rattle.pm_plan.specs.Refusals.{check, refusal_in}
use Rattle.pm_base.specs.Outcomes.{◌>>=◌, ◌>>◌, fold_from, Refuses}
use Rattle.pm_gen.specs.Draws.{first_seed}
use Rattle.pm_gen.specs.Nodes.{demo_entries, demo_nodes, concentrator_count}
use Rattle.pm_gen.specs.Rounds.{is_joined, turns, round_len, round_picks, rounds, demo_phases, seed_after}
use Rattle.pm_gen.specs.Demo.{demo_basis, seed_after_devices, demo_plan_from, demo_plan, is_size}
use Rattle.pm_gen.proofs.Parts.{planned_for, devices_planned, with_nodes, add_plain_nodes, demo_nodes-plain, length-demo_nodes, demo_nodes-of_entries}
use Rattle.pm_gen.proofs.Trees.{is_leaf-demo}
use Rattle.pm_gen.proofs.Drafts.{Stands, stands-ticked}
use Rattle.pm_gen.proofs.Turns.{IsDraft, AreDevices, turns-accepted, length-turns, picks-are_devices, range-are_devices, length-picks, joins-are_turns}

-- ---- the draft of the nodes alone

planned_for-changes : (part : NodePart) → changes_of (planned_for part) ≡ []
planned_for-changes concentrator = refl
planned_for-changes (limited floor ceiling) = refl
planned_for-changes (device kind (number start)) = refl
planned_for-changes (device kind (array demands)) = refl
planned_for-changes (device kind (points pairs)) = refl

nothing_at : (parts : List NodePart) (d : ℕ) → changes_of (get_or (map planned_for parts) d Concentrator) ≡ []
nothing_at [] d = refl
nothing_at (part ∷ parts) zero = planned_for-changes part
nothing_at (part ∷ parts) (suc d) = nothing_at parts d

nothing_planned : (parts : List NodePart) (d : ℕ) → changes_of (node_at (map planned_for parts) d) ≡ []
nothing_planned parts zero = refl
nothing_planned parts (suc d) = nothing_at parts d

no_changes : (parts : List NodePart) → all_changes (map planned_for parts) ≡ 0
no_changes [] = refl
no_changes (part ∷ parts) =
    sum_by-cons (λ (n : NodeData). length (changes_of n)) (planned_for part) (map planned_for parts)
    ∙ (let first = ap length (planned_for-changes part) in
    let rest = no_changes parts in
    omega arith)

-- the devices are those of the tree
devices_of : (size seed i : ℕ) → 1 ≤ i → i ≤ size →
    plans.is_device (node_at (map planned_for (demo_nodes size seed)) (concentrator_count size + i)) ≡ true
unfolding leaves_of
devices_of size seed i low high =
    let place : concentrator_count size + i ≡ suc (concentrator_count size + i - 1) = omega arith in
    ap (λ d. plans.is_device (node_at (map planned_for (demo_nodes size seed)) d)) place
    ∙ devices_planned (demo_nodes size seed) (demo_nodes-plain size seed) (concentrator_count size + i - 1)
    ∙ ap (λ leaves. get_or leaves (concentrator_count size + i - 1) false) (demo_nodes-of_entries size seed)
    ∙ ap (is_leaf_at (demo_entries size)) (sym place)
    ∙ is_leaf-demo size i low high

few_enough : (most n : ℕ) → n ≤ most → nat_le n most ≡ true
few_enough most n low = grind (arith, nat_tests)

module _ (size : ℕ) (some : 1 ≤ size) (few : size ≤ 200) where
  -- the plan of the nodes
  abbrev nodes_alone : ℕ → PlanData
  nodes_alone seed = with_nodes (empty_plan demo_basis (demo_entries size)) (map planned_for (demo_nodes size seed))

  stands-first : (seed : ℕ) → Stands size [] 0 (nodes_alone seed)
  unfolding is_joined
  stands-first seed = record {
    entries_are = refl;
    one_each = length-map (demo_nodes size seed) planned_for ∙ length-demo_nodes size seed;
    devices = λ i low high. devices_of size seed i low high;
    joined = λ i low high. ap is_member_after (nothing_planned (demo_nodes size seed) (concentrator_count size + i));
    few = omega (arith, no_changes (demo_nodes size seed));
  }

  -- ---- one phase

  tick-accepted : (p most : ℕ) (earlier : List ℕ) (plan : PlanData) → Stands size earlier most plan → most + 210 ≤ most_changes
      → IsDraft size few earlier (most + 210) (add_phase p plan (tick (pos 15)))
  unfolding add_phase phase_of
  tick-accepted p most earlier plan stands small =
      let ticked = stands-ticked size earlier most plan p (pos 15) stands in
      let fits = few_enough most_changes (all_changes (with_tick p (pos 15) plan).nodes) (omega (arith, ticked.few)) in (
        with_tick p (pos 15) plan,
        ap (λ b. check cause.RunTooLarge (Phase p) b >> Ok (with_tick p (pos 15) plan)) fits,
        record {
          entries_are = ticked.entries_are;
          one_each = ticked.one_each;
          devices = ticked.devices;
          joined = ticked.joined;
          few =
              omega (arith, ticked.few);
        },
      )

  events-accepted : (p most : ℕ) (earlier devices : List ℕ) (plan : PlanData) → Stands size earlier most plan →
      AreDevices size few devices → length devices ≤ 200 → most + length devices ≤ most_changes
      → IsDraft size few (earlier ++ devices) (most + length devices) (add_phase p plan (events (turns earlier devices)))
  unfolding add_phase phase_of
  events-accepted p most earlier devices plan stands all short small =
      let demo_plan = turns-accepted size few 1 p earlier devices most plan all stands in
      let listed = few_enough most_events (length (turns earlier devices)) (omega (arith, length-turns earlier devices)) in
      let fits = few_enough most_changes (all_changes demo_plan.0.nodes) (omega (arith, demo_plan.2.few)) in (
        with_phase demo_plan.0 None,
        ap (λ b. (check cause.RunTooLarge (Phase p) b >> (fold_from 1 (add_event p) plan (turns earlier devices) >>= λ draft.
            Ok (with_phase draft None))) >>= λ draft. check cause.RunTooLarge (Phase p) (nat_le (all_changes draft.nodes) most_changes) >> Ok draft) listed
            ∙ ap (λ draft. (draft >>= λ d. Ok (with_phase d None)) >>= λ d. check cause.RunTooLarge (Phase p)
            (nat_le (all_changes d.nodes) most_changes) >> Ok d) demo_plan.1
            ∙ ap (λ b. check cause.RunTooLarge (Phase p) b >> Ok (with_phase demo_plan.0 None)) fits,
        record {
          entries_are = demo_plan.2.entries_are;
          one_each = demo_plan.2.one_each;
          devices = demo_plan.2.devices;
          joined = demo_plan.2.joined;
          few = demo_plan.2.few;
        },
      )

  -- ---- the rounds

  -- each round makes at most 210 changes in its tick, and 21 in its events
  rounds-accepted : (n p most seed : ℕ) (earlier : List ℕ) (plan : PlanData) → Stands size earlier most plan → most + n * 231 ≤ most_changes
      → (seed_after : PlanData) × (fold_from p add_phase plan (rounds n size earlier seed) ≡ Ok seed_after)
  unfolding rounds
  rounds-accepted zero p most seed earlier plan stands small = (plan, refl)
  rounds-accepted (suc n) p most seed earlier plan stands small =
      let count = length-picks (round_len size) size seed in
      let ticked = tick-accepted p most earlier plan stands (omega arith) in
      let turned = events-accepted (p + 1) (most + 210) earlier (round_picks size seed) ticked.0 ticked.2
      (picks-are_devices size few (round_len size) seed some) (omega arith) (omega arith) in
      let rest = rounds-accepted n (p + 1 + 1) (most + 210 + length (round_picks size seed)) (seed_after (round_len size) seed)
      (earlier ++ round_picks size seed) turned.0 turned.2 (omega arith) in (
        rest.0,
        ap (λ first. first >>= λ draft. fold_from (p + 1) add_phase draft
            (events (turns earlier (round_picks size seed)) ∷ rounds n size (earlier ++ round_picks size seed) (seed_after (round_len size) seed))) ticked.1
            ∙ ap (λ first. first >>= λ draft. fold_from (p + 1 + 1) add_phase draft
            (rounds n size (earlier ++ round_picks size seed) (seed_after (round_len size) seed))) turned.1
            ∙ rest.1,
      )

  phases-accepted : (seed : ℕ) (plan : PlanData) → Stands size [] 0 plan → (seed_after : PlanData)
      × (fold_from 1 add_phase plan (demo_phases size seed) ≡ Ok seed_after)
  unfolding demo_phases
  phases-accepted seed plan stands =
      let count = length-range_with_len 1 size in
      let first = events-accepted 1 0 [] (range_with_len 1 size) plan stands
      (range-are_devices size few 1 size (omega arith) (omega arith)) (omega arith) (omega arith) in
      let rest = rounds-accepted 10 2 (0 + length (range_with_len 1 size)) seed (range_with_len 1 size) first.0 first.2 (omega arith) in (
        rest.0,
        ap (λ joins. fold_from 1 add_phase plan (events joins ∷ rounds 10 size (range_with_len 1 size) seed)) (joins-are_turns size)
            ∙ ap (λ result. result >>= λ draft. fold_from 2 add_phase draft (rounds 10 size (range_with_len 1 size) seed)) first.1
            ∙ rest.1,
      )

  -- ---- the whole

  length-rounds : (n seed : ℕ) (earlier : List ℕ) → length (rounds n size earlier seed) ≡ 2 * n
  unfolding rounds
  length-rounds zero seed earlier = refl
  length-rounds (suc n) seed earlier = let rest = length-rounds n (seed_after (round_len size) seed) (earlier ++ round_picks size seed) in omega arith

  length-demo_phases : (seed : ℕ) → length (demo_phases size seed) ≡ 21
  unfolding demo_phases
  length-demo_phases seed = let rest = length-rounds 10 seed (range_with_len 1 size) in omega arith

  -- the demo cluster of 1 to 200 devices has a plan, whatever the seed
  pub made_from-is_plan : (seed : ℕ) → (plan : PlanData) × (demo_plan_from size seed ≡ Ok plan)
  unfolding demo_plan_from checked_plan
  made_from-is_plan seed =
      let later = seed_after_devices size seed in
      let short = few_enough most_phases (length (demo_phases size later)) (omega (arith, length-demo_phases later)) in
      let nodes = add_plain_nodes 1 (empty_plan demo_basis (demo_entries size)) (demo_nodes size seed) (demo_nodes-plain size seed) in
      let phases = phases-accepted later (nodes_alone seed) (stands-first seed) in (
        phases.0,
        ap (λ b. check cause.RunTooLarge Document b >>
            (fold_from 1 add_node (empty_plan demo_basis (demo_entries size)) (demo_nodes size seed) >>= λ draft.
            fold_from 1 add_phase draft (demo_phases size later))) short
            ∙ ap (λ result. result >>= λ draft. fold_from 1 add_phase draft (demo_phases size later)) nodes
            ∙ phases.1,
      )

-- the demo cluster has a plan
pub made-is-plan : (size given : ℕ) → 1 ≤ size → size ≤ 200 → IsOk (demo_plan size given)
made-is-plan size given some few =
    let demo_plan = made_from-is_plan size some few (first_seed given) in
    ap is_ok demo_plan.1

-- a size within the limits has a plan
pub size_has_plan : (size given : ℕ) → is_size size ≡ true → IsOk (demo_plan size given)
size_has_plan size given within =
    let low : 1 ≤ size = grind (arith, nat_tests) in
    let high : size ≤ 200 = grind (arith, nat_tests) in
    made-is-plan size given low high

-- what the parts give, by where they come from
pub read_is_made : (size seed : ℕ) (basis : BasisValue) (entries : List Entry) (nodes : List NodePart) (phases : List PhasePart)
    → basis ≡ demo_basis → entries ≡ demo_entries size → nodes ≡ demo_nodes size seed →
    phases ≡ demo_phases size (seed_after_devices size seed) → checked_plan basis entries nodes phases ≡ demo_plan_from size seed
unfolding demo_plan_from
read_is_made size seed basis entries nodes phases basis_is entries_are nodes_are phases_are =
    (λ i. checked_plan (basis_is i) (entries_are i) (nodes_are i) (phases_are i))

-- only an allocation failure keeps the plan from being made
pub plan_fault_is_memory : (size seed : ℕ) (fault : PlanFault) (read : Result PlanData Refusal) → 0 < size → size ≤ 200 →
    read ≡ demo_plan_from size seed → Refuses (refusal_in fault) read → fault ≡ faults.NoMemory
plan_fault_is_memory size seed faults.NoMemory read some few same fails = refl
plan_fault_is_memory size seed (faults.Refused refusal) read some few same fails =
    let demo_plan = made_from-is_plan size some few seed in
    let ok : read ≡ Ok demo_plan.0 = same ∙ demo_plan.1 in
    cc

-- the nodes that are made are those of the tree that is made
pub nodes_of_tree : (size seed : ℕ) (entries : List Entry) (nodes : List NodePart) → entries ≡ demo_entries size →
    nodes ≡ demo_nodes size seed → AreNodesOf entries nodes
nodes_of_tree size seed entries nodes entries_are nodes_are = ap (map is_device) nodes_are ∙ demo_nodes-of_entries size seed
    ∙ ap leaves_of (sym entries_are)
