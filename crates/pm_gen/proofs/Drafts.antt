-- The draft of the demo cluster's plan under one more change of a device, and under a tick.
use Rattle.std.proofs.Common.{◌≡◌, ◌≢◌, ℕ, zero, suc, ◌+◌, ◌-◌, ◌≤◌, ◌==◌, ℤ, Bool, true, false, not, if◌then◌else◌}
use Rattle.std.proofs.Common.{List, [], ◌∷◌, ◌++◌, length, map, get_or, set, refl, sym, ap, ◌∙◌, arith, length-append, ◌⊎◌, inl, inr}
use Rattle.std.proofs.lemmas.List.{length-map, length-set, get_or-set_same, get_or-set_other, get_or-map}
use Rattle.std.proofs.lemmas.List.Sums.{fold_push, sum_by-set, sum_by-cons}
use Rattle.std.proofs.lemmas.Bool.{cases_eq}
use Rattle.std.proofs.lemmas.Bool.Decides.{nat_tests}
use Rattle.pm_plan.specs.declared.planned.Change.{Change}
use Rattle.pm_plan.specs.declared.planned.Planned.{Planned}
use Rattle.pm_plan.specs.declared.planned.Planned.TheVariants.{Join, Leave, Tick}
use Rattle.pm_plan.specs.Devices.{DeviceData, member_after, is_member_after}
use Rattle.pm_plan.specs.declared.node.Node.TheVariants.{Concentrator, Limited, Device}
use Rattle.pm_plan.specs.Plans.{PlanData, NodeData, node, node_at, is_device, changes_of, all_changes}
use Rattle.pm_plan.specs.Building.{with_change, map_device, with_change_of, is_member_now, ticks_now, device_after_tick, with_tick}
use Rattle.pm_plan.proofs.DeviceNodes.{is_device-map_device}
use Rattle.pm_gen.specs.Nodes.{demo_entries, concentrator_count}
use Rattle.pm_gen.specs.Rounds.{is_joined}

-- the draft has the demo's tree, its last nodes are devices, its members are those whom the events so far have left joined, and it has at most
-- so many changes
pub record Stands (size : ℕ) (earlier : List ℕ) (most : ℕ) (plan : PlanData) : Type 0 where
  -- the draft's tree is that of the demo cluster of this size
  pub entries_are : plan.entries ≡ demo_entries size
  -- the draft has as many nodes as the demo has concentrators and devices
  pub one_each : length plan.nodes ≡ concentrator_count size + size
  -- each node of the draft behind the concentrators, up to the size, is a device
  pub devices : (i : ℕ) → 1 ≤ i → i ≤ size → is_device (node plan (concentrator_count size + i)) ≡ true
  -- a device is a member now just where the events so far have left it joined
  pub joined : (i : ℕ) → 1 ≤ i → i ≤ size → is_member_now plan (concentrator_count size + i) ≡ is_joined earlier i
  -- the draft has at most so many changes
  pub few : all_changes plan.nodes ≤ most

-- ---- nodes by their number

node_at-below : (nodes : List NodeData) (d : ℕ) → 1 ≤ d → node_at nodes d ≡ get_or nodes (d - 1) Concentrator
node_at-below nodes zero low = absurd (omega arith)
node_at-below nodes (suc d) low = let same : d ≡ suc d - 1 = omega arith in ap (λ n. get_or nodes n Concentrator) same

node_at-same : (nodes : List NodeData) (d : ℕ) (new : NodeData) → 1 ≤ d → d ≤ length nodes → node_at (set nodes (d - 1) new) d ≡ new
node_at-same nodes d new low high = node_at-below (set nodes (d - 1) new) d low ∙ get_or-set_same nodes (d - 1) new Concentrator (omega arith)

node_at-other : (nodes : List NodeData) (d e : ℕ) (new : NodeData) → 1 ≤ d → 1 ≤ e → d ≢ e →
    node_at (set nodes (d - 1) new) e ≡ node_at nodes e
node_at-other nodes d e new low positive differ =
    let apart : e - 1 ≢ d - 1 = λ same. differ (omega arith) in
    node_at-below (set nodes (d - 1) new) e positive
    ∙ get_or-set_other nodes (d - 1) (e - 1) new Concentrator apart
    ∙ sym (node_at-below nodes e positive)

-- ---- one more event

-- the change that turns a device round
abbrev pub turning : Bool → Planned
turning true = Leave
turning false = Join

turns_round : (member : Bool) → member_after member (turning member) ≡ not member
turns_round true = refl
turns_round false = refl

is_joined-more : (earlier : List ℕ) (i j : ℕ) → is_joined (earlier ++ i ∷ []) j ≡ (if i == j then not (is_joined earlier j) else is_joined earlier j)
unfolding is_joined
is_joined-more earlier i j = fold_push (λ joined named. if named == j then not joined else joined) false earlier i

-- one more event of a device turns round whether it is joined
pub is_joined-same : (earlier : List ℕ) (i : ℕ) → is_joined (earlier ++ i ∷ []) i ≡ not (is_joined earlier i)
is_joined-same earlier i =
    let same : (i == i) ≡ true = grind (arith, nat_tests) in
    is_joined-more earlier i i ∙ ap (λ b. if b then not (is_joined earlier i) else is_joined earlier i) same

-- one more event of a device leaves whether another device is joined as it was
pub is_joined-other : (earlier : List ℕ) (i j : ℕ) → i ≢ j → is_joined (earlier ++ i ∷ []) j ≡ is_joined earlier j
is_joined-other earlier i j differ =
    let apart : (i == j) ≡ false = grind (arith, nat_tests) in
    is_joined-more earlier i j ∙ ap (λ b. if b then not (is_joined earlier j) else is_joined earlier j) apart

-- what one more change makes of a device
member-with : (p : ℕ) (what : Planned) (n : NodeData) → is_device n ≡ true →
    is_member_after (changes_of (map_device (with_change p what) n)) ≡ member_after (is_member_after (changes_of n)) what
member-with p what (Device planned) device =
    fold_push (λ (member : Bool) (change : Change). member_after member change.what) false planned.changes (record { phase = p; what = what })
member-with p what Concentrator device = absurd (cc device)
member-with p what (Limited limits) device = absurd (cc device)

changes-with : (p : ℕ) (what : Planned) (n : NodeData) → length (changes_of (map_device (with_change p what) n)) ≤ length (changes_of n) + 1
changes-with p what (Device planned) = omega (arith, length-append planned.changes ((record { phase = p; what = what }) ∷ []))
changes-with p what Concentrator = omega arith
changes-with p what (Limited limits) = omega arith

module _ (size : ℕ) (earlier : List ℕ) (most : ℕ) (plan : PlanData) (stands : Stands size earlier most plan) (i : ℕ) (low : 1 ≤ i)
    (high : i ≤ size) (p : ℕ) where
  abbrev d : ℕ
  d = concentrator_count size + i

  abbrev changed : NodeData
  changed = map_device (with_change p (turning (is_joined earlier i))) (node plan d)

  member-same : is_member_after (changes_of changed) ≡ is_joined (earlier ++ i ∷ []) i
  member-same =
      member-with p (turning (is_joined earlier i)) (node plan d) (stands.devices i low high)
      ∙ ap (λ member. member_after member (turning (is_joined earlier i))) (stands.joined i low high)
      ∙ turns_round (is_joined earlier i)
      ∙ sym (is_joined-same earlier i)

  joined-by : (j : ℕ) → 1 ≤ j → j ≤ size → (i ≡ j) ⊎ (i ≡ j → ⊥) →
      is_member_after (changes_of (node_at (set plan.nodes (d - 1) changed) (concentrator_count size + j))) ≡ is_joined (earlier ++ i ∷ []) j
  joined-by j positive inside (inl same) =
      ap (λ e. is_member_after (changes_of (node_at (set plan.nodes (d - 1) changed) (concentrator_count size + e)))) (sym same)
      ∙ ap (λ (n : NodeData). is_member_after (changes_of n)) (node_at-same plan.nodes d changed (omega arith) (omega (arith, stands.one_each)))
      ∙ member-same
      ∙ ap (is_joined (earlier ++ i ∷ [])) same
  joined-by j positive inside (inr differ) =
      let apart : d ≢ concentrator_count size + j = λ same. differ (omega arith) in
      ap (λ (n : NodeData). is_member_after (changes_of n))
      (node_at-other plan.nodes d (concentrator_count size + j) changed (omega arith) (omega arith) apart)
      ∙ stands.joined j positive inside
      ∙ sym (is_joined-other earlier i j differ)

  devices-by : (j : ℕ) → 1 ≤ j → j ≤ size → (i ≡ j) ⊎ (i ≡ j → ⊥) →
      is_device (node_at (set plan.nodes (d - 1) changed) (concentrator_count size + j)) ≡ true
  devices-by j positive inside (inl same) =
      ap (λ e. is_device (node_at (set plan.nodes (d - 1) changed) (concentrator_count size + e))) (sym same)
      ∙ ap is_device (node_at-same plan.nodes d changed (omega arith) (omega (arith, stands.one_each)))
      ∙ is_device-map_device (with_change p (turning (is_joined earlier i))) (node plan d)
      ∙ stands.devices i low high
  devices-by j positive inside (inr differ) =
      let apart : d ≢ concentrator_count size + j = λ same. differ (omega arith) in
      ap is_device (node_at-other plan.nodes d (concentrator_count size + j) changed (omega arith) (omega arith) apart)
      ∙ stands.devices j positive inside

  few-more : all_changes (set plan.nodes (d - 1) changed) ≤ most + 1
  few-more =
      let sum = sum_by-set (λ (n : NodeData). length (changes_of n)) plan.nodes (d - 1) changed Concentrator (omega (arith, stands.one_each)) in
      let here = ap (λ (n : NodeData). length (changes_of n)) (sym (node_at-below plan.nodes d (omega arith))) in
      let longer = changes-with p (turning (is_joined earlier i)) (node plan d) in
      omega (arith, stands.few, sum, here, longer)

  -- the draft stands as after one more event of a device once a change that turns it round is added
  pub stands-turned : Stands size (earlier ++ i ∷ []) (most + 1) (with_change_of plan d p (turning (is_joined earlier i)))
  unfolding with_change_of
  stands-turned = record {
    entries_are = stands.entries_are;
    one_each = length-set plan.nodes (d - 1) changed ∙ stands.one_each;
    devices = λ j positive inside. devices-by j positive inside (cases_eq i j);
    joined = λ j positive inside. joined-by j positive inside (cases_eq i j);
    few = few-more;
  }

-- ---- a tick

member_at-chosen : (p : ℕ) (minutes : ℤ) (old : DeviceData) (b : Bool) →
    is_member_after (if b then with_change p (Tick minutes) old else old).changes ≡ is_member_after old.changes
member_at-chosen p minutes old true = fold_push (λ (member : Bool) (change : Change). member_after member change.what) false old.changes
    (record { phase = p; what = Tick minutes })
member_at-chosen p minutes old false = refl

member_at-tick : (p : ℕ) (minutes : ℤ) (n : NodeData) → is_member_after (changes_of (map_device (device_after_tick p minutes) n))
    ≡ is_member_after (changes_of n)
member_at-tick p minutes (Device planned) = member_at-chosen p minutes planned (ticks_now planned)
member_at-tick p minutes Concentrator = refl
member_at-tick p minutes (Limited limits) = refl

changes_at-chosen : (p : ℕ) (minutes : ℤ) (old : DeviceData) (b : Bool) →
    length (if b then with_change p (Tick minutes) old else old).changes ≤ length old.changes + 1
changes_at-chosen p minutes old true = omega (arith, length-append old.changes ((record { phase = p; what = Tick minutes }) ∷ []))
changes_at-chosen p minutes old false = omega arith

changes_at-tick : (p : ℕ) (minutes : ℤ) (n : NodeData) → length (changes_of (map_device (device_after_tick p minutes) n)) ≤ length (changes_of n) + 1
changes_at-tick p minutes (Device planned) = changes_at-chosen p minutes planned (ticks_now planned)
changes_at-tick p minutes Concentrator = omega arith
changes_at-tick p minutes (Limited limits) = omega arith

all_changes-tick : (p : ℕ) (minutes : ℤ) (nodes : List NodeData) → all_changes (map (map_device (device_after_tick p minutes)) nodes)
    ≤ all_changes nodes + length nodes
all_changes-tick p minutes [] = omega arith
all_changes-tick p minutes (n ∷ nodes) =
    let rest = all_changes-tick p minutes nodes in
    let first = changes_at-tick p minutes n in
    let old = sum_by-cons (λ (m : NodeData). length (changes_of m)) n nodes in
    let new = sum_by-cons (λ (m : NodeData). length (changes_of m)) (map_device (device_after_tick p minutes) n)
    (map (map_device (device_after_tick p minutes)) nodes) in
    omega arith

-- the node of a number after the tick
device_after_tick-at : (nodes : List NodeData) (p d : ℕ) (minutes : ℤ) → 1 ≤ d → d ≤ length nodes →
    node_at (map (map_device (device_after_tick p minutes)) nodes) d ≡ map_device (device_after_tick p minutes) (node_at nodes d)
device_after_tick-at nodes p d minutes low high =
    node_at-below (map (map_device (device_after_tick p minutes)) nodes) d low
    ∙ get_or-map (map_device (device_after_tick p minutes)) nodes (d - 1) Concentrator Concentrator (omega arith)
    ∙ ap (map_device (device_after_tick p minutes)) (sym (node_at-below nodes d low))

-- the draft stands so after a tick too, with at most one change more for each node
pub stands-ticked : (size : ℕ) (earlier : List ℕ) (most : ℕ) (plan : PlanData) (p : ℕ) (minutes : ℤ) → Stands size earlier most plan →
    Stands size earlier (most + (concentrator_count size + size)) (with_tick p minutes plan)
stands-ticked size earlier most plan p minutes stands = record {
  entries_are = stands.entries_are;
  one_each = length-map plan.nodes (map_device (device_after_tick p minutes)) ∙ stands.one_each;
  devices = λ i low high.
      ap is_device (device_after_tick-at plan.nodes p (concentrator_count size + i) minutes (omega arith) (omega (arith, stands.one_each)))
      ∙ is_device-map_device (device_after_tick p minutes) (node plan (concentrator_count size + i))
      ∙ stands.devices i low high;
  joined = λ i low high.
      ap (λ (n : NodeData). is_member_after (changes_of n))
      (device_after_tick-at plan.nodes p (concentrator_count size + i) minutes (omega arith) (omega (arith, stands.one_each)))
      ∙ member_at-tick p minutes (node plan (concentrator_count size + i))
      ∙ stands.joined i low high;
  few = omega (arith, all_changes-tick p minutes plan.nodes, stands.few, stands.one_each);
}
