-- The nodes of the demo cluster are accepted.
use Rattle.std.proofs.Common.{◌≡◌, ℕ, zero, suc, ◌+◌, ◌==◌, ℤ, pos, neg_ℤ, ◌+ℤ◌, ◌≤ℤ◌, Bool, true, false, ◌&&◌}
use Rattle.std.proofs.Common.{if◌then◌else◌, IsTrue, List, [], ◌∷◌, ◌++◌, length, map, get_or, replicate, Ok, refl, sym, ap, ◌∙◌, arith}
use Rattle.std.proofs.Common.{append_assoc, append-nil, length-append}
use Rattle.std.specs.Prelude.{⊤}
use Rattle.std.specs.List.{AllByRecursion, range_with_len}
use Rattle.std.proofs.lemmas.List.{length-replicate, map-append}
use Rattle.std.proofs.lemmas.Int.{ints}
use Rattle.pm_device.specs.Kinds.{is_valid, state_fits, is_between, is_power, power_limit, temperature_limit}
use Rattle.pm_device.specs.declared.kind.Kind.{Kind}
use Rattle.pm_device.specs.declared.kind.Kind.TheVariants.{Freezer, HeatPump, Cogeneration, Battery, Solar, Load}
use Rattle.pm_device.proofs.Between.{is_between-holds}
use Rattle.pm_plan.specs.Parts.{number, array, points, NodePart, concentrator, limited, device, is_device, AreNodesOf}
use Rattle.pm_tree.specs.Entries.{Entry, leaves_of}
use Rattle.pm_plan.specs.declared.node.Node.TheVariants.{Concentrator, Device}
use Rattle.pm_plan.specs.Plans.{PlanData, NodeData}
use Rattle.pm_plan.specs.Plans as plans
use Rattle.pm_plan.specs.Building.{add_node, with_node, state_of, is_manual}
use Rattle.pm_base.specs.Outcomes.{◌>>=◌, fold_from}
use Rattle.pm_gen.specs.Draws.{next, draw_below}
use Rattle.pm_gen.specs.Nodes.{with_start, at_power, device_of, drawn_power, drawn_device, drawn_devices, demo_nodes, demo_entries, concentrator_entry}
use Rattle.pm_gen.specs.Nodes.{device_entry, concentrator_entries, device_entries, concentrator_count}

-- ---- parts that are accepted

-- a device of a valid kind that is not manual, with a start that fits
pub record IsDevice (kind : Kind) (start : ℤ) : Type 0 where
  -- the kind is valid
  pub valid : is_valid kind ≡ true
  -- the kind is not manual
  pub no_bid : is_manual kind ≡ false
  -- the start fits the kind
  pub fits : state_fits kind start ≡ true

-- a concentrator without limits, or such a device
abbrev pub IsPlain : NodePart → Type 0
IsPlain concentrator = ⊤
IsPlain (limited floor ceiling) = ⊥
IsPlain (device kind (number start)) = IsDevice kind start
IsPlain (device kind (array demands)) = ⊥
IsPlain (device kind (points pairs)) = ⊥

-- what is planned for it
abbrev pub planned_for : NodePart → NodeData
planned_for concentrator = Concentrator
planned_for (limited floor ceiling) = Concentrator
planned_for (device kind (number start)) = Device (record { kind = kind; start = start; changes = [] })
planned_for (device kind (array demands)) = Concentrator
planned_for (device kind (points pairs)) = Concentrator

-- a device is planned for a device
device_planned : (part : NodePart) → IsPlain part → plans.is_device (planned_for part) ≡ is_device part
device_planned concentrator plain = refl
device_planned (limited floor ceiling) plain = absurd plain
device_planned (device kind (number start)) plain = refl
device_planned (device kind (array demands)) plain = absurd plain
device_planned (device kind (points pairs)) plain = absurd plain

-- of plain parts a device is planned at a place just where the part there is a device
pub devices_planned : (parts : List NodePart) → AllByRecursion IsPlain parts → (k : ℕ) →
    plans.is_device (get_or (map planned_for parts) k Concentrator) ≡ get_or (map is_device parts) k false
devices_planned [] plain k = refl
devices_planned (part ∷ parts) plain zero = device_planned part plain.0
devices_planned (part ∷ parts) plain (suc k) = devices_planned parts plain.1 k

add_plain : (n : ℕ) (plan : PlanData) (part : NodePart) → IsPlain part → add_node n plan part ≡ Ok (with_node plan (planned_for part))
unfolding add_node state_of
add_plain n plan concentrator plain = refl
add_plain n plan (limited floor ceiling) plain = absurd plain
add_plain n plan (device kind (number start)) plain = rw (plain.valid, plain.no_bid, plain.fits)
add_plain n plan (device kind (array demands)) plain = absurd plain
add_plain n plan (device kind (points pairs)) plain = absurd plain

-- the plan with more nodes behind its own
abbrev pub with_nodes : PlanData → List NodeData → PlanData
with_nodes plan more = record plan { nodes = plan.nodes ++ more }

-- adding plain parts is never refused, and puts what is planned for them behind the plan's nodes
pub add_plain_nodes : (n : ℕ) (plan : PlanData) (parts : List NodePart) → AllByRecursion IsPlain parts →
    fold_from n add_node plan parts ≡ Ok (with_nodes plan (map planned_for parts))
add_plain_nodes n plan [] plain = ap (λ nodes. Ok (record plan { nodes = nodes })) (sym (append-nil plan.nodes))
add_plain_nodes n plan (part ∷ parts) plain =
    let here = add_plain n plan part plain.0 in
    let rest = add_plain_nodes (n + 1) (with_node plan (planned_for part)) parts plain.1 in
    ap (λ first. first >>= λ next. fold_from (n + 1) add_node next parts) here
    ∙ rest
    ∙ ap (λ nodes. Ok (record plan { nodes = nodes })) (append_assoc plan.nodes (planned_for part ∷ []) (map planned_for parts))

-- ---- the drawn devices

is_true : (b : Bool) → IsTrue b → b ≡ true
is_true true so = refl
is_true false so = cc

between : (low high z : ℤ) → low ≤ℤ z → z ≤ℤ high → is_between low high z ≡ true
between low high z from to = is_true (is_between low high z) (is_between-holds low high z (record { from = from; to = to }))

-- either of two that a test chooses
plain_by : (b : Bool) (x y : NodePart × ℕ) → IsPlain x.0 → IsPlain y.0 → IsPlain (if b then x else y).0
plain_by true x y first second = first
plain_by false x y first second = second

module _ (power : ℤ) (seed : ℕ) (rated : is_power power ≡ true) where
  freezer : IsPlain (with_start (Freezer (neg_ℤ (pos 2200)) (neg_ℤ (pos 1800)) power (pos 20) (pos 60)) (neg_ℤ (pos 2200)) 401 seed).0
  freezer = record {
    valid = ap (λ b. b && true) rated;
    no_bid = refl;
    fits = between (neg_ℤ (pos temperature_limit)) (pos temperature_limit) (neg_ℤ (pos 2200) +ℤ pos (draw_below 401 seed))
        (omega (arith, ints)) (omega (arith, ints));
  }

  heat_pump : IsPlain (with_start (HeatPump (pos 1900) (pos 2200) power (pos 10) (pos 30)) (pos 1900) 301 seed).0
  heat_pump = record {
    valid = ap (λ b. b && true) rated;
    no_bid = refl;
    fits = between (neg_ℤ (pos temperature_limit)) (pos temperature_limit) (pos 1900 +ℤ pos (draw_below 301 seed)) (omega (arith, ints))
        (omega (arith, ints));
  }

  cogeneration : IsPlain (with_start (Cogeneration (pos 5000) (pos 8000) power (pos 100) (pos 300)) (pos 5000) 3001 seed).0
  cogeneration = record {
    valid = ap (λ b. b && true) rated;
    no_bid = refl;
    fits = between (neg_ℤ (pos temperature_limit)) (pos temperature_limit) (pos 5000 +ℤ pos (draw_below 3001 seed)) (omega (arith, ints))
        (omega (arith, ints));
  }

  battery : IsPlain (with_start (Battery (pos 1000) power power (pos 5)) (pos 0) 1001 seed).0
  battery = record {
    valid = ap (λ b. b && b && true) rated;
    no_bid = refl;
    fits = between (pos 0) (pos 1000) (pos 0 +ℤ pos (draw_below 1001 seed)) (omega (arith, ints)) (omega (arith, ints));
  }

  solar : IsPlain (at_power Solar power seed).0
  solar = record { valid = refl; no_bid = refl; fits = rated }

  load : IsPlain (at_power Load power seed).0
  load = record { valid = refl; no_bid = refl; fits = rated }

  device_of-plain : (kind : ℕ) → IsPlain (device_of kind power seed).0
  unfolding device_of
  device_of-plain kind = plain_by (kind == 0) _ _ freezer
      (plain_by (kind == 1) _ _ heat_pump (plain_by (kind == 2) _ _ cogeneration (plain_by (kind == 3) _ _ battery (plain_by (kind == 4) _ _ solar load))))

drawn_power-rated : (seed : ℕ) → is_power (drawn_power seed) ≡ true
drawn_power-rated seed = between (pos 0) (pos power_limit) (drawn_power seed) (omega (arith, ints)) (omega (arith, ints))

drawn_device-plain : (seed : ℕ) → IsPlain (drawn_device seed).0
unfolding drawn_device
drawn_device-plain seed = device_of-plain (drawn_power (next seed)) (next (next seed)) (drawn_power-rated (next seed)) (draw_below 6 seed)

drawn_devices-plain : (n seed : ℕ) → AllByRecursion IsPlain (drawn_devices n seed).0
unfolding drawn_devices
drawn_devices-plain zero seed = tt
drawn_devices-plain (suc n) seed = (drawn_device-plain seed, drawn_devices-plain n (drawn_device seed).1)

-- the concentrators come before the devices
after_concentrators : (count : ℕ) (parts : List NodePart) → AllByRecursion IsPlain parts → AllByRecursion IsPlain (replicate count concentrator ++ parts)
after_concentrators zero parts plain = plain
after_concentrators (suc count) parts plain = (tt, after_concentrators count parts plain)

-- the parts of the demo cluster's nodes are all plain
pub demo_nodes-plain : (size seed : ℕ) → AllByRecursion IsPlain (demo_nodes size seed)
unfolding demo_nodes
demo_nodes-plain size seed = after_concentrators (concentrator_count size) (drawn_devices size seed).0 (drawn_devices-plain size seed)

length-drawn_devices : (n seed : ℕ) → length (drawn_devices n seed).0 ≡ n
unfolding drawn_devices
length-drawn_devices zero seed = refl
length-drawn_devices (suc n) seed = ap suc (length-drawn_devices n (drawn_device seed).1)

-- the demo cluster has as many parts of nodes as concentrators and devices
pub length-demo_nodes : (size seed : ℕ) → length (demo_nodes size seed) ≡ concentrator_count size + size
unfolding demo_nodes
length-demo_nodes size seed =
    length-append (replicate (concentrator_count size) concentrator) (drawn_devices size seed).0
    ∙ omega (arith, length-replicate (concentrator_count size) concentrator, length-drawn_devices size seed)

-- ---- the parts are those of the tree's nodes

device_of-is_device : (kind : ℕ) (power : ℤ) (seed : ℕ) → is_device (device_of kind power seed).0 ≡ true
unfolding device_of
device_of-is_device kind power seed = device_by (kind == 0) _ _ refl
    (device_by (kind == 1) _ _ refl (device_by (kind == 2) _ _ refl (device_by (kind == 3) _ _ refl (device_by (kind == 4) _ _ refl refl))))
  where
    device_by : (b : Bool) (x y : NodePart × ℕ) → is_device x.0 ≡ true → is_device y.0 ≡ true → is_device (if b then x else y).0 ≡ true
    device_by true x y first second = first
    device_by false x y first second = second

devices_are_devices : (n seed : ℕ) → map is_device (drawn_devices n seed).0 ≡ replicate n true
unfolding drawn_devices drawn_device
devices_are_devices zero seed = refl
devices_are_devices (suc n) seed =
    let first = device_of-is_device (draw_below 6 seed) (drawn_power (next seed)) (next (next seed)) in
    let rest = devices_are_devices n (drawn_device seed).1 in
    (λ i. first i ∷ rest i)

map-replicate : {A B : Type 0} (f : A → B) (n : ℕ) (x : A) → map f (replicate n x) ≡ replicate n (f x)
map-replicate f zero x = refl
map-replicate f (suc n) x = ap (λ ys. f x ∷ ys) (map-replicate f n x)

constant_entries : (f : ℕ → Entry) (leaf : Bool) → ((i : ℕ) → (f i).leaf ≡ leaf) → (a n : ℕ) →
    map (λ (e : Entry). e.leaf) (map f (range_with_len a n)) ≡ replicate n leaf
constant_entries f leaf same a zero = refl
constant_entries f leaf same a (suc n) = let first = same a in let rest = constant_entries f leaf same (a + 1) n in (λ i. first i ∷ rest i)

-- the parts of the demo cluster's nodes are those of its tree: the devices are the leaves
pub demo_nodes-of_entries : (size seed : ℕ) → AreNodesOf (demo_entries size) (demo_nodes size seed)
unfolding demo_nodes demo_entries leaves_of
demo_nodes-of_entries size seed =
    map-append is_device (replicate (concentrator_count size) concentrator) (drawn_devices size seed).0
    ∙ (let first = map-replicate is_device (concentrator_count size) concentrator in
    let rest = devices_are_devices size seed in
    (λ i. first i ++ rest i))
    ∙ sym (map-append (λ (e : Entry). e.leaf) (concentrator_entries (concentrator_count size)) (device_entries (concentrator_count size) size)
    ∙ (let first = constant_entries concentrator_entry false (λ _. refl) 1 (concentrator_count size) in
    let rest = constant_entries (device_entry (concentrator_count size)) true (λ _. refl) 1 size in
    (λ i. first i ++ rest i)))
