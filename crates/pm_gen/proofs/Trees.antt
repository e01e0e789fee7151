-- The entries of the demo cluster are accepted as a tree.
use Rattle.std.proofs.Common.{◌≡◌, ℕ, zero, suc, ◌+◌, ◌-◌, ◌%◌, ◌<◌, ◌≤◌, Bool, true, false, ◌&&◌, not, List, [], ◌∷◌}
use Rattle.std.proofs.Common.{◌++◌, length, map, Some, None, is_some, unwrap_or, refl, sym, ap, ◌∙◌, arith, append_assoc, append-nil, length-append}
use Rattle.std.proofs.Common.{if◌then◌else◌, slice_get, Result, Ok, Err, ◌⊎◌, inl, inr}
use Rattle.std.specs.Fmt.{digits}
use Rattle.std.specs.List.{list_all, range_with_len}
use Rattle.std.specs.Option.{option_to_list, option_and_then}
use Rattle.std.proofs.lemmas.List.{length-map, map-append, get_or_at}
use Rattle.std.proofs.lemmas.List.FromFn.{map-range_with_len_more, length-map-range_with_len}
use Rattle.std.proofs.lemmas.Bool.{le-ltb}
use Rattle.pm_base.specs.Limits.{most_nodes}
use Rattle.pm_tree.specs.Names.{is_name}
use Rattle.pm_tree.specs.Shape.{leaf_at, depth_at, path_at}
use Rattle.pm_tree.specs.Entries.{Entry, node_named, number_named, parents_of, leaves_of, is_leaf_at, can_be_parent, entry_refusal, refusals_after}
use Rattle.pm_tree.specs.Entries.{first_refusal, tree_unless, checked_tree}
use Rattle.pm_tree.specs.declared.fault.TreeFault.{TreeFault}
use Rattle.pm_tree.specs.declared.fault.TreeFault.TheVariants.{TooMany, NoMemory}
use Rattle.pm_tree.proofs.Named.{node_named-append, number_named-inside, and_true}
use Rattle.pm_tree.proofs.Paths.{leaf_at-append}
use Rattle.pm_tree.proofs.Refusals.{accepted_leaf, refusals_after-append}
use Rattle.pm_plan.specs.Building.{leaf_or_none, device_named}
use Rattle.pm_gen.specs.Nodes.{demo_entries, concentrator_name, device_name, concentrator_entry, device_entry, concentrator_entries, device_entries}
use Rattle.pm_gen.specs.Nodes.{concentrator_count}
use Rattle.pm_gen.proofs.Ranges.{in_range, range_with_len-append}
use Rattle.pm_gen.proofs.Naming.{front_entries, device_name-form, not_named, named_after}

-- ---- what is computed, for 1 to 10 concentrators

abbrev is_nil : {A : Type 0} → List A → Bool
is_nil [] = true
is_nil (x ∷ xs) = false

nil_from : {A : Type 0} (xs : List A) → is_nil xs ≡ true → xs ≡ []
nil_from [] is = refl
nil_from (x ∷ xs) is = cc

concentrators_checked : list_all (λ count. is_nil (refusals_after [] (concentrator_entries count))) (range_with_len 1 10) ≡ true
unfolding entry_refusal node_named parents_of leaves_of depth_at path_at is_name digits
concentrators_checked = refl

parents_checked : list_all (λ count. list_all (λ j. can_be_parent (concentrator_entries count) (concentrator_name j))
    (range_with_len 1 count)) (range_with_len 1 10) ≡ true
unfolding node_named leaves_of digits
parents_checked = refl

concentrators-accepted : (count : ℕ) → 1 ≤ count → count ≤ 10 → refusals_after [] (concentrator_entries count) ≡ []
concentrators-accepted count low high = nil_from (refusals_after [] (concentrator_entries count))
    (in_range (λ n. is_nil (refusals_after [] (concentrator_entries n))) 1 10 count concentrators_checked low (omega arith))

-- each concentrator may be a parent
parent-accepted : (count j : ℕ) → 1 ≤ j → j ≤ count → count ≤ 10 → can_be_parent (concentrator_entries count) (concentrator_name j) ≡ true
parent-accepted count j low inside high =
    let all = in_range (λ n. list_all (λ i. can_be_parent (concentrator_entries n) (concentrator_name i)) (range_with_len 1 n)) 1 10
    count parents_checked (omega arith) (omega arith) in
    in_range (λ i. can_be_parent (concentrator_entries count) (concentrator_name i)) 1 count j all low (omega arith)

-- ---- the devices, one after another

-- who may be a parent still may where more entries follow
is_leaf_at-append : (before more : List Entry) (node : ℕ) → node ≤ length before → is_leaf_at (before ++ more) node ≡ is_leaf_at before node
unfolding leaves_of
is_leaf_at-append before more node inside =
    ap (λ leaves. leaf_at leaves node) (map-append (λ (e : Entry). e.leaf) before more)
    ∙ leaf_at-append (map (λ (e : Entry). e.leaf) before) (map (λ (e : Entry). e.leaf) more) node
    (omega (arith, length-map before (λ (e : Entry). e.leaf)))

can_be_parent-append : (before more : List Entry) (name : List ℕ) → can_be_parent before name ≡ true → can_be_parent (before ++ more) name ≡ true
can_be_parent-append before more name can =
    let named = (and_true (is_some (node_named before name)) (not (is_leaf_at before (number_named before name))) can).0 in
    let same = node_named-append before more name named in
    ap (λ found. is_some found && not (is_leaf_at (before ++ more) (unwrap_or found 0))) same
    ∙ ap (λ leaf. is_some (node_named before name) && not leaf) (is_leaf_at-append before more (number_named before name) (number_named-inside before name))
    ∙ can

device-accepted : (count k i : ℕ) → 1 ≤ count → count ≤ 10 → k < i → i ≤ 200 →
    entry_refusal (front_entries count k) (device_entry count i) ≡ None
device-accepted count k i low high later few =
    let parent = parent-accepted count (1 + (i - 1) % count) (omega arith) (omega arith) high in
    accepted_leaf (front_entries count k) (device_entry count i)
    (device_name-form i (omega arith) few)
    (ap is_some (not_named count k i (omega arith) later))
    (can_be_parent-append (concentrator_entries count) (map (device_entry count) (range_with_len 1 k)) (concentrator_name (1 + (i - 1) % count)) parent)
    refl

-- the entries of one device more
front_entries-more : (count k : ℕ) → front_entries count k ++ device_entry count (1 + k) ∷ [] ≡ front_entries count (k + 1)
front_entries-more count k =
    append_assoc (concentrator_entries count) (map (device_entry count) (range_with_len 1 k)) (device_entry count (1 + k) ∷ [])
    ∙ ap (λ es. concentrator_entries count ++ es) (sym (map-range_with_len_more (device_entry count) 1 k (1 + k) refl))

devices-accepted : (count n k : ℕ) → 1 ≤ count → count ≤ 10 → k + n ≤ 200 →
    refusals_after (front_entries count k) (map (device_entry count) (range_with_len (1 + k) n)) ≡ []
devices-accepted count zero k low high few = refl
devices-accepted count (suc n) k low high few =
    let here = device-accepted count k (1 + k) low high (omega arith) (omega arith) in
    let rest = devices-accepted count n (k + 1) low high (omega arith) in
    let seam : 1 + k + 1 ≡ 1 + (k + 1) = omega arith in
    ap (λ refusal. option_to_list refusal ++ refusals_after (front_entries count k ++ device_entry count (1 + k) ∷ [])
    (map (device_entry count) (range_with_len (1 + k + 1) n))) here
    ∙ ap (λ before. refusals_after before (map (device_entry count) (range_with_len (1 + k + 1) n))) (front_entries-more count k)
    ∙ ap (λ a. refusals_after (front_entries count (k + 1)) (map (device_entry count) (range_with_len a n))) seam
    ∙ rest

none_refused : (count size : ℕ) → 1 ≤ count → count ≤ 10 → size ≤ 200 →
    refusals_after [] (concentrator_entries count ++ device_entries count size) ≡ []
none_refused count size low high few =
    refusals_after-append [] (concentrator_entries count) (device_entries count size)
    ∙ ap (λ faults. faults ++ refusals_after (concentrator_entries count) (device_entries count size)) (concentrators-accepted count low high)
    ∙ ap (λ before. refusals_after before (device_entries count size)) (sym (append-nil (concentrator_entries count)))
    ∙ devices-accepted count size 0 low high (omega arith)

-- the demo cluster has as many entries as concentrators and devices
pub length-demo_entries : (size : ℕ) → length (demo_entries size) ≡ concentrator_count size + size
unfolding demo_entries
length-demo_entries size =
    length-append (concentrator_entries (concentrator_count size)) (device_entries (concentrator_count size) size)
    ∙ omega (
      arith,
      length-map-range_with_len concentrator_entry 1 (concentrator_count size),
      length-map-range_with_len (device_entry (concentrator_count size)) 1 size,
    )

-- the tree of the demo cluster is accepted
pub demo_entries-accepted : (size : ℕ) → 1 ≤ size → size ≤ 200 → checked_tree (demo_entries size) ≡ Ok (demo_entries size)
unfolding demo_entries first_refusal
demo_entries-accepted size low high =
    let count = length-demo_entries size in
    let few = le-ltb most_nodes (length (demo_entries size)) (omega arith) in
    let none = none_refused (concentrator_count size) size (omega arith) (omega arith) high in
    ap (λ many. tree_unless (demo_entries size)
    (if many then Some (TooMany (length (demo_entries size))) else slice_get (refusals_after [] (demo_entries size)) 0)) few
    ∙ ap (λ faults. tree_unless (demo_entries size) (slice_get faults 0)) none

-- ---- the devices by their names

-- device i stands behind the concentrators and the devices before it
demo_entries-at : (count size i : ℕ) → 1 ≤ i → i ≤ size → concentrator_entries count ++ device_entries count size
    ≡ front_entries count (i - 1) ++ device_entry count i ∷ map (device_entry count) (range_with_len (i + 1) (size - i))
demo_entries-at count size i low high =
    let parts : size ≡ (i - 1) + suc (size - i) = omega arith in
    let here : 1 + (i - 1) ≡ i = omega arith in
    ap (λ n. concentrator_entries count ++ map (device_entry count) (range_with_len 1 n)) parts
    ∙ ap (λ range. concentrator_entries count ++ map (device_entry count) range) (range_with_len-append 1 (i - 1) (suc (size - i)))
    ∙ ap (λ a. concentrator_entries count ++ map (device_entry count) (range_with_len 1 (i - 1) ++ range_with_len a (suc (size - i)))) here
    ∙ ap (λ es. concentrator_entries count ++ es) (map-append (device_entry count) (range_with_len 1 (i - 1)) (range_with_len i (suc (size - i))))
    ∙ sym (append_assoc (concentrator_entries count) (map (device_entry count) (range_with_len 1 (i - 1)))
    (map (device_entry count) (range_with_len i (suc (size - i)))))

length-front_entries : (count k : ℕ) → length (front_entries count k) ≡ count + k
length-front_entries count k =
    length-append (concentrator_entries count) (map (device_entry count) (range_with_len 1 k))
    ∙ omega (arith, length-map-range_with_len concentrator_entry 1 count, length-map-range_with_len (device_entry count) 1 k)

device_named-at : (count size i : ℕ) → 1 ≤ i → i ≤ size → size ≤ 200 →
    node_named (concentrator_entries count ++ device_entries count size) (device_name i) ≡ Some (count + i)
device_named-at count size i low high few =
    ap (λ es. node_named es (device_name i)) (demo_entries-at count size i low high)
    ∙ named_after count (i - 1) i (map (device_entry count) (range_with_len (i + 1) (size - i))) (omega arith) (omega arith)
    ∙ ap (λ n. Some n) (omega (arith, length-front_entries count (i - 1)))

is_device-at : (count size i : ℕ) → 1 ≤ i → i ≤ size → is_leaf_at (concentrator_entries count ++ device_entries count size) (count + i) ≡ true
unfolding leaves_of
is_device-at count size i low high =
    let front : List Entry = front_entries count (i - 1) in
    let rest : List Entry = map (device_entry count) (range_with_len (i + 1) (size - i)) in
    ap (λ es. leaf_at (map (λ (e : Entry). e.leaf) es) (count + i)) (demo_entries-at count size i low high)
    ∙ ap (λ leaves. leaf_at leaves (count + i)) (map-append (λ (e : Entry). e.leaf) front (device_entry count i ∷ rest))
    ∙ get_or_at (false ∷ map (λ (e : Entry). e.leaf) front) true (map (λ (e : Entry). e.leaf) rest) false (count + i)
    (omega (arith, length-map front (λ (e : Entry). e.leaf), length-front_entries count (i - 1)))

-- device i of the demo cluster
pub device_named-demo : (size i : ℕ) → 1 ≤ i → i ≤ size → size ≤ 200 → device_named (demo_entries size) (device_name i)
    ≡ Some (concentrator_count size + i)
unfolding demo_entries
device_named-demo size i low high few =
    ap (option_and_then (leaf_or_none (demo_entries size))) (device_named-at (concentrator_count size) size i low high few)
    ∙ ap (λ leaf. if leaf then Some (concentrator_count size + i) else None) (is_device-at (concentrator_count size) size i low high)

-- it is a leaf of its tree
pub is_leaf-demo : (size i : ℕ) → 1 ≤ i → i ≤ size → is_leaf_at (demo_entries size) (concentrator_count size + i) ≡ true
unfolding demo_entries
is_leaf-demo size i low high = is_device-at (concentrator_count size) size i low high

-- ---- what the tree's check answers

-- only an allocation failure keeps the tree from being made
pub fault_is_memory : (size : ℕ) (entries : List Entry) (result : Result (List Entry) TreeFault) (fault : TreeFault) → 0 < size →
    size ≤ 200 → entries ≡ demo_entries size
    → (result ≡ checked_tree entries) ⊎ (result ≡ Err NoMemory) → result ≡ Err fault → fault ≡ NoMemory
fault_is_memory size entries result fault some few same (inl checked) failed =
    let ok : result ≡ Ok (demo_entries size) = checked ∙ ap checked_tree same ∙ demo_entries-accepted size some few in
    cc
fault_is_memory size entries result fault some few same (inr memory) failed = cc
