-- The names of the demo cluster: which nodes have them.
use Rattle.std.proofs.Common.{◌≡◌, ◌≢◌, ℕ, zero, suc, ◌+◌, ◌^◌, ◌<◌, ◌≤◌, Bool, true, false, ◌||◌, List, ◌∷◌}
use Rattle.std.proofs.Common.{◌++◌, length, map, Some, None, refl, ap, ◌∙◌, arith}
use Rattle.std.specs.Fmt.{decimal, digits}
use Rattle.std.specs.List.{list_any, list_all, range_with_len, position}
use Rattle.std.specs.Str.{bytes_eq}
use Rattle.std.proofs.lemmas.List.{length-map}
use Rattle.std.proofs.lemmas.List.Folds.{list_any-append}
use Rattle.std.proofs.lemmas.Slice.Eq.{bytes_eq-Decides}
use Rattle.std.proofs.lemmas.Fmt.{decimal_injective}
use Rattle.pm_tree.specs.Names.{is_name}
use Rattle.pm_tree.specs.Entries.{Entry, names_of, node_named}
use Rattle.pm_tree.proofs.Named.{names_of-append}
use Rattle.pm_gen.specs.Nodes.{device_name, concentrator_entry, device_entry, concentrator_entries}
use Rattle.pm_gen.proofs.Ranges.{in_range}
use Rattle.pm_gen.proofs.Search.{position-none, position-first}

device_names_checked : list_all (λ i. is_name (device_name i)) (range_with_len 1 200) ≡ true
unfolding is_name digits
device_names_checked = refl

-- the name of each device has the form of a name
pub device_name-form : (i : ℕ) → 1 ≤ i → i ≤ 200 → is_name (device_name i) ≡ true
device_name-form i low high = in_range (λ i. is_name (device_name i)) 1 200 i device_names_checked low (omega arith)

-- two devices have two names
false_by : (b : Bool) → (b ≡ true → ⊥) → b ≡ false
false_by b never = grind arith

-- devices of different numbers below 2 ^ 64 have different names
pub device_name-differs : (i j : ℕ) → i < 2 ^ 64 → j < 2 ^ 64 → i ≢ j → bytes_eq (device_name i) (device_name j) ≡ false
device_name-differs i j low high differ =
    false_by (bytes_eq (decimal i) (decimal j)) (λ same. differ (decimal_injective i j low high ((bytes_eq-Decides (decimal i) (decimal j)).0 same)))

-- the name of a device equals itself by the test of bytes
pub device_name-same : (i : ℕ) → bytes_eq (device_name i) (device_name i) ≡ true
device_name-same i = (bytes_eq-Decides (device_name i) (device_name i)).1 refl

-- whether some entry, or the auctioneer, has the name
abbrev pub is_taken : List Entry → List ℕ → Bool
is_taken entries name = list_any (bytes_eq name) (names_of entries)

abbrev some_has : List ℕ → List Entry → Bool
some_has name entries = list_any (bytes_eq name) (map (λ (e : Entry). e.name) entries)

-- no concentrator has the name of a device
no_concentrator_has : (i a n : ℕ) → some_has (device_name i) (map concentrator_entry (range_with_len a n)) ≡ false
no_concentrator_has i a zero = refl
no_concentrator_has i a (suc n) = no_concentrator_has i (a + 1) n

-- no device of a range has the name of a later one
no_earlier_has : (count i a n : ℕ) → i < 2 ^ 64 → a + n ≤ i → some_has (device_name i) (map (device_entry count) (range_with_len a n)) ≡ false
no_earlier_has count i a zero few later = refl
no_earlier_has count i a (suc n) few later =
    let differ : i ≢ a = λ same. absurd (omega arith) in
    let first = device_name-differs i a few (omega arith) differ in
    let rest = no_earlier_has count i (a + 1) n few (omega arith) in
    (λ k. first k || rest k)

-- the entries of all concentrators and of the first devices
abbrev pub front_entries : ℕ → ℕ → List Entry
front_entries count k = concentrator_entries count ++ map (device_entry count) (range_with_len 1 k)

-- neither the auctioneer, a concentrator nor one of the first devices has the name of a later device
pub is_free : (count k i : ℕ) → i < 2 ^ 64 → k < i → is_taken (front_entries count k) (device_name i) ≡ false
is_free count k i few later =
    ap (list_any (bytes_eq (device_name i))) (names_of-append (concentrator_entries count) (map (device_entry count) (range_with_len 1 k)))
    ∙ list_any-append (bytes_eq (device_name i)) (map (λ (e : Entry). e.name) (concentrator_entries count))
    (map (λ (e : Entry). e.name) (map (device_entry count) (range_with_len 1 k)))
    ∙ (let first = no_concentrator_has i 1 count in
    let rest = no_earlier_has count i 1 k few (omega arith) in
    (λ t. first t || rest t))

-- a search among the concentrators and the first devices finds no node with the name of a later device
pub not_named : (count k i : ℕ) → i < 2 ^ 64 → k < i → node_named (front_entries count k) (device_name i) ≡ None
unfolding node_named
not_named count k i few later = position-none (bytes_eq (device_name i)) (names_of (front_entries count k)) (is_free count k i few later)

-- a device is found behind the entries before it
pub named_after : (count k i : ℕ) (rest : List Entry) → i < 2 ^ 64 → k < i →
    node_named (front_entries count k ++ device_entry count i ∷ rest) (device_name i) ≡ Some (length (front_entries count k) + 1)
unfolding node_named
named_after count k i rest few later =
    ap (position (bytes_eq (device_name i))) (names_of-append (front_entries count k) (device_entry count i ∷ rest))
    ∙ position-first (bytes_eq (device_name i)) (names_of (front_entries count k)) (device_name i) (map (λ (e : Entry). e.name) rest)
    (is_free count k i few later) (device_name-same i)
    ∙ ap (λ n. Some n) (omega (arith, length-map (front_entries count k) (λ (e : Entry). e.name)))
