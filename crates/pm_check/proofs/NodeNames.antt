-- The nodes of a plan by their names.
use Rattle.std.proofs.Common.{◌≡◌, ◌≢◌, ◌∙◌, sym, subst, refl, ℕ, zero, suc, ◌+◌, ◌<◌, ◌≤◌, Bool, true, false, ◌&&◌, not}
use Rattle.std.proofs.Common.{nat_lt, List, [], ◌∷◌, ◌++◌, length, get_or, arith, Some, None, Ok, slice_get}
use Rattle.std.specs.Char.{is_ascii_alphabetic}
use Rattle.std.specs.List.{list_all, list_any}
use Rattle.std.specs.Str.{bytes_eq, IsAscii, IsUtf8}
use Rattle.std.proofs.lemmas.Bool.{ltb-true}
use Rattle.std.proofs.lemmas.Bool.Decides.{nat_tests}
use Rattle.std.proofs.lemmas.List.{length-map, get_or-map}
use Rattle.std.proofs.lemmas.List.Quantifiers.{position-Some}
use Rattle.std.proofs.lemmas.Slice.Eq.{bytes_eq-Decides}
use Rattle.std.proofs.lemmas.Str.{IsUtf8-from_ascii}
use Rattle.pm_base.proofs.Bools.{or_false}
use Rattle.pm_tree.specs.Names.{auctioneer, is_name, is_name_byte, is_rest_of_name, has_name_form}
use Rattle.pm_tree.specs.Entries.{Entry, entry_at, names_of, node_named, entry_refusal, refusals_after, first_refusal, checked_tree}
use Rattle.pm_tree.proofs.Named.{and_true, list_any-position}
use Rattle.pm_tree.proofs.Refusals.{refused_name}
use Rattle.pm_plan.specs.Plans.{PlanData}
use Rattle.pm_plan.specs.Kept.{IsPlan}
use Rattle.pm_report.specs.Words.{name}
use Rattle.pm_report.proofs.Names.{split_none, accepted_all, none_refused}

-- a name is text

name_byte_low : (byte : ℕ) → is_name_byte byte ≡ true → nat_lt byte 128 ≡ true
name_byte_low byte is = grind (arith, nat_tests)

first_byte_low : (byte : ℕ) → is_ascii_alphabetic byte ≡ true → nat_lt byte 128 ≡ true
first_byte_low byte is = grind (arith, nat_tests)

rest_low : (rest : List ℕ) → list_all is_name_byte rest ≡ true → list_all (λ byte. nat_lt byte 128) rest ≡ true
rest_low [] are = refl
rest_low (byte ∷ rest) are =
    let both = and_true (is_name_byte byte) (list_all is_name_byte rest) are in
    let here = name_byte_low byte both.0 in
    let more = rest_low rest both.1 in
    (λ i. here i && more i)

formed_low : (bytes : List ℕ) → has_name_form bytes ≡ true → list_all (λ byte. nat_lt byte 128) bytes ≡ true
formed_low [] is = refl
formed_low (first ∷ rest) is =
    let both = and_true (is_ascii_alphabetic first) (is_rest_of_name rest) is in
    let here = first_byte_low first both.0 in
    let more = rest_low rest (and_true (nat_lt (length rest) 32) (list_all is_name_byte rest) both.1).1 in
    (λ i. here i && more i)

ascii : (bytes : List ℕ) → list_all (λ byte. nat_lt byte 128) bytes ≡ true → IsAscii bytes
ascii [] are i = omega arith
ascii (byte ∷ bytes) are zero = ltb-true byte 128 (and_true (nat_lt byte 128) (list_all (λ byte. nat_lt byte 128) bytes) are).0
ascii (byte ∷ bytes) are (suc i) = ascii bytes (and_true (nat_lt byte 128) (list_all (λ byte. nat_lt byte 128) bytes) are).1 i

name_text : (bytes : List ℕ) → is_name bytes ≡ true → IsUtf8 bytes
unfolding is_name
name_text bytes is = IsUtf8-from_ascii bytes (ascii bytes (formed_low bytes (and_true (has_name_form bytes) (not (bytes_eq bytes auctioneer)) is).0))

-- each entry of a tree has a lawful name

lawful_name : (before : List Entry) (entry : Entry) → entry_refusal before entry ≡ None → is_name entry.name ≡ true
lawful_name before entry accepted = by (is_name entry.name) refl
  where
    by : (lawful : Bool) → is_name entry.name ≡ lawful → is_name entry.name ≡ true
    by true lawful = lawful
    by false lawful = let refused = sym accepted ∙ refused_name before entry lawful in absurd cc

lawful_after : (seen more : List Entry) → slice_get (refusals_after seen more) 0 ≡ None → (k : ℕ) → k < length more →
    is_name (entry_at more k).name ≡ true
lawful_after seen [] accepted k inside = absurd (omega arith)
lawful_after seen (entry ∷ more) accepted zero inside =
    lawful_name seen entry (split_none (entry_refusal seen entry) (refusals_after (seen ++ entry ∷ []) more) accepted).0
lawful_after seen (entry ∷ more) accepted (suc k) inside =
    lawful_after (seen ++ entry ∷ []) more (split_none (entry_refusal seen entry) (refusals_after (seen ++ entry ∷ []) more) accepted).1 k (omega arith)

each_lawful : (entries : List Entry) → checked_tree entries ≡ Ok entries → (k : ℕ) → k < length entries → is_name (entry_at entries k).name ≡ true
each_lawful entries accepted = lawful_after [] entries (none_refused entries (accepted_all entries (first_refusal entries) accepted))

abbrev no_entry : Entry
no_entry = record { name = []; parent = []; leaf = false }

found_any : (names : List (List ℕ)) (word : List ℕ) (k : ℕ) → k < length names → get_or names k [] ≡ word →
    list_any (bytes_eq word) names ≡ false → ⊥
found_any [] word k inside same none = absurd (omega arith)
found_any (first ∷ names) word zero inside same none =
    let fails = (or_false (bytes_eq word first) (list_any (bytes_eq word) names) none).0 in
    let passes = (bytes_eq-Decides word first).1 (sym same) in
    absurd cc
found_any (first ∷ names) word (suc k) inside same none =
    found_any names word k (omega arith) same (or_false (bytes_eq word first) (list_any (bytes_eq word) names) none).1

module _ (plan : PlanData) (is : IsPlan plan) where
  counted : length (names_of plan.entries) ≡ length plan.nodes + 1
  counted = let each = is.nodes.one_each in omega (arith, length-map plan.entries (λ (e : Entry). e.name))

  -- the name of a node is text
  pub node_text : (x : ℕ) → x ≤ length plan.nodes → IsUtf8 (name plan x)
  node_text zero inside = IsUtf8-from_ascii auctioneer (ascii auctioneer refl)
  node_text (suc k) inside =
      let low : k < length plan.entries = omega (arith, counted, length-map plan.entries (λ (e : Entry). e.name)) in
      subst IsUtf8 (sym (get_or-map (λ (e : Entry). e.name) plan.entries k no_entry [] low))
      (name_text (entry_at plan.entries k).name (each_lawful plan.entries is.accepted k low))

  -- a name that is found is that of the node
  pub node_found : (word : List ℕ) (x : ℕ) → node_named plan.entries word ≡ Some x → (x ≤ length plan.nodes) × (name plan x ≡ word)
  unfolding node_named
  node_found word x found =
      let at = position-Some (bytes_eq word) (names_of plan.entries) x [] found in
      (omega (arith, at.0, counted), sym ((bytes_eq-Decides word (name plan x)).0 at.1))

  -- the name of a node is found
  pub node_not_found : (word : List ℕ) → node_named plan.entries word ≡ None → (x : ℕ) → x ≤ length plan.nodes → name plan x ≢ word
  unfolding node_named
  node_not_found word none x inside same =
      found_any (names_of plan.entries) word x (omega (arith, counted)) same (list_any-position (bytes_eq word) (names_of plan.entries) none)
