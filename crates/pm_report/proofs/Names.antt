-- The names of a tree are words, and they differ.
use Rattle.std.proofs.Common.{◌≡◌, ◌∙◌, sym, ap, subst, refl, ℕ, zero, suc, ◌+◌, ◌<◌, ◌≤◌, Bool, true, false, cond, ◌&&◌, not}
use Rattle.std.proofs.Common.{nat_lt, List, [], ◌∷◌, ◌++◌, length, get_or, append_assoc, append-nil, length-append, arith, Option, Some, None}
use Rattle.std.proofs.Common.{is_some, Ok, slice_get}
use Rattle.std.specs.Char.{is_ascii_alphabetic}
use Rattle.std.specs.List.{list_all, list_any}
use Rattle.std.specs.Option.{option_to_list}
use Rattle.std.specs.Str.{bytes_eq}
use Rattle.std.proofs.lemmas.Bool.{ltb-true, ltb-false}
use Rattle.std.proofs.lemmas.Bool.Decides.{nat_tests}
use Rattle.std.proofs.lemmas.List.{length-map}
use Rattle.std.proofs.Math.ListN.{get_or-append}
use Rattle.std.proofs.Math.Seq.{get_or-append_seam}
use Rattle.std.proofs.lemmas.Slice.Eq.{bytes_eq-Decides}
use Rattle.pm_base.proofs.Bools.{or_false}
use Rattle.pm_base.proofs.Options.{none_of}
use Rattle.pm_base.specs.Limits.{most_nodes}
use Rattle.pm_tree.specs.Names.{auctioneer, is_name, is_name_byte, is_rest_of_name, has_name_form}
use Rattle.pm_tree.specs.Entries.{Entry, names_of, node_named, entry_refusal, refusals_after, first_refusal, tree_unless, checked_tree}
use Rattle.pm_tree.specs.declared.fault.TreeFault.{TreeFault}
use Rattle.pm_tree.specs.declared.fault.TreeFault.TheVariants.{TooMany}
use Rattle.pm_tree.proofs.Named.{and_true, list_any-position, names_of-append, length-parents_of}
use Rattle.pm_tree.proofs.Refusals.{refused_name, refused_twice}
use Rattle.pm_plan.specs.Plans.{PlanData, parent}
use Rattle.pm_plan.specs.Kept.{IsPlan}
use Rattle.pm_report.specs.Words.{name}
use Rattle.pm_report.proofs.LineWords.{IsWord}

-- a name is a word
name_byte_above : (byte : ℕ) → is_name_byte byte ≡ true → nat_lt 32 byte ≡ true
name_byte_above byte is = grind (arith, nat_tests)

first_byte_above : (byte : ℕ) → is_ascii_alphabetic byte ≡ true → nat_lt 32 byte ≡ true
first_byte_above byte is = grind (arith, nat_tests)

rest_word : (rest : List ℕ) → list_all is_name_byte rest ≡ true → IsWord rest
rest_word [] are = refl
rest_word (byte ∷ rest) are =
    let both = and_true (is_name_byte byte) (list_all is_name_byte rest) are in
    let here = name_byte_above byte both.0 in
    let more = rest_word rest both.1 in
    (λ i. here i && more i)

formed_word : (bytes : List ℕ) → has_name_form bytes ≡ true → IsWord bytes
formed_word [] is = refl
formed_word (first ∷ rest) is =
    let both = and_true (is_ascii_alphabetic first) (is_rest_of_name rest) is in
    let here = first_byte_above first both.0 in
    let more = rest_word rest (and_true (nat_lt (length rest) 32) (list_all is_name_byte rest) both.1).1 in
    (λ i. here i && more i)

name_word : (bytes : List ℕ) → is_name bytes ≡ true → IsWord bytes
unfolding is_name
name_word bytes is = formed_word bytes (and_true (has_name_form bytes) (not (bytes_eq bytes auctioneer)) is).0

-- an entry that is not refused has a lawful name that no entry before it has
pub record IsNew (before : List Entry) (entry : Entry) : Type 0 where
  -- the name of the entry is lawful
  pub lawful : is_name entry.name ≡ true
  -- no node before has the name of the entry
  pub new : node_named before entry.name ≡ None

is_new : (before : List Entry) (entry : Entry) → entry_refusal before entry ≡ None → IsNew before entry
is_new before entry accepted = by (is_name entry.name) refl (is_some (node_named before entry.name)) refl
  where
    by : (lawful : Bool) → is_name entry.name ≡ lawful → (taken : Bool) → is_some (node_named before entry.name) ≡ taken → IsNew before entry
    by false lawful taken is = let refused = sym accepted ∙ refused_name before entry lawful in absurd cc
    by true lawful true taken = let refused = sym accepted ∙ refused_twice before entry lawful taken in absurd cc
    by true lawful false free = record { lawful = lawful; new = none_of (node_named before entry.name) free }

-- names, each a word, and no two alike
pub record AreNames (names : List (List ℕ)) : Type 0 where
  -- each of the names is a word
  pub words : (k : ℕ) → k < length names → IsWord (get_or names k [])
  -- names that are alike stand at the same place
  pub differ : (j k : ℕ) → j < length names → k < length names → get_or names j [] ≡ get_or names k [] → j ≡ k

-- where a name of a list with one more stands
pub data Stands (names : List (List ℕ)) (name : List ℕ) (k : ℕ) : Type 0 where
  before : k < length names → get_or (names ++ name ∷ []) k [] ≡ get_or names k [] → Stands names name k
  last : k ≡ length names → get_or (names ++ name ∷ []) k [] ≡ name → Stands names name k

stands : (names : List (List ℕ)) (name : List ℕ) (k : ℕ) → k < length (names ++ name ∷ []) → Stands names name k
stands names name k inside = by (nat_lt k (length names)) refl
  where
    by : (b : Bool) → nat_lt k (length names) ≡ b → Stands names name k
    by true is = let low = ltb-true k (length names) is in before low (get_or-append names (name ∷ []) [] k low)
    by false is =
        let high = ltb-false k (length names) is in
        let at : k ≡ length names = omega (arith, length-append names (name ∷ [])) in
        last at (ap (λ n. get_or (names ++ name ∷ []) n []) at ∙ get_or-append_seam names name [] [])

-- one name more that is a word and is none of those before
one_more : (names : List (List ℕ)) (name : List ℕ) → AreNames names → IsWord name →
    ((k : ℕ) → k < length names → get_or names k [] ≡ name → ⊥) → AreNames (names ++ name ∷ [])
one_more names name are word new = record {
  words = λ k inside. word_at k (stands names name k inside);
  differ = λ j k j_inside k_inside same. differ_at j k (stands names name j j_inside) (stands names name k k_inside) same;
}
  where
    word_at : (k : ℕ) → Stands names name k → IsWord (get_or (names ++ name ∷ []) k [])
    word_at k (before low read) = subst IsWord (sym read) (are.words k low)
    word_at k (last at read) = subst IsWord (sym read) word

    differ_at : (j k : ℕ) → Stands names name j → Stands names name k →
        get_or (names ++ name ∷ []) j [] ≡ get_or (names ++ name ∷ []) k [] → j ≡ k
    differ_at j k (before j_low j_read) (before k_low k_read) same = are.differ j k j_low k_low (sym j_read ∙ same ∙ k_read)
    differ_at j k (before j_low j_read) (last k_at k_read) same = absurd (new j j_low (sym j_read ∙ same ∙ k_read))
    differ_at j k (last j_at j_read) (before k_low k_read) same = absurd (new k k_low (sym k_read ∙ sym same ∙ j_read))
    differ_at j k (last j_at j_read) (last k_at k_read) same = j_at ∙ sym k_at

not_found : (names : List (List ℕ)) (name : List ℕ) → list_any (bytes_eq name) names ≡ false → (k : ℕ) → k < length names →
    get_or names k [] ≡ name → ⊥
not_found [] name none k inside same = absurd (omega arith)
not_found (first ∷ names) name none zero inside same =
    let fails = (or_false (bytes_eq name first) (list_any (bytes_eq name) names) none).0 in
    let passes = (bytes_eq-Decides name first).1 (sym same) in
    absurd cc
not_found (first ∷ names) name none (suc k) inside same =
    not_found names name (or_false (bytes_eq name first) (list_any (bytes_eq name) names) none).1 k (omega arith) same

-- the names of entries and of one more that is new
next_name : (seen : List Entry) (entry : Entry) → AreNames (names_of seen) → IsNew seen entry → AreNames (names_of (seen ++ entry ∷ []))
unfolding node_named
next_name seen entry are is =
    subst AreNames (sym (names_of-append seen (entry ∷ [])))
    (one_more (names_of seen) entry.name are (name_word entry.name is.lawful)
    (not_found (names_of seen) entry.name (list_any-position (bytes_eq entry.name) (names_of seen) is.new)))

-- no first refusal, so none at all
pub split_none : {A : Type 0} (o : Option A) (xs : List A) → slice_get (option_to_list o ++ xs) 0 ≡ None → (o ≡ None) × (slice_get xs 0 ≡ None)
split_none None xs none = (refl, none)
split_none (Some x) xs none = absurd cc

-- the names of entries of which each is accepted after those before it
names_after : (seen more : List Entry) → AreNames (names_of seen) → slice_get (refusals_after seen more) 0 ≡ None → AreNames (names_of (seen ++ more))
names_after seen [] are accepted = subst (λ (entries : List Entry). AreNames (names_of entries)) (sym (append-nil seen)) are
names_after seen (entry ∷ more) are accepted =
    let both = split_none (entry_refusal seen entry) (refusals_after (seen ++ entry ∷ []) more) accepted in
    subst (λ (entries : List Entry). AreNames (names_of entries)) (append_assoc seen (entry ∷ []) more)
    (names_after (seen ++ entry ∷ []) more (next_name seen entry are (is_new seen entry both.0)) both.1)

-- the auctioneer's name
first_name : AreNames (names_of [])
first_name = record {
  words = λ k inside. (let only : k ≡ 0 = omega arith in subst (λ n. IsWord (get_or (names_of []) n [])) (sym only) refl);
  differ = λ j k j_inside k_inside same. omega arith;
}

-- a tree that is accepted has no refusal
pub accepted_all : (entries : List Entry) (refusal : Option TreeFault) → tree_unless entries refusal ≡ Ok entries → refusal ≡ None
accepted_all entries None is = refl
accepted_all entries (Some fault) is = absurd cc

none_of_rest : {A : Type 0} (many : Bool) (x : A) (o : Option A) → cond many (Some x) o ≡ None → o ≡ None
none_of_rest true x o none = absurd cc
none_of_rest false x o none = none

-- a list of entries without a first refusal has no entry that is refused after those before it
pub none_refused : (entries : List Entry) → first_refusal entries ≡ None → slice_get (refusals_after [] entries) 0 ≡ None
unfolding first_refusal
none_refused entries none = none_of_rest (nat_lt most_nodes (length entries)) (TooMany (length entries)) (slice_get (refusals_after [] entries) 0) none

-- the names of a tree
tree_names : (entries : List Entry) → checked_tree entries ≡ Ok entries → AreNames (names_of entries)
tree_names entries accepted = names_after [] entries first_name (none_refused entries (accepted_all entries (first_refusal entries) accepted))

module _ (plan : PlanData) (is : IsPlan plan) where
  counted : length (names_of plan.entries) ≡ length plan.nodes + 1
  counted = let each = is.nodes.one_each in omega (arith, length-map plan.entries (λ (e : Entry). e.name))

  -- the name of each node of a plan, the auctioneer included, is a word
  pub node_word : (x : ℕ) → x ≤ length plan.nodes → IsWord (name plan x)
  node_word x inside = let count = counted in (tree_names plan.entries is.accepted).words x (omega arith)

  -- nodes of a plan that have the same name, the auctioneer included, are the same node
  pub same_node : (x y : ℕ) → x ≤ length plan.nodes → y ≤ length plan.nodes → name plan x ≡ name plan y → x ≡ y
  same_node x y x_inside y_inside same = let count = counted in (tree_names plan.entries is.accepted).differ x y (omega arith) (omega arith) same

  -- a parent is an earlier node
  pub parent_inside : (x : ℕ) → x ≤ length plan.nodes → parent plan x ≤ length plan.nodes
  parent_inside zero inside = omega arith
  parent_inside (suc x) inside =
      let each = is.nodes.one_each in
      let before = is.tree.earlier (suc x) (omega arith) (omega (arith, length-parents_of plan.entries)) in
      omega (arith, before)
