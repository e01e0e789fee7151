-- The lists of a plan, as far as they are made.
use Rattle.std.proofs.Common.{◌≡◌, ◌∙◌, sym, ap, refl, ℕ, zero, suc, ◌+◌, ◌-◌, ◌<◌, Bool, false, List, [], ◌∷◌}
use Rattle.std.proofs.Common.{◌++◌, length, map, take, get_or, arith, add-one}
use Rattle.std.specs.Prelude.{replicate}
use Rattle.std.specs.List.{range_with_len}
use Rattle.std.proofs.Math.Path.{fun_ext}
use Rattle.std.proofs.lemmas.List.{take_more}
use Rattle.std.proofs.lemmas.List.FromFn.{map-range_with_len_more}
use Rattle.std.proofs.lemmas.List.Sums.{fold-append}
use Rattle.pm_tree.specs.Entries.{Entry, parents_of, leaves_of, parent_of, is_leaf_at}
use Rattle.pm_tree.proofs.Named.{length-parents_of, length-leaves_of}
use Rattle.pm_plan.specs.Devices.{member_after, is_member_after}
use Rattle.pm_plan.specs.declared.planned.Change.{Change}
use Rattle.pm_plan.specs.Plans.{PlanData, node, changes_of, change_count, is_member, end_cut, node_numbers}
use Rattle.pm_plan.specs.Kept.{IsPlan, change_at, no_change}
use Rattle.pm_plan.proofs.Ends.{end-none}

-- so many zeros are as many values of the function that is always 0
replicate_as_map : (n a : ℕ) → replicate {A = ℕ} n 0 ≡ map (λ (x : ℕ). 0) (range_with_len a n)
replicate_as_map zero a = refl
replicate_as_map (suc n) a = ap (λ l. 0 ∷ l) (replicate_as_map n (a + 1))

-- one more value of a function at the numbers from 1 on
pub next_mapped : {X : Type 0} (f : ℕ → X) (xs : List X) (at : ℕ) (x : X) → xs ≡ map f (range_with_len 1 at) → x ≡ f (at + 1) →
    xs ++ x ∷ [] ≡ map f (range_with_len 1 (at + 1))
next_mapped f xs at x so_far here =
    ap (λ l. l ++ x ∷ []) so_far ∙ ap (λ y. map f (range_with_len 1 at) ++ y ∷ []) here ∙ sym (map-range_with_len_more f 1 at (at + 1) (omega arith))

-- one more parent
pub next_parent : (entries : List Entry) (xs : List ℕ) (at x : ℕ) → at < length entries → xs ≡ take at (parents_of entries) →
    x ≡ parent_of entries (at + 1) →
    xs ++ x ∷ [] ≡ take (at + 1) (parents_of entries)
next_parent entries xs at x inside so_far here =
    let read : parent_of entries (at + 1) ≡ get_or (parents_of entries) at 0 = ap (parent_of entries) (add-one at) in
    ap (λ l. l ++ x ∷ []) so_far ∙ ap (λ y. take at (parents_of entries) ++ y ∷ []) (here ∙ read)
    ∙ sym (take_more (parents_of entries) at 0 (omega (arith, length-parents_of entries, inside)))

-- one more test for a device
pub next_leaf : (entries : List Entry) (xs : List Bool) (at : ℕ) (x : Bool) → at < length entries → xs ≡ take at (leaves_of entries) →
    x ≡ is_leaf_at entries (at + 1) →
    xs ++ x ∷ [] ≡ take (at + 1) (leaves_of entries)
next_leaf entries xs at x inside so_far here =
    let read : is_leaf_at entries (at + 1) ≡ get_or (leaves_of entries) at false = ap (is_leaf_at entries) (add-one at) in
    ap (λ l. l ++ x ∷ []) so_far ∙ ap (λ y. take at (leaves_of entries) ++ y ∷ []) (here ∙ read)
    ∙ sym (take_more (leaves_of entries) at false (omega (arith, length-leaves_of entries, inside)))

-- whether a device is a member after one change more
member_more : (changes : List Change) (n : ℕ) (before : Bool) → n < length changes → before ≡ is_member_after (take n changes) →
    member_after before (get_or changes n no_change).what ≡ is_member_after (take (n + 1) changes)
member_more changes n before inside so_far =
    ap (λ b. member_after b (get_or changes n no_change).what) so_far
    ∙ sym (ap is_member_after (take_more changes n no_change inside)
    ∙ fold-append (λ (member : Bool) (change : Change). member_after member change.what) false (take n changes) (get_or changes n no_change ∷ []))

-- what the next change makes of a device's membership so far is its membership after one change more
pub next_member : (plan : PlanData) (d n : ℕ) (before : Bool) → n < change_count plan d → before ≡ is_member plan d n →
    member_after before (change_at plan d n).what ≡ is_member plan d (n + 1)
unfolding is_member
next_member plan d n before inside so_far = member_more (changes_of (node plan d)) n before inside so_far

-- before the first phase no node has made a change
pub no_ends : (plan : PlanData) (xs : List ℕ) → IsPlan plan → xs ≡ replicate (length plan.nodes) 0 → xs ≡ map (end_cut plan 0) (node_numbers plan)
no_ends plan xs is none =
    none ∙ replicate_as_map (length plan.nodes) 1
    ∙ ap (λ (f : ℕ → ℕ). map f (node_numbers plan)) (fun_ext (λ x. sym (end-none plan x is.in_phases)))
