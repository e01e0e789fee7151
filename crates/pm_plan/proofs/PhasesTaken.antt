-- What holds of a plan while its phases are taken.
use Rattle.std.proofs.Common.{◌≡◌, ◌∙◌, sym, ap, ℕ, zero, suc, ◌+◌, ◌-◌, ◌<◌, ◌≤◌, ◌≢◌, ℤ, Bool, true, false, List, []}
use Rattle.std.proofs.Common.{◌∷◌, ◌++◌, length, map, get_or, cond, refl, arith, subst, inl, inr, IsTrue, Option, Some, None, Ok}
use Rattle.std.specs.Prelude.{◌==◌, not, nat_le, if◌then◌else◌, option_and_then, is_some}
use Rattle.std.specs.List.{count_by, sum_by}
use Rattle.std.proofs.Math.ListN.{set, get_or-append, get_or-eq_default}
use Rattle.std.proofs.Math.Seq.{get_or-append_seam}
use Rattle.std.proofs.lemmas.Bool.{cases_lt, leb-true}
use Rattle.std.proofs.lemmas.Bool.Decides.{nat_tests}
use Rattle.std.proofs.lemmas.List.{length-append, length-map, length-set, get_or_default}
use Rattle.std.proofs.lemmas.List.Sums.{sum_by-set, sum_by_push, sum_by-le, sum_by-cons}
use Rattle.pm_device.specs.declared.kind.Kind.{Kind}
use Rattle.pm_tree.specs.Entries.{Entry, node_named, is_leaf_at}
use Rattle.pm_plan.specs.declared.refusal.Cause.TheVariants as cause
use Rattle.pm_plan.specs.declared.planned.Change.{Change}
use Rattle.pm_plan.specs.declared.planned.Planned.{Planned}
use Rattle.pm_plan.specs.declared.planned.Planned.TheVariants.{Join, Leave, Set, Tick}
use Rattle.pm_plan.specs.declared.refusal.Cause.{Cause}
use Rattle.pm_plan.specs.declared.refusal.Place.{Place}
use Rattle.pm_plan.specs.declared.refusal.Place.TheVariants.{Phase, Event}
use Rattle.pm_plan.specs.Parts.{EventPart, join, state, leave, PhasePart, events, tick}
use Rattle.pm_plan.specs.Devices.{DeviceData}
use Rattle.pm_plan.specs.declared.node.Node.TheVariants.{Concentrator, Limited, Device}
use Rattle.pm_plan.specs.Plans.{PlanData, NodeData, node, is_device, limits_of, kind_of, changes_of, is_leaf, is_limited, phases, minutes_of, all_changes}
use Rattle.pm_plan.specs.Plans.{changes_in}
use Rattle.pm_plan.specs.Kept.{AreArrays, no_change, change_fits, are_minutes}
use Rattle.pm_base.specs.Limits.{most_events, most_changes}
use Rattle.pm_plan.specs.Refusals.{need}
use Rattle.pm_base.specs.Outcomes.{◌>>=◌, fold_from}
use Rattle.pm_plan.specs.Building.{leaf_or_none, device_named, with_change, map_device, with_change_of, is_member_now, member_named, stranger_named, state_of}
use Rattle.pm_plan.specs.Building.{event_of, add_event, ticks_now, device_after_tick, with_phase, with_tick, phase_of, add_phase}
use Rattle.pm_plan.proofs.DeviceNodes.{device-is, is_device-map_device, limited-map_device, device_first, device_last}
use Rattle.pm_plan.proofs.Inversions.{bind-ok, check-ok, ok-is, fold_keeps}
use Rattle.pm_plan.proofs.Changes.{DeviceHolds, NodeHolds, with_change-holds, next_phase}
use Rattle.pm_plan.proofs.NodesAt.{same_with, each_with_change, node-ticked, group-same_all}
use Rattle.pm_plan.proofs.NodesTaken.{Holds, OneLimit}
use Rattle.pm_plan.proofs.StatesMade.{StateMade, state-made}

-- ---- counts of changes

-- how many changes of a node belong to a phase
abbrev of_phase : ℕ → NodeData → ℕ
of_phase q n = count_by (λ change. change.phase == q) (changes_of n)

other_phase : (p q : ℕ) → p ≢ q → (p == q) ≡ false
other_phase p q other = grind (arith, nat_tests)

one_more_of : (q p : ℕ) (planned : DeviceData) (what : Planned) →
    of_phase q (Device (with_change p what planned)) ≡ of_phase q (Device planned) + cond (p == q) 1 0
one_more_of q p planned what = sum_by_push (λ (c : Change). cond (c.phase == q) 1 0) planned.changes (record { phase = p; what = what })

one_more_at : (q p : ℕ) (n : NodeData) (planned : DeviceData) (what : Planned) → n ≡ Device planned →
    of_phase q (map_device (with_change p what) n) ≡ of_phase q n + cond (p == q) 1 0
one_more_at q p n planned what is =
    let P : NodeData → Type 0 = λ (m : NodeData). of_phase q (map_device (with_change p what) m) ≡ of_phase q m + cond (p == q) 1 0 in
    subst P (sym is) (one_more_of q p planned what)

at_most_one_more : (b : Bool) (n : ℕ) → n + cond b 1 0 ≤ n + 1
at_most_one_more true n = omega arith
at_most_one_more false n = omega arith

none_more : (b : Bool) (n : ℕ) → b ≡ false → n + cond b 1 0 ≡ n
none_more true n h = absurd (cc h)
none_more false n h = omega arith

-- one more change of a device counts once, and only in its own phase
changes_with : (plan : PlanData) (d p q : ℕ) (planned : DeviceData) (what : Planned) → node plan d ≡ Device planned →
    changes_in (with_change_of plan d p what).nodes q ≡ changes_in plan.nodes q + cond (p == q) 1 0
unfolding with_change_of
changes_with plan zero p q planned what is = absurd (cc is)
changes_with plan (suc d) p q planned what is =
    let new = map_device (with_change p what) (node plan (suc d)) in
    let high = device_last plan.nodes (suc d) planned is in
    let place : suc d - 1 ≡ d = omega arith in
    let all = sum_by-set (of_phase q) plan.nodes d new Concentrator (omega arith) in
    let one = one_more_at q p (node plan (suc d)) planned what is in
    let here = ap (λ i. changes_in (set plan.nodes i new) q) place in
    omega (arith, here, all, one)

changes_with_other : (plan : PlanData) (d p q : ℕ) (planned : DeviceData) (what : Planned) → node plan d ≡ Device planned → p ≢ q →
    changes_in (with_change_of plan d p what).nodes q ≡ changes_in plan.nodes q
changes_with_other plan d p q planned what is other = changes_with plan d p q planned what is
    ∙ none_more (p == q) (changes_in plan.nodes q) (other_phase p q other)

chosen_count : (q : ℕ) (b : Bool) (x y : DeviceData) → of_phase q (Device x) ≡ of_phase q (Device y) →
    of_phase q (Device (if b then x else y)) ≡ of_phase q (Device y)
chosen_count q true x y same = same
chosen_count q false x y same = refl

ticked_count : (q p : ℕ) (minutes : ℤ) (n : NodeData) → p ≢ q → of_phase q (map_device (device_after_tick p minutes) n) ≡ of_phase q n
ticked_count q p minutes Concentrator other = refl
ticked_count q p minutes (Limited limits) other = refl
ticked_count q p minutes (Device planned) other =
    chosen_count q (ticks_now planned) (with_change p (Tick minutes) planned) planned
    (one_more_of q p planned (Tick minutes) ∙ none_more (p == q) (of_phase q (Device planned)) (other_phase p q other))

sum_by-map : {A B : Type 0} (f : B → ℕ) (g : A → B) (h : A → ℕ) → ((x : A) → f (g x) ≡ h x) → (xs : List A) →
    sum_by f (map g xs) ≡ sum_by h xs
sum_by-map f g h same [] = refl
sum_by-map f g h same (x ∷ xs) =
    let one = sum_by-cons f (g x) (map g xs) in
    let two = sum_by-cons h x xs in
    let rest = sum_by-map f g h same xs in
    let here = same x in
    omega (arith, one, two, rest, here)

changes_ticked : (plan : PlanData) (p q : ℕ) (minutes : ℤ) → p ≢ q → changes_in (with_tick p minutes plan).nodes q ≡ changes_in plan.nodes q
changes_ticked plan p q minutes other = sum_by-map (of_phase q) (map_device (device_after_tick p minutes)) (of_phase q)
    (λ n. ticked_count q p minutes n other) plan.nodes

-- ---- the way through the phases

-- what holds of a plan of which k phases are closed, where phase p is the last that may have changes
pub record OnWay (entries : List Entry) (p k : ℕ) (plan : PlanData) : Type 0 where
  -- the tree of the plan has these entries
  pub same_entries : plan.entries ≡ entries
  -- the plan has one node for each entry
  pub many : length plan.nodes ≡ length plan.entries
  -- a node is a device exactly where it is a leaf of the tree
  pub devices : (x : ℕ) → is_device (node plan x) ≡ is_leaf plan x
  -- the plan has k phases
  pub closed : phases plan ≡ k
  -- the minutes of each tick are those that a tick may have
  pub minutes : (q : ℕ) (m : ℤ) → minutes_of plan q ≡ Some m → IsTrue (are_minutes m)
  -- each phase of events so far has no more changes than the most events of a phase
  pub few_events : (q : ℕ) → 1 ≤ q → q ≤ k → minutes_of plan q ≡ None → changes_in plan.nodes q ≤ most_events
  -- no limited concentrator stands above a limited one
  pub one_limit : OneLimit plan
  -- what holds of a plan all along holds, where phase p is the last that may have changes
  pub holds : Holds p plan

limited_with : (plan : PlanData) (d p x : ℕ) (what : Planned) → 1 ≤ d → d ≤ length plan.nodes →
    is_limited (with_change_of plan d p what) x ≡ is_limited plan x
limited_with plan d p x what low high = same_with (λ (n : NodeData). is_some (limits_of n)) limited-map_device plan d p x what low high

length-with : (plan : PlanData) (d p : ℕ) (what : Planned) → length (with_change_of plan d p what).nodes ≡ length plan.nodes
unfolding with_change_of
length-with plan d p what = length-set plan.nodes (d - 1) (map_device (with_change p what) (node plan d))

-- a device with one more change holds, seen as the node that it is
changed_holds : (p : ℕ) (n : NodeData) (planned : DeviceData) (what : Planned) → n ≡ Device planned → NodeHolds p n → 1 ≤ p →
    IsTrue (change_fits planned.kind what) → NodeHolds p (map_device (with_change p what) n)
changed_holds p n planned what is hold low fits =
    let P : NodeData → Type 0 = λ (m : NodeData). NodeHolds p m → NodeHolds p (map_device (with_change p what) m) in
    subst P (sym is) (λ device. with_change-holds p planned what device low fits) hold

-- one more change of a device
change_on_way : (entries : List Entry) (p k d : ℕ) (plan : PlanData) (planned : DeviceData) (what : Planned) → OnWay entries p k plan →
    node plan d ≡ Device planned → k < p → IsTrue (change_fits planned.kind what) → OnWay entries p k (with_change_of plan d p what)
unfolding with_change_of
change_on_way entries p k d plan planned what way is later fits =
    let low = device_first plan.nodes d planned is in
    let high = device_last plan.nodes d planned is in
    let new = with_change_of plan d p what in
    record {
      same_entries = way.same_entries;
      many = length-with plan d p what ∙ way.many;
      devices = λ x. same_with is_device is_device-map_device plan d p x what low high ∙ way.devices x;
      closed = way.closed;
      minutes = way.minutes;
      few_events = λ q first last none.
          (let same = changes_with_other plan d p q planned what is (λ e. (let b : q < q = omega (arith, e) in absurd (omega arith))) in
          let few = way.few_events q first last none in omega arith);
      one_limit = λ x within bounded.
          group-same_all plan new x refl (λ y. limited_with plan d p y what low high)
          ∙ way.one_limit x within (sym (limited_with plan d p x what low high) ∙ bounded);
      holds = record {
        basis = way.holds.basis;
        arrays = record { steps = way.holds.arrays.steps; fall = way.holds.arrays.fall; within = way.holds.arrays.within };
        nodes = each_with_change (NodeHolds p) plan d p what low high way.holds.nodes
            (changed_holds p (node plan d) planned what is (way.holds.nodes d) (omega arith) fits);
      };
    }

-- other arrays
arrays_on_way : (entries : List Entry) (p k : ℕ) (plan : PlanData) (arrays : List (List ℤ)) → OnWay entries p k plan →
    AreArrays (record plan { arrays = arrays }) → OnWay entries p k (record plan { arrays = arrays })
arrays_on_way entries p k plan arrays way all = record {
  same_entries = way.same_entries;
  many = way.many;
  devices = way.devices;
  closed = way.closed;
  minutes = way.minutes;
  few_events = way.few_events;
  one_limit = λ x within bounded. group-same_all plan (record plan { arrays = arrays }) x refl (λ y. refl) ∙ way.one_limit x within bounded;
  holds = record { basis = way.holds.basis; arrays = all; nodes = way.holds.nodes };
}

-- ---- events

need-ok : {A : Type 0} (why : Cause) (place : Place) (o : Option A) (x : A) → need why place o ≡ Ok x → o ≡ Some x
need-ok why place None x h = absurd (cc h)
need-ok why place (Some y) x h = ap (λ z. (let o : Option _ = Some z in o)) (ok-is y x h)

leaf_if : (entries : List Entry) (x d : ℕ) (b : Bool) → is_leaf_at entries x ≡ b → (if b then Some x else None) ≡ Some d →
    is_leaf_at entries d ≡ true
leaf_if entries x d true is h = let same : x ≡ d = cc h in subst (λ y. is_leaf_at entries y ≡ true) same is
leaf_if entries x d false is h = absurd (cc h)

leaf_of : (entries : List Entry) (o : Option ℕ) (d : ℕ) → option_and_then (leaf_or_none entries) o ≡ Some d → is_leaf_at entries d ≡ true
leaf_of entries None d h = absurd (cc h)
leaf_of entries (Some x) d h = leaf_if entries x d (is_leaf_at entries x) refl h

member-leaf : (place : Place) (plan : PlanData) (name : List ℕ) (d : ℕ) → member_named place plan name ≡ Ok d → is_leaf plan d ≡ true
unfolding member_named
member-leaf place plan name d h =
    let found = bind-ok (need cause.UnknownDevice place (device_named plan.entries name)) _ d h in
    let inside = check-ok cause.NotJoined place (is_member_now plan found.value) _ d found.rest in
    leaf_of plan.entries (node_named plan.entries name) d
    (need-ok cause.UnknownDevice place (device_named plan.entries name) found.value found.first
    ∙ ap (λ z. (let o : Option ℕ = Some z in o)) (ok-is found.value d inside.rest))

stranger-leaf : (place : Place) (plan : PlanData) (name : List ℕ) (d : ℕ) → stranger_named place plan name ≡ Ok d → is_leaf plan d ≡ true
unfolding stranger_named
stranger-leaf place plan name d h =
    let found = bind-ok (need cause.UnknownDevice place (device_named plan.entries name)) _ d h in
    let inside = check-ok cause.JoinedAlready place (not (is_member_now plan found.value)) _ d found.rest in
    leaf_of plan.entries (node_named plan.entries name) d
    (need-ok cause.UnknownDevice place (device_named plan.entries name) found.value found.first
    ∙ ap (λ z. (let o : Option ℕ = Some z in o)) (ok-is found.value d inside.rest))

-- what holds once these events of phase p were taken
record EventsTaken (entries : List Entry) (p k : ℕ) (done : List EventPart) (plan : PlanData) : Type 0 where
  way : OnWay entries p k plan
  count : changes_in plan.nodes p ≤ length done

-- a leaf is a device
leaf_device : (entries : List Entry) (p k d : ℕ) (plan : PlanData) → OnWay entries p k plan → is_leaf plan d ≡ true →
    (planned : DeviceData) × (node plan d ≡ Device planned)
leaf_device entries p k d plan way leaf = device-is (node plan d) (way.devices d ∙ leaf)

event_taken : (entries : List Entry) (p k d : ℕ) (done : List EventPart) (part : EventPart) (plan : PlanData) (planned : DeviceData) (what : Planned) →
    EventsTaken entries p k done plan → node plan d ≡ Device planned → k < p → IsTrue (change_fits planned.kind what) →
    EventsTaken entries p k (done ++ part ∷ []) (with_change_of plan d p what)
event_taken entries p k d done part plan planned what before is later fits =
    let all = changes_with plan d p p planned what is in
    let one = at_most_one_more (p == p) (changes_in plan.nodes p) in
    let long = length-append done (part ∷ []) in
    let few = before.count in
    record { way = change_on_way entries p k d plan planned what before.way is later fits; count = omega arith }

-- the plan in which the state that was made for a device is set
abbrev set_of : ℕ → ℕ → ℤ × PlanData → PlanData
set_of d p made = with_change_of made.1 d p (Set (record { 0 = made.0 }))

state_taken : (entries : List Entry) (p k d : ℕ) (done : List EventPart) (part : EventPart) (plan : PlanData) (planned : DeviceData)
    (made : ℤ × PlanData) →
    EventsTaken entries p k done plan → node plan d ≡ Device planned → k < p → StateMade planned.kind plan made →
    EventsTaken entries p k (done ++ part ∷ []) (set_of d p made)
state_taken entries p k d done part plan planned made before is later facts =
    let other : PlanData = record plan { arrays = facts.arrays } in
    let middle : EventsTaken entries p k done other =
    record { way = arrays_on_way entries p k plan facts.arrays before.way facts.bids; count = before.count } in
    let taken = event_taken entries p k d done part other planned (Set (record { 0 = made.0 })) middle is later facts.fits in
    let P : PlanData → Type 0 = λ (q : PlanData). EventsTaken entries p k (done ++ part ∷ []) (with_change_of q d p (Set (record { 0 = made.0 }))) in
    subst P (sym facts.is) taken

add_event_taken : (entries : List Entry) (p k n : ℕ) (done : List EventPart) (plan made : PlanData) (part : EventPart) → k < p →
    EventsTaken entries p k done plan → event_of (Event p n) p plan part ≡ Ok made → EventsTaken entries p k (done ++ part ∷ []) made
unfolding event_of
add_event_taken entries p k n done plan made (join name) later before h =
    let found = bind-ok (stranger_named (Event p n) plan name) (λ d. Ok (with_change_of plan d p Join)) made h in
    let here = leaf_device entries p k found.value plan before.way (stranger-leaf (Event p n) plan name found.value found.first) in
    subst (EventsTaken entries p k (done ++ join name ∷ [])) (ok-is (with_change_of plan found.value p Join) made found.rest)
    (event_taken entries p k found.value done (join name) plan here.0 Join before here.1 later refl)
add_event_taken entries p k n done plan made (leave name) later before h =
    let found = bind-ok (member_named (Event p n) plan name) (λ d. Ok (with_change_of plan d p Leave)) made h in
    let here = leaf_device entries p k found.value plan before.way (member-leaf (Event p n) plan name found.value found.first) in
    subst (EventsTaken entries p k (done ++ leave name ∷ [])) (ok-is (with_change_of plan found.value p Leave) made found.rest)
    (event_taken entries p k found.value done (leave name) plan here.0 Leave before here.1 later refl)
add_event_taken entries p k n done plan made (state name value) later before h =
    let place = Event p n in
    let found = bind-ok (member_named place plan name)
    (λ d. need cause.UnknownDevice place (kind_of (node plan d)) >>= λ kind. state_of place kind plan value >>= λ s. Ok (set_of d p s)) made h in
    let d = found.value in
    let kind = bind-ok (need cause.UnknownDevice place (kind_of (node plan d)))
    (λ kind. state_of place kind plan value >>= λ s. Ok (set_of d p s)) made found.rest in
    let set = bind-ok (state_of place kind.value plan value) (λ s. Ok (set_of d p s)) made kind.rest in
    let here = leaf_device entries p k d plan before.way (member-leaf place plan name d found.first) in
    let some = sym (ap kind_of here.1) ∙ need-ok cause.UnknownDevice place (kind_of (node plan d)) kind.value kind.first in
    let same : kind.value ≡ here.0.kind = cc some in
    let facts = state-made place kind.value plan value set.value before.way.holds.basis before.way.holds.arrays set.first in
    let fits = subst (λ (one : Kind). StateMade one plan set.value) same facts in
    subst (EventsTaken entries p k (done ++ state name value ∷ [])) (ok-is (set_of d p set.value) made set.rest)
    (state_taken entries p k d done (state name value) plan here.0 set.value before here.1 later fits)

-- ---- phases

-- a sum over a list is 0 where it is 0 for each element
pub sum_none : {X : Type 0} (f : X → ℕ) (xs : List X) → ((i : ℕ) (d : X) → i < length xs → f (get_or xs i d) ≤ 0) → sum_by f xs ≤ 0
sum_none f xs all = (let le = sum_by-le f 0 xs all in omega arith)

-- no change belongs to a phase after the last that may have any
none_later : (p q : ℕ) (n : NodeData) → NodeHolds p n → p < q → of_phase q n ≤ 0
none_later p q Concentrator hold later = omega arith
none_later p q (Limited limits) hold later = omega arith
none_later p q (Device planned) hold later =
    sum_none (λ (c : Change). cond (c.phase == q) 1 0) planned.changes
    (λ i d inside.
    let last = hold.changes.last i inside in
    let same = ap (λ (c : Change). c.phase) (get_or_default planned.changes i d no_change inside) in
    let other = other_phase (get_or planned.changes i d).phase q (λ e. absurd (omega arith)) in
    let is = none_more ((get_or planned.changes i d).phase == q) 0 other in
    omega arith)

none_later_of : (p q : ℕ) (plan : PlanData) → Holds p plan → p < q → changes_in plan.nodes q ≤ 0
none_later_of p q plan holds later =
    sum_none (of_phase q) plan.nodes
    (λ i d inside.
    let here = get_or_default plan.nodes i d Concentrator inside in
    subst (λ (n : NodeData). of_phase q n ≤ 0) (sym here) (none_later p q (node plan (suc i)) (holds.nodes (suc i)) later))

open_phase : (entries : List Entry) (k : ℕ) (plan : PlanData) → OnWay entries k k plan → OnWay entries (k + 1) k plan
open_phase entries k plan way = record {
  same_entries = way.same_entries;
  many = way.many;
  devices = way.devices;
  closed = way.closed;
  minutes = way.minutes;
  few_events = way.few_events;
  one_limit = way.one_limit;
  holds = record { basis = way.holds.basis; arrays = way.holds.arrays; nodes = λ x. next_phase k (node plan x) (way.holds.nodes x) };
}

-- the minutes of one phase more
minutes_before : (minutes : List (Option ℤ)) (new : Option ℤ) (q : ℕ) → q - 1 < length minutes →
    get_or (minutes ++ new ∷ []) (q - 1) None ≡ get_or minutes (q - 1) None
minutes_before minutes new q inside = get_or-append minutes (new ∷ []) None (q - 1) inside

minutes_here : (minutes : List (Option ℤ)) (new : Option ℤ) (q : ℕ) → q - 1 ≡ length minutes → get_or (minutes ++ new ∷ []) (q - 1) None ≡ new
minutes_here minutes new q is = ap (λ i. get_or (minutes ++ new ∷ []) i None) is ∙ get_or-append_seam minutes new [] None

minutes_beyond : (minutes : List (Option ℤ)) (new : Option ℤ) (q : ℕ) → length minutes < q - 1 → get_or (minutes ++ new ∷ []) (q - 1) None ≡ None
minutes_beyond minutes new q far = get_or-eq_default (minutes ++ new ∷ []) None {n = q - 1} (let long = length-append minutes (new ∷ []) in omega arith)

minutes_with : (minutes : List (Option ℤ)) (new : Option ℤ) →
    ((q : ℕ) (m : ℤ) → get_or minutes (q - 1) None ≡ Some m → IsTrue (are_minutes m)) →
    ((m : ℤ) → new ≡ Some m → IsTrue (are_minutes m)) →
    (q : ℕ) (m : ℤ) → get_or (minutes ++ new ∷ []) (q - 1) None ≡ Some m → IsTrue (are_minutes m)
minutes_with minutes new all one q m is = elim (cases_lt (q - 1) (length minutes)) [
  | inl old ↦ all q m (sym (minutes_before minutes new q old) ∙ is)
  | inr late ↦ elim (cases_lt (length minutes) (q - 1)) [
    | inl far ↦ absurd (cc (sym (minutes_beyond minutes new q far) ∙ is))
    | inr near ↦ one m (sym (minutes_here minutes new q (omega arith)) ∙ is)
  ]
]

-- the events of one phase more, whose number is k + 1
events_with : (minutes : List (Option ℤ)) (new : Option ℤ) (k : ℕ) (count : ℕ → ℕ) → length minutes ≡ k →
    ((q : ℕ) → 1 ≤ q → q ≤ k → get_or minutes (q - 1) None ≡ None → count q ≤ most_events) →
    (new ≡ None → count (k + 1) ≤ most_events) →
    (q : ℕ) → 1 ≤ q → q ≤ k + 1 → get_or (minutes ++ new ∷ []) (q - 1) None ≡ None → count q ≤ most_events
events_with minutes new k count closed all one q first last none = elim (cases_lt (q - 1) (length minutes)) [
  | inl old ↦ all q first (omega arith) (sym (minutes_before minutes new q old) ∙ none)
  | inr late ↦
      let here : q ≡ k + 1 = omega arith in
      subst (λ r. count r ≤ most_events) (sym here) (one (sym (minutes_here minutes new q (omega arith)) ∙ none))
]

-- a phase of events is closed
events_closed : (entries : List Entry) (k : ℕ) (plan : PlanData) → OnWay entries (k + 1) k plan →
    changes_in plan.nodes (k + 1) ≤ most_events → OnWay entries (k + 1) (k + 1) (with_phase plan None)
events_closed entries k plan way few = record {
  same_entries = way.same_entries;
  many = way.many;
  devices = way.devices;
  closed = length-append plan.minutes (None ∷ []) ∙ ap (λ n. n + 1) way.closed;
  minutes = minutes_with plan.minutes None way.minutes (λ m is. absurd (cc is));
  few_events = events_with plan.minutes None k (changes_in plan.nodes) way.closed way.few_events (λ is. few);
  one_limit = λ x within bounded. group-same_all plan (with_phase plan None) x refl (λ y. refl) ∙ way.one_limit x within bounded;
  holds = record {
    basis = way.holds.basis;
    arrays = record {
      steps = way.holds.arrays.steps;
      fall = way.holds.arrays.fall;
      within = way.holds.arrays.within;
    };
    nodes = way.holds.nodes;
  };
}

chosen_holds : (p : ℕ) (b : Bool) (x y : DeviceData) → DeviceHolds p x → DeviceHolds p y → DeviceHolds p (if b then x else y)
chosen_holds p true x y one two = one
chosen_holds p false x y one two = two

ticked_holds : (p : ℕ) (minutes : ℤ) (n : NodeData) → NodeHolds p n → 1 ≤ p → IsTrue (are_minutes minutes) →
    NodeHolds p (map_device (device_after_tick p minutes) n)
ticked_holds p minutes Concentrator hold low fits = tt
ticked_holds p minutes (Limited limits) hold low fits = hold
ticked_holds p minutes (Device planned) hold low fits =
    chosen_holds p (ticks_now planned) (with_change p (Tick minutes) planned) planned (with_change-holds p planned (Tick minutes) hold low fits) hold

-- a tick is closed
tick_closed : (entries : List Entry) (k : ℕ) (plan : PlanData) (minutes : ℤ) → OnWay entries (k + 1) k plan →
    IsTrue (are_minutes minutes) → OnWay entries (k + 1) (k + 1) (with_tick (k + 1) minutes plan)
tick_closed entries k plan minutes way fits =
    let new = with_tick (k + 1) minutes plan in
    let limited : (x : ℕ) → is_limited new x ≡ is_limited plan x =
    λ x. ap (λ (n : NodeData). is_some (limits_of n)) (node-ticked plan (k + 1) minutes x)
    ∙ limited-map_device (device_after_tick (k + 1) minutes) (node plan x) in
    record {
      same_entries = way.same_entries;
      many = length-map plan.nodes (map_device (device_after_tick (k + 1) minutes)) ∙ way.many;
      devices = λ x. ap is_device (node-ticked plan (k + 1) minutes x) ∙ is_device-map_device (device_after_tick (k + 1) minutes) (node plan x)
          ∙ way.devices x;
      closed = length-append plan.minutes (Some minutes ∷ []) ∙ ap (λ n. n + 1) way.closed;
      minutes = minutes_with plan.minutes (Some minutes) way.minutes
          (λ m is. subst (λ z. IsTrue (are_minutes z)) (let same : minutes ≡ m = cc is in same) fits);
      few_events =
          events_with plan.minutes (Some minutes) k (changes_in new.nodes) way.closed
          (λ q first last none. (let same = changes_ticked plan (k + 1) q minutes (λ e. absurd (omega arith)) in let few =
          way.few_events q first last none in omega arith))
          (λ is. absurd (cc is));
      one_limit = λ x within bounded.
          group-same_all plan new x refl limited ∙ way.one_limit x within (sym (limited x) ∙ bounded);
      holds = record {
        basis = way.holds.basis;
        arrays = record { steps = way.holds.arrays.steps; fall = way.holds.arrays.fall; within = way.holds.arrays.within };
        nodes = λ x. subst (NodeHolds (k + 1)) (sym (node-ticked plan (k + 1) minutes x))
            (ticked_holds (k + 1) minutes (node plan x) (way.holds.nodes x) (omega arith) fits);
      };
    }

-- what holds once these phases were taken
pub record PhasesTaken (entries : List Entry) (done : List PhasePart) (plan : PlanData) : Type 0 where
  -- all phases taken are closed, and what holds on the way through the phases holds of the plan
  pub way : OnWay entries (length done) (length done) plan
  -- the plan has no more changes than the most changes of a run
  pub few_changes : all_changes plan.nodes ≤ most_changes

phase_taken : (entries : List Entry) (k : ℕ) (plan made : PlanData) (part : PhasePart) → OnWay entries k k plan →
    phase_of (k + 1) plan part ≡ Ok made → OnWay entries (k + 1) (k + 1) made
unfolding phase_of
phase_taken entries k plan made (tick minutes) before h =
    let fits = check-ok cause.OutsideLimits (Phase (k + 1)) (are_minutes minutes) _ made h in
    subst (OnWay entries (k + 1) (k + 1)) (ok-is (with_tick (k + 1) minutes plan) made fits.rest)
    (tick_closed entries k plan minutes (open_phase entries k plan before) fits.holds)
phase_taken entries k plan made (events list) before h =
    let few = check-ok cause.RunTooLarge (Phase (k + 1)) (nat_le (length list) most_events) _ made h in
    let all = bind-ok (fold_from 1 (add_event (k + 1)) plan list) (λ after. Ok (with_phase after None)) made few.rest in
    let start : EventsTaken entries (k + 1) k [] plan =
    record { way = open_phase entries k plan before; count = none_later_of k (k + 1) plan before.holds (omega arith) } in
    let taken =
    fold_keeps (EventsTaken entries (k + 1) k) (add_event (k + 1))
    (λ done s t x held is. add_event_taken entries (k + 1) k (length done + 1) done s t x (omega arith) held is)
    [] list plan all.value start all.first in
    let within : length list ≤ most_events = leb-true (length list) most_events few.holds in
    subst (OnWay entries (k + 1) (k + 1)) (ok-is (with_phase all.value None) made all.rest)
    (events_closed entries k all.value taken.way (let c = taken.count in omega arith))

add_phase_taken : (entries : List Entry) (done : List PhasePart) (plan made : PlanData) (part : PhasePart) →
    PhasesTaken entries done plan → add_phase (length done + 1) plan part ≡ Ok made → PhasesTaken entries (done ++ part ∷ []) made
unfolding add_phase
add_phase_taken entries done plan made part before h =
    let after = bind-ok (phase_of (length done + 1) plan part) _ made h in
    let few = check-ok cause.RunTooLarge (Phase (length done + 1)) (nat_le (all_changes after.value.nodes) most_changes) _ made after.rest in
    let way = phase_taken entries (length done) plan after.value part before.way after.first in
    let long : length done + 1 ≡ length (done ++ part ∷ []) = sym (length-append done (part ∷ [])) in
    let taken : PhasesTaken entries (done ++ part ∷ []) after.value =
    record {
      way = subst (λ n. OnWay entries n n after.value) long way;
      few_changes = leb-true (all_changes after.value.nodes) most_changes few.holds;
    } in
    subst (PhasesTaken entries (done ++ part ∷ [])) (ok-is after.value made few.rest) taken

-- of the plan that phases give holds what holds once these were taken, if it held before the first
pub phases_taken : (entries : List Entry) (parts : List PhasePart) (plan made : PlanData) → PhasesTaken entries [] plan →
    fold_from 1 add_phase plan parts ≡ Ok made → PhasesTaken entries parts made
phases_taken entries parts plan made start h =
    fold_keeps (PhasesTaken entries) add_phase (λ done s t x. add_phase_taken entries done s t x) [] parts plan made start h
