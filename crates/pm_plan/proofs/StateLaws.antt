-- The states of the devices: a change makes the next state of the one before, a tick by the power at the end of the phase before.
use Rattle.std.proofs.Common.{◌≡◌, ◌∙◌, sym, ap, ℕ, zero, suc, ◌+◌, ◌-◌, ◌<◌, ◌≤◌, ℤ, pos, List, [], ◌∷◌, length, take}
use Rattle.std.proofs.Common.{get_or, refl, arith, add-one, length-append, inl, inr, subst}
use Rattle.std.proofs.lemmas.Bool.{cases_lt, leb-true}
use Rattle.std.proofs.Math.ListN.{get_or-append}
use Rattle.std.proofs.Math.Seq.{get_or-append_seam}
use Rattle.std.specs.Prelude.{All}
use Rattle.std.specs.List.{fold, prefix_len}
use Rattle.std.proofs.lemmas.List.{take_more, get_or_default, get_or-take, length-take-le}
use Rattle.std.proofs.lemmas.List.Sums.{fold-append, prefix_len_passes, prefix_len-le-length}
use Rattle.std.proofs.lemmas.List.FromFn.{get_or-map-range_with_len}
use Rattle.std.proofs.lemmas.List.Elements.{All-head, All-tail}
use Rattle.pm_plan.specs.declared.planned.Change.{Change}
use Rattle.pm_plan.specs.Devices.{DeviceData}
use Rattle.pm_plan.specs.declared.node.Node.TheVariants.{Concentrator, Limited, Device}
use Rattle.pm_plan.specs.Plans.{PlanData, NodeData, node, changes_of, phases, is_up_to, end_cut}
use Rattle.pm_plan.specs.Auction.{States, power}
use Rattle.pm_plan.specs.States.{changed_state, power_before, FollowChanges, power_in_rows, node_state, state_by_rows, power_row, with_next_row, power_rows}
use Rattle.pm_plan.specs.States.{state}
use Rattle.pm_plan.proofs.Auctions.{power_same}
use Rattle.pm_plan.proofs.Ends.{end-none, end-rises, end-within, end-last}
use Rattle.pm_plan.proofs.DeviceNodes.{device_first, device_last}
use Rattle.pm_plan.specs.Kept.{no_change, change_at, InPhases}
use Rattle.pm_plan.specs.Plans.{change_count}

length-power_rows : (plan : PlanData) (p : ℕ) → length (power_rows plan p) ≡ p
unfolding power_rows with_next_row
length-power_rows plan zero = refl
length-power_rows plan (suc p) = length-append (power_rows plan p) _ ∙ ap (λ n. n + 1) (length-power_rows plan p) ∙ add-one p

-- row p stays as it was made
power_rows-at : (plan : PlanData) (k p : ℕ) → p < k → get_or (power_rows plan k) p [] ≡ power_row plan (power_rows plan p) p
unfolding power_rows with_next_row
power_rows-at plan zero p h = absurd (omega arith)
power_rows-at plan (suc k) p h =
    let long = length-power_rows plan k in
    elim (cases_lt p k) [
      | inl below ↦ get_or-append (power_rows plan k) _ [] p (omega arith) ∙ power_rows-at plan k p below
      | inr above ↦
          let here : p ≡ k = omega arith in
          subst (λ (q : ℕ). get_or (power_rows plan (suc k)) q [] ≡ power_row plan (power_rows plan q) q) (sym here)
          (subst (λ (q : ℕ). get_or (power_rows plan (suc k)) q [] ≡ power_row plan (power_rows plan k) q) long
          (get_or-append_seam (power_rows plan k) (power_row plan (power_rows plan k) (length (power_rows plan k))) [] []))
    ]

power_in_rows-at : (plan : PlanData) (k p d : ℕ) → p < k → 1 ≤ d → d < 1 + length plan.nodes →
    power_in_rows (power_rows plan k) p d ≡ power plan (state_by_rows plan (power_rows plan p)) (end_cut plan p) d
unfolding power_row
power_in_rows-at plan k p zero h low high = absurd (omega arith)
power_in_rows-at plan k p (suc d) h low high =
    ap (λ r. get_or r (suc d) (pos 0)) (power_rows-at plan k p h)
    ∙ get_or-map-range_with_len (power plan (state_by_rows plan (power_rows plan p)) (end_cut plan p)) 1 (length plan.nodes) d (suc d) (pos 0) (omega arith)
    (omega arith)

fold_same : {A B : Type 0} (f g : B → A → B) (P : A → Type 0) → ((b : B) (x : A) → P x → f b x ≡ g b x) → (b : B) (xs : List A) →
    All P xs → fold f b xs ≡ fold g b xs
fold_same f g P same b [] all = refl
fold_same f g P same b (x ∷ xs) all =
    ap (λ z. fold f z xs) (same b x (All-head P x xs all)) ∙ fold_same f g P same (g b x) xs (All-tail P x xs all)

-- a change of the phases up to p
abbrev Before : ℕ → Change → Type 0
Before p c = c.phase - 1 < p

changes_before : (plan : PlanData) (p d n : ℕ) → n ≤ end_cut plan p d → InPhases plan → All (Before p) (take n (changes_of (node plan d)))
unfolding end_cut
changes_before plan p d n upto fits k c inside =
    let changes = changes_of (node plan d) in
    let short : prefix_len (is_up_to p) changes ≤ length changes = prefix_len-le-length (is_up_to p) changes in
    let below : k < n = omega (arith, length-take-le n changes (omega arith)) in
    let passed = prefix_len_passes (is_up_to p) changes k no_change (omega arith) in
    let low : 1 ≤ (get_or changes k no_change).phase = fits.first d k (omega arith) in
    let high : (get_or changes k no_change).phase ≤ p = leb-true _ p passed in
    let here : Before p (get_or changes k no_change) = omega arith in
    subst (Before p) (sym (get_or-take n changes k c below ∙ get_or_default changes k c no_change (omega arith))) here

-- changes of the phases up to p use the powers below p alone
node_state-same : (n : NodeData) (some all : ℕ → ℤ) (p k : ℕ) → All (Before p) (take k (changes_of n)) →
    ((q : ℕ) → q < p → some q ≡ all q) →
    node_state n some k ≡ node_state n all k
node_state-same Concentrator some all p k early same = refl
node_state-same (Limited limits) some all p k early same = refl
node_state-same (Device planned) some all p k early same =
    let step = λ (powers : ℕ → ℤ) (state' : ℤ) (c : Change). changed_state planned.kind state' (powers (c.phase - 1)) c.what in
    fold_same (step some) (step all) (Before p) (λ z c h. ap (λ power'. changed_state planned.kind z power' c.what)
    (same (c.phase - 1) h)) planned.start (take k planned.changes) early

-- the states up to the end of phase p use the rows below p alone
state_by_rows-same : (plan : PlanData) (some all : List (List ℤ)) (p d n : ℕ) → n ≤ end_cut plan p d → InPhases plan →
    ((q : ℕ) → q < p → power_in_rows some q d ≡ power_in_rows all q d) → state_by_rows plan some d n ≡ state_by_rows plan all d n
unfolding state_by_rows
state_by_rows-same plan some all p d n upto fits same =
    node_state-same (node plan d) (λ q. power_in_rows some q d) (λ q. power_in_rows all q d) p n (changes_before plan p d n upto fits) same

-- the rows of fewer phases are the same
power_in_rows-fewer : (plan : PlanData) (j k q d : ℕ) → q < j → j ≤ k →
    power_in_rows (power_rows plan j) q d ≡ power_in_rows (power_rows plan k) q d
power_in_rows-fewer plan j k q d below within =
    ap (λ r. get_or r d (pos 0)) (power_rows-at plan j q below ∙ sym (power_rows-at plan k q (omega arith)))

-- up to the end of phase p the rows below p are enough
pub state_by_rows-is : (plan : PlanData) (p d n : ℕ) → p ≤ phases plan → n ≤ end_cut plan p d → InPhases plan →
    state_by_rows plan (power_rows plan p) d n ≡ state plan d n
unfolding state
state_by_rows-is plan p d n within upto fits =
    state_by_rows-same plan (power_rows plan p) (power_rows plan (phases plan)) p d n upto fits
    (λ q below. power_in_rows-fewer plan p (phases plan) q d below within)

-- row p is the plain auction at the end of phase p
pub power_in_rows-is : (plan : PlanData) (p d : ℕ) → p < phases plan → 1 ≤ d → d < 1 + length plan.nodes → InPhases plan →
    power_in_rows (power_rows plan (phases plan)) p d ≡ power plan (state plan) (end_cut plan p) d
power_in_rows-is plan p d within low high fits =
    power_in_rows-at plan (phases plan) p d within low high
    ∙ power_same plan (state_by_rows plan (power_rows plan p)) (state plan) (end_cut plan p) d
    (λ e _ _. state_by_rows-is plan p e (end_cut plan p e) (omega arith) (omega arith) fits)

-- the state of a device before its first change is its start
pub state-start : (plan : PlanData) (d : ℕ) (planned : DeviceData) → node plan d ≡ Device planned → state plan d 0 ≡ planned.start
unfolding state state_by_rows
state-start plan d planned is = ap (λ n. node_state n (λ p. power_in_rows (power_rows plan (phases plan)) p d) 0) is

-- the state of a device after one more change, where its powers are known
node_state-next : (planned : DeviceData) (powers : ℕ → ℤ) (n : ℕ) → n < length planned.changes →
    node_state (Device planned) powers (n + 1) ≡ changed_state planned.kind (node_state (Device planned) powers n)
    (powers ((get_or planned.changes n no_change).phase - 1)) (get_or planned.changes n no_change).what
node_state-next planned powers n inside =
    let step = λ (state' : ℤ) (c : Change). changed_state planned.kind state' (powers (c.phase - 1)) c.what in
    ap (fold step planned.start) (take_more planned.changes n no_change inside)
    ∙ fold-append step planned.start (take n planned.changes) (get_or planned.changes n no_change ∷ [])

-- the same of a node that is this device
next_of : (m : NodeData) (planned : DeviceData) (powers : ℕ → ℤ) (n : ℕ) → m ≡ Device planned → n < length (changes_of m) →
    node_state m powers (n + 1) ≡ changed_state planned.kind (node_state m powers n) (powers ((get_or (changes_of m) n no_change).phase - 1))
    (get_or (changes_of m) n no_change).what
next_of m planned powers n is inside =
    let P : NodeData → Type 0 = λ (k : NodeData).
    n < length (changes_of k) →
    node_state k powers (n + 1) ≡ changed_state planned.kind (node_state k powers n) (powers ((get_or (changes_of k) n no_change).phase - 1))
    (get_or (changes_of k) n no_change).what in
    subst P (sym is) (node_state-next planned powers n) inside

-- the states of a plan follow its changes
pub state-next : (plan : PlanData) (d n : ℕ) (planned : DeviceData) → InPhases plan → node plan d ≡ Device planned → n < change_count plan d →
    state plan d (n + 1) ≡ changed_state planned.kind (state plan d n) (power_before plan (state plan) (change_at plan d n).phase d) (change_at plan d n).what
unfolding state state_by_rows
state-next plan d n planned fits is inside =
    let low = device_first plan.nodes d planned is in
    let high = device_last plan.nodes d planned is in
    let first : 1 ≤ (change_at plan d n).phase = fits.first d n inside in
    let last : (change_at plan d n).phase ≤ phases plan = fits.last d n inside in
    next_of (node plan d) planned (λ p. power_in_rows (power_rows plan (phases plan)) p d) n is inside
    ∙ ap (λ power'. changed_state planned.kind (state plan d n) power' (change_at plan d n).what)
    (power_in_rows-is plan ((change_at plan d n).phase - 1) d (omega arith) low (omega arith) fits)

-- the states of a plan follow its changes, where these lie in the plan's phases
pub state-follows : (plan : PlanData) → InPhases plan → FollowChanges plan (state plan)
state-follows plan fits = record {
  start = λ d planned is. state-start plan d planned is;
  next = λ d n planned is inside. state-next plan d n planned fits is inside;
}

-- a change among those of the phases up to p is of one of them
pub phase_up_to : (plan : PlanData) (d p n : ℕ) → n < end_cut plan p d → (change_at plan d n).phase ≤ p
unfolding end_cut
phase_up_to plan d p n below = leb-true _ p (prefix_len_passes (is_up_to p) (changes_of (node plan d)) n no_change below)

-- other states that follow the changes are the same at the changes of the phases up to p
abbrev SameUpTo : PlanData → States → ℕ → Type 0
SameUpTo plan states p = (d n : ℕ) (planned : DeviceData) → node plan d ≡ Device planned → n ≤ end_cut plan p d → states d n ≡ state plan d n

-- so the powers before the next phase are the same
power_before-same : (plan : PlanData) (states : States) (p q d : ℕ) → SameUpTo plan states p → q ≤ p + 1 →
    power_before plan states q d ≡ power_before plan (state plan) q d
power_before-same plan states p q d same within =
    power_same plan states (state plan) (end_cut plan (q - 1)) d
    (λ e planned is. same e (end_cut plan (q - 1) e) planned is (end-rises plan (q - 1) p e (omega arith)))

-- and so are the states at the changes of that phase
same_next : (plan : PlanData) (states : States) (p d n : ℕ) (planned : DeviceData) → InPhases plan → FollowChanges plan states →
    SameUpTo plan states p → node plan d ≡ Device planned → n ≤ end_cut plan (p + 1) d → states d n ≡ state plan d n
same_next plan states p d zero planned fits follow same is upto = follow.start d planned is ∙ sym (state-start plan d planned is)
same_next plan states p d (suc n) planned fits follow same is upto =
    let inside : n < change_count plan d = omega (arith, end-within plan (p + 1) d) in
    let change = change_at plan d n in
    let one = same_next plan states p d n planned fits follow same is (omega arith) in
    let powers = power_before-same plan states p change.phase d same (phase_up_to plan d (p + 1) n (omega arith)) in
    ap (states d) (sym (add-one n)) ∙ follow.next d n planned is inside
    ∙ ap (λ z. changed_state planned.kind z (power_before plan states change.phase d) change.what) one
    ∙ ap (λ power'. changed_state planned.kind (state plan d n) power' change.what) powers
    ∙ sym (state-next plan d n planned fits is inside) ∙ ap (state plan d) (add-one n)

same_up_to : (plan : PlanData) (states : States) (p : ℕ) → InPhases plan → FollowChanges plan states → SameUpTo plan states p
same_up_to plan states zero fits follow d n planned is upto =
    let none : n ≡ 0 = (let first = end-none plan d fits in omega arith) in
    ap (states d) none ∙ follow.start d planned is ∙ sym (state-start plan d planned is) ∙ ap (state plan d) (sym none)
same_up_to plan states (suc p) fits follow d n planned is upto =
    let place : suc p ≡ p + 1 = omega arith in
    same_next plan states p d n planned fits follow (same_up_to plan states p fits follow) is (subst (λ q. n ≤ end_cut plan q d) place upto)

-- states that follow the changes are those of the plan
pub state-only : (plan : PlanData) (states : States) (d n : ℕ) (planned : DeviceData) → InPhases plan → FollowChanges plan states →
    node plan d ≡ Device planned → n ≤ change_count plan d → states d n ≡ state plan d n
state-only plan states d n planned fits follow is within =
    let last = end-last plan d fits in
    same_up_to plan states (phases plan) fits follow d n planned is (omega arith)
