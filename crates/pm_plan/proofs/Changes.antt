-- What holds of one node and its changes, and stays where a change is added.
use Rattle.std.proofs.Common.{◌≡◌, ◌∙◌, sym, ap, ℕ, ◌+◌, ◌<◌, ◌≤◌, List, [], ◌∷◌, ◌++◌, length, get_or, refl, arith}
use Rattle.std.proofs.Common.{subst, inl, inr, IsTrue}
use Rattle.std.proofs.Math.ListN.{get_or-append}
use Rattle.std.proofs.Math.Seq.{get_or-append_seam}
use Rattle.std.proofs.lemmas.Bool.{cases_lt}
use Rattle.std.proofs.lemmas.List.{length-append}
use Rattle.pm_device.specs.Kinds.{is_valid, state_fits}
use Rattle.pm_device.specs.declared.kind.Kind.{Kind}
use Rattle.pm_plan.specs.declared.planned.Change.{Change}
use Rattle.pm_plan.specs.declared.planned.Planned.{Planned}
use Rattle.pm_base.specs.Limits.{AreLimits}
use Rattle.pm_plan.specs.Devices.{DeviceData}
use Rattle.pm_plan.specs.declared.node.Node.TheVariants.{Concentrator, Limited, Device}
use Rattle.pm_plan.specs.Plans.{NodeData}
use Rattle.pm_plan.specs.Kept.{no_change, change_fits}
use Rattle.pm_plan.specs.Building.{with_change}

-- the changes of a device of this kind, where phase p is the last so far
pub record ChangesHold (kind : Kind) (p : ℕ) (changes : List Change) : Type 0 where
  -- each change fits the kind
  pub fit : (n : ℕ) → n < length changes → IsTrue (change_fits kind (get_or changes n no_change).what)
  -- no change belongs to a phase before phase 1
  pub first : (n : ℕ) → n < length changes → 1 ≤ (get_or changes n no_change).phase
  -- no change belongs to a phase after phase p
  pub last : (n : ℕ) → n < length changes → (get_or changes n no_change).phase ≤ p
  -- the phases of the changes never fall from one change to a later one
  pub rise : (m n : ℕ) → m ≤ n → n < length changes → (get_or changes m no_change).phase ≤ (get_or changes n no_change).phase

-- what is planned for a device, where phase p is the last so far
pub record DeviceHolds (p : ℕ) (planned : DeviceData) : Type 0 where
  -- the parameters of the device's kind lie within their limits
  pub valid : IsTrue (is_valid planned.kind)
  -- the device's start is a state that fits its kind
  pub start : IsTrue (state_fits planned.kind planned.start)
  -- the device's changes hold for its kind, where phase p is the last so far
  pub changes : ChangesHold planned.kind p planned.changes

-- the same of any node
abbrev pub NodeHolds : ℕ → NodeData → Type 0
NodeHolds p Concentrator = Unit {0}
NodeHolds p (Limited limits) = AreLimits limits
NodeHolds p (Device planned) = DeviceHolds p planned

-- what is kept of a device's changes holds where there are none, of any kind and any last phase
pub no_changes-hold : (kind : Kind) (p : ℕ) → ChangesHold kind p []
no_changes-hold kind p = record {
  fit = λ n h. absurd (omega arith);
  first = λ n h. absurd (omega arith);
  last = λ n h. absurd (omega arith);
  rise = λ m n h i. absurd (omega arith);
}

-- an element of a list with one more is an old one or the new one
before : (changes : List Change) (new : Change) (n : ℕ) → n < length changes → get_or (changes ++ new ∷ []) n no_change ≡ get_or changes n no_change
before changes new n h = get_or-append changes (new ∷ []) no_change n h

at_end : (changes : List Change) (new : Change) (n : ℕ) → n ≡ length changes → get_or (changes ++ new ∷ []) n no_change ≡ new
at_end changes new n h = ap (λ m. get_or (changes ++ new ∷ []) m no_change) h ∙ get_or-append_seam changes new [] no_change

-- what holds of each old element and of the new one holds of each element
each_of_more : (P : Change → Type 0) (changes : List Change) (new : Change) →
    ((n : ℕ) → n < length changes → P (get_or changes n no_change)) → P new → (n : ℕ) → n < length (changes ++ new ∷ []) →
    P (get_or (changes ++ new ∷ []) n no_change)
each_of_more P changes new all one n h = elim (cases_lt n (length changes)) [
  | inl below ↦ subst P (sym (before changes new n below)) (all n below)
  | inr above ↦ subst P (sym (at_end changes new n (let long = length-append changes (new ∷ []) in omega arith))) one
]

rises_with : (kind : Kind) (p : ℕ) (changes : List Change) (new : Change) → ChangesHold kind p changes → new.phase ≡ p → (m n : ℕ) →
    m ≤ n → n < length (changes ++ new ∷ []) → (get_or (changes ++ new ∷ []) m no_change).phase ≤ (get_or (changes ++ new ∷ []) n no_change).phase
rises_with kind p changes new hold is m n le h =
    let long = length-append changes (new ∷ []) in
    elim (cases_lt n (length changes)) [
      | inl below ↦
          let one = ap (λ (c : Change). c.phase) (before changes new m (omega arith)) in
          let two = ap (λ (c : Change). c.phase) (before changes new n below) in
          omega (arith, one, two, hold.rise m n le below)
      | inr above ↦
          let two = ap (λ (c : Change). c.phase) (at_end changes new n (omega arith)) in
          elim (cases_lt m (length changes)) [
            | inl early ↦
                let one = ap (λ (c : Change). c.phase) (before changes new m early) in
                omega (arith, one, two, is, hold.last m early)
            | inr late ↦
                let one = ap (λ (c : Change). c.phase) (at_end changes new m (omega arith)) in
                omega (arith, one, two)
          ]
    ]

-- changes still hold with one more that fits the kind and is of the last phase, which is 1 or later
pub one_more_change : (kind : Kind) (p : ℕ) (changes : List Change) (new : Change) → ChangesHold kind p changes → new.phase ≡ p →
    1 ≤ p → IsTrue (change_fits kind new.what) → ChangesHold kind p (changes ++ new ∷ [])
one_more_change kind p changes new hold is low fits = record {
  fit = each_of_more (λ c. IsTrue (change_fits kind c.what)) changes new hold.fit fits;
  first = each_of_more (λ c. 1 ≤ c.phase) changes new hold.first (omega arith);
  last = each_of_more (λ c. c.phase ≤ p) changes new hold.last (omega arith);
  rise = rises_with kind p changes new hold is;
}

-- a device with one more change of the last phase
pub with_change-holds : (p : ℕ) (planned : DeviceData) (what : Planned) → DeviceHolds p planned → 1 ≤ p → IsTrue (change_fits planned.kind what) →
    DeviceHolds p (with_change p what planned)
with_change-holds p planned what hold low fits = record {
  valid = hold.valid;
  start = hold.start;
  changes = one_more_change planned.kind p planned.changes (record { phase = p; what = what }) hold.changes refl low fits;
}

-- one phase more may have changes
pub next_phase : (p : ℕ) (n : NodeData) → NodeHolds p n → NodeHolds (p + 1) n
next_phase p Concentrator hold = tt
next_phase p (Limited limits) hold = hold
next_phase p (Device planned) hold = record {
  valid = hold.valid;
  start = hold.start;
  changes = record {
    fit = hold.changes.fit;
    first = hold.changes.first;
    last = λ k h. (let le = hold.changes.last k h in omega arith);
    rise = hold.changes.rise;
  };
}
