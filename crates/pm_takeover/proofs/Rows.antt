-- Over a row that tests, each number that was stored has one bid.
use Rattle.std.proofs.Common.{
  ◌≡◌,
  ◌⊎◌,
  inl,
  inr,
  ⊎_elim,
  ℕ,
  ◌+◌,
  ◌<◌,
  ◌≤◌,
  Bool,
  true,
  false,
  List,
  [],
  ◌∷◌,
  refl,
  sym,
  ◌∙◌,
  ap,
  subst,
  arith,
}
use Rattle.std.proofs.lemmas.Bool.{cases_eq}
use Rattle.pm_takeover.specs.Takeovers.{SharedRow, Machine, SharedNode, Changes, IsNewSharedNode, In, NameOneBid}

-- from the newest row to the first the numbers fall, and all are below this one
abbrev pub Fall : ℕ → List SharedRow → Type 0
Fall above [] = Unit {0}
Fall above (r ∷ rows) = (r.number < above) × Fall r.number rows

-- a row has this number and this bid
abbrev pub Names : ℕ → ℕ → List SharedRow → Type 0
Names n b [] = ⊥
Names n b (r ∷ rows) = ((r.number ≡ n) × (r.bid ≡ b)) ⊎ Names n b rows

abbrev pub AllNamed : List SharedRow → List SharedRow → Type 0
AllNamed stored [] = Unit {0}
AllNamed stored (r ∷ rows) = Names r.number r.bid stored × AllNamed stored rows

-- what holds at each moment, where these rows were stored
pub record Sound (stored : List SharedRow) (node : SharedNode) : Type 0 where
  -- the numbers stored fall, and are at most that of the row
  pub fall : Fall (node.row.number + 1) stored
  pub row_in : Names node.row.number node.row.bid stored
  -- no process has a start above that of the row
  pub behind : (m : ℕ) → (node.machine m).runs ≡ true → (node.machine m).own.start ≤ node.row.start
  pub same : (m : ℕ) → (node.machine m).runs ≡ true → (node.machine m).own.start ≡ node.row.start →
      (node.machine m).own.number ≡ node.row.number
  -- one process at most has the start of the row
  pub one : (m k : ℕ) → (node.machine m).runs ≡ true → (node.machine k).runs ≡ true → (node.machine m).own.start ≡ node.row.start →
      (node.machine k).own.start ≡ node.row.start → m ≡ k
  -- what a process has was stored
  pub own_in : (m : ℕ) → (node.machine m).runs ≡ true → Names (node.machine m).own.number (node.machine m).own.bid stored
  pub handed_in : AllNamed stored node.handed

-- a machine is the one that changed, or it is as it was
pub which : (old new : SharedNode) (at : ℕ) (machine : Machine) (row : SharedRow) (handed : List SharedRow) → Changes old new at machine row handed →
    (k : ℕ) →
    ((k ≡ at) × (new.machine k ≡ machine)) ⊎ ((k ≡ at → ⊥) × (new.machine k ≡ old.machine k))
which old new at machine row handed changes k = elim (cases_eq k at) [
  | inl same ↦ inl (same, ap new.machine same ∙ changes.it)
  | inr other ↦ inr (other, changes.others k other)
]

-- what is below a number is below a greater one
pub fall_more : (n m : ℕ) (rows : List SharedRow) → n ≤ m → Fall n rows → Fall m rows
fall_more n m [] le fall = fall
fall_more n m (r ∷ rows) le fall = (omega (arith, le, fall.0), fall.1)

-- no truth value is both
pub false_true : {A : Type 0} (b : Bool) → b ≡ false → b ≡ true → A
false_true true p q = absurd (cc)
false_true false p q = absurd (cc)

-- what was stored before is among what is stored now
pub all_more : (stored : List SharedRow) (r : SharedRow) (rows : List SharedRow) → AllNamed stored rows → AllNamed (r ∷ stored) rows
all_more stored r [] all = tt
all_more stored r (h ∷ rows) all = (inr all.0, all_more stored r rows all.1)

below : (above n b : ℕ) (rows : List SharedRow) → Fall above rows → Names n b rows → n < above
below above n b [] fall named = absurd named
below above n b (r ∷ rows) fall (inl here) = omega (arith, fall.0, here.0)
below above n b (r ∷ rows) fall (inr there) = (let lt = below r.number n b rows fall.1 there in omega (arith, lt, fall.0))

-- falling numbers name one bid each
one_name : (above n b c : ℕ) (rows : List SharedRow) → Fall above rows → Names n b rows → Names n c rows → b ≡ c
one_name above n b c [] fall p q = absurd p
one_name above n b c (r ∷ rows) fall (inl p) (inl q) = sym p.1 ∙ q.1
one_name above n b c (r ∷ rows) fall (inl p) (inr q) = (let lt = below r.number n c rows fall.1 q in absurd (omega (arith, lt, p.0)))
one_name above n b c (r ∷ rows) fall (inr p) (inl q) = (let lt = below r.number n b rows fall.1 p in absurd (omega (arith, lt, q.0)))
one_name above n b c (r ∷ rows) fall (inr p) (inr q) = one_name r.number n b c rows fall.1 p q

named : (stored rows : List SharedRow) → AllNamed stored rows → (a : SharedRow) → In a rows → Names a.number a.bid stored
named stored [] all a found = absurd found
named stored (r ∷ rows) all a (inl is) = subst (λ (x : SharedRow). Names x.number x.bid stored) (sym is) all.0
named stored (r ∷ rows) all a (inr found) = named stored rows all.1 a found

-- where a node is sound, its bids are one a number
pub names_one : (stored : List SharedRow) (node : SharedNode) → Sound stored node → NameOneBid node.handed
names_one stored node sound a b in_a in_b same =
    let first = named stored node.handed sound.handed_in a in_a in
    let second = named stored node.handed sound.handed_in b in_b in
    one_name (node.row.number + 1) b.number a.bid b.bid stored sound.fall (subst (λ n. Names n a.bid stored) same first) second

-- a node of which nothing runs is sound
pub sound_first : (node : SharedNode) → IsNewSharedNode node → Sound (node.row ∷ []) node
sound_first node new = record {
  fall = (omega arith, tt);
  row_in = inl (refl, refl);
  behind = λ m runs. false_true _ (new.runs m) runs;
  same = λ m runs _. false_true _ (new.runs m) runs;
  one = λ m k runs _ _ _. false_true _ (new.runs m) runs;
  own_in = λ m runs. false_true _ (new.runs m) runs;
  handed_in = subst (AllNamed (node.row ∷ [])) (sym new.handed) tt;
}
