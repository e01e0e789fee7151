-- What holds of each lease, and what follows for lists.
use Rattle.std.proofs.Common.{◌≡◌, ℕ, zero, suc, ◌+◌, ◌<◌, ◌≤◌, Bool, false, Option, Some, None, List, [], ◌∷◌}
use Rattle.pm_silence.specs.declared.words.Word.{Word}
use Rattle.pm_silence.specs.Clocks.{Clocks, IsEnough}
use Rattle.pm_silence.specs.Leases.{LeaseState, Frame, WordFrame, LeaveFrame, Tick, Stamped, one_of}

-- a fact of each
abbrev pub Every : {A : Type 0} → (A → Type 0) → List A → Type 0
Every P [] = Unit {0}
Every P (x ∷ xs) = P x × Every P xs

abbrev pub If : {A : Type 0} → (A → Type 0) → Option A → Type 0
If P None = Unit {0}
If P (Some x) = P x

-- each satisfies something weaker
pub weaker : {A : Type 0} (P Q : A → Type 0) → ((x : A) → P x → Q x) → (xs : List A) → Every P xs → Every Q xs
weaker P Q f [] all = tt
weaker P Q f (x ∷ xs) all = (f x all.0, weaker P Q f xs all.1)

-- .. also if there is one at all
pub weaker_if : {A : Type 0} (P Q : A → Type 0) → ((x : A) → P x → Q x) → (o : Option A) → If P o → If Q o
weaker_if P Q f None it = tt
weaker_if P Q f (Some x) it = f x it

-- what holds of each holds of the one in a place
pub at_picked : {A : Type 0} (P : A → Type 0) → (xs : List A) (k : ℕ) → Every P xs → If P (one_of xs k)
at_picked P [] k all = tt
at_picked P (x ∷ xs) zero all = all.0
at_picked P (x ∷ xs) (suc k) all = at_picked P xs k all.1

-- what holds for nothing and for each thing holds
pub of_option : {A : Type 0} → (P : Option A → Type 0) (Q : A → Type 0) (o : Option A) → If Q o → P None → ((x : A) → Q x → P (Some x)) → P o
of_option P Q None it none some = none
of_option P Q (Some x) it none some = some x it

-- the clock showed this at some moment by now
pub record WasSaid (clock : ℕ → ℕ) (time x : ℕ) : Type 0 where
  -- a real moment
  pub at : ℕ
  -- what the clock showed then
  pub shows : clock at ≡ x
  -- it is past
  pub before : at ≤ time

-- the clock showed this or more at a moment by the newest answer, and by the one that the place counts from; if the child does not count,
-- validity is over since
pub record IsGood (e grace validity : ℕ) (clock : ℕ → ℕ) (time heard_at answered_at : ℕ) (counts : Bool) (x : ℕ) : Type 0 where
  -- a real moment
  pub at : ℕ
  -- what the clock showed then
  pub shows : x ≤ clock at
  -- it is by the newest answer
  pub answered : at ≤ answered_at
  -- .. and by the one that the place counts from
  pub heard : at ≤ heard_at
  -- validity is over since
  pub over : IsEnough e validity grace → counts ≡ false → x + validity ≤ clock time

abbrev pub IsWord : (ℕ → ℕ) → ℕ → ℕ → ℕ → Word → Type 0
IsWord clock time floor number w = (w.number ≤ number) × (floor < w.number → WasSaid clock time w.said)

-- what a frame says was said by the moment at which it was stamped
abbrev pub IsFrame : (ℕ → ℕ) → ℕ → ℕ → ℕ → Frame → Type 0
IsFrame clock moment floor number (WordFrame w) = IsWord clock moment floor number w
IsFrame clock moment floor number (LeaveFrame g) = g ≤ floor
IsFrame clock moment floor number Tick = Unit {0}

pub record IsStamped (clock : ℕ → ℕ) (time floor number : ℕ) (s : Stamped) : Type 0 where
  -- it was read by now
  pub read : s.moment ≤ time
  -- what it says is so
  pub says : IsFrame clock s.moment floor number s.frame

abbrev pub IsAnswer : (ℕ → Type 0) → ℕ → ℕ → Word → Type 0
IsAnswer good floor number a = (a.number ≤ number) × (floor < a.number → good a.said)

-- what a control holds by: an answer of this stay
pub record IsHeld (good : ℕ → Type 0) (floor number s : ℕ) : Type 0 where
  -- a number of this stay
  pub under : ℕ
  -- it is above the floor
  pub above : floor < under
  -- it is one that was given
  pub within : under ≤ number
  -- it is good
  pub sound : good s

-- the facts of a word, an answer and a hold in this lease
abbrev pub good_in : ℕ → ℕ → ℕ → Clocks → LeaseState → ℕ → Type 0
good_in e grace validity clocks w x = IsGood e grace validity (clocks.control w.life) w.time w.heard_at w.answered_at w.place.counts x

pub record IsSound (e grace validity : ℕ) (clocks : Clocks) (w : LeaseState) : Type 0 where
  -- what was heard is past
  pub times : w.heard_at ≤ w.time
  -- it is by the newest answer
  pub answered : w.answered_at ≤ w.time
  -- what the place counts from
  pub counting : w.place.heard ≡ clocks.parent w.home w.heard_at
  -- the floor is a number that was given
  pub floor : w.hold.floor ≤ w.hold.number
  -- no number is known that was not given
  pub number : w.place.number ≤ w.hold.number
  -- each word was said
  pub words : Every (IsWord (clocks.control w.life) w.time w.hold.floor w.hold.number) w.words
  -- each answer is good
  pub answers : Every (IsAnswer (good_in e grace validity clocks w) w.hold.floor w.place.number) w.answers
  -- each leave is below the floor
  pub leaves : Every (λ g. g ≤ w.hold.floor) w.leaves
  -- each frame was stamped
  pub frames : Every (IsStamped (clocks.control w.life) w.time w.hold.floor w.hold.number) w.frames
  -- what the control holds by is good
  pub since : If (IsHeld (good_in e grace validity clocks w) w.hold.floor w.place.number) w.hold.since
