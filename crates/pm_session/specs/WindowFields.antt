-- What the fields of a window stand for: a ring of places.
use Rattle.std.specs.Prelude.{◌≡◌, ℕ, ◌+◌, ◌-◌, ◌%◌, zero, suc, List, [], ◌∷◌, length, slice_index_or}
use Rattle.pm_base.specs.Limits.{window_size}
use Rattle.pm_session.specs.Windows.{Sent, Fits, IsWindow, no_record, WindowValue}
use Rattle.pm_session.specs.declared.window.Window.TheInside.{Inside}

-- the places of the ring: one for the number answered last, and one for each that may be unanswered
abbrev pub ring_size : ℕ
ring_size = window_size + 1

-- the record of a number stands in the place of its remainder by the size of the ring
abbrev pub record_in : List Sent → ℕ → Sent
record_in places number = slice_index_or places (number % ring_size) no_record

-- so many records from a number on
abbrev pub records_from : List Sent → ℕ → ℕ → List Sent
records_from places number zero = []
records_from places number (suc count) = record_in places number ∷ records_from places (number + 1) count

-- the records that the fields have
abbrev pub window_of : Inside → WindowValue
window_of inside = record {
  children = inside.children;
  steps = inside.steps;
  records = records_from inside.places.items inside.answered (inside.last - inside.answered + 1);
  answered = inside.answered;
  last = inside.last;
}

-- what the fields keep
pub record IsRing (inside : Inside) : Type 0 where
  pub size : length inside.places.items ≡ ring_size
  pub each : (number : ℕ) → Fits (window_of inside) (record_in inside.places.items number)
  pub sound : IsWindow (window_of inside)
