-- The records of what a concentrator sent to its parent.
use Rattle.std.specs.Prelude.{◌≡◌, ℕ, ◌+◌, ◌-◌, ◌≤◌, ℤ, List, [], length, replicate, slice_index_or, Option, Some, None}
use Rattle.pm_base.specs.Limits.{AreSteps, window_size}
use Rattle.pm_bid.specs.declared.head.BidHead.{BidHead}
use Rattle.pm_bid.specs.Heads.{nothing_sent}

-- what went into a number: the heads of the children, and their sum if the window keeps sums
pub record Sent : Type 0 where
  pub number : ℕ
  pub heads : List BidHead
  pub sum : Option (List ℤ)

-- the record if none is kept
abbrev pub no_record : Sent
no_record = record { number = 0; heads = []; sum = None }

-- a window for so many children, and for sums of so many steps if it keeps sums. The records are
-- those from the number answered last to the newest number, in order; number 0 is the opening, when
-- nothing was sent
pub record WindowValue : Type 0 where
  pub children : ℕ
  pub steps : Option ℕ
  pub records : List Sent
  pub answered : ℕ
  pub last : ℕ

-- the record of a number
abbrev pub record_of : WindowValue → ℕ → Sent
record_of window number = slice_index_or window.records (number - window.answered) no_record

-- the newest record, at first that of the opening
abbrev pub newest_record : WindowValue → Sent
newest_record window = record_of window window.last

-- the record of the number is kept: from the one answered last, or from 1, to the newest
pub record Keeps (window : WindowValue) (number : ℕ) : Type 0 where
  pub one : 1 ≤ number
  pub from : window.answered ≤ number
  pub to : number ≤ window.last

-- how many numbers are unanswered
abbrev pub unanswered_count : WindowValue → ℕ
unanswered_count window = window.last - window.answered

-- a record was added, and those that were kept are still as they were
pub record RecordSent (old new : WindowValue) (sent : Sent) : Type 0 where
  pub at : record_of new sent.number ≡ sent
  pub others : (number : ℕ) → Keeps old number → record_of new number ≡ record_of old number
  pub last : new.last ≡ sent.number
  pub answered : new.answered ≡ old.answered
  pub children : new.children ≡ old.children
  pub steps : new.steps ≡ old.steps

-- a number was answered: the older records are no longer kept, and those that are kept are still as
-- they were
pub record RecordAnswered (old new : WindowValue) (number : ℕ) : Type 0 where
  pub answered : new.answered ≡ number
  pub records : (other : ℕ) → Keeps new other → record_of new other ≡ record_of old other
  pub last : new.last ≡ old.last
  pub children : new.children ≡ old.children
  pub steps : new.steps ≡ old.steps

-- how many steps a sum has
abbrev pub steps_of : Option (List ℤ) → Option ℕ
steps_of None = None
steps_of (Some sum) = Some (length sum)

-- a record has as many children as the window, and a sum exactly if the window keeps sums
pub record Fits (window : WindowValue) (sent : Sent) : Type 0 where
  pub children : length sent.heads ≡ window.children
  pub steps : steps_of sent.sum ≡ window.steps

-- what holds of each window
pub record IsWindow (window : WindowValue) : Type 0 where
  pub order : window.answered ≤ window.last
  pub few : window.last ≤ window.answered + window_size
  pub fits : (number : ℕ) → window.answered ≤ number → number ≤ window.last → Fits window (record_of window number)
  pub numbers : (number : ℕ) → Keeps window number → (record_of window number).number ≡ number
  pub opening : window.last ≡ 0 → (newest_record window).heads ≡ replicate window.children nothing_sent

-- a window in which nothing was sent
pub record IsNewWindow (children' : ℕ) (steps' : Option ℕ) (window : WindowValue) : Type 0 where
  pub children : window.children ≡ children'
  pub steps : window.steps ≡ steps'
  pub answered : window.answered ≡ 0
  pub last : window.last ≡ 0
  pub opening : (newest_record window).heads ≡ replicate children' nothing_sent

-- a number of steps of a basis, if there is one
abbrev pub HasSteps : Option ℕ → Type 0
HasSteps None = Unit {0}
HasSteps (Some steps) = AreSteps steps
