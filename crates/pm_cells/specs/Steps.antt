-- What each kind of step tells the end that makes it: of the step, the end before, the word found (at a store, the word stored)
-- and the end after.
use Rattle.std.specs.Prelude.{◌≡◌, ℕ, ◌+◌, ◌/◌, ◌%◌, ◌<◌, ◌≤◌, [], ◌∷◌, ◌++◌, Some, None}
use Rattle.atomic_table.specs.Table.{Me, Step, rest}
use Rattle.pm_cells.specs.Numbers.{newest_number, AreRising}
use Rattle.pm_cells.specs.Cells.{CellSlot, fresh_cell, IsBidWith, IsPriceOf, HoldsNewest, messages_in}
use Rattle.pm_cells.specs.declared.view.EndView.{EndView}
use Rattle.pm_cells.specs.declared.view.CellView.{CellView}
use Rattle.pm_cells.specs.declared.view.Role.TheVariants.{Child, Parent, Joined, Spent}
use Rattle.pm_cells.specs.declared.message.Message.{Message}

-- the child's and the parent's view of a link that was just cut
abbrev pub child_view : EndView
child_view = record { role = Child; up = fresh_cell; down = fresh_cell }

abbrev pub parent_view : EndView
parent_view = record { role = Parent; up = fresh_cell; down = fresh_cell }

-- what both ends know of a cell, by the view of the one that put and of the one that took
abbrev pub joined_cell : CellView → CellView → CellView
joined_cell put take = record {
  puts = put.puts;
  takes = take.takes;
  sent = put.sent;
  received = take.received;
  holds = 0;
  found = 0;
  in_hand = None;
  lost = put.lost;
  empty = take.empty;
}

-- the child's view, with the lists of both ends
abbrev pub joined_view : EndView → EndView → EndView
joined_view child parent = record { role = Joined; up = joined_cell child.up parent.up; down = joined_cell parent.down child.down }

-- the view of an end that was joined to the other
abbrev pub spent_view : EndView
spent_view = record { role = Spent; up = fresh_cell; down = fresh_cell }

-- the end has the slot, to put
abbrev pub with_claim_to_put : CellView → CellView
with_claim_to_put a = record {
  puts = a.puts;
  takes = a.takes;
  sent = a.sent;
  received = a.received;
  holds = 1;
  found = a.found;
  in_hand = a.in_hand;
  lost = a.lost;
  empty = a.empty;
}

-- the end has the slot, to take, and found this number and this in the slot
abbrev pub with_claim_to_take : CellView → ℕ → CellSlot → CellView
with_claim_to_take a n slot = record {
  puts = a.puts;
  takes = a.takes;
  sent = a.sent;
  received = a.received;
  holds = 1;
  found = n;
  in_hand = slot;
  lost = a.lost;
  empty = a.empty;
}

-- one more claim found that the other end has the slot
abbrev pub after_loss : CellView → CellView
after_loss a = record {
  puts = a.puts;
  takes = a.takes;
  sent = a.sent;
  received = a.received;
  holds = a.holds;
  found = a.found;
  in_hand = a.in_hand;
  lost = a.lost + 1;
  empty = a.empty;
}

-- this message was put under this number
abbrev pub after_put : CellView → ℕ → Message → CellView
after_put a n message = record {
  puts = a.puts ++ n ∷ [];
  takes = a.takes;
  sent = a.sent ++ message ∷ [];
  received = a.received;
  holds = 0;
  found = a.found;
  in_hand = a.in_hand;
  lost = a.lost;
  empty = a.empty;
}

-- the number found was taken, and the message found
abbrev pub after_take : CellView → CellView
after_take a = record {
  puts = a.puts;
  takes = a.takes ++ a.found ∷ [];
  sent = a.sent;
  received = a.received ++ messages_in a.in_hand;
  holds = 0;
  found = a.found;
  in_hand = None;
  lost = a.lost;
  empty = a.empty;
}

-- one more take found no newer number
abbrev pub after_empty_take : CellView → CellView
after_empty_take a = record {
  puts = a.puts;
  takes = a.takes;
  sent = a.sent;
  received = a.received;
  holds = 0;
  found = a.found;
  in_hand = None;
  lost = a.lost;
  empty = a.empty + 1;
}

-- a view in which one cell is known otherwise
abbrev pub with_up : EndView → CellView → EndView
with_up v a = record { role = v.role; up = a; down = v.down }

abbrev pub with_down : EndView → CellView → EndView
with_down v a = record { role = v.role; up = v.up; down = a }

-- an end as its seat has it: what it knows, and the slots that it has
abbrev pub Seated : Type 0
Seated = Me CellSlot EndView

-- what a kind of step tells
abbrev pub StepKind : Type 1
StepKind = Step CellSlot → Seated → ℕ → Seated → Type 0

-- a claim of slot `k`: where the word was even the end has the slot, what is in it meets `Shows`, and the view is `got` of it; where
-- the word was odd the view is `lost`
abbrev pub Claims : (CellSlot → EndView) → EndView → ℕ → (CellSlot → Type 0) → Seated → ℕ → Seated → Type 0
Claims got lost k Shows m word m' = (word % 2 ≡ 0 → (slot : CellSlot) × (m' ≡ (got slot, (k, slot) ∷ m.1)) × Shows slot) ×
    (word % 2 ≡ 1 → m' ≡ (lost, m.1))

-- what an end that is to take learns of the slot that it claimed, where it found number `n`
abbrev pub ShowsNewest : (ℕ → Message → Type 0) → CellView → ℕ → CellSlot → Type 0
ShowsNewest Fits a n slot = HoldsNewest Fits n (newest_number a.takes) slot × AreRising a.takes × (newest_number a.takes ≤ n)

-- a release after a put into slot `k`: the view is `put` of the message that the end has there
abbrev pub ReleasesPut : ℕ → (Message → EndView) → Seated → Seated → Type 0
ReleasesPut k put m m' = (message : Message) → m.1 ≡ (k, Some message) ∷ [] → m' ≡ (put message, [])

-- a release after a take: the view is `took` where the number found is above the one taken last, else `none`
abbrev pub ReleasesTaken : CellView → EndView → EndView → Seated → Seated → Type 0
ReleasesTaken a took none m m' = (newest_number a.takes < a.found → m' ≡ (took, rest m.1)) ×
    (a.found ≤ newest_number a.takes → m' ≡ (none, rest m.1))

-- the eight kinds of step: the child puts bids, which the parent takes
abbrev pub claims_to_put_bid : StepKind
claims_to_put_bid step m word m' = Claims (λ slot. with_up m.0 (with_claim_to_put m.0.up)) (with_up m.0 (after_loss m.0.up)) 0 (λ slot. Unit {0}) m word m'

abbrev pub releases_put_bid : StepKind
releases_put_bid step m word m' = ReleasesPut 0 (λ message. with_up m.0 (after_put m.0.up (word / 2) message)) m m'

abbrev pub claims_to_take_bid : StepKind
claims_to_take_bid step m word m' =
    Claims (λ slot. with_up m.0 (with_claim_to_take m.0.up (word / 2) slot)) (with_up m.0 (after_loss m.0.up)) 0
    (ShowsNewest IsBidWith m.0.up (word / 2)) m word m'

abbrev pub releases_taken_bid : StepKind
releases_taken_bid step m word m' = ReleasesTaken m.0.up (with_up m.0 (after_take m.0.up)) (with_up m.0 (after_empty_take m.0.up)) m m'

-- and the parent puts prices, which the child takes
abbrev pub claims_to_put_price : StepKind
claims_to_put_price step m word m' =
    Claims (λ slot. with_down m.0 (with_claim_to_put m.0.down)) (with_down m.0 (after_loss m.0.down)) 1 (λ slot. Unit {0}) m word m'

abbrev pub releases_put_price : StepKind
releases_put_price step m word m' = ReleasesPut 1 (λ message. with_down m.0 (after_put m.0.down (word / 2) message)) m m'

abbrev pub claims_to_take_price : StepKind
claims_to_take_price step m word m' =
    Claims (λ slot. with_down m.0 (with_claim_to_take m.0.down (word / 2) slot)) (with_down m.0 (after_loss m.0.down)) 1
    (ShowsNewest (IsPriceOf m.0.up.puts) m.0.down (word / 2)) m word m'

abbrev pub releases_taken_price : StepKind
releases_taken_price step m word m' =
    ReleasesTaken m.0.down (with_down m.0 (after_take m.0.down)) (with_down m.0 (after_empty_take m.0.down)) m m'
