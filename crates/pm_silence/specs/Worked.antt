-- Runs that show that less is not enough: with a grace that is a tick too short, or by another rule, a control holds that its parent has let go.
use Rattle.std.specs.Prelude.{ℕ, ◌+◌, ◌*◌, ◌/◌, Bool, false, Some, if◌then◌else◌, nat_lt, List, [], ◌∷◌}
use Rattle.pm_silence.specs.Clocks.{Clocks}
use Rattle.pm_silence.specs.Holding.{hold_begun}
use Rattle.pm_silence.specs.Leases.{LeaseState, LeaseEvent, first_state, states_after, one_of, answer_came, with_hold, is_holding, control_clock}
use Rattle.pm_silence.specs.Leases.{Passes, Says, Bids, Leaves, Starts, Comes, Arrives, LeaveArrives, Ticks, Handles, Restarts}

-- a control's clock that is slow by 1 %, and a parent's that is fast by as much
abbrev pub slow_clock : ℕ → ℕ
slow_clock t = t * 99 / 100

abbrev pub fast_clock : ℕ → ℕ
fast_clock t = (t * 101 + 99) / 100

abbrev pub clocks_apart : Clocks
clocks_apart = record { control = λ _. slow_clock; parent = λ _. fast_clock }

-- clocks that are right
abbrev pub right_clocks : Clocks
right_clocks = record { control = λ _ t. t; parent = λ _ t. t }

-- the control's clock stands still after 10 s, as that of a machine that sleeps
abbrev pub sleeping_clocks : Clocks
sleeping_clocks = record { control = λ _ t. if nat_lt t 10000 then t else 10000; parent = λ _ t. t }

-- the control's first clock shows a million more than its second
abbrev pub other_zero : Clocks
other_zero = record { control = λ life t. if nat_lt life 1 then t + 1000000 else t; parent = λ _ t. t }

-- the control bids, says a word, the parent answers, and the answer comes
abbrev pub one_word : List LeaseEvent
one_word = Bids ∷ Says 0 ∷ Arrives 0 ∷ Handles 0 0 ∷ Comes 0 ∷ []

-- what an operator's flow theorem has to exclude: the parent does not count the child, and its control holds
abbrev pub is_apart : Clocks → ℕ → LeaseState → Bool
is_apart clocks validity w = if w.place.counts then false else is_holding clocks validity w

-- the parent looks so much later, with so much grace
abbrev pub looks_after : Clocks → ℕ → ℕ → LeaseState → LeaseState
looks_after clocks grace ticks w = states_after clocks grace w (Passes ticks ∷ Ticks ∷ Handles 0 0 ∷ [])

abbrev pub after_word : Clocks → LeaseState
after_word clocks = states_after clocks 150000 (first_state clocks) one_word

-- another rule: the broker's confirmation of a word counts as the parent's answer
abbrev pub broker_confirmed : LeaseState → ℕ → LeaseState
broker_confirmed w k = answer_came w (one_of w.words k)

-- a word is answered; a minute later the broker confirms a second one, which does not come to the parent
abbrev pub by_confirmation : LeaseState
by_confirmation = looks_after right_clocks 150000 90000
    (broker_confirmed (states_after right_clocks 150000 (after_word right_clocks) (Passes 60000 ∷ Says 0 ∷ [])) 0)

-- another rule: an answer counts from when it came
abbrev pub from_coming : LeaseState → LeaseState
from_coming w = with_hold w (record { number = w.hold.number; floor = w.hold.floor; since = Some (control_clock right_clocks w) })

-- the answer comes again before the parent lets go
abbrev pub by_coming : LeaseState
by_coming = looks_after right_clocks 150000 1 (from_coming (states_after right_clocks 150000 (after_word right_clocks) (Passes 149999 ∷ [])))

-- another rule: who leaves holds on
abbrev pub by_leaving : LeaseState
by_leaving =
    let w = states_after right_clocks 150000 (after_word right_clocks) (Leaves ∷ LeaveArrives 0 ∷ Handles 0 0 ∷ []) in
    with_hold w (after_word right_clocks).hold

-- another rule: the control starts with an older number than it used, and takes the answer to a word of its last life
abbrev pub by_old_number : LeaseState
by_old_number =
    let w = states_after other_zero 150000 (after_word other_zero) (Starts ∷ []) in
    looks_after other_zero 150000 150000 (states_after other_zero 150000 (with_hold w (hold_begun 0)) (Bids ∷ Comes 0 ∷ []))

-- the machine of the control sleeps, and its clock with it
abbrev pub by_sleeping : LeaseState
by_sleeping = looks_after sleeping_clocks 150000 150000 (after_word sleeping_clocks)

-- another rule: a parent that starts anew goes on counting from what it stored, by a clock with another zero
abbrev pub later_zero : Clocks
later_zero = record { control = λ _ t. t; parent = λ home t. if nat_lt home 1 then t else t + 1000000 }

abbrev pub by_stored_time : LeaseState
by_stored_time =
    let w = states_after later_zero 150000 (after_word later_zero) (Restarts ∷ []) in
    states_after later_zero 150000 (record w { place = (after_word later_zero).place }) (Ticks ∷ Handles 0 0 ∷ [])

-- ---- histories

-- A word was said and answered. The laptop then sleeps for 200 s, while its parent looks at its clock. Another answer, to the same word, waits
-- until it wakes up
abbrev pub wakes_up : LeaseState
wakes_up = states_after right_clocks 150000 (looks_after right_clocks 150000 200000 (after_word right_clocks)) (Comes 0 ∷ [])

-- The broker stops for 60 s. The control says another word, which comes once the broker is back, and is answered
abbrev pub short_stop : LeaseState
short_stop =
    states_after right_clocks 150000 (after_word right_clocks)
    (Passes 30000 ∷ Says 0 ∷ Passes 60000 ∷ Arrives 0 ∷ Handles 0 0 ∷ Comes 0 ∷ Passes 59999 ∷ Ticks ∷ Handles 0 0 ∷ [])

-- It stops for 200 s. The parent has looked at its clock. Then the broker sends all again that it kept: the word to the parent, and its
-- answer to the control
abbrev pub long_stop : LeaseState
long_stop =
    states_after right_clocks 150000 (looks_after right_clocks 150000 200000 (after_word right_clocks))
    (Arrives 0 ∷ Handles 0 0 ∷ Comes 0 ∷ [])

-- no word comes for 130 s and so much more
abbrev pub after_pause : ℕ → LeaseState
after_pause more = looks_after right_clocks 150000 (130000 + more) (after_word right_clocks)

-- the word and its answer come again after 100 s, and 20.001 s pass
abbrev pub comes_again : LeaseState
comes_again = states_after right_clocks 150000 (after_word right_clocks) (Passes 100000 ∷ Arrives 0 ∷ Handles 0 0 ∷ Comes 0 ∷ Passes 20001 ∷ [])

-- after 10 s the control's clock is set ahead by an hour; or back by an hour; or the parent's is set ahead by an hour
abbrev pub set_ahead : Clocks
set_ahead = record { control = λ _ t. if nat_lt t 10000 then t else t + 3600000; parent = λ _ t. t }

abbrev pub set_back : Clocks
set_back = record { control = λ _ t. if nat_lt t 10000 then t + 3600000 else t; parent = λ _ t. t }

abbrev pub parent_ahead : Clocks
parent_ahead = record { control = λ _ t. t; parent = λ _ t. if nat_lt t 10000 then t else t + 3600000 }

-- a word was said and answered, and 9.999 s passed; then one tick more
abbrev pub before_setting : Clocks → LeaseState
before_setting clocks = states_after clocks 150000 (after_word clocks) (Passes 9999 ∷ [])

abbrev pub after_setting : Clocks → LeaseState
after_setting clocks = states_after clocks 150000 (before_setting clocks) (Passes 1 ∷ [])
