-- A control, its parent, and all that was ever said between them; what may happen, and runs.
use Rattle.std.specs.Prelude.{ℕ, zero, suc, ◌+◌, ◌-◌, Bool, Option, Some, None, if◌then◌else◌, List, [], ◌∷◌}
use Rattle.pm_silence.specs.declared.words.Word.{Word}
use Rattle.pm_silence.specs.declared.holding.Hold.{Hold}
use Rattle.pm_silence.specs.declared.placing.ChildPlace.{ChildPlace}
use Rattle.pm_silence.specs.Clocks.{Clocks}
use Rattle.pm_silence.specs.Holding.{hold_begun, with_next_bid, word_of, hold_told, fallen, hold_left, holds_at}
use Rattle.pm_silence.specs.Placing.{empty, is_news, news_known, latest, echo_of, heard_leave, place_looked_at, place_restarted}

-- A frame to the parent's process, which has what the parent's clock showed once its message had come. Said a word, that the control has left, or
-- nothing but the time
pub data Frame : Type 0 where
  WordFrame : Word → Frame
  LeaveFrame : ℕ → Frame
  Tick : Frame

-- moment: the real one at which the clock was read for it
pub record Stamped : Type 0 where
  pub frame : Frame
  pub moment : ℕ

-- time:        the real moment
-- life, home:  how often the control and the parent have started: which clock each counts by
-- words:       every word that was ever said, the newest first; answers: every answer; leaves: every number under which the control left
-- frames:      every frame that was ever written to this process of the parent
-- heard_at:    the real moment at which the clock showed what the place counts from
-- answered_at: the real moment at which the newest answer was made
pub record LeaseState : Type 0 where
  pub time : ℕ
  pub life : ℕ
  pub home : ℕ
  pub hold : Hold
  pub place : ChildPlace
  pub words : List Word
  pub answers : List Word
  pub leaves : List ℕ
  pub frames : List Stamped
  pub heard_at : ℕ
  pub answered_at : ℕ

-- What may happen. Of what was ever said any may come, at any time and as often as it likes: so loss, delay, repetition, and a broker that
-- keeps and replays are in the choice of places. Whatever is between the control and the parent, also the control's node, is such a carrier.
pub data LeaseEvent : Type 0 where
  -- real time passes
  Passes : (ticks : ℕ) → LeaseEvent
  -- the control says a word, for which it read its clock so many ticks ago
  Says : (ago : ℕ) → LeaseEvent
  -- the control bids under the next number
  Bids : LeaseEvent
  -- the control takes its fallback, as when its node tells it silence
  Falls : LeaseEvent
  -- the control takes its fallback and leaves
  Leaves : LeaseEvent
  -- the control starts anew, by another clock, with its stored number
  Starts : LeaseEvent
  -- an answer comes to the control
  Comes : (which : ℕ) → LeaseEvent
  -- a word has come to the parent's carrier, which reads the clock and writes a frame
  Arrives : (which : ℕ) → LeaseEvent
  -- so has that the control left
  LeaveArrives : (which : ℕ) → LeaseEvent
  -- the parent's carrier reads the clock and writes a frame
  Ticks : LeaseEvent
  -- the parent's process handles a frame. Its own hold is used up by so much: it answers news as if it had been said that much earlier
  Handles : (which used : ℕ) → LeaseEvent
  -- the parent starts anew, by another clock, with what it stored
  Restarts : LeaseEvent

-- the one in a place
abbrev pub one_of : {A : Type 0} → List A → ℕ → Option A
one_of [] k = None
one_of (x ∷ xs) zero = Some x
one_of (x ∷ xs) (suc k) = one_of xs k

abbrev pub control_clock : Clocks → LeaseState → ℕ
control_clock clocks w = clocks.control w.life w.time

abbrev pub with_hold : LeaseState → Hold → LeaseState
with_hold w h = record w { hold = h }

abbrev pub with_place : LeaseState → ChildPlace → LeaseState
with_place w p = record w { place = p }

abbrev pub with_frame : LeaseState → Frame → LeaseState
with_frame w f = record w { frames = record { frame = f; moment = w.time } ∷ w.frames }

abbrev pub time_passed : LeaseState → ℕ → LeaseState
time_passed w d = record w { time = w.time + d }

abbrev pub said_word : LeaseState → Option Word → LeaseState
said_word w None = w
said_word w (Some word) = record w { words = word ∷ w.words }

abbrev pub having_left : LeaseState → LeaseState
having_left w = record w { hold = hold_left w.hold; leaves = (w.hold.number + 1) ∷ w.leaves }

abbrev pub control_started : LeaseState → LeaseState
control_started w = record w { life = w.life + 1; hold = hold_begun w.hold.number }

abbrev pub answer_came : LeaseState → Option Word → LeaseState
answer_came w None = w
answer_came w (Some answer) = with_hold w (hold_told w.hold answer)

abbrev pub word_arrived : LeaseState → Option Word → LeaseState
word_arrived w None = w
word_arrived w (Some word) = with_frame w (WordFrame word)

abbrev pub leave_arrived : LeaseState → Option ℕ → LeaseState
leave_arrived w None = w
leave_arrived w (Some number) = with_frame w (LeaveFrame number)

-- the parent handles a word that is news, and answers it
abbrev pub word_answered : Clocks → LeaseState → ℕ → Word → ℕ → LeaseState
word_answered clocks w used word moment = record w {
  place = news_known w.place word (clocks.parent w.home moment);
  answers = echo_of word used ∷ w.answers;
  heard_at = latest w.heard_at moment;
  answered_at = w.time;
}

abbrev pub frame_handled : Clocks → ℕ → LeaseState → ℕ → Frame → ℕ → LeaseState
frame_handled clocks grace w used (WordFrame word) moment = if is_news w.place word then word_answered clocks w used word moment else w
frame_handled clocks grace w used (LeaveFrame number) moment = with_place w (heard_leave w.place number)
frame_handled clocks grace w used Tick moment = with_place w (place_looked_at w.place grace (clocks.parent w.home moment))

abbrev pub handled_one : Clocks → ℕ → LeaseState → ℕ → Option Stamped → LeaseState
handled_one clocks grace w used None = w
handled_one clocks grace w used (Some s) = frame_handled clocks grace w used s.frame s.moment

abbrev pub begun_anew : Clocks → LeaseState → LeaseState
begun_anew clocks w = record w {
  home = w.home + 1;
  place = place_restarted w.place (clocks.parent (w.home + 1) w.time);
  frames = [];
  heard_at = w.time;
}

-- the lease after an event; grace is the parent's
abbrev pub state_after_event : Clocks → ℕ → LeaseState → LeaseEvent → LeaseState
state_after_event clocks grace w (Passes d) = time_passed w d
state_after_event clocks grace w (Says ago) = said_word w (word_of w.hold (clocks.control w.life (w.time - ago)))
state_after_event clocks grace w Bids = with_hold w (with_next_bid w.hold)
state_after_event clocks grace w Falls = with_hold w (fallen w.hold)
state_after_event clocks grace w Leaves = having_left w
state_after_event clocks grace w Starts = control_started w
state_after_event clocks grace w (Comes k) = answer_came w (one_of w.answers k)
state_after_event clocks grace w (Arrives k) = word_arrived w (one_of w.words k)
state_after_event clocks grace w (LeaveArrives k) = leave_arrived w (one_of w.leaves k)
state_after_event clocks grace w Ticks = with_frame w Tick
state_after_event clocks grace w (Handles k used) = handled_one clocks grace w used (one_of w.frames k)
state_after_event clocks grace w Restarts = begun_anew clocks w

-- nothing was said yet
abbrev pub first_state : Clocks → LeaseState
first_state clocks = record {
  time = 0;
  life = 0;
  home = 0;
  hold = hold_begun 0;
  place = empty (clocks.parent 0 0);
  words = [];
  answers = [];
  leaves = [];
  frames = [];
  heard_at = 0;
  answered_at = 0;
}

abbrev pub states_after : Clocks → ℕ → LeaseState → List LeaseEvent → LeaseState
states_after clocks grace w [] = w
states_after clocks grace w (e ∷ es) = states_after clocks grace (state_after_event clocks grace w e) es

-- whether the control holds its setpoint, and has not surely taken its fallback
abbrev pub is_holding : Clocks → ℕ → LeaseState → Bool
is_holding clocks validity w = holds_at w.hold validity (control_clock clocks w)
