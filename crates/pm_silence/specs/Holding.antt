-- By what a control holds its setpoint: the machine of the child's side.
use Rattle.std.specs.Prelude.{ℕ, ◌+◌, ◌-◌, Bool, false, Option, Some, None, if◌then◌else◌, nat_lt}
use Rattle.pm_silence.specs.declared.words.Word.{Word}
use Rattle.pm_silence.specs.declared.holding.Hold.{Hold}

-- a control that starts with its stored number
abbrev pub hold_begun : ℕ → Hold
hold_begun number' = record { number = number'; floor = number'; since = None }

abbrev pub with_next_bid : Hold → Hold
with_next_bid h = record { number = h.number + 1; floor = h.floor; since = h.since }

-- what it says when its clock shows this
abbrev pub word_of : Hold → ℕ → Option Word
word_of h now = if nat_lt h.floor h.number then Some (record { number = h.number; said = now }) else None

-- the later of two moments
abbrev pub later : Option ℕ → ℕ → ℕ
later None x = x
later (Some s) x = if nat_lt s x then x else s

-- it holds from when it said what was answered; an answer to what it said before it left or started says nothing
abbrev pub hold_told : Hold → Word → Hold
hold_told h a = if nat_lt h.floor a.number then record { number = h.number; floor = h.floor; since = Some (later h.since a.said) } else h

-- how much of its own hold is used up, as a parent: none if it is the auctioneer
abbrev pub used_of : Option ℕ → ℕ → ℕ
used_of None now = 0
used_of (Some s) now = now - s

-- it has taken its fallback
abbrev pub fallen : Hold → Hold
fallen h = record { number = h.number; floor = h.floor; since = None }

-- it has taken its fallback and left
abbrev pub hold_left : Hold → Hold
hold_left h = record { number = h.number + 1; floor = h.number + 1; since = None }

-- a setpoint holds for validity after the word was said
abbrev pub lasts : Option ℕ → ℕ → ℕ → Bool
lasts None validity now = false
lasts (Some s) validity now = nat_lt now (s + validity)

abbrev pub holds_at : Hold → ℕ → ℕ → Bool
holds_at h validity now = lasts h.since validity now
