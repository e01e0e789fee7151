-- What a parent has of one child: the machine of the parent's side.
use Rattle.std.specs.Prelude.{ℕ, ◌+◌, ◌-◌, Bool, true, false, if◌then◌else◌, nat_lt, nat_le, nat_eq, ◌&&◌, ◌||◌}
use Rattle.pm_silence.specs.declared.words.Word.{Word}
use Rattle.pm_silence.specs.declared.placing.ChildPlace.{ChildPlace}

abbrev pub empty : ℕ → ChildPlace
empty now = record { counts = false; number = 0; said = 0; heard = now }

-- a word is news if its number is greater, or if the child counts and said it later under the same number
abbrev pub is_news : ChildPlace → Word → Bool
is_news p w = nat_lt p.number w.number || (p.counts && nat_eq p.number w.number && nat_lt p.said w.said)

-- the answer of a parent whose own hold is used up by so much: the word, as if it had been said that much earlier
abbrev pub echo_of : Word → ℕ → Word
echo_of w used = record { number = w.number; said = w.said - used }

-- the later of two moments of one clock
abbrev pub latest : ℕ → ℕ → ℕ
latest a b = if nat_lt a b then b else a

-- a place once news was heard
abbrev pub news_known : ChildPlace → Word → ℕ → ChildPlace
news_known p w now = record { counts = true; number = w.number; said = w.said; heard = latest p.heard now }

abbrev pub heard_word : ChildPlace → Word → ℕ → ChildPlace
heard_word p w now = if is_news p w then news_known p w now else p

-- a place that is empty from a number on
abbrev pub place_emptied : ChildPlace → ℕ → ChildPlace
place_emptied p n = record { counts = false; number = n; said = p.said; heard = p.heard }

abbrev pub heard_leave : ChildPlace → ℕ → ChildPlace
heard_leave p n = if nat_lt p.number n then place_emptied p n else p

-- whether a child that counts was silent for grace
abbrev pub is_overdue : ChildPlace → ℕ → ℕ → Bool
is_overdue p grace now = p.counts && nat_le (p.heard + grace) now

abbrev pub place_looked_at : ChildPlace → ℕ → ℕ → ChildPlace
place_looked_at p grace now = if is_overdue p grace now then place_emptied p p.number else p

abbrev pub place_restarted : ChildPlace → ℕ → ChildPlace
place_restarted p now = record { counts = p.counts; number = p.number; said = p.said; heard = now }
