-- Heartbeats that come down from the auctioneer: which one is newer.
use Rattle.std.specs.Prelude.{ℕ, ◌+◌, Bool, true, if◌then◌else◌, nat_lt, nat_le, nat_eq, ◌&&◌, ◌||◌, Option, Some, None}
use Rattle.pm_silence.specs.declared.beating.Beat.{Beat}
use Rattle.pm_silence.specs.declared.beating.Beats.{Beats}
use Rattle.pm_silence.specs.declared.beating.Listener.{Listener}

-- by the start, and then by the count
abbrev pub is_newer : Beat → Beat → Bool
is_newer a b = nat_lt b.start a.start || (nat_eq b.start a.start && nat_lt b.count a.count)

abbrev pub is_new : Option Beat → Beat → Bool
is_new None beat = true
is_new (Some newest) beat = is_newer beat newest

abbrev pub heard_beat : Listener → Beat → ℕ → Listener
heard_beat l beat now = if is_new l.newest beat then record { newest = Some beat; heard = now } else l

abbrev pub is_silent : Listener → ℕ → ℕ → Bool
is_silent l validity now = nat_le (l.heard + validity) now

-- the auctioneer hears what some node has: if that is not older than its own start, its start is the next one
abbrev pub start_learnt : Beats → Beat → Beats
start_learnt b known = if nat_lt known.start b.start then b else record { start = known.start + 1; count = 0 }

abbrev pub beaten : Beats → Beats
beaten b = record { start = b.start; count = b.count + 1 }

abbrev pub beat_of : Beats → Beat
beat_of b = record { start = b.start; count = b.count }
