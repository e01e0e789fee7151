-- Ports with one changed.
use Rattle.std.proofs.Common.{◌≡◌, sym, ℕ, ◌<◌, List, length, get_or, None, get_or-set_same, get_or-set_other}
use Rattle.std.proofs.Math.ListN.{set}
use Rattle.std.proofs.lemmas.List.{get_or_read}
use Rattle.pm_session.specs.Ports.{Seat}
use Rattle.pm_stands.specs.Core.{seat_at}

-- the seat in a place of the ports is the one that was written there
pub seat_set : (ports : List Seat) (d : ℕ) (seat : Seat) → d < length ports → seat_at (set ports d seat) d ≡ seat
unfolding seat_at
seat_set ports d seat lt = get_or-set_same ports d seat (record { joined = None; given = None }) lt

-- writing the seat of x leaves the seat of every other device as it was
pub seat_other : (ports : List Seat) (x : ℕ) (seat : Seat) (d : ℕ) → (d ≡ x → ⊥) → seat_at (set ports x seat) d ≡ seat_at ports d
unfolding seat_at
seat_other ports x seat d ne = get_or-set_other ports x d seat (record { joined = None; given = None }) ne

-- a seat read in place d of the ports is the seat of d
pub seat_read : (ports : List Seat) (d : ℕ) (seat : Seat) → d < length ports → seat ≡ get_or ports d seat → seat_at ports d ≡ seat
unfolding seat_at
seat_read ports d seat lt read = sym (get_or_read ports d seat lt read (record { joined = None; given = None }))
