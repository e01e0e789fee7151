-- The draws of the generator. Each draw begins with a seed, gives a number, and leaves the seed of the next draw.
use Rattle.std.specs.Prelude.{ℕ, ◌+◌, ◌*◌, ◌%◌}

-- the seed that a draw leaves
unfoldable pub next : ℕ → ℕ
next seed = (75 * seed + 74) % 65537

-- the number below n that a draw gives, if n is above 0
abbrev pub draw_below : ℕ → ℕ → ℕ
draw_below n seed = next seed % n

-- the seed of the first draw
abbrev pub first_seed : ℕ → ℕ
first_seed number = number % 65536
