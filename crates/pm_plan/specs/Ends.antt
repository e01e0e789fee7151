-- What contracts see of a phase's end.
use Rattle.std.specs.Prelude.{ℕ, pos, []}
use Rattle.pm_plan.specs.Auction.{EndData}

-- the end, and for how many lines more there is room without taking memory
pub record EndValue : Type 0 where
  pub end : EndData
  pub member_room : ℕ
  pub limited_room : ℕ

-- an end without lines, at step, price and total 0
abbrev pub no_end : EndData
no_end = record { step = 0; price = pos 0; total = pos 0; members = []; limited = [] }
