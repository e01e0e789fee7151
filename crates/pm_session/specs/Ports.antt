-- A device's end of its link.
use Rattle.std.specs.Prelude.{ℕ, nat_le, if◌then◌else◌, Option, Some, None}
use Rattle.pm_session.specs.declared.price.PriceUpdate.{PriceUpdate}
use Rattle.pm_session.specs.declared.price.Held.{Held}

-- the number of the last join while the device is joined, and the price given to it last
pub record Seat : Type 0 where
  pub joined : Option ℕ
  pub given : Option PriceUpdate

-- a device holds the price given last exactly if it is joined, and the number that the price
-- names is at least that of the last join: the price of a former session is dropped
abbrev pub held_by : Seat → Option Held
held_by seat = held_in seat.joined seat.given
  where
    held_in : Option ℕ → Option PriceUpdate → Option Held
    held_in None given = None
    held_in (Some join) None = None
    held_in (Some join) (Some price) =
        if nat_le join price.number
        then Some (record { step = price.step; number = price.number; index = price.index })
        else None
