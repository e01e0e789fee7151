-- A way from which the message that waits is taken.
use Rattle.std.proofs.Common.{sym, ℕ, ℤ, List, None, refl, arith}
use Rattle.pm_bid.specs.declared.head.BidHead.{BidHead}
use Rattle.pm_session.specs.Ways.{Way, Waits, IsWay, Taken}
use Rattle.pm_session.specs.Links.{Session, UpBid, IsSession, BidTaken, bid_number}

-- a way after the message of this number was taken: nothing waits
abbrev pub way_taken : {Message : Type 0} → Way Message → ℕ → Way Message
way_taken way number = record { waiting = None; offered = way.offered; taken = number }

-- a sound way from which the message that waits is taken is sound
pub is_way_taken : {Message : Type 0} (number : Message → ℕ) (way : Way Message) (message : Message) → IsWay number way →
    Waits way message → IsWay number (way_taken way (number message))
is_way_taken number way message is waits = record {
  order = omega (arith, is.last message waits);
  none = (λ e. sym (is.last message waits), λ e. refl);
  last = λ other e. cc;
  above = λ other e. cc;
}

-- on a sound way the message that waits is the newest, above all taken before, and can be taken
pub taken_from : {Message : Type 0} (number : Message → ℕ) (way : Way Message) (message : Message) → IsWay number way →
    Waits way message → Taken number way (way_taken way (number message)) message
taken_from number way message is waits = record {
  waited = waits;
  above = is.above message waits;
  within = omega (arith, is.last message waits);
  rest = λ other e. cc;
  offered = refl;
  taken = refl;
  newest = is.last message waits;
}

-- a link after the bid of this number was taken from its way up
abbrev pub bid_taken_from : Session → ℕ → Session
bid_taken_from session number = record session { up = way_taken session.up number }

-- the bid on its way up that has the number of a head, is gone where the head is, and has this demand
abbrev pub the_bid : BidHead → List ℤ → UpBid
the_bid head demand = record { number = head.number; gone = head.gone; demand = demand }

-- a sound link from which the bid that waits is taken is sound
pub session_taken : (session : Session) (bid : UpBid) → IsSession session → Waits session.up bid → IsSession (bid_taken_from session bid.number)
session_taken session bid is waits = record {
  basis = is.basis;
  up = is_way_taken bid_number session.up bid is.up waits;
  down = is.down;
  same_steps = λ other e. cc;
  zeros_where_gone = λ other e. cc;
}

-- on a sound link the bid that waits can be taken, and is all zeros where it is gone
pub bid_taken : (session : Session) (bid : UpBid) → IsSession session → Waits session.up bid → BidTaken session (bid_taken_from session bid.number) bid
bid_taken session bid is waits = record {
  up = taken_from bid_number session.up bid is.up waits;
  zeros_where_gone = is.zeros_where_gone bid waits;
  down = refl;
  steps = refl;
}
