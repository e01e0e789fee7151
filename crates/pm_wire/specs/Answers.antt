-- What the auctioneer answers to a list of frames.
use Rattle.std.specs.Prelude.{◌≡◌, ℕ, ◌+◌, ◌-◌, ◌||◌, ℤ, Bool, false, not, nat_le, if◌then◌else◌, List, []}
use Rattle.std.specs.Prelude.{◌∷◌, ◌++◌, length, Option, Some, None}
use Rattle.std.specs.Int.{w16, w32, to_be_bytes}
use Rattle.std.specs.List.{flat_map}
use Rattle.pm_base.specs.Limits.{most_nodes}
use Rattle.pm_bid.specs.Clearing.{clearing_step}
use Rattle.pm_bid.specs.declared.head.BidHead.{BidHead}
use Rattle.pm_cache.specs.Cache.{Cache, empty_cache, kept_number, aggregate_of}
use Rattle.pm_cache.specs.Learning.{after_learning}
use Rattle.pm_wire.specs.Kinds.{bare_price_kind, not_changed_kind, old_kind}
use Rattle.pm_wire.specs.Frames.{stream_bytes}
use Rattle.pm_wire.specs.Services.{fault_bytes}
use Rattle.pm_wire.specs.declared.answer.Reply.{Reply}
use Rattle.pm_wire.specs.declared.answer.Reply.TheVariants.{Price, NotChanged, Old, Fault}
use Rattle.pm_wire.specs.declared.frame.Frame.{Frame}
use Rattle.pm_wire.specs.declared.frame.Frame.TheVariants.{Hello, Bid, Gone, Clear}

-- ---- the bytes of an answer

-- the first byte tells the kind, and the fields have the most significant byte first
abbrev pub answer_bytes : Reply → List ℕ
answer_bytes (Price child number index step) =
    bare_price_kind ∷ (to_be_bytes w16 child ++ (to_be_bytes w32 number ++ (to_be_bytes w32 index ++ to_be_bytes w16 step)))
answer_bytes NotChanged = not_changed_kind ∷ []
answer_bytes (Old child kept) = old_kind ∷ (to_be_bytes w16 child ++ to_be_bytes w32 kept)
answer_bytes (Fault offset) = fault_bytes offset

-- the bytes of answers, one behind the other
abbrev pub reply_bytes : List Reply → List ℕ
reply_bytes answers = flat_map answer_bytes answers

-- ---- what the auctioneer knows

-- the newest Bid or Gone of each child that counted, the index of the last clearing, 0 where there is none, and whether a
-- Bid or Gone counted since
pub record OpenMarket : Type 0 where
  pub cache : Cache
  pub index : ℕ
  pub changed : Bool

-- The market after Hello has an entry for each child: its newest Bid or Gone that counted. No clearing has come yet, and
-- nothing counted.
unfoldable pub open_market : ℕ → OpenMarket
open_market steps = record { cache = empty_cache most_nodes steps; index = 0; changed = false }

-- children count from 1 on the stream, and from 0 among the entries
abbrev pub child_entry : ℕ → ℕ
child_entry child = child - 1

-- the greatest number of a Bid or Gone of a child so far, 0 where there is none
abbrev pub number_kept : OpenMarket → ℕ → ℕ
number_kept market child = kept_number market.cache (child_entry child)

-- a Bid or Gone counts where its number is above the child's; a market has changed where one counted since the last clearing
abbrev pub after_entry : OpenMarket → ℕ → ℕ → Option (List ℤ) → OpenMarket
after_entry market child number demand = record {
  cache = after_learning market.cache (child_entry child) number demand;
  index = market.index;
  changed = market.changed || not (nat_le number (number_kept market child));
}

-- a clearing of a market that has changed
abbrev pub after_clear : OpenMarket → OpenMarket
after_clear market = if market.changed then record { cache = market.cache; index = market.index + 1; changed = false } else market

-- what is known after a frame: nothing before Hello
abbrev pub market_after : Option OpenMarket → Frame → Option OpenMarket
market_after market (Hello basis) = Some (open_market basis.steps)
market_after None frame = None
market_after (Some market) (Bid child number demand) = Some (after_entry market child number (Some demand))
market_after (Some market) (Gone child number) = Some (after_entry market child number None)
market_after (Some market) Clear = Some (after_clear market)

-- ---- what is answered

-- a Bid or Gone that does not count is old, and one that counts has no answer
abbrev pub receipt : OpenMarket → ℕ → ℕ → List Reply
receipt market child number = if nat_le number (number_kept market child) then Old child (number_kept market child) ∷ [] else []

-- the price for a child whose newest is a Bid; there is none for a child that is gone
abbrev pub price_for : ℕ → ℕ → ℕ → BidHead → List Reply
price_for index step child head = if head.gone then [] else Price child head.number index step ∷ []

-- the prices for children, rising from this one
abbrev pub prices : ℕ → ℕ → ℕ → List BidHead → List Reply
prices index step child [] = []
prices index step child (head ∷ heads) = price_for index step child head ++ prices index step (child + 1) heads

-- the market clears at the clearing step of the sum of all bids that count, under the next index
abbrev pub clearing_prices : OpenMarket → List Reply
clearing_prices market = prices (market.index + 1) (clearing_step (aggregate_of market.cache)) 1 market.cache.heads

-- what is answered to a frame
abbrev pub answers_to : Option OpenMarket → Frame → List Reply
answers_to market (Hello basis) = []
answers_to None frame = []
answers_to (Some market) (Bid child number demand) = receipt market child number
answers_to (Some market) (Gone child number) = receipt market child number
answers_to (Some market) Clear = if market.changed then clearing_prices market else NotChanged ∷ []

-- what is known after frames, and what is answered to them
abbrev pub market_behind : Option OpenMarket → List Frame → Option OpenMarket
market_behind market [] = market
market_behind market (frame ∷ frames) = market_behind (market_after market frame) frames

abbrev pub answers_behind : Option OpenMarket → List Frame → List Reply
answers_behind market [] = []
answers_behind market (frame ∷ frames) = answers_to market frame ++ answers_behind (market_after market frame) frames

-- the answers to a list of frames
abbrev pub answers : List Frame → List Reply
answers frames = answers_behind None frames

-- the bytes of the answers to frames
abbrev pub replies : List Frame → List ℕ
replies frames = reply_bytes (answers frames)

-- the same, and the fault of the frame that comes next
abbrev pub replies_and_fault : List Frame → List ℕ
replies_and_fault frames = replies frames ++ answer_bytes (Fault (length (stream_bytes frames)))

-- the bytes are those of the answers
abbrev pub AreReplies : List Frame → List ℕ → Type 0
AreReplies frames reply = reply ≡ replies frames

-- the place in the stream at which what is known leaves it
abbrev pub place_known : Option OpenMarket → Option ℕ
place_known None = None
place_known (Some market) = Some market.cache.steps

-- ---- the auctioneer as a service

-- what a frame makes of what is known, and the bytes that answer it
pub record AnswersFrame (old : Option OpenMarket) (frame : Frame) (new : Option OpenMarket) (reply : List ℕ) : Type 0 where
  pub knows : new ≡ market_after old frame
  pub replied : reply ≡ reply_bytes (answers_to old frame)

-- before Hello nothing is known
pub record IsAtStart (place : Option ℕ) (market : Option OpenMarket) : Type 0 where
  pub before_hello : place ≡ None
  pub nothing_known : market ≡ None
