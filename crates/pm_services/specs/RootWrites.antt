-- What an auctioneer makes of a frame after Hello, and the frames with which it answers.
use Rattle.std.specs.Prelude.{◌≡◌, ◌⊎◌, ℕ, ◌==◌, ◌&&◌, not, Bool, if◌then◌else◌, ℤ, List, [], ◌∷◌}
use Rattle.std.specs.Prelude.{◌++◌, Option, Some, None}
use Rattle.pm_base.specs.declared.limits.Limits.{Limits}
use Rattle.pm_basis.specs.Prices.{BasisValue}
use Rattle.pm_cache.specs.Cache.{kept_number}
use Rattle.pm_wire.specs.Answers.{answer_bytes}
use Rattle.pm_wire.specs.declared.answer.Reply as reply
use Rattle.pm_wire.specs.declared.frame.Frame.TheVariants.{Hello, Bid, Gone, Clear}
use Rattle.pm_relay.specs.Roots.{RootValue, newest_index, RootComesBack, with_root_bid, LooksForClearing, RootCleared, NotCleared}
use Rattle.pm_relay.specs.Numbers.{known_number, parents_number}
use Rattle.pm_relay.specs.declared.fault.RootFault.{RootFault}
use Rattle.pm_relay.specs.declared.fault.RootFault.TheVariants.{NotCaughtUp, NotChanged, OutOfNumbers}
use Rattle.pm_frames.specs.Stored.{StoredRoot, root_resume_bytes}
use Rattle.pm_frames.specs.Answers.{not_caught_up_bytes, out_of_numbers_bytes, too_much_bytes}
use Rattle.pm_frames.specs.declared.root.RootFrame.{RootFrame}
use Rattle.pm_frames.specs.declared.root.RootFrame.TheVariants.{Market, Expire, Bound, Resume}
use Rattle.pm_services.specs.Bounds.{with_bound, KeepsBound}
use Rattle.pm_services.specs.Outputs.{Output, Keeps, Says, outputs_bytes}
use Rattle.pm_services.specs.Receipts.{sender_place, receipt_outs, downs}

-- ---- what an auctioneer writes

-- the bytes of it
abbrev pub root_bytes : BasisValue → List (Output StoredRoot) → List ℕ
root_bytes basis outs = outputs_bytes root_resume_bytes basis 0 outs

-- what it keeps over a restart
abbrev pub stored_root : BasisValue → RootValue → StoredRoot
stored_root basis' r = record { last = newest_index r; basis = basis'; numbers = r.recorded }

-- the prices of its newest clearing
abbrev pub clearing_outs : RootValue → List (Output StoredRoot)
clearing_outs r = downs (newest_index r) r.auction.step 0 r.auction.cache.heads

-- it has the prices of its newest clearing: it cleared since it came up, and learnt nothing since
abbrev pub has_prices : RootValue → Bool
has_prices r = not (r.auction.index == 0) && not r.auction.changed

abbrev pub kept_prices_outs : RootValue → List (Output StoredRoot)
kept_prices_outs r = if has_prices r then clearing_outs r else []

-- an auctioneer that has its newest clearing again sends its prices again
abbrev pub clearing_again_outs : RootValue → RootValue → List (Output StoredRoot)
clearing_again_outs old new = if old.auction.index == 0 && not (new.auction.index == 0) then clearing_outs new else []

-- ---- what it answers

-- a child's Bid or Gone
pub record WritesRootBid (old : RootValue) (sender number : ℕ) (demand : Option (List ℤ)) (new : RootValue) (outs : List (Output StoredRoot)) : Type 0 where
  pub looks : LooksForClearing (with_root_bid old (sender_place sender) number demand) new
  pub replied : outs ≡ receipt_outs (kept_number old.auction.cache (sender_place sender)) sender number ++ clearing_again_outs old new

-- a child is let go: it is gone under the number that is the auctioneer's for it
pub record WritesRootExpire (old : RootValue) (sender : ℕ) (new : RootValue) (outs : List (Output StoredRoot)) : Type 0 where
  pub looks : LooksForClearing (with_root_bid old (sender_place sender)
      (parents_number (known_number old.recorded old.auction.cache.heads (sender_place sender))) None) new
  pub replied : outs ≡ clearing_again_outs old new

abbrev pub not_cleared_reply : RootFault → List ℕ
not_cleared_reply NotCaughtUp = not_caught_up_bytes
not_cleared_reply NotChanged = answer_bytes reply.TheVariants.NotChanged
not_cleared_reply OutOfNumbers = out_of_numbers_bytes

-- the market is cleared, and what is kept over a restart stands before the prices; or it is said why it is not
abbrev pub WritesClear : BasisValue → RootValue → RootValue → List (Output StoredRoot) → Type 0
WritesClear basis old new outs =
    ((index step : ℕ) × RootCleared old new index step × (outs ≡ Keeps (stored_root basis new) ∷ clearing_outs new))
    ⊎ ((fault : RootFault) × NotCleared old fault × (new ≡ old) × (outs ≡ Says (not_cleared_reply fault) ∷ []))

-- nothing changes, and nothing is answered
abbrev pub RootStaysQuiet : RootValue → RootValue → List (Output StoredRoot) → Type 0
RootStaysQuiet old new outs = (new ≡ old) × (outs ≡ [])

-- a child's Bid counts if it keeps the child's bound
abbrev pub WritesRootBounded : List Limits → RootValue → (sender number : ℕ) → List ℤ → RootValue → List (Output StoredRoot) → Type 0
WritesRootBounded bounds old sender number demand new outs =
    (KeepsBound bounds sender demand × WritesRootBid old sender number (Some demand) new outs)
    ⊎ ((¬ KeepsBound bounds sender demand) × (new ≡ old) × (outs ≡ Says (too_much_bytes sender number) ∷ []))

-- what an auctioneer after Hello, whose children have these bounds, makes of a frame, and the frames that answer it
abbrev pub WritesRoot : BasisValue → List Limits → RootValue → RootFrame → RootValue → List (Output StoredRoot) → Type 0
WritesRoot own bounds old (Market (Hello basis)) new outs = RootStaysQuiet old new outs
WritesRoot own bounds old (Market (Bid sender number demand)) new outs = WritesRootBounded bounds old sender number demand new outs
WritesRoot own bounds old (Market (Gone sender number)) new outs = WritesRootBid old sender number None new outs
WritesRoot own bounds old (Market Clear) new outs = WritesClear own old new outs
WritesRoot own bounds old (Expire sender) new outs = WritesRootExpire old sender new outs
WritesRoot own bounds old (Bound sender bound) new outs = RootStaysQuiet old new outs
WritesRoot own bounds old (Resume stored) new outs = RootComesBack own.steps stored.last stored.numbers new × (outs ≡ [])

-- the bounds of its children after a frame
abbrev pub root_bounds_after : List Limits → RootFrame → List Limits
root_bounds_after bounds (Market frame) = bounds
root_bounds_after bounds (Expire sender) = bounds
root_bounds_after bounds (Bound sender bound) = with_bound bounds sender bound
root_bounds_after bounds (Resume stored) = bounds
