-- Where the frames to an auctioneer's service stand, by what it knows: it knows the steps of the basis that Hello had.
use Rattle.std.proofs.Common.{◌≡◌, ◌∙◌, sym, ap, subst, refl, ℕ, ℤ, List, [], ◌∷◌, length, Option, None, Some, inl, inr}
use Rattle.pm_base.specs.Limits.{demand_limit}
use Rattle.pm_basis.specs.Prices.{BasisValue}
use Rattle.pm_bid.specs.Bids.{AllWithinLimit}
use Rattle.pm_cache.specs.Cache.{Cache}
use Rattle.pm_wire.specs.Framing.{MayStand, AllStand, place_behind}
use Rattle.pm_wire.specs.Taking.{Runs, CanTake}
use Rattle.pm_wire.specs.Frames.{IsFormed}
use Rattle.pm_wire.specs.declared.frame.Frame.TheVariants.{Hello, Bid, Gone, Clear}
use Rattle.pm_wire.proofs.Markets.{accepted_small}
use Rattle.pm_relay.specs.Roots.{RootValue}
use Rattle.pm_frames.specs.Places.{bid_place, stage_behind}
use Rattle.pm_frames.specs.Stored.{StoredRoot}
use Rattle.pm_frames.specs.RootFrames.{root_framing, root_stage_after}
use Rattle.pm_frames.specs.declared.place.Stage.{Stage}
use Rattle.pm_frames.specs.declared.root.RootFrame.{RootFrame}
use Rattle.pm_frames.specs.declared.root.RootFrame.TheVariants.{Market, Expire, Bound, Resume}
use Rattle.pm_frames.proofs.NodePlaces.{same_bid_place}
use Rattle.pm_services.specs.Outputs.{Output}
use Rattle.pm_services.specs.RootWrites.{WritesClear, WritesRootBid, WritesRootExpire}
use Rattle.pm_services.specs.RootAnswers.{OpenRoot, WritesRootNow, AnswersRoot, IsRootStart}
use Rattle.pm_services.specs.RootStands.{steps_known, MayStandWithSteps}
use Rattle.pm_services.proofs.OpenRoots.{bid_steps}

-- ---- an auctioneer keeps its steps

pub clear_keeps : (basis : BasisValue) (old new : RootValue) (outs : List (Output StoredRoot)) → WritesClear basis old new outs →
    new.auction.cache.steps ≡ old.auction.cache.steps
clear_keeps basis old new outs (inl made) = ap (λ (k : Cache). k.steps) made.2.cleared.cache
clear_keeps basis old new outs (inr stays) = ap (λ (r : RootValue). r.auction.cache.steps) stays.2

-- a bid leaves the number of steps as it was
pub bid_keeps : (old : RootValue) (sender number : ℕ) (demand : Option (List ℤ)) (new : RootValue) (outs : List (Output StoredRoot)) →
    WritesRootBid old sender number demand new outs → new.auction.cache.steps ≡ old.auction.cache.steps
bid_keeps old sender number demand new outs answers = bid_steps old new _ number demand answers.looks

-- so does a child that is let go
pub expire_keeps : (old : RootValue) (sender : ℕ) (new : RootValue) (outs : List (Output StoredRoot)) →
    WritesRootExpire old sender new outs → new.auction.cache.steps ≡ old.auction.cache.steps
expire_keeps old sender new outs answers = bid_steps old new _ _ None answers.looks

-- ---- the steps that are known after a frame

no_hello : (stage : Stage) (old : OpenRoot) (frame : RootFrame) → bid_place stage ≡ Some old.basis.steps → MayStand root_framing stage frame →
    bid_place (root_stage_after stage frame) ≡ bid_place (stage_behind stage)
no_hello stage old (Market (Hello basis)) is stands = absurd (subst (λ (p : Option ℕ). IsFormed p (Hello basis)) is stands.formed)
no_hello stage old (Market (Bid sender number demand)) is stands = refl
no_hello stage old (Market (Gone sender number)) is stands = refl
no_hello stage old (Market Clear) is stands = refl
no_hello stage old (Expire sender) is stands = refl
no_hello stage old (Bound sender bound) is stands = refl
no_hello stage old (Resume stored) is stands = refl

known_after : (stage : Stage) (old new : Option OpenRoot) (frame : RootFrame) (outs : List (Output StoredRoot)) → bid_place stage ≡ steps_known old →
    MayStand root_framing stage frame → WritesRootNow old frame new outs → bid_place (root_stage_after stage frame) ≡ steps_known new
known_after stage None new (Market (Hello basis)) outs same stands writes = sym (ap steps_known writes.0.opened)
known_after stage None new (Market (Bid child number demand)) outs same stands writes = same_bid_place stage ∙ same ∙ ap steps_known (sym writes.0)
known_after stage None new (Market (Gone child number)) outs same stands writes = same_bid_place stage ∙ same ∙ ap steps_known (sym writes.0)
known_after stage None new (Market Clear) outs same stands writes = same_bid_place stage ∙ same ∙ ap steps_known (sym writes.0)
known_after stage None new (Expire child) outs same stands writes = same_bid_place stage ∙ same ∙ ap steps_known (sym writes.0)
known_after stage None new (Bound child bound) outs same stands writes = same_bid_place stage ∙ same ∙ ap steps_known (sym writes.0)
known_after stage None new (Resume stored) outs same stands writes = same_bid_place stage ∙ same ∙ ap steps_known (sym writes.0)
known_after stage (Some old) new frame outs same stands writes =
    no_hello stage old frame same stands ∙ same_bid_place stage ∙ same
    ∙ ap (λ (basis : BasisValue). Some basis.steps) (sym writes.2.basis) ∙ ap steps_known (sym writes.1)

-- and after frames
known_after_frames : (frames : List RootFrame) (stage : Stage) (old new : Option OpenRoot) (reply : List ℕ) → bid_place stage ≡ steps_known old →
    AllStand root_framing stage frames → Runs AnswersRoot old frames new reply → bid_place (place_behind root_framing stage frames) ≡ steps_known new
known_after_frames [] stage old new reply same all runs = same ∙ ap steps_known (sym runs.0)
known_after_frames (frame ∷ frames) stage old new reply same all runs =
    known_after_frames frames (root_stage_after stage frame) runs.0 new runs.2 (known_after stage old runs.0 frame runs.3.outs same all.0 runs.3.writes)
    all.1 runs.4

-- a frame that may be taken stands where what is known leaves the stream
pub known_stands : (root : Option OpenRoot) (frame : RootFrame) → CanTake root_framing IsRootStart AnswersRoot root frame →
    MayStandWithSteps (steps_known root) frame
known_stands root frame can = record {
  stage = place_behind root_framing can.start can.frames;
  steps = known_after_frames can.frames can.start can.first root can.reply (ap bid_place can.begins.before_hello ∙ ap steps_known (sym can.begins.closed))
      can.stand can.runs;
  stands = can.stands;
}

-- the demand of a bid fits a message
pub bid_small : (steps : Option ℕ) (child number : ℕ) (demand : List ℤ) → MayStandWithSteps steps (Market (Bid child number demand)) →
    AllWithinLimit demand_limit demand
bid_small steps child number demand may = accepted_small (length demand) demand may.stands.accepted.1
