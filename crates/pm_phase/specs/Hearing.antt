-- What a node makes of a message that it takes: nothing that came is lost on the way from the link to the node.
use Rattle.std.specs.Prelude.{◌≡◌, ℕ, Bool, true, false, if◌then◌else◌, nat_lt, Some, None}
use Rattle.pm_cells.specs.Ends.{LinkEnd}
use Rattle.pm_cells.specs.declared.message.UpMessage.{UpMessage}
use Rattle.pm_plan.specs.Plans.{PlanData}
use Rattle.pm_session.specs.declared.price.PriceUpdate.{PriceUpdate}
use Rattle.pm_phase.specs.Devices.{after_price_is_given}
use Rattle.pm_phase.specs.Parents.{LearnsBid}
use Rattle.pm_phase.specs.Matchers.{cache_of_matcher, MayLearnBid}
use Rattle.pm_phase.specs.Waiting.{TakesBidFromLink, TakesPriceFromLink}
use Rattle.pm_phase.specs.declared.device.DevicePart.{DevicePart}
use Rattle.pm_phase.specs.declared.parent.ParentPart.{ParentPart}

-- a device holds the price that it took; if none came it is as it was
abbrev pub HearsPrice : PlanData → LinkEnd → LinkEnd → DevicePart → DevicePart → Bool → Type 0
HearsPrice plan old new device device' true =
    (price : PriceUpdate) × TakesPriceFromLink old new (Some price) × (device' ≡ after_price_is_given plan device price)
HearsPrice plan old new device device' false = TakesPriceFromLink old new None × (device' ≡ device)

-- the price that a node is to pass on, if its step is one of the plan's
abbrev pub with_pending_price : PlanData → ParentPart → PriceUpdate → ParentPart
with_pending_price plan parent price =
    record parent { pending = if nat_lt price.step plan.basis.steps then Some price else parent.pending }

-- a concentrator is to pass on the price that it took; if none came it is as it was
abbrev pub HearsPriceToPass : PlanData → LinkEnd → LinkEnd → ParentPart → ParentPart → Bool → Type 0
HearsPriceToPass plan old new parent parent' true =
    (price : PriceUpdate) × TakesPriceFromLink old new (Some price) × (parent' ≡ with_pending_price plan parent price)
HearsPriceToPass plan old new parent parent' false = TakesPriceFromLink old new None × (parent' ≡ parent)

-- a bid that came is learnt if it may be, and else dropped
pub record LearnsOrDrops (place : ℕ) (bid : UpMessage) (parent parent' : ParentPart) : Type 0 where
  pub learnt : MayLearnBid (cache_of_matcher parent.matcher) place bid → LearnsBid place bid parent parent'
  pub dropped : (MayLearnBid (cache_of_matcher parent.matcher) place bid → ⊥) → parent' ≡ parent

-- a node learns the bid that it took; if none came it is as it was
abbrev pub HearsBid : ℕ → LinkEnd → LinkEnd → ParentPart → ParentPart → Bool → Type 0
HearsBid place old new parent parent' true =
    (bid : UpMessage) × TakesBidFromLink old new (Some bid) × LearnsOrDrops place bid parent parent'
HearsBid place old new parent parent' false = TakesBidFromLink old new None × (parent' ≡ parent)
