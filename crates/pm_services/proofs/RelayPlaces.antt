-- Where the frames to a relay's service stand, by what it knows: it knows the steps of the basis that Hello had.
use Rattle.std.proofs.Common.{◌≡◌, ◌∙◌, sym, ap, refl, subst, ℕ, ◌≤◌, ℤ, List, [], ◌∷◌}
use Rattle.std.proofs.Common.{length, Option, None, Some}
use Rattle.pm_base.specs.Limits.{most_nodes, demand_limit}
use Rattle.pm_bid.specs.Bids.{AllWithinLimit}
use Rattle.pm_wire.specs.Framing.{MayStand, AllStand, place_behind}
use Rattle.pm_wire.specs.Taking.{Runs, CanTake}
use Rattle.pm_wire.specs.Frames.{IsFormed}
use Rattle.pm_wire.specs.declared.frame.Frame.TheVariants.{Hello, Bid, Gone, Clear}
use Rattle.pm_wire.proofs.Markets.{accepted_small}
use Rattle.pm_frames.specs.Places.{bid_place, IsOpen, IsFresh, stage_behind}
use Rattle.pm_frames.specs.RelayFrames.{relay_framing, relay_place_after}
use Rattle.pm_frames.specs.Stored.{StoredRelay}
use Rattle.pm_frames.specs.declared.place.RelayPlace.{RelayPlace}
use Rattle.pm_frames.specs.declared.place.Stage.{Stage}
use Rattle.pm_frames.specs.declared.place.Stage.TheVariants.{Start, Opened, Running}
use Rattle.pm_frames.specs.declared.terms.RelayTerms.{RelayTerms}
use Rattle.pm_frames.specs.declared.relay.RelayFrame.{RelayFrame}
use Rattle.pm_frames.specs.declared.relay.RelayFrame.TheVariants.{Child, Parent, Send, Expire, Bound, Resume}
use Rattle.pm_frames.specs.declared.relay.RelayFrame.TheVariants as given
use Rattle.pm_frames.proofs.NodePlaces.{same_bid_place}
use Rattle.pm_services.specs.RelaySetups.{RelaySetup}
use Rattle.pm_services.specs.Outputs.{Output}
use Rattle.pm_services.specs.RelayAnswers.{OpenRelay, RelayServiceValue, WritesNow, AnswersRelay, IsRelayStart}
use Rattle.pm_services.specs.RelayStands.{steps_known, MayStandWithSteps}

-- ---- the place

open_known : (stage : Stage) → IsOpen stage → bid_place stage ≡ None → ⊥
open_known Start is none = is
open_known (Opened basis) is none = cc none
open_known (Running basis) is none = cc none

fresh_open : (stage : Stage) → IsFresh stage → IsOpen stage
fresh_open Start is = is
fresh_open (Opened basis) is = tt
fresh_open (Running basis) is = absurd is

no_hello : (place : RelayPlace) (old : OpenRelay) (frame : RelayFrame) → bid_place place.stage ≡ Some old.setup.basis.steps →
    MayStand relay_framing place frame →
    bid_place (relay_place_after place frame).stage ≡ bid_place (stage_behind place.stage)
no_hello place old (Child (Hello basis)) is stands = absurd (subst (λ p. IsFormed p (Hello basis)) is stands.formed.0)
no_hello place old (Child (Bid sender number demand)) is stands = refl
no_hello place old (Child (Gone sender number)) is stands = refl
no_hello place old (Child Clear) is stands = refl
no_hello place old (Parent frame) is stands = refl
no_hello place old Send is stands = refl
no_hello place old (Expire sender) is stands = refl
no_hello place old (given.Limits number limits) is stands = refl
no_hello place old (Bound sender bound) is stands = refl
no_hello place old (Resume stored) is stands = refl

-- a frame that may stand leads to the place that the service knows then
steps_after : (place : RelayPlace) (child : ℕ) (terms : RelayTerms) (old : Option OpenRelay) (frame : RelayFrame) (new : Option OpenRelay)
    (outs : List (Output StoredRelay)) →
    bid_place place.stage ≡ steps_known old → MayStand relay_framing place frame → WritesNow child terms old frame new outs →
    bid_place (relay_place_after place frame).stage ≡ steps_known new
steps_after place child terms None (Child (Hello basis)) new outs is stands writes = sym (ap steps_known writes.0.opened)
steps_after place child terms None (Child (Bid sender number demand)) new outs is stands writes =
    absurd (subst (λ p. IsFormed p (Bid sender number demand)) is stands.formed.0)
steps_after place child terms None (Child (Gone sender number)) new outs is stands writes =
    absurd (subst (λ p. IsFormed p (Gone sender number)) is stands.formed.0)
steps_after place child terms None (Child Clear) new outs is stands writes = absurd stands.formed.1
steps_after place child terms None (Parent frame) new outs is stands writes = absurd (open_known place.stage stands.formed.0 is)
steps_after place child terms None Send new outs is stands writes = absurd (open_known place.stage stands.formed is)
steps_after place child terms None (Expire sender) new outs is stands writes = absurd (open_known place.stage stands.formed.0 is)
steps_after place child terms None (given.Limits number limits) new outs is stands writes = absurd (open_known place.stage stands.formed.0 is)
steps_after place child terms None (Bound sender bound) new outs is stands writes = absurd (open_known place.stage stands.formed.0 is)
steps_after place child terms None (Resume stored) new outs is stands writes =
    absurd (open_known place.stage (fresh_open place.stage stands.formed.0) is)
steps_after place child terms (Some old) frame new outs is stands writes =
    no_hello place old frame is stands ∙ same_bid_place place.stage ∙ is
    ∙ ap (λ (own : RelaySetup). Some own.basis.steps) (sym writes.2.setup) ∙ ap steps_known (sym writes.1)

-- so do frames
steps_after_frames : (frames : List RelayFrame) (place : RelayPlace) (service after : RelayServiceValue) (reply : List ℕ) →
    bid_place place.stage ≡ steps_known service.relay → AllStand relay_framing place frames → Runs AnswersRelay service frames after reply →
    bid_place (place_behind relay_framing place frames).stage ≡ steps_known after.relay
steps_after_frames [] place service after reply is stand runs = is ∙ ap (λ (s : RelayServiceValue). steps_known s.relay) (sym runs.0)
steps_after_frames (frame ∷ frames) place service after reply is stand runs =
    steps_after_frames frames (relay_place_after place frame) runs.0 after runs.2
    (steps_after place service.child service.terms service.relay frame runs.0.relay runs.3.outs is stand.0 runs.3.writes) stand.1 runs.4

-- a frame that may be taken may stand at a place with the steps that the service knows
pub relay_stands : (service : RelayServiceValue) (frame : RelayFrame) → CanTake relay_framing IsRelayStart AnswersRelay service frame →
    MayStandWithSteps (steps_known service.relay) frame
relay_stands service frame can = record {
  place = place_behind relay_framing can.start can.frames;
  steps = steps_after_frames can.frames can.start can.first service can.reply
      (ap bid_place can.begins.before_hello ∙ ap steps_known (sym can.begins.closed)) can.stand can.runs;
  stands = can.stands;
}

-- ---- what is known of a Bid after Hello

-- its sender is a child, and it is a bid over the basis
pub record IsBidOver (steps' sender : ℕ) (demand : List ℤ) : Type 0 where
  -- the sender is a child
  pub first : 1 ≤ sender
  pub last : sender ≤ most_nodes
  -- there is a demand for each step
  pub steps : length demand ≡ steps'
  pub small : AllWithinLimit demand_limit demand

-- a Bid that may be taken is a bid over the basis
pub bid_stands : (steps sender number : ℕ) (demand : List ℤ) → MayStandWithSteps (Some steps) (Child (Bid sender number demand)) →
    IsBidOver steps sender demand
bid_stands steps sender number demand may =
    let formed = subst (λ p. IsFormed p (Bid sender number demand)) may.steps may.stands.formed.0 in
    record {
      first = may.stands.accepted.0.0.0;
      last = may.stands.accepted.0.0.1;
      steps = formed.2;
      small = accepted_small (length demand) demand may.stands.accepted.0.1;
    }
