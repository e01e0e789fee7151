-- What a peer may ask of a node at each read and at each write.
use Rattle.std.specs.Prelude.{ℕ, List, Option, None}
use Rattle.pm_wire.specs.Taking.{AnswersFrom}
use Rattle.pm_wire.specs.Moments.{AsksWhatIsDue}
use Rattle.pm_frames.specs.RelayFrames.{relay_framing}
use Rattle.pm_frames.specs.RootFrames.{root_framing}
use Rattle.pm_frames.specs.DeviceFrames.{device_framing}
use Rattle.pm_frames.specs.declared.place.Stage.TheVariants.{Start}
use Rattle.pm_services.specs.RelayAnswers.{AnswersRelay}
use Rattle.pm_services.specs.RootAnswers.{AnswersRoot}
use Rattle.pm_services.specs.DeviceAnswers.{AnswersDevice}
use Rattle.pm_processes.specs.Processes.{stream_start, relay_start, new_relay_service, new_device_service}
use Rattle.pm_live.specs.declared.named.LiveNode.{LiveNode}
use Rattle.pm_live.specs.declared.named.LiveNode.TheVariants.{Relay, Auctioneer, Device}

-- it asks no more than what is due of the node at the start of its stream
abbrev pub AsksNode : {W : Type 0} → (left held : W → Option (List ℕ)) → (becomes : W → W → Type 0) → (may_read : W → Type 0) →
    (may_write : W → List ℕ → Type 0) →
    LiveNode → W → Type 0
AsksNode left held becomes may_read may_write (Relay child terms) old =
    AsksWhatIsDue left held becomes may_read may_write relay_framing (relay_start child terms) (AnswersFrom AnswersRelay (new_relay_service child terms)) old
AsksNode left held becomes may_read may_write Auctioneer old =
    AsksWhatIsDue left held becomes may_read may_write root_framing Start (AnswersFrom AnswersRoot None) old
AsksNode left held becomes may_read may_write (Device child) old =
    AsksWhatIsDue left held becomes may_read may_write device_framing (stream_start child) (AnswersFrom AnswersDevice (new_device_service child)) old
