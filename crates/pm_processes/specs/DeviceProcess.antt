-- A process of a device's agent, frame by frame.
use Rattle.std.specs.Prelude.{◌≡◌, ◌⊎◌, ℕ, List, [], ◌∷◌, ◌++◌, Option, Some, None, IfSome, ⊤}
use Rattle.pm_basis.specs.Prices.{BasisValue}
use Rattle.pm_net.specs.Pricing.{Pricing}
use Rattle.pm_net.specs.Agents.{DeviceAgent}
use Rattle.pm_control.specs.Control.{agent_stored}
use Rattle.pm_wire.specs.Framing.{BeginsWith}
use Rattle.pm_frames.specs.Stored.{agent_resume_bytes}
use Rattle.pm_frames.specs.declared.stored.StoredAgent.{StoredAgent}
use Rattle.pm_frames.specs.declared.device.DeviceFrame.{DeviceFrame}
use Rattle.pm_frames.specs.declared.device.DeviceFrame.TheVariants.{Hello, Offer, Resume}
use Rattle.pm_frames.specs.DeviceFrames.{device_framing}
use Rattle.pm_system.specs.Given.{IsDemand}
use Rattle.pm_services.specs.Outputs.{Output, Says}
use Rattle.pm_lives.specs.Answering.{IsOfBasis, IsOfOtherBasis, SaysOtherBasis}
use Rattle.pm_lives.specs.Lives.{no_agent_stored, restart_outs}
use Rattle.pm_services.specs.DeviceWrites.{device_outs, agent_after}
use Rattle.pm_processes.specs.Processes.{stream_start, Wrote}

-- a frame that an agent read behind its start, the agent after it, and the frames that answer it
pub record DeviceExchange : Type 0 where
  pub frame : DeviceFrame
  pub after : DeviceAgent
  pub outs : List (Output StoredAgent)

-- an offer is a demand of so many steps, however the control said it; a Resume is read at the start alone
abbrev pub IsAsked : ℕ → DeviceFrame → Type 0
IsAsked steps (Offer form demand) = IsDemand steps demand
IsAsked steps (Resume stored) = ⊥
IsAsked steps frame = ⊤

-- what an agent makes of a frame; a price of another basis changes nothing
abbrev pub AnswersAgent : Pricing → BasisValue → DeviceAgent → DeviceExchange → Type 0
AnswersAgent p basis old e =
    (IsAsked basis.steps e.frame × IsOfBasis basis e.frame × (e.after ≡ agent_after old e.frame) × (e.outs ≡ device_outs p.steps basis old e.frame))
    ⊎ (IsOfOtherBasis basis e.frame × (e.after ≡ old) × (said : List ℕ) × SaysOtherBasis said e.frame × (e.outs ≡ Says said ∷ []))

abbrev pub DeviceExchanges : Pricing → BasisValue → DeviceAgent → List DeviceExchange → Type 0
DeviceExchanges p basis old [] = ⊤
DeviceExchanges p basis old (e ∷ es) = AnswersAgent p basis old e × DeviceExchanges p basis e.after es

abbrev pub device_frames : List DeviceExchange → List DeviceFrame
device_frames [] = []
device_frames (e ∷ es) = e.frame ∷ device_frames es

abbrev pub exchanged_outs : List DeviceExchange → List (Output StoredAgent)
exchanged_outs [] = []
exchanged_outs (e ∷ es) = e.outs ++ exchanged_outs es

-- the frames at its start, and what it came back with
abbrev pub device_start_frames : BasisValue → Option StoredAgent → List DeviceFrame
device_start_frames basis None = Hello basis ∷ []
device_start_frames basis (Some stored) = Hello basis ∷ Resume stored ∷ []

abbrev pub agent_resumed : BasisValue → Option StoredAgent → StoredAgent
agent_resumed basis None = no_agent_stored basis
agent_resumed basis (Some stored) = stored

-- It took Hello, and what it came back with or nothing, and then other frames; it answered one after the other, and wrote the first
-- bytes of the answers.
pub record DeviceProcess (p : Pricing) (child : ℕ) (took wrote : List ℕ) : Type 0 where
  pub basis : BasisValue
  pub resume : Option StoredAgent
  pub exchanges : List DeviceExchange
  pub rest : List ℕ
  pub newest : IfSome (agent_resumed basis resume).newest (IsDemand basis.steps)
  pub begins : BeginsWith device_framing (stream_start child) took (device_start_frames basis resume ++ device_frames exchanges) rest
  pub answers : let stored = agent_resumed basis resume in
      DeviceExchanges p basis (agent_stored stored.number stored.newest stored.index) exchanges
  pub written : Wrote agent_resume_bytes basis child (restart_outs p (agent_resumed basis resume) ++ exchanged_outs exchanges) wrote
