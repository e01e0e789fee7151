-- A process of a relay, frame by frame.
use Rattle.std.specs.Prelude.{◌≡◌, ℕ, List, [], ◌∷◌, ◌++◌, Option, Some, None, ⊤}
use Rattle.pm_base.specs.declared.limits.Limits.{Limits}
use Rattle.pm_basis.specs.Prices.{BasisValue}
use Rattle.pm_relay.specs.Relays.{RelayValue, RelayComesBack}
use Rattle.pm_wire.specs.declared.frame.Frame.TheVariants.{Hello}
use Rattle.pm_wire.specs.Framing.{BeginsWith}
use Rattle.pm_frames.specs.Stored.{StoredRelay, relay_resume_bytes}
use Rattle.pm_frames.specs.declared.terms.RelayTerms.{RelayTerms}
use Rattle.pm_frames.specs.declared.relay.RelayFrame.{RelayFrame}
use Rattle.pm_frames.specs.declared.relay.RelayFrame.TheVariants.{Child, Resume}
use Rattle.pm_frames.specs.RelayFrames.{relay_framing}
use Rattle.pm_services.specs.RelayWrites.{WaitingRelay}
use Rattle.pm_services.specs.RelaySetups.{RelaySetup}
use Rattle.pm_services.specs.Outputs.{Output}
use Rattle.pm_lives.specs.RelayLife.{no_relay_stored}
use Rattle.pm_services.specs.RelayWrites.{WritesRelay, WritesKept, bounds_after}
use Rattle.pm_services.specs.Bounds.{no_bounds}
use Rattle.pm_processes.specs.Processes.{relay_start, Wrote}

-- a frame that a relay read behind its start, the relay after it, and the frames that answer it
pub record RelayExchange : Type 0 where
  pub frame : RelayFrame
  -- the bounds of its children before it
  pub bounds : List Limits
  pub after : WaitingRelay
  pub outs : List (Output StoredRelay)

abbrev pub RelayExchanges : RelaySetup → WaitingRelay → List RelayExchange → Type 0
RelayExchanges own old [] = ⊤
RelayExchanges own old (e ∷ es) = WritesRelay own e.bounds old e.frame e.after e.outs × RelayExchanges own e.after es

-- the bounds are those that the frames gave
abbrev pub AreRelayBounds : List Limits → List RelayExchange → Type 0
AreRelayBounds bounds [] = ⊤
AreRelayBounds bounds (e ∷ es) = (e.bounds ≡ bounds) × AreRelayBounds (bounds_after bounds e.frame) es

abbrev pub relay_frames : List RelayExchange → List RelayFrame
relay_frames [] = []
relay_frames (e ∷ es) = e.frame ∷ relay_frames es

abbrev pub relay_outs : List RelayExchange → List (Output StoredRelay)
relay_outs [] = []
relay_outs (e ∷ es) = e.outs ++ relay_outs es

-- the frames at its start, and what it came back with
abbrev pub relay_start_frames : BasisValue → Option StoredRelay → List RelayFrame
relay_start_frames basis None = Child (Hello basis) ∷ []
relay_start_frames basis (Some stored) = Child (Hello basis) ∷ Resume stored ∷ []

abbrev pub relay_resumed : RelaySetup → Option StoredRelay → StoredRelay
relay_resumed own None = no_relay_stored own
relay_resumed own (Some stored) = stored

abbrev pub setup_with : ℕ → RelayTerms → BasisValue → RelaySetup
setup_with child' terms' basis' = record { child = child'; terms = terms'; basis = basis' }

-- It took Hello, and what it came back with or nothing, and then other frames; it answered one after the other, and wrote the first
-- bytes of the answers.
pub record RelayProcess (child : ℕ) (terms : RelayTerms) (took wrote : List ℕ) : Type 0 where
  pub basis : BasisValue
  pub resume : Option StoredRelay
  pub exchanges : List RelayExchange
  pub rest : List ℕ
  pub begins : BeginsWith relay_framing (relay_start child terms) took (relay_start_frames basis resume ++ relay_frames exchanges) rest
  -- the relay that came back, and what it was once it had learnt the limits that it was given last
  pub relay : RelayValue
  pub back : let stored = relay_resumed (setup_with child terms basis) resume in
      RelayComesBack basis.steps terms.limits stored.last stored.answered stored.index stored.numbers stored.limits relay
  pub held : WaitingRelay
  pub outs : List (Output StoredRelay)
  pub learns : WritesKept terms.giver (setup_with child terms basis) (record { relay = relay; waiting = None })
      (relay_resumed (setup_with child terms basis) resume) held outs
  pub answers : RelayExchanges (setup_with child terms basis) held exchanges
  pub bounded : AreRelayBounds no_bounds exchanges
  pub written : Wrote relay_resume_bytes basis child (outs ++ relay_outs exchanges) wrote
