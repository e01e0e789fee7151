-- What a relay's service knows, and what it answers to each frame.
use Rattle.std.specs.Prelude.{◌≡◌, ℕ, List, [], replicate, Option, Some, None}
use Rattle.pm_base.specs.Limits.{most_nodes}
use Rattle.pm_base.specs.declared.limits.Limits.{Limits}
use Rattle.pm_wire.specs.declared.frame.Frame.TheVariants.{Hello}
use Rattle.pm_frames.specs.Stored.{StoredRelay}
use Rattle.pm_frames.specs.declared.terms.RelayTerms.{RelayTerms}
use Rattle.pm_frames.specs.declared.place.RelayPlace.{RelayPlace}
use Rattle.pm_frames.specs.declared.place.Stage.TheVariants.{Start}
use Rattle.pm_frames.specs.declared.relay.RelayFrame.{RelayFrame}
use Rattle.pm_frames.specs.declared.relay.RelayFrame.TheVariants.{Child}
use Rattle.pm_services.specs.Bounds.{no_bounds, with_bound}
use Rattle.pm_services.specs.Outputs.{Output}
use Rattle.pm_services.specs.RelaySetups.{RelaySetup}
use Rattle.pm_services.specs.RelayWrites.{WaitingRelay, Opens, WritesRelay, bounds_after, relay_bytes}

-- a relay after Hello: what it knows of itself, the bounds of its children, and what it holds
pub record OpenRelay : Type 0 where
  pub setup : RelaySetup
  pub bounds : List Limits
  pub held : WaitingRelay

-- the relay's own number at its parent, what the arguments say of it, and the relay itself, once there is a basis
pub record RelayServiceValue : Type 0 where
  pub child : ℕ
  pub terms : RelayTerms
  pub relay : Option OpenRelay

-- a relay to which nothing was sent, and whose children have no bounds
pub record RelayComesUp (own : RelaySetup) (new : Option OpenRelay) : Type 0 where
  pub held : WaitingRelay
  pub opens : Opens own.terms.limits own.basis.steps 0 0 0 (replicate most_nodes 0) own.terms.limits held
  pub opened : new ≡ Some (record { setup = own; bounds = no_bounds; held = held })

abbrev pub with_held : OpenRelay → WaitingRelay → OpenRelay
with_held old held' = record old { held = held' }

abbrev pub with_childs_bound : OpenRelay → ℕ → Limits → OpenRelay
with_childs_bound old sender bound = record old { bounds = with_bound old.bounds sender bound }

-- ---- all frames

-- what a relay after Hello makes of a frame, and the frames that answer it
pub record WritesOpenRelay (old : OpenRelay) (frame : RelayFrame) (new : OpenRelay) (outs : List (Output StoredRelay)) : Type 0 where
  pub setup : new.setup ≡ old.setup
  pub bounds : new.bounds ≡ bounds_after old.bounds frame
  pub held : WritesRelay old.setup old.bounds old.held frame new.held outs

-- a relay comes up with the first Hello, and before it nothing changes
abbrev pub ComesUp : ℕ → RelayTerms → RelayFrame → Option OpenRelay → Type 0
ComesUp child' terms' (Child (Hello basis')) new = RelayComesUp (record { child = child'; terms = terms'; basis = basis' }) new
ComesUp child terms frame new = new ≡ None

-- before Hello nothing is answered
abbrev pub WritesNow : ℕ → RelayTerms → Option OpenRelay → RelayFrame → Option OpenRelay → List (Output StoredRelay) → Type 0
WritesNow child terms None frame new outs = ComesUp child terms frame new × (outs ≡ [])
WritesNow child terms (Some old) frame new outs = (after : OpenRelay) × (new ≡ Some after) × WritesOpenRelay old frame after outs

-- the bytes of an answer
abbrev pub written_by : Option OpenRelay → List (Output StoredRelay) → List ℕ
written_by None outs = []
written_by (Some old) outs = relay_bytes old.setup outs

-- what a frame makes of what is known, and the bytes that answer it
pub record AnswersRelay (old : RelayServiceValue) (frame : RelayFrame) (new : RelayServiceValue) (reply : List ℕ) : Type 0 where
  pub child : new.child ≡ old.child
  pub terms : new.terms ≡ old.terms
  pub outs : List (Output StoredRelay)
  pub writes : WritesNow old.child old.terms old.relay frame new.relay outs
  pub written : reply ≡ written_by old.relay outs

-- before Hello there is no relay, and the stream is to this one
pub record IsRelayStart (place : RelayPlace) (service : RelayServiceValue) : Type 0 where
  pub child : place.child ≡ service.child
  pub terms : place.terms ≡ service.terms
  pub before_hello : place.stage ≡ Start
  pub closed : service.relay ≡ None
