-- A process of an auctioneer, frame by frame.
use Rattle.std.specs.Prelude.{◌≡◌, ℕ, List, [], ◌∷◌, ◌++◌, Option, Some, None, ⊤}
use Rattle.pm_base.specs.declared.limits.Limits.{Limits}
use Rattle.pm_basis.specs.Prices.{BasisValue}
use Rattle.pm_relay.specs.Roots.{RootValue, RootComesBack}
use Rattle.pm_wire.specs.declared.frame.Frame.TheVariants.{Hello}
use Rattle.pm_wire.specs.Framing.{BeginsWith}
use Rattle.pm_frames.specs.Stored.{StoredRoot, root_resume_bytes}
use Rattle.pm_frames.specs.declared.place.Stage.TheVariants.{Start}
use Rattle.pm_frames.specs.declared.root.RootFrame.{RootFrame}
use Rattle.pm_frames.specs.declared.root.RootFrame.TheVariants.{Market, Resume}
use Rattle.pm_frames.specs.RootFrames.{root_framing}
use Rattle.pm_services.specs.Outputs.{Output}
use Rattle.pm_lives.specs.Lives.{no_root_stored}
use Rattle.pm_services.specs.RootWrites.{WritesRoot, root_bounds_after}
use Rattle.pm_services.specs.Bounds.{no_bounds}
use Rattle.pm_processes.specs.Processes.{Wrote}

-- a frame that an auctioneer read behind its start, the auctioneer after it, and the frames that answer it
pub record RootExchange : Type 0 where
  pub frame : RootFrame
  -- the bounds of its children before it
  pub bounds : List Limits
  pub after : RootValue
  pub outs : List (Output StoredRoot)

abbrev pub RootExchanges : BasisValue → RootValue → List RootExchange → Type 0
RootExchanges basis old [] = ⊤
RootExchanges basis old (e ∷ es) = WritesRoot basis e.bounds old e.frame e.after e.outs × RootExchanges basis e.after es

-- the bounds are those that the frames gave
abbrev pub AreRootBounds : List Limits → List RootExchange → Type 0
AreRootBounds bounds [] = ⊤
AreRootBounds bounds (e ∷ es) = (e.bounds ≡ bounds) × AreRootBounds (root_bounds_after bounds e.frame) es

abbrev pub root_frames : List RootExchange → List RootFrame
root_frames [] = []
root_frames (e ∷ es) = e.frame ∷ root_frames es

abbrev pub root_outs : List RootExchange → List (Output StoredRoot)
root_outs [] = []
root_outs (e ∷ es) = e.outs ++ root_outs es

-- the frames at its start, and what it came back with
abbrev pub root_start_frames : BasisValue → Option StoredRoot → List RootFrame
root_start_frames basis None = Market (Hello basis) ∷ []
root_start_frames basis (Some stored) = Market (Hello basis) ∷ Resume stored ∷ []

abbrev pub root_resumed : BasisValue → Option StoredRoot → StoredRoot
root_resumed basis None = no_root_stored basis
root_resumed basis (Some stored) = stored

-- It took Hello, and what it came back with or nothing, and then other frames; it answered one after the other, and wrote the first
-- bytes of the answers.
pub record RootProcess (took wrote : List ℕ) : Type 0 where
  pub basis : BasisValue
  pub resume : Option StoredRoot
  pub exchanges : List RootExchange
  pub rest : List ℕ
  pub begins : BeginsWith root_framing Start took (root_start_frames basis resume ++ root_frames exchanges) rest
  pub root : RootValue
  pub back : RootComesBack basis.steps (root_resumed basis resume).last (root_resumed basis resume).numbers root
  pub answers : RootExchanges basis root exchanges
  pub bounded : AreRootBounds no_bounds exchanges
  pub written : Wrote root_resume_bytes basis 0 (root_outs exchanges) wrote
