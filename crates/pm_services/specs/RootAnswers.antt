-- What the service of an auctioneer that may restart answers to each frame.
use Rattle.std.specs.Prelude.{◌≡◌, ℕ, List, [], replicate, Option, Some, None}
use Rattle.pm_base.specs.Limits.{most_nodes}
use Rattle.pm_base.specs.declared.limits.Limits.{Limits}
use Rattle.pm_basis.specs.Prices.{BasisValue}
use Rattle.pm_wire.specs.declared.frame.Frame.TheVariants.{Hello}
use Rattle.pm_relay.specs.Roots.{RootValue, RootComesBack}
use Rattle.pm_frames.specs.Stored.{StoredRoot}
use Rattle.pm_frames.specs.declared.place.Stage.{Stage}
use Rattle.pm_frames.specs.declared.place.Stage.TheVariants.{Start}
use Rattle.pm_frames.specs.declared.root.RootFrame.{RootFrame}
use Rattle.pm_frames.specs.declared.root.RootFrame.TheVariants.{Market}
use Rattle.pm_services.specs.Bounds.{no_bounds}
use Rattle.pm_services.specs.Outputs.{Output}
use Rattle.pm_services.specs.RootWrites.{WritesRoot, root_bounds_after, root_bytes}

-- the basis of the market, the bounds of its children, and the auctioneer itself
pub record OpenRoot : Type 0 where
  pub basis : BasisValue
  pub bounds : List Limits
  pub root : RootValue

-- an auctioneer comes up to which nothing was sent, and whose children have no bounds
pub record RootComesUp (basis' : BasisValue) (new : Option OpenRoot) : Type 0 where
  pub root : RootValue
  pub back : RootComesBack basis'.steps 0 (replicate most_nodes 0) root
  pub opened : new ≡ Some (record { basis = basis'; bounds = no_bounds; root = root })

-- ---- all frames

-- what an auctioneer after Hello makes of a frame, and the frames that answer it
pub record WritesOpenRoot (old : OpenRoot) (frame : RootFrame) (new : OpenRoot) (outs : List (Output StoredRoot)) : Type 0 where
  pub basis : new.basis ≡ old.basis
  pub bounds : new.bounds ≡ root_bounds_after old.bounds frame
  pub held : WritesRoot old.basis old.bounds old.root frame new.root outs

-- an auctioneer comes up with the first Hello, and before it nothing changes
abbrev pub RootComesUpBy : RootFrame → Option OpenRoot → Type 0
RootComesUpBy (Market (Hello basis)) new = RootComesUp basis new
RootComesUpBy frame new = new ≡ None

-- before Hello nothing is answered
abbrev pub WritesRootNow : Option OpenRoot → RootFrame → Option OpenRoot → List (Output StoredRoot) → Type 0
WritesRootNow None frame new outs = RootComesUpBy frame new × (outs ≡ [])
WritesRootNow (Some old) frame new outs = (after : OpenRoot) × (new ≡ Some after) × WritesOpenRoot old frame after outs

-- the bytes of an answer
abbrev pub written_by_root : Option OpenRoot → List (Output StoredRoot) → List ℕ
written_by_root None outs = []
written_by_root (Some old) outs = root_bytes old.basis outs

-- what a frame makes of what is known, and the bytes that answer it
pub record AnswersRoot (old : Option OpenRoot) (frame : RootFrame) (new : Option OpenRoot) (reply : List ℕ) : Type 0 where
  pub outs : List (Output StoredRoot)
  pub writes : WritesRootNow old frame new outs
  pub written : reply ≡ written_by_root old outs

-- before Hello nothing is known
pub record IsRootStart (stage : Stage) (root : Option OpenRoot) : Type 0 where
  pub before_hello : stage ≡ Start
  pub closed : root ≡ None
