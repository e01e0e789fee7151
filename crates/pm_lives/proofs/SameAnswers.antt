-- That answers and frames do not depend on members and numbers of the lists, but on their tree.
use Rattle.std.proofs.Common.{◌≡◌, ap, ℕ, ℤ}
use Rattle.std.proofs.Common.{Bool, true, cond, eqb, List, [], ◌∷◌, Option, Some, None, refl}
use Rattle.pm_bid.specs.Bids.{zeros}
use Rattle.pm_market.specs.Lists.{Lists, parent}
use Rattle.pm_net.specs.Pricing.{Pricing}
use Rattle.pm_net.specs.Messages.{PriceMessage, price_message}
use Rattle.pm_net.specs.Agents.{DeviceAgent}
use Rattle.pm_net_plan.specs.Places.{Numbering}
use Rattle.pm_frames.specs.declared.stored.StoredAgent.{StoredAgent}
use Rattle.pm_frames.specs.declared.relay.RelayFrame.{RelayFrame}
use Rattle.pm_frames.specs.declared.relay.RelayFrame.TheVariants as relay_frame
use Rattle.pm_frames.specs.declared.root.RootFrame.{RootFrame}
use Rattle.pm_frames.specs.declared.root.RootFrame.TheVariants as root_frame
use Rattle.pm_frames.specs.declared.device.DeviceFrame.{DeviceFrame}
use Rattle.pm_basis.specs.Prices.{BasisValue}
use Rattle.pm_system.specs.System.{System, with_bid_sent, with_prices_sent, with_setpoints}
use Rattle.pm_system.specs.Calls.{bid_kept}
use Rattle.pm_services.specs.Outputs.{Output, Up, Down, Keeps, Tells, Says}
use Rattle.pm_services.specs.DeviceWrites.{device_outs}
use Rattle.pm_lives.specs.Lives.{handed_out, restart_outs}
use Rattle.pm_lives.specs.Lives.{let_go_at_relay, let_go_at_root}
use Rattle.pm_lives.proofs.Building.{lists_of}

-- ---- the same frames over other lists

pub handed_same : {K : Type 0} (tree : Lists) (member : ℕ → ℕ → Bool) (count : ℕ) (numbering : Numbering) (y : ℕ)
    (outs : List (Output K)) (seen : System) →
    handed_out (lists_of tree member count) numbering seen y outs ≡ handed_out tree numbering seen y outs
unfolding parent
handed_same tree member count numbering y [] seen = refl
handed_same tree member count numbering y (Up bid ∷ outs) seen = handed_same tree member count numbering y outs (with_bid_sent seen y bid)
handed_same tree member count numbering y (Down place price ∷ outs) seen =
    handed_same tree member count numbering y outs (with_prices_sent tree numbering seen y (λ k. cond (eqb k place) (price ∷ []) []))
handed_same tree member count numbering y (Keeps stored ∷ outs) seen = handed_same tree member count numbering y outs seen
handed_same tree member count numbering y (Tells setpoint ∷ outs) seen =
    handed_same tree member count numbering y outs (with_setpoints seen y (setpoint ∷ []))
handed_same tree member count numbering y (Says bytes ∷ outs) seen = handed_same tree member count numbering y outs seen

-- whom a relay lets go does not depend on members and numbers of the lists, but on their tree
pub relay_let_same : (tree : Lists) (member : ℕ → ℕ → Bool) (count : ℕ) (numbering : Numbering) (seen : System) (c : ℕ)
    (frame : RelayFrame) (f : ℕ → ℕ) →
    let_go_at_relay (lists_of tree member count) numbering seen c frame f ≡ let_go_at_relay tree numbering seen c frame f
unfolding parent
relay_let_same tree member count numbering seen c (relay_frame.Child frame) f = refl
relay_let_same tree member count numbering seen c (relay_frame.Parent frame) f = refl
relay_let_same tree member count numbering seen c relay_frame.Send f = refl
relay_let_same tree member count numbering seen c (relay_frame.Expire sender) f = refl
relay_let_same tree member count numbering seen c (relay_frame.Limits number limits) f = refl
relay_let_same tree member count numbering seen c (relay_frame.Bound sender bound) f = refl
relay_let_same tree member count numbering seen c (relay_frame.Resume stored) f = refl

-- nor does whom the auctioneer lets go
pub root_let_same : (tree : Lists) (member : ℕ → ℕ → Bool) (count : ℕ) (numbering : Numbering) (seen : System) (frame : RootFrame)
    (f : ℕ → ℕ) →
    let_go_at_root (lists_of tree member count) numbering seen frame f ≡ let_go_at_root tree numbering seen frame f
unfolding parent
root_let_same tree member count numbering seen (root_frame.Market frame) f = refl
root_let_same tree member count numbering seen (root_frame.Expire sender) f = refl
root_let_same tree member count numbering seen (root_frame.Bound sender bound) f = refl
root_let_same tree member count numbering seen (root_frame.Resume stored) f = refl

module _ (p q : Pricing) (same : q.steps ≡ p.steps) (own : BasisValue) where
  kept_same : (n : ℕ) (o : Option (List ℤ)) → bid_kept q n o ≡ bid_kept p n o
  kept_same n None = ap (λ (k : ℕ). Rattle.pm_net.specs.Messages.bid_message n true (zeros k)) same
  kept_same n (Some demand) = refl

  -- what a device answers is the same under both markets
  pub outs_same : (agent : DeviceAgent) (frame : DeviceFrame) → device_outs q.steps own agent frame ≡ device_outs p.steps own agent frame
  outs_same agent frame = ap (λ (steps : ℕ). device_outs steps own agent frame) same

  -- so is what it writes when it comes back
  pub restart_same : (stored : StoredAgent) → restart_outs q stored ≡ restart_outs p stored
  restart_same stored =
      ap (λ (b : Rattle.pm_net.specs.Messages.BidMessage). cond (eqb stored.number 0) [] (Up b ∷ [])) (kept_same stored.number stored.newest)
