-- Nobody is let go but by an Expire.
use Rattle.std.proofs.Common.{◌≡◌, ◌∙◌, sym, ap, ℕ, List, [], ◌∷◌}
use Rattle.pm_market.specs.Lists.{Lists}
use Rattle.pm_net.specs.Pricing.{Pricing}
use Rattle.pm_net_plan.specs.Places.{Numbering}
use Rattle.pm_frames.specs.declared.relay.RelayFrame.TheVariants as relay_frame
use Rattle.pm_frames.specs.declared.root.RootFrame.TheVariants as root_frame
use Rattle.pm_lives.specs.Lives.{World, LifeStep, RelayUp, Relay, RootUp, Root, DeviceUp, Device, Lives1, Live, LetsNone, LetNone}

module _ (lists : Lists) (p : Pricing) (numbering : Numbering) where
  step_lets_none : (step : LifeStep) (world new : World) → LetsNone step → Lives1 lists p numbering world step new → (d : ℕ) →
      new.let_go d ≡ world.let_go d
  step_lets_none (RelayUp c n) world new none did d = ap (λ (w : World). w.let_go d) did.new_is
  step_lets_none (Relay c (relay_frame.Expire sender) n) world new none did d = absurd none
  step_lets_none (Relay c frame n) world new none did d = ap (λ (w : World). w.let_go d) did.new_is
  step_lets_none RootUp world new none did d = ap (λ (w : World). w.let_go d) did.new_is
  step_lets_none (Root (root_frame.Expire sender) n) world new none did d = absurd none
  step_lets_none (Root frame n) world new none did d = ap (λ (w : World). w.let_go d) did.new_is
  step_lets_none (DeviceUp e n) world new none did d = ap (λ (w : World). w.let_go d) did.new_is
  step_lets_none (Device e frame n) world new none did d = ap (λ (w : World). w.let_go d) did.new_is

  -- if no frame lets a child go, the numbers under which children were let go are as before
  pub none_let_go : (steps : List LifeStep) (world new : World) → LetNone steps → Live lists p numbering world steps new → (d : ℕ) →
      new.let_go d ≡ world.let_go d
  none_let_go [] world new none live d = ap (λ (w : World). w.let_go d) (sym live)
  none_let_go (step ∷ steps) world new none live d =
      none_let_go steps live.0 new none.1 live.2 d ∙ step_lets_none step world live.0 none.0 live.1 d
