-- What is handled of a process was written by it.
use Rattle.std.proofs.Common.{◌≡◌, ◌∙◌, ap, ℕ, List, take, refl, inl, inr, arith}
use Rattle.std.proofs.lemmas.Bool.{cases_eq}
use Rattle.pm_market.specs.Lists.{Lists}
use Rattle.pm_market.specs.State.{update}
use Rattle.pm_market.proofs.Cuts.{updated_same, updated_other}
use Rattle.pm_net.specs.Pricing.{Pricing}
use Rattle.pm_net_plan.specs.Places.{Numbering}
use Rattle.pm_system.specs.System.{System, with_relay, with_root, with_agent}
use Rattle.pm_lives.specs.Lives.{handed_out, stored_last}
use Rattle.pm_processes.specs.History.{Scene, RelayProcessGoesOn, RootProcessGoesOn, DeviceProcessGoesOn, HandlesNothing}

-- a value that is put where it was
updated_self : {A : Type 0} (f : ℕ → A) (x z : ℕ) → update f x (f x) z ≡ f z
updated_self f x z = elim (cases_eq z x) [
  | inl e ↦ ap (λ (y : ℕ). update f x (f x) y) e ∙ updated_same f x (f x) ∙ ap f (Rattle.std.proofs.Common.sym e)
  | inr ne ↦ updated_other f x (f x) z ne
]

module _ (lists : Lists) (p : Pricing) (numbering : Numbering) (old new : Scene) where
  -- if nothing is left of what a relay wrote, nothing of it is handled, however it goes on
  pub relay_handles_nothing : (c : ℕ) → old.left c ≡ 0 → RelayProcessGoesOn lists p numbering old c new → HandlesNothing old new
  relay_handles_nothing c left did =
      let none : did.handled ≡ 0 = omega (arith, left, did.was_written) in
      let base : System = with_relay old.world.seen c did.exchange.after.relay in
      let seen : ℕ → System = λ n. handed_out lists numbering base c (take n did.exchange.outs) in
      record {
        bids = λ x. ap (λ (s : Scene). s.world.seen.bids_sent x) did.new_is ∙ ap (λ (n : ℕ). (seen n).bids_sent x) none;
        prices = λ x. ap (λ (s : Scene). s.world.seen.prices_sent x) did.new_is ∙ ap (λ (n : ℕ). (seen n).prices_sent x) none;
        setpoints = λ d. ap (λ (s : Scene). s.world.seen.setpoints d) did.new_is ∙ ap (λ (n : ℕ). (seen n).setpoints d) none;
        relays = λ z. ap (λ (s : Scene). s.world.relay_kept z) did.new_is
            ∙ ap (λ (n : ℕ). update old.world.relay_kept c (stored_last (old.world.relay_kept c) (take n did.exchange.outs)) z) none
            ∙ updated_self old.world.relay_kept c z;
        root = ap (λ (s : Scene). s.world.root_kept) did.new_is;
        devices = λ d. ap (λ (s : Scene). s.world.agent_kept d) did.new_is;
      }

  -- so it is of the auctioneer
  pub root_handles_nothing : old.left 0 ≡ 0 → RootProcessGoesOn lists p numbering old new → HandlesNothing old new
  root_handles_nothing left did =
      let none : did.handled ≡ 0 = omega (arith, left, did.was_written) in
      let base : System = with_root old.world.seen did.exchange.after in
      let seen : ℕ → System = λ n. handed_out lists numbering base 0 (take n did.exchange.outs) in
      record {
        bids = λ x. ap (λ (s : Scene). s.world.seen.bids_sent x) did.new_is ∙ ap (λ (n : ℕ). (seen n).bids_sent x) none;
        prices = λ x. ap (λ (s : Scene). s.world.seen.prices_sent x) did.new_is ∙ ap (λ (n : ℕ). (seen n).prices_sent x) none;
        setpoints = λ d. ap (λ (s : Scene). s.world.seen.setpoints d) did.new_is ∙ ap (λ (n : ℕ). (seen n).setpoints d) none;
        relays = λ z. ap (λ (s : Scene). s.world.relay_kept z) did.new_is;
        root = ap (λ (s : Scene). s.world.root_kept) did.new_is
            ∙ ap (λ (n : ℕ). stored_last old.world.root_kept (take n did.exchange.outs)) none;
        devices = λ d. ap (λ (s : Scene). s.world.agent_kept d) did.new_is;
      }

  -- and of a device
  pub device_handles_nothing : (d : ℕ) → old.left d ≡ 0 → DeviceProcessGoesOn lists p numbering old d new → HandlesNothing old new
  device_handles_nothing d left did =
      let none : did.handled ≡ 0 = omega (arith, left, did.was_written) in
      let base : System = with_agent old.world.seen d did.exchange.after in
      let seen : ℕ → System = λ n. handed_out lists numbering base d (take n did.exchange.outs) in
      record {
        bids = λ x. ap (λ (s : Scene). s.world.seen.bids_sent x) did.new_is ∙ ap (λ (n : ℕ). (seen n).bids_sent x) none;
        prices = λ x. ap (λ (s : Scene). s.world.seen.prices_sent x) did.new_is ∙ ap (λ (n : ℕ). (seen n).prices_sent x) none;
        setpoints = λ z. ap (λ (s : Scene). s.world.seen.setpoints z) did.new_is ∙ ap (λ (n : ℕ). (seen n).setpoints z) none;
        relays = λ z. ap (λ (s : Scene). s.world.relay_kept z) did.new_is;
        root = ap (λ (s : Scene). s.world.root_kept) did.new_is;
        devices = λ z. ap (λ (s : Scene). s.world.agent_kept z) did.new_is
            ∙ ap (λ (n : ℕ). update old.world.agent_kept d (stored_last (old.world.agent_kept d) (take n did.exchange.outs)) z) none
            ∙ updated_self old.world.agent_kept d z;
      }
