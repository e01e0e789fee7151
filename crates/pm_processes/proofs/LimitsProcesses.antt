-- The worked history of a relay under limits: the processes of the devices and of the auctioneer, frame by frame.
use Rattle.std.proofs.Common.{ℤ, negsuc}
use Rattle.std.proofs.Common.{List, [], ◌∷◌}
use Rattle.std.proofs.Common.{Some, None, refl, inl, arith}
use Rattle.std.proofs.lemmas.Int.{ints}
use Rattle.std.specs.Prelude.{FitsSigned}
use Rattle.std.specs.Int.{w32}
use Rattle.std.specs.List.{AllByRecursion}
use Rattle.pm_bid.specs.Clearing.{clearing_step}
use Rattle.pm_bid.specs.Limited.{NeverBind}
use Rattle.pm_cache.specs.Cache.{aggregate_of}
use Rattle.pm_net.specs.Agents.{DeviceAgent}
use Rattle.pm_control.specs.Control.{agent_stored}
use Rattle.pm_relay.specs.Roots.{RootValue, RootCleared, with_root_bid}
use Rattle.pm_wire.specs.declared.frame.Frame.TheVariants.{Bid, Clear}
use Rattle.pm_frames.specs.declared.parent.ParentFrame.TheVariants.{Price}
use Rattle.pm_frames.specs.declared.root.RootFrame.TheVariants as root_frame
use Rattle.pm_frames.specs.declared.device.DeviceFrame.TheVariants as device_frame
use Rattle.pm_frames.specs.declared.form.OfferForm.TheVariants.{Array}
use Rattle.pm_services.specs.Bounds.{widest, no_bounds}
use Rattle.pm_system.specs.Given.{IsDemand}
use Rattle.pm_system.proofs.WorkedValues.{reaches, new_root, root_looks_on, cleared_root, may_clear, clears}
use Rattle.pm_services.specs.Outputs.{Keeps}
use Rattle.pm_services.specs.RootWrites.{stored_root, clearing_outs}
use Rattle.pm_services.specs.DeviceWrites.{device_outs, agent_after}
use Rattle.pm_lives.specs.WorkedLives.{small_basis}
use Rattle.pm_lives.proofs.WorkedBounds.{three_keep}
use Rattle.pm_processes.specs.RootProcess.{RootProcess, RootExchange}
use Rattle.pm_processes.specs.DeviceProcess.{DeviceProcess, DeviceExchange}
use Rattle.pm_processes.specs.WorkedLimits.{limits_pricing, asked_demand}
use Rattle.pm_processes.specs.WorkedLimits.{giver_took, giver_wrote, device_took, device_wrote}
use Rattle.pm_processes.specs.WorkedLimits.{root_took, root_wrote}
use Rattle.pm_processes.proofs.Offers.{is_demand}
use Rattle.pm_processes.proofs.WorkedEvents.{wrote_all}

-- ---- device 2

-- what it asks for is a demand, and fits a frame
pub asked_is : IsDemand 3 asked_demand
asked_is = is_demand 3 asked_demand refl refl

-- each power has its four bytes
pub asked_fits : AllByRecursion (λ (z : ℤ). FitsSigned w32 z) asked_demand
asked_fits = (omega (arith, ints), (omega (arith, ints), (omega (arith, ints), tt)))

abbrev pub agent_new : DeviceAgent
agent_new = agent_stored 0 None 0

abbrev agent_offered : DeviceAgent
agent_offered = agent_after agent_new (device_frame.Offer Array asked_demand)

abbrev pub offers : DeviceExchange
offers = record {
  frame = device_frame.Offer Array asked_demand;
  after = agent_offered;
  outs = device_outs limits_pricing.steps small_basis agent_new (device_frame.Offer Array asked_demand);
}

abbrev pub settles : DeviceExchange
settles = record {
  frame = device_frame.Parent (Price 1 2 1 1 small_basis);
  after = agent_after agent_offered (device_frame.Parent (Price 1 2 1 1 small_basis));
  outs = device_outs limits_pricing.steps small_basis agent_offered (device_frame.Parent (Price 1 2 1 1 small_basis));
}

unfoldable pub device_process : DeviceProcess limits_pricing 1 device_took device_wrote
device_process = record {
  basis = small_basis;
  resume = None;
  exchanges = offers ∷ settles ∷ [];
  rest = [];
  newest = tt;
  begins = record {
    stand = (
      record { formed = (omega (arith, ints), omega (arith, ints), omega arith); accepted = refl },
      (
        record { formed = (tt, (refl, asked_fits)); accepted = (tt, refl) },
        (
          record {
            formed = (tt, (omega arith, omega arith, omega arith, omega arith, (omega (arith, ints), omega (arith, ints), omega arith)));
            accepted = (refl, omega arith, omega arith, refl);
          },
          tt,
        ),
      ),
    );
    spelled = refl;
  };
  answers = (inl (asked_is, tt, refl, refl), (inl (tt, refl, refl, refl), tt));
  written = wrote_all 96 (record { n = 4; rest = []; held = refl; part = inl refl }) refl;
}

-- ---- device 3

abbrev pub leaves : DeviceExchange
leaves = record {
  frame = device_frame.Leave;
  after = agent_after agent_new device_frame.Leave;
  outs = device_outs limits_pricing.steps small_basis agent_new device_frame.Leave;
}

unfoldable pub giver_process : DeviceProcess limits_pricing 2 giver_took giver_wrote
giver_process = record {
  basis = small_basis;
  resume = None;
  exchanges = leaves ∷ [];
  rest = [];
  newest = tt;
  begins = record {
    stand = (
      record { formed = (omega (arith, ints), omega (arith, ints), omega arith); accepted = refl },
      (record { formed = tt; accepted = tt }, tt),
    );
    spelled = refl;
  };
  answers = (inl (tt, tt, refl, refl), tt);
  written = wrote_all 26 (record { n = 2; rest = []; held = refl; part = inl refl }) refl;
}

-- ---- the auctioneer

abbrev pub announced_demand : List ℤ
announced_demand = negsuc 1 ∷ negsuc 1 ∷ negsuc 2 ∷ []

-- they are within the bounds of any bid
pub announced_keeps : NeverBind widest announced_demand
announced_keeps =
    three_keep (negsuc 1) (negsuc 1) (negsuc 2) (omega (arith, ints), omega (arith, ints)) (omega (arith, ints), omega (arith, ints))
    (omega (arith, ints), omega (arith, ints))

abbrev root_heard : RootValue
root_heard = with_root_bid new_root 0 1 (Some announced_demand)

abbrev root_cleared : RootValue
root_cleared = cleared_root root_heard

abbrev pub root_hears : RootExchange
root_hears = record { frame = root_frame.Market (Bid 1 1 announced_demand); bounds = no_bounds; after = root_heard; outs = [] }

abbrev pub root_clears : RootExchange
root_clears = record {
  frame = root_frame.Market Clear;
  bounds = no_bounds;
  after = root_cleared;
  outs = Keeps (stored_root small_basis root_cleared) ∷ clearing_outs root_cleared;
}

-- the auctioneer clears under index 1
pub is_cleared : RootCleared root_heard root_cleared 1 (clearing_step (aggregate_of root_heard.auction.cache))
unfolding reaches may_clear
is_cleared = clears root_heard refl

unfoldable pub root_process : RootProcess root_took root_wrote
root_process = record {
  basis = small_basis;
  resume = None;
  exchanges = root_hears ∷ root_clears ∷ [];
  rest = [];
  begins = record {
    stand = (
      record { formed = (omega (arith, ints), omega (arith, ints), omega arith); accepted = refl },
      (
        record {
          formed = (omega arith, omega arith, refl, (omega (arith, ints), (omega (arith, ints), (omega (arith, ints), tt))));
          accepted = ((omega arith, omega arith, omega arith), refl);
        },
        (record { formed = tt; accepted = tt }, tt),
      ),
    );
    spelled = refl;
  };
  root = new_root;
  back = record { auction = refl; base = refl; recorded = refl };
  answers = (
    inl (announced_keeps, record { looks = root_looks_on root_heard refl; replied = refl }),
    (inl (1, clearing_step (aggregate_of root_heard.auction.cache), is_cleared, refl), tt),
  );
  bounded = (refl, (refl, tt));
  written = wrote_all 1062 (record { n = 2; rest = []; held = refl; part = inl refl }) refl;
}
