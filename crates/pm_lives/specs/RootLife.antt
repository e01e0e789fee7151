-- The service of an auctioneer over a stream, and the root of a system for which it stands.
use Rattle.std.specs.Prelude.{◌≡◌, ℕ, ◌-◌, List, Some, None, ⊤}
use Rattle.pm_market.specs.Lists.{Lists}
use Rattle.pm_net.specs.Pricing.{Pricing}
use Rattle.pm_net_plan.specs.Places.{Numbering}
use Rattle.pm_wire.specs.declared.frame.Frame.TheVariants.{Hello, Bid, Gone, Clear}
use Rattle.pm_relay.specs.Roots.{RootValue, newest_index}
use Rattle.pm_relay.specs.Numbers.{known_number, parents_number}
use Rattle.pm_frames.specs.Stored.{StoredRoot}
use Rattle.pm_frames.specs.declared.root.RootFrame.{RootFrame}
use Rattle.pm_frames.specs.declared.root.RootFrame.TheVariants.{Market, Expire, Bound, Resume}
use Rattle.pm_system.specs.System.{System}
use Rattle.pm_services.specs.Outputs.{Output}
use Rattle.pm_lives.specs.Moves.{FollowsByCalls}
use Rattle.pm_lives.specs.RelayLife.{CarriesBid, CarriesExpire, LetsGo}

-- what was stored is of the newest clearing
pub record IsRootKept (sys : System) (stored : StoredRoot) : Type 0 where
  pub last : stored.last ≡ newest_index sys.root
  pub numbers : stored.numbers ≡ sys.root.recorded

-- each message in a frame to the root was sent by the child that it names
abbrev pub RootMayRead : Lists → Pricing → Numbering → System → RootFrame → Type 0
RootMayRead lists p numbering sys (Market (Hello basis)) = ⊤
RootMayRead lists p numbering sys (Market (Bid sender number demand)) = CarriesBid lists p numbering sys 0 sender number (Some demand)
RootMayRead lists p numbering sys (Market (Gone sender number)) = CarriesBid lists p numbering sys 0 sender number None
RootMayRead lists p numbering sys (Market Clear) = ⊤
RootMayRead lists p numbering sys (Expire sender) =
    CarriesExpire lists p numbering 0 sender (parents_number (known_number sys.root.recorded sys.root.auction.cache.heads (sender - 1)))
RootMayRead lists p numbering sys (Bound sender bound) = ⊤
RootMayRead lists p numbering sys (Resume stored) = ⊥

abbrev pub root_number : System → ℕ → ℕ
root_number sys sender = parents_number (known_number sys.root.recorded sys.root.auction.cache.heads (sender - 1))

abbrev pub RootLets : Lists → Numbering → System → RootFrame → ℕ → ℕ → Type 0
RootLets lists numbering sys (Expire sender) d n = LetsGo lists numbering 0 sender (root_number sys sender) d n
RootLets lists numbering sys frame d n = ⊥

-- what a root makes of a frame: some calls of it, after which its service stands for it again
abbrev pub RootFollows : Lists → Pricing → Numbering → (ℕ → ℕ → Type 0) → System → RootValue → List (Output StoredRoot) → Type 0
RootFollows lists p numbering Lets sys after outs = FollowsByCalls lists p numbering Lets IsRootKept (λ t. t.root ≡ after) sys 0 outs
