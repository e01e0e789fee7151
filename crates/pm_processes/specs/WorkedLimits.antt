-- A worked history, by its bytes: a relay under limits that a device gives is killed within its bid. Its next process keeps the limits,
-- sends the bid, and settles by them for another step than the price that comes.
use Rattle.std.specs.Prelude.{◌≡◌, ℕ, ◌==◌, if◌then◌else◌, true, false, pos, negsuc, ℤ, ◌≤ℤ◌, List, [], ◌∷◌, ◌++◌}
use Rattle.std.specs.Prelude.{replicate, Some}
use Rattle.pm_base.specs.declared.limits.Limits.{Limits}
use Rattle.pm_bid.specs.Taken.{IsWithinLimits}
use Rattle.pm_market.specs.Lists.{Lists, is_member}
use Rattle.pm_market.specs.Moves.{after, LegalJournal}
use Rattle.pm_market.specs.Offers.{sum_on}
use Rattle.pm_market.specs.declared.moves.Move.{Move}
use Rattle.pm_net.specs.Pricing.{Pricing}
use Rattle.pm_net.specs.Agrees.{IsItsPrice}
use Rattle.pm_net.specs.Devices.{IsRight}
use Rattle.pm_net.specs.Messages.{bid_message, price_message}
use Rattle.pm_net.specs.Agents.{Setpoint}
use Rattle.pm_relay.specs.Relays.{RelayValue}
use Rattle.pm_relay.specs.Roots.{RootValue}
use Rattle.pm_relay.specs.Numbers.{child_number}
use Rattle.pm_frames.specs.declared.terms.RelayTerms.{RelayTerms}
use Rattle.pm_frames.specs.Kinds.{send_kind}
use Rattle.pm_system.specs.Given.{placed_pricing}
use Rattle.pm_system.specs.Flow.{TakeWhatWasTold}
use Rattle.pm_system.specs.Settled.{numbers_counted, HoldsNewestBid, WasTold}
use Rattle.pm_system.specs.Worked.{small_tree, small_places, small_limits, small_device_demand}
use Rattle.pm_lives.specs.Lives.{World}
use Rattle.pm_processes.specs.History.{Scene, HistoryEvent, RelayBegins, RelayGoesOn, RootBegins, RootGoesOn}
use Rattle.pm_processes.specs.History.{DeviceBegins, DeviceGoesOn, Happen, IsNewScene}
use Rattle.pm_processes.specs.Worked.{basis_field, hello_bytes, new_scene}

-- ---- the market: relay 1, and below it device 2 and device 3, which gives the relay its limits

-- In the arguments of the relay they are -3 to 7 watts. Under each of its numbers device 3 gives -3 to 5.
abbrev pub narrow_limits : Limits
narrow_limits = record { floor = negsuc 2; ceiling = pos 5 }

abbrev pub limits_given : ℕ → ℕ → Limits
limits_given c number = if c == 1 then (if number == 0 then small_limits else narrow_limits) else small_limits

abbrev pub limits_pricing : Pricing
limits_pricing = placed_pricing small_tree 3 small_device_demand limits_given (λ c. 3)

-- device 3 is child 2 of the relay
abbrev pub giver_terms : ℕ → RelayTerms
giver_terms c = record { limits = small_limits; giver = Some 2 }

abbrev pub limits_scene : RootValue → (ℕ → RelayValue) → Scene
limits_scene root relays = new_scene giver_terms root relays

-- ---- fields and frames

-- 6, -2 and -3 watts; and what the relay announces of them, since 6 is above 5: -2, -2 and -3 watts
abbrev pub asked_demand : List ℤ
asked_demand = pos 6 ∷ negsuc 1 ∷ negsuc 2 ∷ []

abbrev pub asked_field : List ℕ
asked_field = 0 ∷ 0 ∷ 0 ∷ 6 ∷ 255 ∷ 255 ∷ 255 ∷ 254 ∷ 255 ∷ 255 ∷ 255 ∷ 253 ∷ []

abbrev pub announced_field : List ℕ
announced_field = 255 ∷ 255 ∷ 255 ∷ 254 ∷ 255 ∷ 255 ∷ 255 ∷ 254 ∷ 255 ∷ 255 ∷ 255 ∷ 253 ∷ []

-- a Bid of child 1 under number 2, a Gone of child 2 under number 2
abbrev pub device_bid_bytes : List ℕ
device_bid_bytes = 2 ∷ 0 ∷ 1 ∷ 0 ∷ 0 ∷ 0 ∷ 2 ∷ asked_field

abbrev pub gone_bytes : List ℕ
gone_bytes = 3 ∷ 0 ∷ 2 ∷ 0 ∷ 0 ∷ 0 ∷ 2 ∷ []

-- Limits under number 2, of -3 to 5 watts
abbrev pub limits_field : List ℕ
limits_field = 255 ∷ 255 ∷ 255 ∷ 253 ∷ 0 ∷ 0 ∷ 0 ∷ 5 ∷ []

abbrev pub given_limits_bytes : List ℕ
given_limits_bytes = 20 ∷ 0 ∷ 0 ∷ 0 ∷ 2 ∷ limits_field

-- the relay's Bid, of child 1 under number 1: its first five bytes, and the others
abbrev pub relay_bid_begun : List ℕ
relay_bid_begun = 2 ∷ 0 ∷ 1 ∷ 0 ∷ 0 ∷ []

abbrev pub relay_bid_rest : List ℕ
relay_bid_rest = 0 ∷ 1 ∷ announced_field

-- Prices of clearing 1: for the relay, which bid under number 1, of step 0; and for device 2, which bid under number 2, of step 1
abbrev pub price_to_relay : List ℕ
price_to_relay = 23 ∷ 0 ∷ 1 ∷ 0 ∷ 0 ∷ 0 ∷ 1 ∷ 0 ∷ 0 ∷ 0 ∷ 1 ∷ 0 ∷ 0 ∷ basis_field

abbrev pub price_to_device : List ℕ
price_to_device = 23 ∷ 0 ∷ 1 ∷ 0 ∷ 0 ∷ 0 ∷ 2 ∷ 0 ∷ 0 ∷ 0 ∷ 1 ∷ 0 ∷ 1 ∷ basis_field

-- Of children 1 and 2 number 2, and 0 of the other 254
abbrev pub numbers_field : List ℕ
numbers_field = 0 ∷ 0 ∷ 0 ∷ 2 ∷ 0 ∷ 0 ∷ 0 ∷ 2 ∷ replicate 1016 0

-- A Resume of the relay: its last number is 1; then the number answered and the index of a price; the basis, the limits of the arguments, -3
-- to 7, and the place of the giver; the limits of the bid, -3 to 5; and the numbers of its children in it.
abbrev pub relay_resume : ℕ → ℕ → List ℕ
relay_resume answered index =
    25 ∷ 0 ∷ 0 ∷ 0 ∷ 1 ∷ 0 ∷ 0 ∷ 0 ∷ answered ∷ 0 ∷ 0 ∷ 0 ∷ index ∷
    (basis_field ++ (255 ∷ 255 ∷ 255 ∷ 253 ∷ 0 ∷ 0 ∷ 0 ∷ 7 ∷ 0 ∷ 2 ∷ (limits_field ++ numbers_field)))

-- ---- the processes: what each takes, and what it writes

-- Device 3: Hello and Leave; a Resume, and that it is gone
abbrev pub giver_took : List ℕ
giver_took = hello_bytes ++ (14 ∷ [])

abbrev pub giver_wrote : List ℕ
giver_wrote = 26 ∷ 0 ∷ 0 ∷ 0 ∷ 2 ∷ 0 ∷ 0 ∷ 0 ∷ 0 ∷ (basis_field ++ gone_bytes)

-- A Setpoint of number 2 and index 1, of step 1 and -2 watts
abbrev pub setpoint_told : List ℕ
setpoint_told = 15 ∷ 0 ∷ 0 ∷ 0 ∷ 2 ∷ 0 ∷ 0 ∷ 0 ∷ 1 ∷ 0 ∷ 1 ∷ 255 ∷ 255 ∷ 255 ∷ 254 ∷ []

-- Device 2: Hello, an Offer, and a Price; a Resume and the Bid, and the Setpoint and a Resume
abbrev pub device_took : List ℕ
device_took = hello_bytes ++ (13 ∷ (asked_field ++ price_to_device))

abbrev pub device_wrote : List ℕ
device_wrote =
    25 ∷ 0 ∷ 0 ∷ 0 ∷ 2 ∷ 0 ∷ 0 ∷ 0 ∷ 0 ∷ (basis_field ++ (asked_field ++ (device_bid_bytes ++ (setpoint_told
    ++ (25 ∷ 0 ∷ 0 ∷ 0 ∷ 2 ∷ 0 ∷ 0 ∷ 0 ∷ 1 ∷ (basis_field ++ asked_field))))))

-- The relay: Hello, the Bid, the Limits and Send; a Resume, and a part of its Bid
abbrev pub relay_took : List ℕ
relay_took = hello_bytes ++ (device_bid_bytes ++ (given_limits_bytes ++ (send_kind ∷ [])))

abbrev pub relay_wrote : List ℕ
relay_wrote = relay_resume 0 0 ++ relay_bid_begun

-- The relay's next process: Hello, this Resume, the Bid again and the Price; its Bid, the Price for device 2, and a Resume
abbrev pub next_took : List ℕ
next_took = hello_bytes ++ (relay_resume 0 0 ++ (device_bid_bytes ++ price_to_relay))

abbrev pub next_wrote : List ℕ
next_wrote = relay_bid_begun ++ (relay_bid_rest ++ (price_to_device ++ relay_resume 1 1))

-- The auctioneer: Hello, the relay's Bid and Clear; a Resume of index 1 and of number 1 of its one child, and the Price
abbrev pub root_took : List ℕ
root_took = hello_bytes ++ (relay_bid_begun ++ (relay_bid_rest ++ (4 ∷ [])))

abbrev pub root_wrote : List ℕ
root_wrote = 25 ∷ 0 ∷ 0 ∷ 0 ∷ 1 ∷ (basis_field ++ (0 ∷ 0 ∷ 0 ∷ 1 ∷ (replicate 1020 0 ++ price_to_relay)))

-- ---- the history

-- Both devices come up and answer, and the auctioneer and the relay come up. The relay reads the Bid and the Limits, and is asked to send: its
-- Resume is stored, and it is killed within its Bid. Its next process begins with that Resume, reads the Bid again, and so sends its own. The
-- auctioneer reads that and clears. The relay passes the price down, and device 2 settles.
abbrev pub limits_events : List HistoryEvent
limits_events =
    DeviceBegins 2 device_took device_wrote ∷ DeviceGoesOn 2 ∷ DeviceBegins 3 giver_took giver_wrote ∷ DeviceGoesOn 3
    ∷ RootBegins root_took root_wrote ∷ RelayBegins 1 relay_took relay_wrote ∷ RelayGoesOn 1 ∷ RelayGoesOn 1 ∷ RelayGoesOn 1
    ∷ RelayBegins 1 next_took next_wrote ∷ RelayGoesOn 1 ∷ RootGoesOn ∷ RootGoesOn ∷ RelayGoesOn 1 ∷ DeviceGoesOn 2 ∷ []

-- what device 2 is told: of its offer 2 and of clearing 1, at step 1 the power is -2 watts
abbrev pub settled_setpoint : Setpoint
settled_setpoint = record { number = 2; index = 1; step = 1; power = negsuc 1 }

pub record HistoryHoldsLimits (first : Scene) : Type 0 where
  pub none : IsNewScene limits_pricing small_places first
  pub last : Scene
  pub happen : Happen small_tree limits_pricing small_places first limits_events last
  -- the bid of the relay, which was killed once within it, and which is cut by the limits given
  pub bid : last.world.seen.bids_sent 1 ≡ bid_message 1 false (negsuc 1 ∷ negsuc 1 ∷ negsuc 2 ∷ []) ∷ []
  -- the market clears at step 0, and the relay settles for step 1: at step 0 the device would take 6 watts
  pub price_to_relay : last.world.seen.prices_sent 1 ≡ price_message 1 1 0 ∷ []
  pub price_to_device : last.world.seen.prices_sent 2 ≡ price_message 2 1 1 ∷ []
  pub setpoint : last.world.seen.setpoints 2 ≡ settled_setpoint ∷ []
  -- the stored limits are those given, under number 2 of device 3
  pub limits : (last.world.relay_kept 1).limits ≡ narrow_limits
  pub given_by : child_number (last.world.relay_kept 1).numbers 1 ≡ 2

-- ---- what the theorem says of it

-- By the law that the history keeps, and by nothing else, there are lists and a market over the tree, of which this is said. Device 2 offered
-- what its control asked for, and device 3 is no member. All prices are of one legal journal, and the setpoint is right in it. Over
-- all bids that count device 2 settles for step 1, holds a price of its newest bid, and was told so. If both devices take what they were
-- told, that is -2 watts, as the relay announced: within the limits that device 3 gave, and not above 0 for the market.
pub record LimitsHistorySays (last : World) : Type 0 where
  pub lists : Lists
  pub pricing : Pricing
  pub offered : asked_demand ≡ pricing.demand 2 2
  pub member : is_member lists 2 2 ≡ true
  pub absent : is_member lists 3 2 ≡ false
  pub journal : List Move
  pub legal : LegalJournal lists journal
  pub relay_price : IsItsPrice lists pricing (after lists journal) 1 (price_message 1 1 0)
  pub device_price : IsItsPrice lists pricing (after lists journal) 2 (price_message 2 1 1)
  pub right : IsRight lists pricing (after lists journal) 2 settled_setpoint
  pub counts : numbers_counted lists small_places last.seen 2 ≡ (last.seen.agents 2).number
  pub newest : HoldsNewestBid pricing last.seen (numbers_counted lists small_places last.seen) 2
  pub settles : pricing.local (numbers_counted lists small_places last.seen) 2 ≡ 1
  pub told : WasTold pricing last.seen (numbers_counted lists small_places last.seen) 2
  pub flows : (power : ℕ → ℤ) → TakeWhatWasTold lists pricing (numbers_counted lists small_places last.seen) last.seen 1 power →
      (sum_on lists 1 power ≡ negsuc 1) × IsWithinLimits narrow_limits (sum_on lists 1 power)
  pub balances : (power : ℕ → ℤ) → TakeWhatWasTold lists pricing (numbers_counted lists small_places last.seen) last.seen 0 power →
      (sum_on lists 0 power ≡ negsuc 1) × (sum_on lists 0 power ≤ℤ pos 0)

pub record LimitsHistoryKeepsTheLaw (first : Scene) : Type 0 where
  pub holds : HistoryHoldsLimits first
  pub says : LimitsHistorySays holds.last.world
