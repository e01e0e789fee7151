-- Worked answers: a small node, a frame to it, and the bytes that any answer has. They are worked by hand from docs/RELAY.md.
use Rattle.std.specs.Prelude.{◌≡◌, ◌⊎◌, ℕ, ◌≤◌, ◌^◌, Bool, true, false, ℤ, pos}
use Rattle.std.specs.Prelude.{negsuc, List, [], ◌∷◌, ◌++◌, replicate, Option, Some, None, ⊤}
use Rattle.std.specs.Int.{w32, to_be_bytes}
use Rattle.pm_base.specs.Limits.{most_nodes}
use Rattle.pm_base.specs.declared.limits.Limits.{Limits}
use Rattle.pm_basis.specs.Prices.{BasisValue}
use Rattle.pm_bid.specs.Heads.{nothing_sent}
use Rattle.pm_bid.specs.declared.head.BidHead.{BidHead}
use Rattle.pm_cache.specs.Cache.{Cache, kept_number}
use Rattle.pm_session.specs.Windows.{Sent}
use Rattle.pm_session.specs.declared.price.PriceUpdate.{PriceUpdate}
use Rattle.pm_device.specs.declared.state.DeviceState.{DeviceState}
use Rattle.pm_relay.specs.Relays.{RelayValue, RelayComesBack, newest_bid_number, limits_places}
use Rattle.pm_relay.specs.Roots.{RootComesBack, newest_index}
use Rattle.pm_wire.specs.Frames.{signed_bytes}
use Rattle.pm_wire.specs.SettingUp.{IsHello}
use Rattle.pm_wire.specs.Taking.{Runs}
use Rattle.pm_wire.specs.declared.frame.Frame.TheVariants.{Hello, Bid, Gone, Clear}
use Rattle.pm_frames.specs.RelayFrames.{relay_frame_bytes}
use Rattle.pm_frames.specs.RootFrames.{root_frame_bytes}
use Rattle.pm_frames.specs.DeviceFrames.{device_frame_bytes}
use Rattle.pm_frames.specs.Stored.{StoredRelay}
use Rattle.pm_frames.specs.declared.form.OfferForm.TheVariants.{Array, Points, State}
use Rattle.pm_frames.specs.declared.parent.ParentFrame.TheVariants.{Price, Old}
use Rattle.pm_frames.specs.declared.relay.RelayFrame.{RelayFrame}
use Rattle.pm_frames.specs.declared.relay.RelayFrame.TheVariants as to_relay
use Rattle.pm_frames.specs.declared.root.RootFrame.{RootFrame}
use Rattle.pm_frames.specs.declared.root.RootFrame.TheVariants as to_root
use Rattle.pm_frames.specs.declared.terms.RelayTerms.{RelayTerms}
use Rattle.pm_frames.specs.declared.device.DeviceFrame.{DeviceFrame}
use Rattle.pm_frames.specs.declared.device.DeviceFrame.TheVariants as to_device
use Rattle.pm_services.specs.Bounds.{no_bounds, widest}
use Rattle.pm_services.specs.RelaySetups.{RelaySetup}
use Rattle.pm_services.specs.RelayAnswers.{OpenRelay, RelayServiceValue, AnswersRelay}
use Rattle.pm_services.specs.RootAnswers.{OpenRoot, AnswersRoot}
use Rattle.pm_services.specs.DeviceAnswers.{OpenDevice, DeviceServiceValue, AnswersDevice}
use Rattle.pm_processes.specs.Processes.{new_relay_service, new_device_service}

-- ---- fields

-- prices 0 to 9 in two steps, as in the examples of docs/RELAY.md
abbrev pub nine_basis : BasisValue
nine_basis = record { min = pos 0; max = pos 9; steps = 2 }

abbrev pub nine_field : List ℕ
nine_field = 0 ∷ 0 ∷ 0 ∷ 0 ∷ 0 ∷ 0 ∷ 0 ∷ 9 ∷ 0 ∷ 2 ∷ []

-- child 1 asks for 5 and -3 watts, and child 2 for 16 and 0; the sum is 21 and -3
abbrev pub first_demand : List ℤ
first_demand = pos 5 ∷ negsuc 2 ∷ []

abbrev pub second_demand : List ℤ
second_demand = pos 16 ∷ pos 0 ∷ []

abbrev pub first_field : List ℕ
first_field = 0 ∷ 0 ∷ 0 ∷ 5 ∷ 255 ∷ 255 ∷ 255 ∷ 253 ∷ []

abbrev pub sum_field : List ℕ
sum_field = 0 ∷ 0 ∷ 0 ∷ 21 ∷ 255 ∷ 255 ∷ 255 ∷ 253 ∷ []

-- -3 watts at both steps
abbrev pub low_field : List ℕ
low_field = 255 ∷ 255 ∷ 255 ∷ 253 ∷ 255 ∷ 255 ∷ 255 ∷ 253 ∷ []

-- limits of -1000 to 1000 watts, and of -1 to 1
abbrev pub wide : Limits
wide = record { floor = negsuc 999; ceiling = pos 1000 }

abbrev pub wide_field : List ℕ
wide_field = 255 ∷ 255 ∷ 252 ∷ 24 ∷ 0 ∷ 0 ∷ 3 ∷ 232 ∷ []

abbrev pub narrow : Limits
narrow = record { floor = negsuc 0; ceiling = pos 1 }

abbrev pub narrow_field : List ℕ
narrow_field = 255 ∷ 255 ∷ 255 ∷ 255 ∷ 0 ∷ 0 ∷ 0 ∷ 1 ∷ []

-- child 2 may bid 0 to 4 watts
abbrev pub small_bound : Limits
small_bound = record { floor = pos 0; ceiling = pos 4 }

-- the numbers of children 1 and 2; the other 254 have 0
abbrev pub child_numbers : ℕ → ℕ → List ℕ
child_numbers a b = a ∷ b ∷ replicate 254 0

abbrev pub numbers_field : ℕ → ℕ → List ℕ
numbers_field a b = 0 ∷ 0 ∷ 0 ∷ a ∷ 0 ∷ 0 ∷ 0 ∷ b ∷ replicate 1016 0

-- a Price for child 1 or 2: the number of its bid, the index, and step 1
abbrev pub price_written : (child number index : ℕ) → List ℕ
price_written child number index = 23 ∷ 0 ∷ child ∷ 0 ∷ 0 ∷ 0 ∷ number ∷ 0 ∷ 0 ∷ 0 ∷ index ∷ 0 ∷ 1 ∷ nine_field

-- an Old for a child with the number that is kept of it, a TooMuch with the number of its Bid, and a Dropped with a price's number and index
abbrev pub old_written : (child kept : ℕ) → List ℕ
old_written child kept = 7 ∷ 0 ∷ child ∷ 0 ∷ 0 ∷ 0 ∷ kept ∷ []

abbrev pub too_much_written : (child number : ℕ) → List ℕ
too_much_written child number = 22 ∷ 0 ∷ child ∷ 0 ∷ 0 ∷ 0 ∷ number ∷ []

abbrev pub dropped_written : (number index : ℕ) → List ℕ
dropped_written number index = 11 ∷ 0 ∷ 0 ∷ 0 ∷ number ∷ 0 ∷ 0 ∷ 0 ∷ index ∷ []

-- ---- what is held of children

abbrev pub bid_under : ℕ → BidHead
bid_under number' = record { number = number'; gone = false }

abbrev pub gone_under : ℕ → BidHead
gone_under number' = record { number = number'; gone = true }

abbrev pub no_demand : List ℤ
no_demand = pos 0 ∷ pos 0 ∷ []

-- of child 1 and child 2 this, and nothing of the other 254
abbrev pub holds : BidHead → List ℤ → BidHead → List ℤ → Cache
holds first a second b = record { steps = 2; heads = first ∷ second ∷ replicate 254 nothing_sent; demands = a ∷ b ∷ replicate 254 no_demand }

-- nothing; a Bid of child 1 under number 1; that, and one of child 2 under a number
abbrev pub holds_none : Cache
holds_none = holds nothing_sent no_demand nothing_sent no_demand

abbrev pub holds_one : Cache
holds_one = holds (bid_under 1) first_demand nothing_sent no_demand

abbrev pub holds_both : ℕ → ℕ → Cache
holds_both a b = holds (bid_under a) first_demand (bid_under b) second_demand

-- ---- a relay

-- CHILD 3 with these limits, and no GIVER
abbrev pub relay_setup_with : Limits → RelaySetup
relay_setup_with limits' = record { child = 3; terms = record { limits = limits'; giver = None }; basis = nine_basis }

abbrev pub opening_record : Sent
opening_record = record { number = 0; heads = replicate most_nodes nothing_sent; sum = None }

-- A relay that restarted. Its last bid had the number `last`, in which children 1 and 2 had numbers 1 and 4. Its last price had index 6, and
-- answered the number `answered`. It heard this since, and does not have the record of its last bid.
abbrev pub back : Limits → (last answered : ℕ) → Cache → RelayValue
back limits' last' answered' cache' = record {
  gathered = record {
    cache = cache';
    window = record { children = most_nodes; steps = Some 2; records = opening_record ∷ []; answered = 0; last = 0 };
    limits = Some limits';
    announced = Some no_demand;
  };
  base = last';
  answered = answered';
  index = 6;
  recorded = child_numbers 1 4;
  made_under = replicate limits_places limits';
}

-- The same relay, of last number 3 and number 2 answered, once it has the record of its last bid.
abbrev pub has_record : RelayValue
has_record = record (back wide 3 2 (holds_both 1 4)) {
  gathered = record {
    cache = holds_both 1 4;
    window = record {
      children = most_nodes;
      steps = Some 2;
      records = opening_record ∷ record { number = 1; heads = (holds_both 1 4).heads; sum = Some (pos 21 ∷ negsuc 2 ∷ []) } ∷ [];
      answered = 0;
      last = 1;
    };
    limits = Some wide;
    announced = Some (pos 21 ∷ negsuc 2 ∷ []);
  };
  base = 2;
}

-- its service; no child has a bound
abbrev pub open_relay_with : RelaySetup → RelayValue → Option PriceUpdate → OpenRelay
open_relay_with own relay' waiting' = record { setup = own; bounds = no_bounds; held = record { relay = relay'; waiting = waiting' } }

-- It heard child 1, so it may have its record again. A price waits, or none does.
abbrev pub hears_one : Option PriceUpdate → OpenRelay
hears_one waiting = open_relay_with (relay_setup_with wide) (back wide 3 2 holds_one) waiting

-- the same, if child 2 was gone in that record, under number 5
abbrev pub hears_one_without : OpenRelay
hears_one_without = open_relay_with (relay_setup_with wide) (record (back wide 3 2 holds_one) { recorded = child_numbers 1 5 }) None

-- it has its record
abbrev pub hears_all : OpenRelay
hears_all = open_relay_with (relay_setup_with wide) has_record None

-- and child 2 may bid 0 to 4 watts
abbrev pub hears_bounded : OpenRelay
hears_bounded = record hears_all { bounds = widest ∷ small_bound ∷ replicate 254 widest }

-- It heard both children again, child 1 under a greater number, so it never has its record again.
abbrev pub hears_newer : Limits → (last answered : ℕ) → OpenRelay
hears_newer limits last answered = open_relay_with (relay_setup_with limits) (back limits last answered (holds_both 2 4)) None

-- a price of the number 3
abbrev pub price_of_three : (index step : ℕ) → PriceUpdate
price_of_three index' step' = record { step = step'; number = 3; index = index' }

abbrev pub price_three : (number index step : ℕ) → RelayFrame
price_three number index step = to_relay.Parent (Price 3 number index step nine_basis)

abbrev pub second_bids : ℕ → RelayFrame
second_bids number = to_relay.Child (Bid 2 number second_demand)

-- its Resume: the last number, the number answered, the index of the price, and the numbers of children 1 and 2
abbrev pub resume_written : List ℕ → (last answered index a b : ℕ) → List ℕ
resume_written limits last answered index a b =
    25 ∷ 0 ∷ 0 ∷ 0 ∷ last ∷ 0 ∷ 0 ∷ 0 ∷ answered ∷ 0 ∷ 0 ∷ 0 ∷ index
    ∷ (nine_field ++ (limits ++ (0 ∷ 0 ∷ (limits ++ numbers_field a b))))

-- its Bid
abbrev pub relay_bid_written : ℕ → List ℕ → List ℕ
relay_bid_written number demands = 2 ∷ 0 ∷ 3 ∷ 0 ∷ 0 ∷ 0 ∷ number ∷ demands

-- A relay with GIVER 2, and what it comes back with: in its last bid, of number 3, child 1 had number 1 and GIVER had number 0. It was made under
-- -1 to 1 watt.
abbrev pub giver_setup : RelaySetup
giver_setup = record { child = 3; terms = record { limits = wide; giver = Some 2 }; basis = nine_basis }

abbrev pub stored_without : StoredRelay
stored_without = record {
  last = 3;
  answered = 2;
  index = 6;
  basis = nine_basis;
  first = wide;
  giver = 2;
  limits = narrow;
  numbers = child_numbers 1 0;
}

-- a relay with GIVER 2 that restarted, and learnt its limits again
abbrev pub hears_giver : OpenRelay
hears_giver = open_relay_with giver_setup (back narrow 3 2 (holds nothing_sent no_demand (gone_under 4) no_demand)) None

-- ---- what a device reads

-- the power that device 2 offers: 500 and -300 watts
abbrev pub two_powers : List ℤ
two_powers = pos 500 ∷ negsuc 299 ∷ []

abbrev pub two_powers_field : List ℕ
two_powers_field = 0 ∷ 0 ∷ 1 ∷ 244 ∷ 255 ∷ 255 ∷ 254 ∷ 212 ∷ []

abbrev pub hello : DeviceFrame
hello = to_device.Hello nine_basis

abbrev pub offers_two : DeviceFrame
offers_two = to_device.Offer Array two_powers

-- ---- the frames that are read

-- each sort of them by its bytes, which begin with its kind; a Resume is one that a node wrote
pub record FrameRows : Type 0 where
  pub hello : relay_frame_bytes (to_relay.Child (Hello nine_basis)) ≡ 1 ∷ nine_field
  pub bid : relay_frame_bytes (second_bids 4) ≡ 2 ∷ 0 ∷ 2 ∷ 0 ∷ 0 ∷ 0 ∷ 4 ∷ 0 ∷ 0 ∷ 0 ∷ 16 ∷ 0 ∷ 0 ∷ 0 ∷ 0 ∷ []
  pub gone : relay_frame_bytes (to_relay.Child (Gone 2 5)) ≡ 3 ∷ 0 ∷ 2 ∷ 0 ∷ 0 ∷ 0 ∷ 5 ∷ []
  pub clear : root_frame_bytes (to_root.Market Clear) ≡ 4 ∷ []
  pub old : relay_frame_bytes (to_relay.Parent (Old 3 4)) ≡ old_written 3 4
  pub send : relay_frame_bytes to_relay.Send ≡ 9 ∷ []
  pub expire : relay_frame_bytes (to_relay.Expire 2) ≡ 19 ∷ 0 ∷ 2 ∷ []
  pub limits : relay_frame_bytes (to_relay.Limits 6 narrow) ≡ 20 ∷ 0 ∷ 0 ∷ 0 ∷ 6 ∷ narrow_field
  pub bound : relay_frame_bytes (to_relay.Bound 2 small_bound) ≡ 21 ∷ 0 ∷ 2 ∷ 0 ∷ 0 ∷ 0 ∷ 0 ∷ 0 ∷ 0 ∷ 0 ∷ 4 ∷ []
  pub price : relay_frame_bytes (price_three 4 7 1) ≡ price_written 3 4 7
  -- those of a device's control: an Offer, Leave, a battery as its Kind, a State, and two Points
  pub offer : device_frame_bytes offers_two ≡ 13 ∷ two_powers_field
  pub leave : device_frame_bytes to_device.Leave ≡ 14 ∷ []
  pub kind : device_frame_bytes (to_device.Kind (record { number = 3; first = pos 1000; second = pos 300; third = pos 301; fourth = pos 7; fifth = pos 0 }))
      ≡ 29 ∷ 3 ∷ 0 ∷ 0 ∷ 3 ∷ 232 ∷ 0 ∷ 0 ∷ 1 ∷ 44 ∷ 0 ∷ 0 ∷ 1 ∷ 45 ∷ 0 ∷ 0 ∷ 0 ∷ 7 ∷ 0 ∷ 0 ∷ 0 ∷ 0 ∷ []
  pub state : (state : DeviceState) (demand : List ℤ) → device_frame_bytes (to_device.Offer (State state) demand) ≡ 30 ∷ signed_bytes state.0
  pub points : (demand : List ℤ) → device_frame_bytes (to_device.Offer (Points ((pos 0, pos 500) ∷ (pos 9, negsuc 299) ∷ [])) demand)
      ≡ 130 ∷ 0 ∷ 0 ∷ 0 ∷ 0 ∷ 0 ∷ 0 ∷ 1 ∷ 244 ∷ 0 ∷ 0 ∷ 0 ∷ 9 ∷ 255 ∷ 255 ∷ 254 ∷ 212 ∷ []

-- ---- rows of a relay

abbrev pub serves : OpenRelay → RelayServiceValue
serves relay' = record { child = relay'.setup.child; terms = relay'.setup.terms; relay = Some relay' }

-- any answer to the frame has these bytes
pub record RelaySays (old : OpenRelay) (frame : RelayFrame) (bytes : List ℕ) : Type 0 where
  pub any : (new : RelayServiceValue) (reply : List ℕ) → AnswersRelay (serves old) frame new reply → reply ≡ bytes

-- and behind it the relay is this one
pub record RelayTurns (old : OpenRelay) (frame : RelayFrame) (bytes : List ℕ) (after : OpenRelay) : Type 0 where
  pub any : (new : RelayServiceValue) (reply : List ℕ) → AnswersRelay (serves old) frame new reply → (reply ≡ bytes) × (new ≡ serves after)

-- behind the frame these limits count, and this is the number of GIVER that is kept; nothing is answered
abbrev pub RelayLearnsLimits : OpenRelay → RelayFrame → Limits → ℕ → Type 0
RelayLearnsLimits old frame limits number =
    (new : RelayServiceValue) (reply : List ℕ) → AnswersRelay (serves old) frame new reply →
    (reply ≡ []) × (after : OpenRelay) × (new ≡ serves after)
    × (after.held.relay.gathered.limits ≡ Some limits) × (kept_number after.held.relay.gathered.cache 1 ≡ number)

-- its last number has no four bytes, which no value of the program has
abbrev pub HasNumberBeyond : RelayServiceValue → Type 0
HasNumberBeyond service = (relay : OpenRelay) × (service.relay ≡ Some relay) × (2 ^ 32 ≤ newest_bid_number relay.held.relay)

abbrev pub IsRelayHello : RelayFrame → Type 0
IsRelayHello (to_relay.Child frame) = IsHello frame
IsRelayHello frame = ⊥

pub record RelayRows : Type 0 where
  -- before Hello nothing is answered, and nothing but Hello changes anything
  pub before_hello : (child : ℕ) (terms : RelayTerms) (frame : RelayFrame) (new : RelayServiceValue) (reply : List ℕ) →
      AnswersRelay (new_relay_service child terms) frame new reply →
      (reply ≡ []) × ((IsRelayHello frame → ⊥) → new ≡ new_relay_service child terms)
  -- the relay of these rows, before it heard a child, is one that comes back with its Resume
  pub begins : RelayComesBack 2 wide 3 2 6 (child_numbers 1 4) wide (back wide 3 2 holds_none)
  -- a price of number 3, whose record may come again, waits
  pub waits : RelayTurns (hears_one None) (price_three 3 7 1) [] (hears_one (Some (price_of_three 7 1)))
  -- of two prices that wait the one with the greater index stays, and the other is dropped
  pub newer_waits : RelayTurns (hears_one (Some (price_of_three 7 1))) (price_three 3 8 0) (dropped_written 3 7)
      (hears_one (Some (price_of_three 8 0)))
  pub older_comes : RelayTurns (hears_one (Some (price_of_three 8 0))) (price_three 3 7 1) (dropped_written 3 7)
      (hears_one (Some (price_of_three 8 0)))
  -- of two with one index the first
  pub same_comes : RelayTurns (hears_one (Some (price_of_three 7 1))) (price_three 3 7 0) (dropped_written 3 7)
      (hears_one (Some (price_of_three 7 1)))
  -- a price of another basis changes nothing: OtherBasis names its number and index
  pub other_basis : (old : OpenRelay) (child number index step : ℕ) (basis : BasisValue) (new : RelayServiceValue) (reply : List ℕ) →
      (basis ≡ old.setup.basis → ⊥) → AnswersRelay (serves old) (to_relay.Parent (Price child number index step basis)) new reply →
      (reply ≡ 24 ∷ (to_be_bytes w32 number ++ to_be_bytes w32 index)) × (new ≡ serves old)
  -- the index of a price is not above the last one; the number is below the one answered, or above the last: Dropped
  pub not_newer : RelayTurns (hears_one None) (price_three 3 6 1) (dropped_written 3 6) (hears_one None)
  pub too_old : RelayTurns (hears_one None) (price_three 1 7 1) (dropped_written 1 7) (hears_one None)
  pub unknown : RelayTurns hears_all (price_three 4 7 1) (dropped_written 4 7) hears_all
  -- a price of number 2, whose record is lost for good, is taken alone: a Resume with this number and index
  pub alone : RelayTurns (hears_one None) (price_three 2 7 1) (resume_written wide_field 3 2 7 1 4)
      (open_relay_with (relay_setup_with wide) (record (back wide 3 2 holds_one) { index = 7 }) None)
  -- a price of the number 3 whose record the relay has: a Price for each child, and then the Resume
  pub passes : RelaySays hears_all (price_three 3 7 1) (price_written 1 1 7 ++ (price_written 2 4 7 ++ resume_written wide_field 3 3 7 1 4))
  -- with the Bid of child 2 it has its record again: its last Bid again
  pub again : RelaySays (hears_one None) (second_bids 4) (relay_bid_written 3 sum_field)
  -- and the price that waits is answered behind the Bid
  pub again_passes : RelaySays (hears_one (Some (price_of_three 7 1))) (second_bids 4)
      (relay_bid_written 3 sum_field ++ (price_written 1 1 7 ++ (price_written 2 4 7 ++ resume_written wide_field 3 3 7 1 4)))
  -- so it has it if child 2 was gone in it, and is let go again
  pub let_go_again : RelaySays hears_one_without (to_relay.Expire 2) (relay_bid_written 3 first_field)
  -- with a newer Bid of child 2, or if it is let go, the record never comes again: the price that waits is taken alone
  pub never_again : RelayTurns (hears_one (Some (price_of_three 7 1))) (second_bids 5) (resume_written wide_field 3 3 7 1 4)
      (open_relay_with (relay_setup_with wide) (record (back wide 3 3 (holds_both 1 5)) { index = 7 }) None)
  pub let_go : RelayTurns (hears_one (Some (price_of_three 7 1))) (to_relay.Expire 2) (resume_written wide_field 3 3 7 1 4)
      (open_relay_with (relay_setup_with wide) (record (back wide 3 3 (holds (bid_under 1) first_demand (gone_under 5) no_demand)) { index = 7 }) None)
  -- a Bid of child 2 under number 4, which is kept: Old
  pub old : RelayTurns hears_all (second_bids 4) (old_written 2 4) hears_all
  -- a Gone of child 2 counts, and an Old of the parent changes nothing; neither is answered
  pub counts_gone : RelayTurns hears_all (to_relay.Child (Gone 2 6)) []
      (open_relay_with (relay_setup_with wide) (record has_record {
        gathered = record has_record.gathered { cache = holds (bid_under 1) first_demand (gone_under 6) no_demand };
      }) None)
  pub ignores_old : RelayTurns hears_all (to_relay.Parent (Old 3 4)) [] hears_all
  -- a Bound of 0 to 4 watts for child 2, and a Bid of 16 watts beyond it: TooMuch
  pub bound : RelayTurns hears_all (to_relay.Bound 2 small_bound) [] hears_bounded
  pub too_much : RelayTurns hears_bounded (second_bids 6) (too_much_written 2 6) hears_bounded
  -- Send: child 2 was not heard again, and a price that waits goes on waiting; nothing counted since the last bid; numbers 3 to 10 are
  -- unanswered; no number is left
  pub not_caught_up : RelayTurns (hears_one None) to_relay.Send (17 ∷ []) (hears_one None)
  pub waits_on : RelayTurns (hears_one (Some (price_of_three 7 1))) to_relay.Send (17 ∷ []) (hears_one (Some (price_of_three 7 1)))
  pub not_changed : RelayTurns hears_all to_relay.Send (6 ∷ []) hears_all
  pub window_full : RelayTurns (hears_newer wide 10 2) to_relay.Send (10 ∷ []) (hears_newer wide 10 2)
  pub out_of_numbers : (new : RelayServiceValue) (reply : List ℕ) →
      AnswersRelay (serves (hears_newer wide 4294967295 4294967295)) to_relay.Send new reply →
      (reply ≡ 18 ∷ []) ⊎ HasNumberBeyond new
  -- else a Resume of the next number, 4, and then the Bid
  pub sends : RelaySays (hears_newer wide 3 2) to_relay.Send (resume_written wide_field 4 2 6 2 4 ++ relay_bid_written 4 sum_field)
  -- under limits of -1 to 1 watt no step of the sum is within: OutOfLimits behind the Bid
  pub out_of_limits : RelaySays (hears_newer narrow 3 2) to_relay.Send
      (resume_written narrow_field 4 2 6 2 4 ++ (relay_bid_written 4 low_field ++ (27 ∷ 0 ∷ 0 ∷ 0 ∷ 4 ∷ [])))
  -- a Resume in which GIVER has number 0 gives no limits: those of the arguments count, and nothing is answered
  pub given_none : (relay : RelayValue) → RelayLearnsLimits (open_relay_with giver_setup relay None) (to_relay.Resume stored_without) wide 0
  -- Limits under number 6 count, and those under a number that is not above 4 do not: Old
  pub given : RelayLearnsLimits hears_giver (to_relay.Limits 6 wide) wide 6
  pub given_old : RelayTurns hears_giver (to_relay.Limits 2 narrow) (old_written 2 4) hears_giver

-- ---- an auctioneer

-- An auctioneer that restarted. Its last clearing had index `last`; in it child 1 had number 2, and child 2 was gone under number 5. It heard
-- this since, and whether something of it counted.
abbrev pub root_back : ℕ → Cache → Bool → OpenRoot
root_back last' cache' changed' = record {
  basis = nine_basis;
  bounds = no_bounds;
  root = record { auction = record { cache = cache'; step = 0; index = 0; changed = changed' }; base = last'; recorded = child_numbers 2 5 };
}

-- it heard that child 2 is gone
abbrev pub root_hears_gone : OpenRoot
root_hears_gone = root_back 4 (holds nothing_sent no_demand (gone_under 5) no_demand) true

-- it heard the Bid of child 1
abbrev pub root_hears_bid : OpenRoot
root_hears_bid = root_back 4 (holds (bid_under 2) first_demand nothing_sent no_demand) true

-- it heard that child 2 is gone, and a newer Bid of child 1
abbrev pub root_hears_newer : ℕ → OpenRoot
root_hears_newer last = root_back last (holds (bid_under 4) first_demand (gone_under 5) no_demand) true

-- it has its clearing of index 4, at step 1, which is over the Bid of child 1
abbrev pub root_cleared : OpenRoot
root_cleared = record root_hears_gone {
  root = record {
    auction = record { cache = holds (bid_under 2) first_demand (gone_under 5) no_demand; step = 1; index = 1; changed = false };
    base = 3;
    recorded = child_numbers 2 5;
  };
}

-- and then child 1 is gone under this number
abbrev pub root_without : ℕ → OpenRoot
root_without number = record root_cleared {
  root = record root_cleared.root {
    auction = record { cache = holds (gone_under number) no_demand (gone_under 5) no_demand; step = 1; index = 1; changed = true };
  };
}

abbrev pub first_bids : ℕ → RootFrame
first_bids number = to_root.Market (Bid 1 number first_demand)

abbrev pub bounded_root : OpenRoot
bounded_root = record root_cleared { bounds = small_bound ∷ replicate 255 widest }

pub record RootSays (old : OpenRoot) (frame : RootFrame) (bytes : List ℕ) : Type 0 where
  pub any : (new : Option OpenRoot) (reply : List ℕ) → AnswersRoot (Some old) frame new reply → reply ≡ bytes

pub record RootTurns (old : OpenRoot) (frame : RootFrame) (bytes : List ℕ) (after : OpenRoot) : Type 0 where
  pub any : (new : Option OpenRoot) (reply : List ℕ) → AnswersRoot (Some old) frame new reply → (reply ≡ bytes) × (new ≡ Some after)

abbrev pub HasIndexBeyond : Option OpenRoot → Type 0
HasIndexBeyond service = (root : OpenRoot) × (service ≡ Some root) × (2 ^ 32 ≤ newest_index root.root)

abbrev pub IsRootHello : RootFrame → Type 0
IsRootHello (to_root.Market frame) = IsHello frame
IsRootHello frame = ⊥

pub record RootRows : Type 0 where
  pub before_hello : (frame : RootFrame) (new : Option OpenRoot) (reply : List ℕ) → AnswersRoot None frame new reply →
      (reply ≡ []) × ((IsRootHello frame → ⊥) → new ≡ None)
  pub begins : RootComesBack 2 4 (child_numbers 2 5) (root_back 4 holds_none false).root
  -- Clear: child 1 was not heard again; nothing counted since the last clearing; no index is left
  pub not_caught_up : RootTurns root_hears_gone (to_root.Market Clear) (17 ∷ []) root_hears_gone
  pub not_changed : RootTurns root_cleared (to_root.Market Clear) (6 ∷ []) root_cleared
  pub out_of_numbers : (new : Option OpenRoot) (reply : List ℕ) → AnswersRoot (Some (root_hears_newer 4294967295)) (to_root.Market Clear) new reply →
      (reply ≡ 18 ∷ []) ⊎ HasIndexBeyond new
  -- else a Resume of the next index, 5, and a Price for each child that is not gone
  pub clears : RootSays (root_hears_newer 4) (to_root.Market Clear)
      (25 ∷ 0 ∷ 0 ∷ 0 ∷ 5 ∷ (nine_field ++ (numbers_field 4 5 ++ price_written 1 4 5)))
  -- with the Bid of child 1 it has its clearing again: its Price again, of index 4
  pub again : RootSays root_hears_gone (first_bids 2) (price_written 1 2 4)
  -- so it does if it let child 2 go before, and lets it go again
  pub let_go_again : RootSays root_hears_bid (to_root.Expire 2) (price_written 1 2 4)
  -- with a newer Bid it never has it again
  pub never_again : RootTurns root_hears_gone (first_bids 4) [] (root_hears_newer 4)
  -- Old, Bound and TooMuch as of a relay
  pub old : RootTurns root_cleared (first_bids 1) (old_written 1 2) root_cleared
  pub bound : RootTurns root_cleared (to_root.Bound 1 small_bound) [] bounded_root
  pub too_much : RootTurns bounded_root (first_bids 4) (too_much_written 1 4) bounded_root
  -- child 1 is let go, and so it is gone under number 3; its own Gone of number 6 counts too
  pub let_go : RootTurns root_cleared (to_root.Expire 1) [] (root_without 3)
  pub counts_gone : RootTurns root_cleared (to_root.Market (Gone 1 6)) [] (root_without 6)

-- ---- a device

abbrev pub price_two : (number index step : ℕ) → DeviceFrame
price_two number index step = to_device.Parent (Price 2 number index step nine_basis)

-- its Resume and its Bid, its ResumeGone and its Gone, of small numbers
abbrev pub device_resume : (number index : ℕ) → List ℕ
device_resume number index = 25 ∷ 0 ∷ 0 ∷ 0 ∷ number ∷ 0 ∷ 0 ∷ 0 ∷ index ∷ (nine_field ++ two_powers_field)

abbrev pub device_bid_written : ℕ → List ℕ
device_bid_written number = 2 ∷ 0 ∷ 2 ∷ 0 ∷ 0 ∷ 0 ∷ number ∷ two_powers_field

abbrev pub resume_gone_written : (number index : ℕ) → List ℕ
resume_gone_written number index = 26 ∷ 0 ∷ 0 ∷ 0 ∷ number ∷ 0 ∷ 0 ∷ 0 ∷ index ∷ nine_field

abbrev pub device_gone_written : ℕ → List ℕ
device_gone_written number = 3 ∷ 0 ∷ 2 ∷ 0 ∷ 0 ∷ 0 ∷ number ∷ []

abbrev pub leaving_resume : ℕ → DeviceFrame
leaving_resume number' = to_device.Resume (record { number = number'; index = 7; basis = nine_basis; newest = None })

abbrev pub device_with : ℕ → OpenDevice → DeviceServiceValue
device_with child' device' = record { child = child'; device = Some device' }

abbrev pub IsDeviceHello : DeviceFrame → Type 0
IsDeviceHello (to_device.Hello basis) = ⊤
IsDeviceHello frame = ⊥

-- Device 2 read these frames, from its start on. Any answer to the next one has these bytes.
pub record DeviceSays (before : List DeviceFrame) (frame : DeviceFrame) (bytes : List ℕ) : Type 0 where
  pub any : (old new : DeviceServiceValue) (said reply : List ℕ) → Runs AnswersDevice (new_device_service 2) before old said →
      AnswersDevice old frame new reply → reply ≡ bytes

pub record DeviceRows : Type 0 where
  -- before Hello and of another basis as of a relay
  pub before_hello : (child : ℕ) (frame : DeviceFrame) (new : DeviceServiceValue) (reply : List ℕ) →
      AnswersDevice (new_device_service child) frame new reply →
      (reply ≡ []) × ((IsDeviceHello frame → ⊥) → new ≡ new_device_service child)
  pub other_basis : (child : ℕ) (old : OpenDevice) (sender number index step : ℕ) (basis : BasisValue) (new : DeviceServiceValue) (reply : List ℕ) →
      (basis ≡ old.basis → ⊥) → AnswersDevice (device_with child old) (to_device.Parent (Price sender number index step basis)) new reply →
      (reply ≡ 24 ∷ (to_be_bytes w32 number ++ to_be_bytes w32 index)) × (new ≡ device_with child old)
  -- an offer: Resume, and then the Bid
  pub offers : DeviceSays (hello ∷ []) offers_two (device_resume 2 0 ++ device_bid_written 2)
  -- a price: Setpoint, and then the Resume
  pub settles : DeviceSays (hello ∷ offers_two ∷ []) (price_two 2 7 1)
      (15 ∷ 0 ∷ 0 ∷ 0 ∷ 2 ∷ 0 ∷ 0 ∷ 0 ∷ 7 ∷ 0 ∷ 1 ∷ 255 ∷ 255 ∷ 254 ∷ 212 ∷ device_resume 2 7)
  -- a price that is not newer, or of an offer that is not kept: Dropped; the second moves the index
  pub dropped : DeviceSays (hello ∷ offers_two ∷ price_two 2 7 1 ∷ []) (price_two 2 7 0) (dropped_written 2 7)
  pub not_kept : DeviceSays (hello ∷ offers_two ∷ []) (price_two 4 7 1) (dropped_written 4 7)
  pub moved : DeviceSays (hello ∷ offers_two ∷ price_two 4 7 1 ∷ []) (price_two 2 6 1) (dropped_written 2 6)
  -- its parent let it go, by number 3: it offers anew under 6
  pub let_go : DeviceSays (hello ∷ offers_two ∷ []) (to_device.Parent (Old 2 3)) (device_resume 6 0 ++ device_bid_written 6)
  pub leaves : DeviceSays (hello ∷ offers_two ∷ []) to_device.Leave (resume_gone_written 4 0 ++ device_gone_written 4)
  -- it comes back: its Bid again, or its Gone, or nothing
  pub bids_again : DeviceSays (hello ∷ [])
      (to_device.Resume (record { number = 2; index = 7; basis = nine_basis; newest = Some two_powers })) (device_bid_written 2)
  pub leaves_again : DeviceSays (hello ∷ []) (leaving_resume 4) (device_gone_written 4)
  pub never_offered : DeviceSays (hello ∷ []) (leaving_resume 0) []
  -- eight offers are unanswered; no number is left for an offer, or for leaving
  pub window_full : DeviceSays (hello ∷ replicate 8 offers_two) offers_two (10 ∷ [])
  pub no_offer_left : DeviceSays (hello ∷ leaving_resume 4294967292 ∷ []) offers_two (18 ∷ [])
  pub no_number_left : DeviceSays (hello ∷ leaving_resume 4294967294 ∷ []) to_device.Leave (18 ∷ [])
