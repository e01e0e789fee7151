-- What a relay that matches a node says of the node.
use Rattle.std.proofs.Common.{◌≡◌, ◌∙◌, sym, ap, ℕ, ◌≤◌, true, false}
use Rattle.pm_bid.specs.Bids.{sum_of}
use Rattle.pm_cache.specs.Cache.{aggregate_of}
use Rattle.pm_market.specs.Lists.{Lists, parent, IsNode}
use Rattle.pm_net.specs.Pricing.{Pricing}
use Rattle.pm_net.specs.Network.{Network}
use Rattle.pm_net.specs.Running.{recorded_number, is_caught_up, is_overtaken, heard_sum}
use Rattle.pm_net_plan.specs.Places.{Numbering, IsNumbering}
use Rattle.pm_relay.specs.Numbers.{child_number, head_number, IsCaughtUp, HearsNothingNewer}
use Rattle.pm_relay.specs.Relays.{RelayValue}
use Rattle.pm_relay_net.specs.Heads.{AddsByPlaces}
use Rattle.pm_relay_net.specs.RelayIs.{MatchesNode}
use Rattle.pm_relay_net.proofs.Children as children
use Rattle.pm_relay_net.proofs.Children.{KnowsChildren}

module _ (lists : Lists) (p : Pricing) (numbering : Numbering) (is : IsNumbering lists numbering) (net : Network) (c : ℕ) (r : RelayValue)
    (m : MatchesNode p numbering net c r) where
  knows : KnowsChildren numbering net c r.gathered.cache.heads r.recorded
  knows = record { heads_are = m.heads; children = m.children; numbers_are = m.recorded }

  -- the number of a child in the newest record, and the one heard
  pub recorded_at : (x : ℕ) → IsNode lists x → parent lists x ≡ c → child_number r.recorded (numbering.place x) ≡ recorded_number net c x
  recorded_at = children.recorded_at lists numbering is net c r.gathered.cache.heads r.recorded knows

  -- the head in the place of a child has the number that was heard of it
  pub heard_at : (x : ℕ) → IsNode lists x → parent lists x ≡ c → head_number r.gathered.cache.heads (numbering.place x) ≡ (net.heard x).number
  heard_at = children.heard_at lists numbering is net c r.gathered.cache.heads r.recorded knows

  -- a relay is caught up just where the node is
  pub caught_to : IsCaughtUp r.recorded r.gathered.cache.heads → is_caught_up lists net c ≡ true
  caught_to = children.caught_to lists numbering is net c r.gathered.cache.heads r.recorded knows

  -- and the other way round
  pub caught_from : is_caught_up lists net c ≡ true → IsCaughtUp r.recorded r.gathered.cache.heads
  caught_from = children.caught_from lists numbering is net c r.gathered.cache.heads r.recorded knows

  -- it hears nothing newer just where the node is not overtaken
  pub over_to : HearsNothingNewer r.recorded r.gathered.cache.heads → is_overtaken lists net c ≡ false
  over_to = children.over_to lists numbering is net c r.gathered.cache.heads r.recorded knows

  -- so it does where no child's number is above the recorded one
  pub nothing_newer : ((x : ℕ) → IsNode lists x → parent lists x ≡ c → (net.heard x).number ≤ recorded_number net c x) →
      HearsNothingNewer r.recorded r.gathered.cache.heads
  nothing_newer = children.enough_from lists numbering is net c r.gathered.cache.heads r.recorded knows

  -- its sum is the node's
  pub sum_is : AddsByPlaces p numbering → aggregate_of r.gathered.cache ≡ heard_sum p net c
  sum_is adds = ap (λ (n : ℕ). sum_of n r.gathered.cache.demands) m.steps ∙ ap (sum_of p.steps) m.demands ∙ sym (adds c (λ z. (net.heard z).demand))
