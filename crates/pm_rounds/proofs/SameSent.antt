-- A network that differs from another in what was sent alone, which is there still and more.
use Rattle.std.proofs.Common.{◌≡◌, ◌∙◌, ap, ℕ, ◌<◌}
use Rattle.std.proofs.Common.{length, arith}
use Rattle.pm_market.specs.Lists.{Lists}
use Rattle.pm_net.specs.Pricing.{Pricing}
use Rattle.pm_net.specs.Network.{Network, sent_bid, sent_price}
use Rattle.pm_net.specs.Running.{is_caught_up, has_news, can_send, can_clear}
use Rattle.pm_net.specs.Restarts.{can_rebuild}
use Rattle.pm_rounds.proofs.Counting.{OnlySends}

-- ---- a network of which the same was sent, and more

module _ (lists : Lists) (p : Pricing) (net mid : Network) (sends : OnlySends p net mid) where
  -- the same nodes are caught up
  pub same_caught : (y : ℕ) → is_caught_up lists mid y ≡ is_caught_up lists net y
  unfolding is_caught_up
  same_caught y = ap (λ (n : Network). is_caught_up lists n y) sends.is

  -- the same relays may send
  pub same_send : (c : ℕ) → can_send lists mid c ≡ can_send lists net c
  unfolding can_send is_caught_up has_news
  same_send c = ap (λ (n : Network). can_send lists n c) sends.is

  -- the auctioneer may clear in both, or in neither
  pub same_clear : can_clear lists mid ≡ can_clear lists net
  unfolding can_clear is_caught_up has_news
  same_clear = ap (λ (n : Network). can_clear lists n) sends.is

  -- the same records may be had again
  pub same_rebuild : (y : ℕ) → can_rebuild lists mid y ≡ can_rebuild lists net y
  unfolding can_rebuild has_news
  same_rebuild y = ap (λ (n : Network). can_rebuild lists n y) sends.is

  -- the same numbers are held
  pub same_heard : (x : ℕ) → (mid.heard x).number ≡ (net.heard x).number
  same_heard x = ap (λ (n : Network). (n.heard x).number) sends.is

  -- the same prices are held
  pub same_taken : (x : ℕ) → (mid.taken x).index ≡ (net.taken x).index
  same_taken x = ap (λ (n : Network). (n.taken x).index) sends.is

  -- a bid has its place still
  pub bid_there : (x k : ℕ) → k < length (net.bids_sent x) → (k < length (mid.bids_sent x)) × (sent_bid p mid x k ≡ sent_bid p net x k)
  bid_there x k lt =
      let kept = sends.bids_kept x k lt in (
        omega (arith, kept.0, ap (λ (n : Network). length (n.bids_sent x)) sends.is),
        ap (λ (n : Network). sent_bid p n x k) sends.is ∙ kept.1,
      )

  -- a price has its place still
  pub price_there : (x k : ℕ) → k < length (net.prices_sent x) → (k < length (mid.prices_sent x)) × (sent_price mid x k ≡ sent_price net x k)
  price_there x k lt =
      let kept = sends.prices_kept x k lt in (
        omega (arith, kept.0, ap (λ (n : Network). length (n.prices_sent x)) sends.is),
        ap (λ (n : Network). sent_price n x k) sends.is ∙ kept.1,
      )
