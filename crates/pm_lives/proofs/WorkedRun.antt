-- The worked world, step by step.
use Rattle.std.proofs.Common.{ℕ, pos, negsuc, [], ◌∷◌}
use Rattle.std.proofs.Common.{replicate, None, refl, inl, inr, arith}
use Rattle.pm_base.specs.Limits.{most_nodes}
use Rattle.pm_bid.specs.Clearing.{clearing_step}
use Rattle.pm_bid.specs.Taken.{said_between}
use Rattle.pm_cache.specs.Cache.{aggregate_of}
use Rattle.pm_market.specs.Lists.{parent, is_leaf, is_member, changes}
use Rattle.pm_market.specs.State.{update}
use Rattle.pm_net_plan.specs.Places.{children_to, place_in}
use Rattle.pm_relay.specs.Relays.{limits_places}
use Rattle.pm_relay.specs.declared.outcome.PriceOutcome.TheVariants.{PassedOn}
use Rattle.pm_wire.specs.declared.frame.Frame.TheVariants as market_frame
use Rattle.pm_frames.specs.declared.parent.ParentFrame.TheVariants.{Price}
use Rattle.pm_frames.specs.declared.relay.RelayFrame.{RelayFrame}
use Rattle.pm_frames.specs.declared.relay.RelayFrame.TheVariants as relay_frame
use Rattle.pm_frames.specs.declared.root.RootFrame.TheVariants as root_frame
use Rattle.pm_system.specs.Worked.{small_tree, small_places, small_limits, small_device_demand, small_pricing}
use Rattle.pm_system.proofs.Worked.{relay_back}
use Rattle.pm_system.proofs.WorkedValues.{reaches, suffices, comes_back, new_root, looks_on, root_looks_on, has_changed, sent_relay, may_send, sends}
use Rattle.pm_system.proofs.WorkedValues.{rebuilt_relay, hears_again, has_again, passed_relay, may_pass, passes_on, cleared_root, may_clear, clears, via}
use Rattle.pm_services.specs.RelayWrites.{bid_outs, price_outs}
use Rattle.pm_lives.specs.Lives.{Live}
use Rattle.pm_lives.specs.WorkedLives.{small_basis, small_steps}
use Rattle.pm_lives.proofs.WorkedBounds.{first_keeps, other_keeps, relay_keeps, then_keeps, again_keeps}
use Rattle.pm_lives.proofs.WorkedSteps.{alone, hears_bid, sends_own, passes_price_down, carries, relay_reads, root_reads, device_reads}
use Rattle.pm_lives.proofs.WorkedWorlds.{small_setup, second_price, heard, heard_root, sent_outs, cleared_outs}
use Rattle.pm_lives.proofs.WorkedWorlds.{w0, w1, w2, w3, w4, w5, w6, w7, w8, w9, w10, w11, w12, w13, w14, w15, w16, w17, w18, w19, w20, w21, w22}

-- the frame with a bid of device d
abbrev market_bid : ℕ → ℕ → ℕ → RelayFrame
market_bid sender number d = relay_frame.Child (market_frame.Bid sender number (small_device_demand d number))

-- the steps are those of lives
pub live : Live small_tree small_pricing small_places w0 small_steps w22
unfolding parent is_leaf is_member changes update place_in children_to said_between reaches suffices has_changed may_send hears_again may_pass may_clear
live =
    -- step 1: a process of the auctioneer begins
    via w1 (record { root = new_root; back = record { auction = refl; base = refl; recorded = refl }; new_is = refl }) (
    -- step 2: a process of the relay begins, and nothing was stored of it
    via w2 (record {
      conc = (omega arith, omega arith, refl);
      limited = refl;
      relay = relay_back 0 0 0 (replicate most_nodes 0);
      after = alone (relay_back 0 0 0 (replicate most_nodes 0));
      outs = [];
      learns = (refl, refl);
      back = comes_back small_limits (replicate limits_places small_limits) 0 0 0 (replicate most_nodes 0) small_limits refl;
      new_is = refl;
    }) (
    -- step 3: a process of device 2 begins
    via w3 (record { leaf = refl; new_is = refl }) (
    -- step 4: a process of device 3 begins
    via w4 (record { leaf = refl; new_is = refl }) (
    -- step 5: device 2 offers, and sends its bid 2
    via w5 (device_reads refl refl (λ e room. record { has = omega arith; member = refl; is = refl }) (inl (omega arith)) refl) (
    -- step 6: device 3 offers, and sends its bid 2
    via w6 (device_reads refl refl (λ e room. record { has = omega arith; member = refl; is = refl }) (inl (omega arith)) refl) (
    -- step 7: the relay reads bid 2 of device 2
    via w7 (relay_reads w6 (market_bid 1 2 2) 0 (heard w6 0 2 2) [] w7 refl (carries 2 0 (omega arith, omega arith) refl refl (omega arith) refl refl
    (λ ne a b same. refl)) (λ giver is same. absurd cc) (inl (first_keeps, hears_bid (looks_on (heard w6 0 2 2) refl) refl)) (inr refl) refl) (
    -- step 8: the relay reads bid 2 of device 3
    via w8 (relay_reads w7 (market_bid 2 2 3) 0 (heard w7 1 2 3) [] w8 refl (carries 3 0 (omega arith, omega arith) refl refl (omega arith) refl refl
    (λ ne a b same. refl)) (λ giver is same. absurd cc) (inl (other_keeps, hears_bid (looks_on (heard w7 1 2 3) refl) refl)) (inr refl) refl) (
    -- step 9: the relay sends its bid 1
    via w9 (relay_reads w8 relay_frame.Send 2 (sent_relay (w8.seen.relays 1)) (sent_outs (sent_relay (w8.seen.relays 1))) w9 refl tt tt
    (sends_own small_setup (w8.seen.relays 1) (sent_relay (w8.seen.relays 1)) 1 (sends (w8.seen.relays 1) small_limits refl refl refl))
    (inl (omega arith)) refl) (
    -- step 10: the auctioneer reads bid 1 of the relay
    via w10 (root_reads w9 (root_frame.Market (market_frame.Bid 1 1 (pos 5 ∷ pos 5 ∷ negsuc 2 ∷ []))) 0
    (heard_root w9 1 (pos 5 ∷ pos 5 ∷ negsuc 2 ∷ [])) [] w10 refl (carries 1 0 (omega arith, omega arith) refl refl (omega arith) refl refl
    (λ ne. absurd (ne refl)))
    (inl (relay_keeps, record { looks = root_looks_on (heard_root w9 1 (pos 5 ∷ pos 5 ∷ negsuc 2 ∷ [])) refl; replied = refl })) (inr refl) refl) (
    -- step 11: the auctioneer clears; its Resume alone is handled, so the price is lost
    via w11 (root_reads w10 (root_frame.Market market_frame.Clear) 1 (cleared_root w10.seen.root) (cleared_outs (cleared_root w10.seen.root)) w11 refl
    tt (inl (1, clearing_step (aggregate_of w10.seen.root.auction.cache), clears w10.seen.root refl, refl)) (inl (omega arith)) refl) (
    -- step 12: device 2 offers anew, and sends its bid 4
    via w12 (device_reads refl refl (λ e room. record { has = omega arith; member = refl; is = refl }) (inl (omega arith)) refl) (
    -- step 13: the relay reads bid 4 of device 2
    via w13 (relay_reads w12 (market_bid 1 4 2) 0 (heard w12 0 4 2) [] w13 refl (carries 2 1 (omega arith, omega arith) refl refl (omega arith) refl
    refl (λ ne a b same. refl)) (λ giver is same. absurd cc) (inl (then_keeps, hears_bid (looks_on (heard w12 0 4 2) refl) refl)) (inr refl) refl) (
    -- step 14: the relay makes its bid 2; its Resume alone is handled, so the bid is lost
    via w14 (relay_reads w13 relay_frame.Send 1 (sent_relay (w13.seen.relays 1)) (sent_outs (sent_relay (w13.seen.relays 1))) w14 refl tt tt
    (sends_own small_setup (w13.seen.relays 1) (sent_relay (w13.seen.relays 1)) 2 (sends (w13.seen.relays 1) small_limits refl refl refl))
    (inl (omega arith)) refl) (
    -- step 15: the next process of the relay begins, with that Resume
    via w15 (record {
      conc = (omega arith, omega arith, refl);
      limited = refl;
      relay = relay_back 2 0 0 (w14.relay_kept 1).numbers;
      after = alone (relay_back 2 0 0 (w14.relay_kept 1).numbers);
      outs = [];
      learns = (refl, refl);
      back = comes_back small_limits (replicate limits_places small_limits) 2 0 0 (w14.relay_kept 1).numbers small_limits refl;
      new_is = refl;
    }) (
    -- step 16: the relay reads bid 2 of device 3 again
    via w16 (relay_reads w15 (market_bid 2 2 3) 0 (heard w15 1 2 3) [] w16 refl (carries 3 0 (omega arith, omega arith) refl refl (omega arith) refl
    refl (λ ne a b same. refl)) (λ giver is same. absurd cc)
    (inl (other_keeps, hears_bid (inr ((λ h. omega (arith, h.caught_up 0 (omega arith))), refl)) refl)) (inr refl) refl) (
    -- step 17: the relay reads bid 4 of device 2 again, has its record again, and sends its bid 2
    via w17 (relay_reads w16 (market_bid 1 4 2) 1 (rebuilt_relay (heard w16 0 4 2)) (bid_outs (rebuilt_relay (heard w16 0 4 2))) w17 refl (carries 2 1
    (omega arith, omega arith) refl refl (omega arith) refl refl (λ ne a b same. refl)) (λ giver is same. absurd cc)
    (inl (then_keeps, hears_bid (has_again (heard w16 0 4 2) refl refl refl) refl)) (inl (omega arith)) refl) (
    -- step 18: the auctioneer reads bid 2 of the relay
    via w18 (root_reads w17 (root_frame.Market (market_frame.Bid 1 2 (negsuc 0 ∷ negsuc 0 ∷ negsuc 0 ∷ []))) 0
    (heard_root w17 2 (negsuc 0 ∷ negsuc 0 ∷ negsuc 0 ∷ [])) [] w18 refl (carries 1 1 (omega arith, omega arith) refl refl (omega arith) refl refl
    (λ ne. absurd (ne refl)))
    (inl (again_keeps, record { looks = root_looks_on (heard_root w17 2 (negsuc 0 ∷ negsuc 0 ∷ negsuc 0 ∷ [])) refl; replied = refl }))
    (inr refl) refl) (
    -- step 19: the auctioneer clears again, and its price is handed out
    via w19 (root_reads w18 (root_frame.Market market_frame.Clear) 2 (cleared_root w18.seen.root) (cleared_outs (cleared_root w18.seen.root)) w19 refl
    tt (inl (2, clearing_step (aggregate_of w18.seen.root.auction.cache), clears w18.seen.root refl, refl)) (inl (omega arith)) refl) (
    -- step 20: the relay takes the price, and passes it on to both devices
    via w20 (relay_reads w19 (relay_frame.Parent (Price 1 2 2 0 small_basis)) 3 (passed_relay (w19.seen.relays 1) second_price)
    (price_outs small_setup None (passed_relay (w19.seen.relays 1) second_price) second_price PassedOn) w20 refl (refl, (0, omega arith, refl)) tt
    (inl (
      refl,
      passes_price_down small_setup (w19.seen.relays 1) (passed_relay (w19.seen.relays 1) second_price) second_price
          (passes_on (w19.seen.relays 1) second_price refl refl),
    )) (inl (omega arith)) refl) (
    -- step 21: device 2 takes the price of its bid 4
    via w21 (device_reads refl refl (refl, (0, omega arith, refl)) (inl (omega arith)) refl) (
    -- step 22: device 3 takes the price of its bid 2
    via w22 (device_reads refl refl (refl, (0, omega arith, refl)) (inl (omega arith)) refl) (
    refl))))))))))))))))))))))
