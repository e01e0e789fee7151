-- The worked world settles.
use Rattle.std.proofs.Common.{◌≡◌, ap, ℕ, ◌<◌, ◌≤◌, true, false}
use Rattle.std.proofs.Common.{replicate, length, refl, inl, inr, arith}
use Rattle.pm_bid.specs.Taken.{said_between}
use Rattle.pm_market.specs.Lists.{parent, is_leaf, is_member, changes}
use Rattle.pm_market.specs.State.{update}
use Rattle.pm_net_plan.specs.Places.{children_to, place_in}
use Rattle.pm_relay.specs.declared.fault.SendFault.TheVariants as send_fault
use Rattle.pm_relay.specs.declared.fault.RootFault.TheVariants as root_fault
use Rattle.pm_system.specs.System.{price_in_channel}
use Rattle.pm_system.specs.Settled.{number_made, number_held, index_of_held, HasNothingToSend}
use Rattle.pm_base.specs.Limits.{most_nodes}
use Rattle.pm_system.specs.Worked.{small_tree, small_places, small_limits, small_pricing}
use Rattle.pm_system.proofs.Worked.{relay_back}
use Rattle.pm_system.proofs.WorkedValues.{reaches, reached, suffices, new_root}
use Rattle.pm_system.proofs.WorkedGiven.{each_node, each_leaf, only_one}
use Rattle.pm_system.proofs.Given.{some_same}
use Rattle.pm_lives.specs.Settled.{index_above, number_stored, number_noted, IsSettledWorld, IsTakenWorld}
use Rattle.pm_lives.specs.WorkedLives.{small_basis, LivesSettle}
use Rattle.pm_lives.proofs.WorkedWorlds.{small_terms, w0, w22}
use Rattle.pm_lives.proofs.Worked.{is_new_world}
use Rattle.pm_lives.proofs.WorkedRun.{live}

settled : IsSettledWorld small_tree small_places w22
unfolding parent is_leaf is_member changes update place_in children_to said_between reaches suffices
settled = record {
  up = λ y is. elim is [
    | inl e ↦ ap w22.up e
    | inr node ↦ each_node (λ y. w22.up y ≡ true) refl refl refl y node
  ];
  bids = each_node (λ x. number_made small_tree w22.seen x ≤ number_held small_tree small_places w22.seen x) (omega arith) (omega arith) (omega arith);
  let_go = λ d leaf. omega arith;
  prices = λ x k node. each_node
      (λ x. (k : ℕ) → k < length (w22.seen.prices_sent x) → (price_in_channel w22.seen x k).index ≤ index_of_held small_tree w22.seen x)
      (only_one (λ k. (price_in_channel w22.seen 1 k).index ≤ 2) (omega arith))
      (only_one (λ k. (price_in_channel w22.seen 2 k).index ≤ 2) (omega arith))
      (only_one (λ k. (price_in_channel w22.seen 3 k).index ≤ 2) (omega arith)) x node k;
  told = λ x node counts. each_node
      (λ x. (k : ℕ) × (k < length (w22.seen.prices_sent x)) × ((price_in_channel w22.seen x k).index ≡ index_above w22.seen (parent small_tree x)))
      (0, omega arith, refl) (0, omega arith, refl) (0, omega arith, refl) x node;
  relays = λ c conc. each_node (λ c. is_leaf small_tree c ≡ false → HasNothingToSend (w22.seen.relays c))
      (λ inner. (send_fault.NotChanged, (reached (w22.seen.relays 1).recorded (w22.seen.relays 1).gathered.cache.heads refl, refl), (λ e. absurd cc)))
      (λ inner. absurd cc) (λ inner. absurd cc) c (conc.0, conc.1) conc.2;
  root = (root_fault.NotChanged, (reached w22.seen.root.recorded w22.seen.root.auction.cache.heads refl, refl), (λ e. absurd cc));
}

-- by the numbers and indices in the newest messages alone
taken : IsTakenWorld small_tree small_places w22
unfolding parent is_leaf is_member changes update place_in children_to said_between reaches suffices
taken = record {
  up = settled.up;
  bids = each_node (λ x. number_stored small_tree w22 x ≤ number_held small_tree small_places w22.seen x) (omega arith) (omega arith) (omega arith);
  let_go = λ d leaf. omega arith;
  noted = each_node (λ x. number_held small_tree small_places w22.seen x ≤ number_noted small_tree small_places w22 x) (omega arith) (omega arith)
      (omega arith);
  told = λ d leaf there. each_leaf
      (λ x. (k : ℕ) × (k < length (w22.seen.prices_sent x)) × ((price_in_channel w22.seen x k).index ≡ w22.root_kept.last))
      (0, omega arith, refl) (0, omega arith, refl) d leaf;
  taken = λ d leaf there. each_leaf (λ d. w22.root_kept.last ≤ (w22.seen.agents d).index) (omega arith) (omega arith) d leaf;
}

-- the worked lives settle
pub settles : LivesSettle
unfolding parent is_leaf is_member changes update place_in children_to said_between reaches suffices
settles = record {
  world = w0;
  none = is_new_world small_pricing small_places small_basis (λ c. small_terms) new_root (λ c. relay_back 0 0 0 (replicate most_nodes 0))
      (λ c limits e. some_same small_limits limits e);
  new = w22;
  live = live;
  settled = settled;
  taken = taken;
  setpoints_2 = refl;
  setpoints_3 = refl;
}
