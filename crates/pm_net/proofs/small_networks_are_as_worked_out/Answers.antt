-- Each run computes.
use Rattle.std.proofs.Common.{refl}
use Rattle.pm_market.specs.Lists.{parent, is_leaf, is_member, changes}
use Rattle.pm_market.specs.State.{update, all_to}
use Rattle.pm_market.specs.Held.{last_join}
use Rattle.pm_net.specs.Running.{is_new_bid, is_caught_up, has_news, can_send, sent_down, can_clear, is_new_price, names_a_bid, is_overtaken, waits}
use Rattle.pm_net.specs.Restarts.{can_rebuild, can_resend, can_tell_one}
use Rattle.pm_net.specs.TreeAuction.{add_to}
use Rattle.pm_net.proofs.small_networks_are_as_worked_out.Goals as goal

pub returns : goal.returns
unfolding parent is_leaf is_member changes update all_to is_new_bid is_caught_up has_news can_send sent_down can_clear is_new_price names_a_bid
    is_overtaken waits can_rebuild can_resend can_tell_one last_join add_to
returns c = record {
  repeated = refl;
  lost = refl;
  waits = refl;
  rebuilt = refl;
  dropped = refl;
  skipped_is_passed = refl;
  not_back = refl;
  goes_back = refl;
  stopped = (refl, refl, refl);
  sent_again = refl;
  untold = (refl, refl);
  told_again = refl;
  seems_full = (refl, refl);
}
