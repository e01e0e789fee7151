-- Each run computes.
use Rattle.std.proofs.Common.{refl}
use Rattle.pm_market.specs.Lists.{parent, is_leaf, is_member, changes}
use Rattle.pm_market.specs.State.{update, all_to}
use Rattle.pm_net.specs.Running.{is_new_bid, is_caught_up, has_news, can_send, sent_down, can_clear, is_new_price, names_a_bid}
use Rattle.pm_net.specs.TreeAuction.{add_to}
use Rattle.pm_net.proofs.devices.small_devices_are_as_worked_out.Goals as goal

pub returns : goal.returns
unfolding parent is_leaf is_member changes update all_to is_new_bid is_caught_up has_news can_send sent_down can_clear is_new_price names_a_bid add_to
returns c = record { told = refl; left = refl; joined_again = refl; again = refl; let_go = (refl, refl, refl); back = refl }
