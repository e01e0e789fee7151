-- Each run computes.
use Rattle.std.proofs.Common.{refl}
use Rattle.pm_bid.specs.Taken.{said_between}
use Rattle.pm_market.specs.Lists.{parent, is_leaf, is_member, changes}
use Rattle.pm_market.specs.State.{update, all_to}
use Rattle.pm_market.specs.Held.{last_join}
use Rattle.pm_net.specs.Running.{is_new_bid, is_caught_up, has_news, can_send, sent_down, can_clear, is_new_price, names_a_bid, is_overtaken, waits}
use Rattle.pm_net.specs.Restarts.{can_rebuild, can_resend, can_tell_one, can_pass_to_one}
use Rattle.pm_net.specs.TreeAuction.{add_to}
use Rattle.pm_net.proofs.limits_change_as_worked_out.Goals as goal

pub returns : goal.returns
unfolding said_between parent is_leaf is_member changes update all_to is_new_bid is_caught_up has_news can_send sent_down can_clear is_new_price
    names_a_bid is_overtaken waits can_rebuild can_resend can_tell_one can_pass_to_one last_join add_to
returns c =
    record { by_its_limits = refl; not_before = refl; next_bid = refl; next_price = refl; sent_again = refl; no_news = refl; guarded = refl; again = refl }
