-- A market that froze.
use Rattle.std.proofs.Common.{refl}
use Rattle.pm_market.specs.Lists.{parent, is_leaf, is_member, changes}
use Rattle.pm_market.specs.State.{update, all_to}
use Rattle.pm_market.specs.Held.{last_join}
use Rattle.pm_net.specs.Running.{is_new_bid, is_caught_up, has_news, can_send, sent_down, can_clear, is_new_price, names_a_bid, is_overtaken, waits}
use Rattle.pm_net.specs.Restarts.{can_rebuild, can_resend, can_tell_one}
use Rattle.pm_net.specs.TreeAuction.{add_to}
use Rattle.pm_rounds.proofs.Frozen.{never_settles}
use Rattle.pm_rounds.proofs.rounds_need_all_sent.Goals as goal

pub returns-clause-frozen : goal.returns-clause-frozen
unfolding parent is_leaf is_member changes update all_to is_new_bid is_caught_up has_news can_send sent_down can_clear is_new_price names_a_bid
    is_overtaken waits can_rebuild can_resend can_tell_one last_join add_to
returns-clause-frozen c = (refl, refl, refl, refl, refl, refl, refl, refl, refl, refl)

pub returns-clause-never : goal.returns-clause-never
returns-clause-never c rounds are settled = never_settles rounds are settled

pub returns-clause-mended : goal.returns-clause-mended
unfolding parent is_leaf is_member changes update all_to is_new_bid is_caught_up has_news can_send sent_down can_clear is_new_price names_a_bid
    is_overtaken waits can_rebuild can_resend can_tell_one last_join add_to
returns-clause-mended c = refl
