-- Of `settled_lives_are_current`: its clauses.
use Rattle.std.proofs.Common.{sym, subst, ◌<◌, List}
use Rattle.std.specs.List.{AllPairs}
use Rattle.pm_net.specs.Agents.{Setpoint}
use Rattle.pm_lives.proofs.Living.{lives_stand}
use Rattle.pm_lives.proofs.Settling.{current_world, is_reached, is_taken, handed_settled, handed_taken}
use Rattle.pm_lives.proofs.settled_lives_are_current.Goals as goal

pub returns-clause-current : goal.returns-clause-current
returns-clause-current c lists p numbering start world new steps market started none live quiet =
    let all = lives_stand lists p numbering market c.systems_run_the_market.ensures.goes_on c.expiring_is_two_calls.ensures.relay
    c.expiring_is_two_calls.ensures.root c.systems_run_the_market.ensures.run start started world new steps none live in
    let has = c.systems_run_the_market.ensures.run lists p numbering start all.sys all.calls market started all.runs in
    let sent = c.systems_send_frames.ensures lists p numbering start all.sys all.calls market started all.runs in
    let law = c.systems_run_the_market.ensures.named lists p numbering all.calls all.sys market has in
    current_world lists p numbering market all.calls all.sys has sent law new all.stands quiet.up
    (handed_settled lists p numbering market all.calls all.sys has sent law new all.stands quiet.up quiet)
    (c.settled_systems_are_current.ensures.reached lists p numbering all.calls all.sys market has
    (is_reached lists p numbering market all.calls all.sys has sent law new all.stands quiet.up quiet)) steps all.up

pub returns-clause-taken : goal.returns-clause-taken
returns-clause-taken c lists p numbering start world new steps market started none live quiet =
    let all = lives_stand lists p numbering market c.systems_run_the_market.ensures.goes_on c.expiring_is_two_calls.ensures.relay
    c.expiring_is_two_calls.ensures.root c.systems_run_the_market.ensures.run start started world new steps none live in
    let has = c.systems_run_the_market.ensures.run lists p numbering start all.sys all.calls market started all.runs in
    let sent = c.systems_send_frames.ensures lists p numbering start all.sys all.calls market started all.runs in
    let law = c.systems_run_the_market.ensures.named lists p numbering all.calls all.sys market has in
    current_world lists p numbering market all.calls all.sys has sent law new all.stands quiet.up
    (handed_taken lists p numbering market all.calls all.sys has sent law new all.stands quiet.up quiet)
    (c.settled_systems_are_current.ensures.taken lists p numbering all.calls all.sys market has
    (is_taken lists p numbering market all.calls all.sys has sent law new all.stands quiet.up quiet)) steps all.up

pub returns-clause-flows : goal.returns-clause-flows
returns-clause-flows c lists p numbering world market = c.settled_systems_are_current.ensures.flows lists p numbering world.seen market

pub returns-clause-rising : goal.returns-clause-rising
returns-clause-rising c lists p numbering start world new steps d market started none live leaf once =
    let all = lives_stand lists p numbering market c.systems_run_the_market.ensures.goes_on c.expiring_is_two_calls.ensures.relay
    c.expiring_is_two_calls.ensures.root c.systems_run_the_market.ensures.run start started world new steps none live in
    let has = c.systems_run_the_market.ensures.run lists p numbering start all.sys all.calls market started all.runs in
    subst (λ (l : List Setpoint). AllPairs (λ (a b : Setpoint). a.index < b.index) l) (sym (all.stands.told d leaf))
    (c.systems_do_not_go_back.ensures.rising lists p numbering all.calls all.sys d has leaf (all.up d leaf once))
