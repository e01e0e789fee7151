-- Of `histories_keep_the_law`: what it ensures.
use Rattle.std.proofs.Common.{◌∙◌, sym}
use Rattle.pm_market.specs.State.{no_changes}
use Rattle.pm_lives.specs.Lives.{IsNewWorld}
use Rattle.pm_processes.proofs.Standing.{are_lives, follows_new}
use Rattle.pm_processes.specs.History.{life_steps}
use Rattle.pm_processes.proofs.histories_keep_the_law.Goals as goal

pub returns : goal.returns
returns c tree p numbering market around start started first last events none happen =
    let steps = life_steps tree p numbering first events last happen in
    let lived = are_lives tree p numbering market events first last
    (follows_new tree p numbering market first none.steps none.new_world.up) happen in
    let has = c.lists_are_there.ensures tree p numbering market around first.world last.world steps none.new_world lived in
    let none_there = none.new_world in
    let new : IsNewWorld has.pricing numbering first.world = record {
      up = none_there.up;
      limits = λ relay limits is. none_there.limits relay limits (sym (has.same_limits relay no_changes) ∙ is);
      relay_kept = none_there.relay_kept;
      root_kept = none_there.root_kept;
      agent_kept = none_there.agent_kept;
      bids_sent = none_there.bids_sent;
      prices_sent = none_there.prices_sent;
      setpoints = none_there.setpoints;
      let_go = none_there.let_go;
    } in
    let from = has.started start started in
    record {
      has = has;
      law = c.lives_keep_the_law.ensures.law has.lists has.pricing numbering start first.world last.world steps has.market from new has.live;
      current = λ settled. c.settled_lives_are_current.ensures.current has.lists has.pricing numbering start first.world last.world steps
          has.market from new has.live settled;
      taken = λ all. c.settled_lives_are_current.ensures.taken has.lists has.pricing numbering start first.world last.world steps
          has.market from new has.live all;
      flows = c.settled_lives_are_current.ensures.flows has.lists has.pricing numbering last.world has.market;
      rising = λ d leaf once. c.settled_lives_are_current.ensures.rising has.lists has.pricing numbering start first.world last.world steps d
          has.market from new has.live leaf once;
      learnt = λ relay conc. c.lives_keep_the_law.ensures.learnt has.lists has.pricing numbering first.world last.world steps new has.live
          relay conc;
    }
