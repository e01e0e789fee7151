-- Of `put_down`: what it ensures; that its numbers fit.
use Rattle.std.proofs.Common.{arith}
use Rattle.pm_phase.proofs.Placing.{same_length, in_range, puts_down}
use Rattle.pm_phase.proofs.EndsCome.{down_came}
use Rattle.pm_phase.proofs.closing.put_down.Goals as goal

pub index_mut-requires : goal.index_mut-requires
index_mut-requires c =
    let links = c.args.links.now in
    let places = c.args.places.now in
    omega (arith, places.ok.0, same_length links places.items c.requires.places, in_range links c.args.down.at c.args.down.end.link c.requires.down)

pub returns : goal.returns
returns c =
    let down = c.args.down in
    let places = c.args.places.now.items in
    record {
      places = puts_down c.args.links.now places down.at c.index_mut.result.now down.end c.requires.places c.requires.down c.index_mut.ensures.value;
      from = λ nodes here from.
          down_came nodes places down.at c.index_mut.result.now down.end
          (omega (arith, same_length c.args.links.now places c.requires.places, in_range c.args.links.now down.at down.end.link c.requires.down))
          c.index_mut.ensures.value here from;
    }
