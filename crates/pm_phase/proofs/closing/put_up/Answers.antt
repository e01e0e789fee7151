-- Of `put_up`: what it ensures; that its numbers fit.
use Rattle.std.proofs.Common.{arith}
use Rattle.pm_phase.proofs.Placing.{same_length, in_range, puts_up}
use Rattle.pm_phase.proofs.EndsCome.{up_came}
use Rattle.pm_phase.proofs.closing.put_up.Goals as goal

pub index_mut-requires : goal.index_mut-requires
index_mut-requires c =
    let links = c.args.links.now in
    let places = c.args.places.now in
    omega (arith, places.ok.0, same_length links places.items c.requires.places, in_range links c.args.up.at c.args.up.end.link c.requires.up)

pub returns : goal.returns
returns c =
    let up = c.args.up in
    let places = c.args.places.now.items in
    record {
      places = puts_up c.args.links.now places up.at c.index_mut.result.now up.end c.requires.places c.requires.up c.index_mut.ensures.value;
      from = λ nodes here from.
          up_came nodes places up.at c.index_mut.result.now up.end
          (omega (arith, same_length c.args.links.now places c.requires.places, in_range c.args.links.now up.at up.end.link c.requires.up))
          c.index_mut.ensures.value here from;
    }
