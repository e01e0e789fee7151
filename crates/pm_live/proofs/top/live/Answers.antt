-- Of `live`: its clause `due`.
use Rattle.std.proofs.Common.{rules}
use Rattle.pm_live.proofs.Moved.{due_at}
use Rattle.pm_live.proofs.top.live.Goals as goal

pub returns-in-Some-clause-due : goal.returns-in-Some-clause-due
returns-in-Some-clause-due g c = λ node all named told.
    let ends = c.live_peer.ensures.due node all named told in (
      ends.0,
      ends.1,
      due_at node all _ _ _ _ _ _ _ _ _ _ _ _ ends.0 (search rules) (search rules) (search rules) (search rules) ends.2,
    )
