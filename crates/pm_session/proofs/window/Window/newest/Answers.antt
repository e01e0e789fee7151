-- Of `Window::newest`: its clause `record`.
use Rattle.std.proofs.Common.{◌≡◌, ◌∙◌}
use Rattle.pm_session.specs.WindowFields.{record_in}
use Rattle.pm_session.proofs.Ring.{read_in, ring_of, newest_kept}
use Rattle.pm_session.proofs.window.Window.newest.Goals as goal

pub returns-clause-record : goal.returns-clause-record
returns-clause-record c =
    let read : c.index.result.now ≡ record_in c.self.inside.places.items c.self.inside.last =
    read_in c.self.inside.places.items c.self.inside.last c.index.result.now c.self.invariant.size c.index.ensures in
    rw (← c.self.view_is) (read ∙ newest_kept c.self.inside.children c.self.inside.steps c.self.inside.places.items
    c.self.inside.answered c.self.inside.last (ring_of c.self.inside c.self.invariant))
