-- Of `Window::record`: what it ensures.
use Rattle.pm_session.proofs.Ring.{is_kept}
use Rattle.pm_session.proofs.window.Window.record.Goals as goal

pub returns : goal.returns
returns c =
    let kept = is_kept c.self.inside c.args.self.now c.args.number c.index.result.now c.self.invariant c.self.view_is c.requires.kept c.index.ensures in
    record { «record» = kept.sent; fits = kept.fits; number = kept.number }
