-- Of `Window::answered`: what it ensures; what the type keeps.
use Rattle.std.proofs.Common.{sym, subst, refl}
use Rattle.pm_session.specs.Windows.{Keeps, WindowValue}
use Rattle.pm_session.specs.WindowFields.{window_of}
use Rattle.pm_session.proofs.Ring.{ring_of, record_answered, ring_answered, is_kept}
use Rattle.pm_session.proofs.window.Window.answered.Goals as goal

pub invariant_of-self : goal.invariant_of-self
invariant_of-self c =
    let P : WindowValue → Type 0 = λ window. Keeps window c.args.number in
    let keeps : Keeps (window_of c.self.inside) c.args.number = subst P (sym c.self.view_is) c.requires.kept in
    let ring = ring_answered c.self.inside.children c.self.inside.steps c.self.inside.places.items c.self.inside.answered
    c.self.inside.last c.args.number (ring_of c.self.inside c.self.invariant) keeps in
    record { size = ring.size; each = ring.each; sound = ring.sound }

pub returns : goal.returns
returns c =
    let P : WindowValue → Type 0 = λ window. Keeps window c.args.number in
    let keeps : Keeps (window_of c.self.inside) c.args.number = subst P (sym c.self.view_is) c.requires.kept in
    let kept = is_kept c.self.inside c.args.self.now c.args.number c.index.result.now c.self.invariant c.self.view_is c.requires.kept c.index.ensures in (
      (
        refl,
        (λ window. tt),
        rw (← c.self.view_is)
            (record_answered c.self.inside.children c.self.inside.steps c.self.inside.places.items c.self.inside.answered
            c.self.inside.last c.args.number (ring_of c.self.inside c.self.invariant) keeps),
      ),
      record { after = tt; sent = kept.sent; fits = kept.fits; number = kept.number },
    )
