-- Of `may_tell`: what it ensures.
use Rattle.std.proofs.Common.{rules, ◌≡◌, ◌∙◌, sym, ap, Some, None, slice_get, length, refl, List}
use Rattle.std.proofs.lemmas.Int.{to_z-of_z}
use Rattle.std.proofs.lemmas.Option.{slice_get_read, slice_get_past}
use Rattle.std.proofs.lemmas.Bool.Decides.{Decides-ltb}
use Rattle.pm_guard.specs.Guards.{GuardData}
use Rattle.pm_guard.specs.declared.band.Band.{Band}
use Rattle.pm_guard.proofs.Ends.{may_tell_is, may_not_tell}
use Rattle.pm_guard.proofs.guard.Guard.may_tell.Goals as goal

pub returns-in-Some : goal.returns-in-Some
returns-in-Some c =
    let look = c.in-Some.ensures.lookup in
    let items = c.deref.result.now in
    let there : slice_get items c.args.child ≡ Some c.in-Some.held.now =
    slice_get_read items (length items) c.args.child c.in-Some.held.now refl ((Decides-ltb c.args.child (length items)).0 (sym look.0)) look.1 in
    let of_self : slice_get c.args.self.now.held c.args.child ≡ Some c.in-Some.held.now =
    sym (ap (λ (r : GuardData). slice_get r.held c.args.child) c.self.view_is) ∙ ap (λ (l : List (List Band)). slice_get l c.args.child)
    (sym c.deref.ensures.value) ∙ there in
    may_tell_is c.args.self.now c.args.child c.in-Some.held.now c.worst.result c.best.result c.most.result c.least.result c.args.low c.args.high
    c.room_for.result
    of_self c.worst.ensures.worst c.best.ensures.best c.most.ensures.most c.least.ensures.least (search (rules, to_z-of_z, c.room_for.ensures))

pub returns-in-None : goal.returns-in-None
returns-in-None c =
    let look = c.in-None.ensures.lookup in
    let items = c.deref.result.now in
    let there : slice_get items c.args.child ≡ None = slice_get_past items c.args.child look.3 in
    let of_self : slice_get c.args.self.now.held c.args.child ≡ None =
    sym (ap (λ (r : GuardData). slice_get r.held c.args.child) c.self.view_is) ∙ ap (λ (l : List (List Band)). slice_get l c.args.child)
    (sym c.deref.ensures.value) ∙ there in
    may_not_tell c.args.self.now c.args.child c.args.low c.args.high of_self
