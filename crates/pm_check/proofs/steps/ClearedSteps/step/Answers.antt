-- Of `ClearedSteps::step`: that its numbers fit.
use Rattle.std.proofs.Common.{◌≡◌, ◌∙◌, ◌-◌, ap, sym, List, ℕ, Vec, Global, length, map, get_or, arith}
use Rattle.std.proofs.lemmas.List.{get_or-map, length-map}
use Rattle.pm_check.proofs.steps.ClearedSteps.step.Goals as goal

pub index-requires-2 : goal.index-requires-2
index-requires-2 c =
    let rows = c.args.self.now.rows.items in
    let at = c.args.index - 1 in
    let row = c.index.result.now in
    let read : get_or (map (λ (r : Vec ℕ Global). r.items) rows) at row.items ≡ row.items =
    get_or-map (λ (r : Vec ℕ Global). r.items) rows at row row.items
    (omega (arith, c.requires.first, c.requires.last, length-map rows (λ (r : Vec ℕ Global). r.items)))
    ∙ ap (λ (r : Vec ℕ Global). r.items) (sym c.index.ensures) in
    let long = c.requires.rows at row.items (omega (arith, c.requires.first, c.requires.last)) in
    omega (arith, c.group_place.ensures.inside, ap (λ (l : List ℕ). length l) read, long, row.ok)
