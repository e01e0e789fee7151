-- Of `price_of`: what it ensures; what the call of `price` requires.
use Rattle.std.proofs.Common.{rules, ◌≡◌, ◌∙◌, sym, ap, subst, ℕ, ◌<◌, List, FitsSigned, w64, Some, Option}
use Rattle.std.specs.Prelude.{◌==◌, find}
use Rattle.std.specs.Option.{option_map_or}
use Rattle.std.proofs.lemmas.Int.{to_z-of_z}
use Rattle.pm_basis.specs.Prices.{BasisValue, price_at}
use Rattle.pm_plan.specs.declared.end.LimitedLine.{LimitedLine}
use Rattle.pm_bill.proofs.EndShares.{found_holds}
use Rattle.pm_bill.proofs.charges.price_of.Goals as goal

-- the line that is found among those of the end
found : (group : ℕ) (lines now : List LimitedLine) (result : Option LimitedLine) (line : LimitedLine) → now ≡ lines →
    result ≡ find (λ l. l.node == group) now → result ≡ Some line → find (λ l. l.node == group) lines ≡ Some line
found group lines now result line same is some = ap (find (λ (l : LimitedLine). l.node == group)) (sym same) ∙ sym is ∙ some

pub price-requires : goal.price-requires
price-requires c =
    let inside = found_holds (λ (line : LimitedLine). line.step < c.args.plan.now.basis.steps) (λ line. line.node == c.args.group)
    c.args.end.now.end.limited c.in-Some.line
    (found c.args.group _ _ _ _ c.limited.ensures c.line_of.ensures c.in-Some.is) c.requires in
    subst (λ (basis : BasisValue). c.in-Some.line.step < basis.steps) (sym c.basis.ensures.basis) inside

pub returns-in-Some : goal.returns-in-Some
returns-in-Some c =
    let fits : FitsSigned w64 c.price.result = search rules in
    to_z-of_z w64 c.price.result fits
    ∙ c.price.ensures.price
    ∙ ap (λ (basis : BasisValue). price_at basis c.in-Some.line.step) c.basis.ensures.basis
    ∙ sym (ap (λ (line : Option LimitedLine). option_map_or (λ l. price_at c.args.plan.now.basis l.step) line c.args.end.now.end.price)
    (found c.args.group _ _ _ _ c.limited.ensures c.line_of.ensures c.in-Some.is))
