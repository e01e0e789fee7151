-- Of `Market::known_row`: what it ensures.
use Rattle.std.proofs.Common.{◌<◌, ◌≤◌, ap, sym, ◌∙◌, [], map, length, ℕ, arith, inl, inr}
use Rattle.std.proofs.lemmas.Bool.{cases_lt}
use Rattle.std.proofs.lemmas.List.{get_or_past, length-map}
use Rattle.std.proofs.Math.Path.{fun_ext}
use Rattle.pm_market.specs.Market.{market_lists, market_state}
use Rattle.pm_base.specs.Cuts.{cut_of}
use Rattle.pm_base.specs.Rows.{rows_of}
use Rattle.pm_market.specs.Lists.{nodes}
use Rattle.pm_market.proofs.Tree.{parent_past, leaf_past}
use Rattle.pm_market.proofs.Loops.{known_past}
use Rattle.pm_market.proofs.market.Market.known_row.Goals as goal

pub returns : goal.returns
returns c =
    let m = c.args.self.now in
    let lists = market_lists m in
    let s = market_state m in
    let row = c.loop-device.row in
    fun_ext (λ (d : ℕ). elim (cases_lt d c.loop-device.device) [
      | inl lt ↦ c.loop-device.invariant.numbers d lt
      | inr ge ↦
          let past : nodes lists < d = omega arith in
          let leaf : length lists.leaves < d = omega arith in
          let rows : length (map (λ rows. rows.items) m.published.items) ≤ d = omega (arith, length-map m.published.items (λ rows. rows.items)) in
          get_or_past row.items d 0 (omega arith)
          ∙ sym (known_past lists s.published s.learnt c.args.node d (parent_past lists d past) (leaf_past lists d leaf)
          (ap (λ rows. map cut_of (rows_of rows)) (get_or_past (map (λ rows. rows.items) m.published.items) d [] rows)) m.none_above)
    ])
