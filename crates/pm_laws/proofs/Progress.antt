-- While a phase is open some move is legal.
use Rattle.std.proofs.Common.{ℕ, ◌+◌, ◌<◌, Bool, true, cond, eqb, inl, inr, refl, sym, ◌∙◌, arith}
use Rattle.std.proofs.lemmas.Bool.{cases_Bool, cond-true, cond-false, eqb-true, eqb-false, both_ways}
use Rattle.pm_market.specs.Lists.{Lists, nodes, phases, is_leaf, Lawful, end_count}
use Rattle.pm_market.specs.State.{State, all_to}
use Rattle.pm_market.specs.Moves.{NodeLegal, Legal}
use Rattle.pm_market.specs.Sound.{Sound}
use Rattle.pm_market.specs.Legality.{is_idle}
use Rattle.pm_market.specs.declared.moves.Move.{Move}
use Rattle.pm_market.specs.declared.moves.Move.TheVariants.{Change, Learn, Publish, Clear, Pass, Close}
use Rattle.pm_market.proofs.Tree.{leaf_node}
use Rattle.pm_market.proofs.Cuts.{all_to_at}
use Rattle.pm_market.proofs.Cuts.{all_to_fails}
use Rattle.pm_laws.proofs.Legality.{idle_from, not_idle_move}

-- a node move is a move
pub node_legal : (lists : Lists) (s : State) (m : Move) → NodeLegal lists s m → Legal lists s m
node_legal lists s (Change d n) h = absurd h
node_legal lists s (Learn x n) h = h
node_legal lists s (Publish c n) h = h
node_legal lists s (Clear j) h = h
node_legal lists s (Pass x j) h = h
node_legal lists s (Close p) h = absurd h

-- in a sound state some move is legal as long as not all phases are closed
pub progress : (lists : Lists) → Lawful lists → (s : State) → Sound lists s → s.closed < phases lists → (m : Move) × Legal lists s m
progress lists law s sound open_now =
    let made : ℕ → Bool = λ d. cond (is_leaf lists d) (eqb (s.counts d) (end_count lists (s.closed + 1) d)) true in
    elim (cases_Bool (is_idle lists s)) [
      | inl idle ↦ elim (cases_Bool (all_to (nodes lists) made)) [
        | inl all ↦ (
          Close (s.closed + 1),
          (
            refl,
            omega arith,
            λ d leaf. let node = leaf_node lists law d leaf in eqb-true (s.counts d) (end_count lists (s.closed + 1) d)
                (sym (cond-true (is_leaf lists d) (eqb (s.counts d) (end_count lists (s.closed + 1) d)) true leaf)
                ∙ all_to_at (nodes lists) made all d node.0 node.1),
            idle_from lists s sound idle,
          ),
        )
        | inr some ↦
            let r = all_to_fails (nodes lists) made some in
            elim (cases_Bool (is_leaf lists r.0)) [
              | inl leaf ↦
                  let differs = eqb-false (s.counts r.0) (end_count lists (s.closed + 1) r.0)
                  (sym (cond-true (is_leaf lists r.0) (eqb (s.counts r.0) (end_count lists (s.closed + 1) r.0)) true leaf) ∙ r.3) in
                  let most = sound.counts_to open_now r.0 leaf in
                  (Change r.0 (s.counts r.0 + 1), (leaf, open_now, refl, omega arith))
              | inr none ↦ absurd
                  (both_ways true (sym (cond-false (is_leaf lists r.0) (eqb (s.counts r.0) (end_count lists (s.closed + 1) r.0)) true none) ∙ r.3) refl)
            ]
      ]
      | inr busy ↦ let r = not_idle_move lists s busy in (r.0, node_legal lists s r.0 r.1)
    ]
