-- Of `Market::due_row`: its clause `due`; the turns of its loop over `node`.
use Rattle.std.proofs.Common.{◌≡◌, ◌∙◌, ap, ℕ, List, [], ◌∷◌, ◌++◌, length, get_or, below_more, arith}
use Rattle.std.proofs.lemmas.List.{get_or_append_left, get_or_push}
use Rattle.pm_market.proofs.market.Market.due_row.Goals as goal

pub loop-node-preserved : goal.loop-node-preserved
loop-node-preserved c =
    let row : List ℕ = c.loop-node.row.items in
    let long : length row ≡ c.loop-node.node = omega (arith, c.loop-node.invariant.length, c.loop-node.row.ok) in
    let pushed : c.push.new.self.items ≡ row ++ c.due_once.result ∷ [] = c.in_ok-push.ensures.items in
    record {
      length = omega (arith, c.loop-node.invariant.length, c.in_ok-push.ensures.len);
      due = below_more _ _
          (λ x low. ap (λ (xs : List ℕ). get_or xs x 0) pushed ∙ get_or_append_left row _ 0 x (omega (arith, low, long))
          ∙ c.loop-node.invariant.due x low)
          (ap (λ (xs : List ℕ). get_or xs c.loop-node.node 0) pushed ∙ get_or_push row _ 0 c.loop-node.node long ∙ c.due_once.ensures);
    }

pub returns-clause-due : goal.returns-clause-due
returns-clause-due c x within =
    let m = c.args.self.now in
    c.loop-node.invariant.due x (omega (arith, within, c.loop-node-test.false, c.len-node-end.ensures, m.due_of_each, m.parents.ok))
