-- Of `Standing::change_devices`: its clause `done`; what the calls of `bounds` and `change_device` require; the turns of its loop over `number`.
use Rattle.std.proofs.Common.{◌≡◌, ◌∙◌, ◌-◌, ◌<◌, ap, sym, refl, Bool, true, false, length, arith}
use Rattle.std.specs.Prelude.{◌||◌}
use Rattle.pm_tree.specs.Entries.{is_leaf_at}
use Rattle.pm_plan.specs.Plans.{is_leaf, end_cut}
use Rattle.pm_base.specs.Cuts.{Cut}
use Rattle.pm_walk.specs.Standing.{cut_made}
use Rattle.pm_walk.proofs.Nodes.{end-other, end-zero}
use Rattle.pm_walk.proofs.Standings.{first_node, made-zero, along-more, along-passed, all_done}
use Rattle.pm_walk.proofs.standing.Standing.change_devices.Goals as goal
use Rattle.pm_walk.proofs.standing.Standing.change_devices.Goals.{then-is_leaf, else-is_leaf}

or_first : (a b : Bool) → (a || b) ≡ false → a ≡ false
or_first true b h = h
or_first false b h = refl

or_second : (a b : Bool) → (a || b) ≡ false → b ≡ false
or_second true b h = absurd (cc h)
or_second false b h = h

pub loop-number-init : goal.loop-number-init
loop-number-init c = record {
  along = record {
    stands = c.requires.stands;
    between = record {
      done = λ x below. first_node (cut_made c.args.self.now.progress) (end_cut c.args.plan.now c.args.phase) x below
          (made-zero c.args.plan.now c.args.self.now.progress c.requires.stands.progress ∙ sym (end-zero c.args.plan.now c.args.phase));
      left = λ x from. ap (λ (cut : Cut). cut x) c.requires.begun;
    };
    spare = c.requires.spare;
  };
  same = λ _. refl;
}

pub bounds-powers-number : goal.bounds-powers-number
bounds-powers-number c =
    omega (
      arith,
      c.requires.powers.one_each,
      c.tree-tree.ensures.sound.nodes.one_each,
      c.len-number-end.ensures.len,
      ap (λ e. length e) c.tree-tree.ensures.tree,
    )

pub change_device-changed-requires-clause-leaf : goal.change_device-changed-requires-clause-leaf
change_device-changed-requires-clause-leaf c =
    ap (λ e. is_leaf_at e c.loop-number.number) (sym c.tree-tree.ensures.tree) ∙ sym c.is_leaf.ensures ∙ c.if-is_leaf.true

pub change_device-changed-requires-clause-inside : goal.change_device-changed-requires-clause-inside
change_device-changed-requires-clause-inside c =
    omega (arith, c.tree-tree.ensures.sound.nodes.one_each, c.len-number-end.ensures.len, ap (λ e. length e) c.tree-tree.ensures.tree)

pub change_device-changed-requires-clause-begun : goal.change_device-changed-requires-clause-begun
change_device-changed-requires-clause-begun c = c.loop-number.invariant.along.between.left c.loop-number.number (omega arith)

pub loop-number-preserved : goal.loop-number-preserved
loop-number-preserved c =
    let plan = c.args.plan.now in
    let n = c.loop-number.number in
    let kept = c.loop-number.self in
    let spare = c.loop-number.spare in
    let after = end_cut plan c.args.phase in
    let before = end_cut plan (c.args.phase - 1) in
    elim c.if-is_leaf.branch [
      | then-is_leaf w ↦
          let made = w.change_device-changed.ensures in
          record {
            along = along-more plan n kept _ _ spare _ _ after before c.loop-number.invariant.along
                made.stands made.done made.others made.spare w.self-is w.spare-is;
            same = λ none.
                let neither = sym w.changed-is ∙ none in
                w.self-is ∙ made.same (or_second c.loop-number.changed _ neither)
                ∙ c.loop-number.invariant.same (or_first c.loop-number.changed _ neither);
          }
      | else-is_leaf w ↦
          let other : is_leaf plan n ≡ false = ap (λ e. is_leaf_at e n) (sym c.tree-tree.ensures.tree) ∙ sym c.is_leaf.ensures ∙ w.if-is_leaf.false in
          let is = c.tree-tree.ensures.sound in
          let none = end-other plan (c.args.phase - 1) n is other ∙ sym (end-other plan c.args.phase n is other) in
          record {
            along = along-passed plan n kept _ spare _ after before c.loop-number.invariant.along none w.self-is w.spare-is;
            same = λ none. w.self-is ∙ c.loop-number.invariant.same (sym w.changed-is ∙ none);
          }
    ]

pub returns-clause-done : goal.returns-clause-done
returns-clause-done c =
    let plan = c.args.plan.now in
    let all : length plan.nodes < c.loop-number.number =
    omega (arith, c.tree-tree.ensures.sound.nodes.one_each, c.len-number-end.ensures.len, ap (λ e. length e) c.tree-tree.ensures.tree) in
    all_done plan c.loop-number.self.progress c.loop-number.number c.args.phase (c.args.phase - 1) c.loop-number.invariant.along.between all
