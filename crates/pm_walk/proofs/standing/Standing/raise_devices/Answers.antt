-- Of `Standing::raise_devices`: its clause `done`; what the calls of `bounds` and `raise_device` require; the turns of its loop over `number`.
use Rattle.std.proofs.Common.{◌≡◌, ◌∙◌, ◌<◌, ap, sym, refl, true, false, length, arith, rules}
use Rattle.pm_tree.specs.Entries.{is_leaf_at}
use Rattle.pm_base.specs.Cuts.{cut_of}
use Rattle.pm_plan.specs.Plans.{is_leaf}
use Rattle.pm_walk.specs.Cuts.{device_cut}
use Rattle.pm_walk.specs.Standing.{cut_made}
use Rattle.pm_walk.proofs.DeviceCuts.{device-here, device-other, made-none, beyond-other, zero-other}
use Rattle.pm_walk.proofs.Standings.{first_node, made-zero, along-more, along-passed, all_between}
use Rattle.pm_walk.proofs.standing.Standing.raise_devices.Goals as goal
use Rattle.pm_walk.proofs.standing.Standing.raise_devices.Goals.{then-is_leaf, else-is_leaf}

pub loop-number-init : goal.loop-number-init
loop-number-init c =
    let plan = c.args.plan.now in
    let cut = cut_of c.args.cut.now in
    record {
      stands = c.requires.stands;
      between = record {
        done = λ x below. first_node (cut_made c.args.self.now.progress) (device_cut plan cut) x below
            (made-zero plan c.args.self.now.progress c.requires.stands.progress ∙ sym (device-other plan cut 0 (zero-other plan c.requires.stands.sound)));
        left = λ x from. refl;
      };
      spare = c.requires.spare;
    }

pub bounds-powers-at : goal.bounds-powers-at
bounds-powers-at c =
    omega (
      arith,
      c.requires.powers.one_each,
      c.tree-tree.ensures.sound.nodes.one_each,
      c.len-number-end.ensures.len,
      ap (λ e. length e) c.tree-tree.ensures.tree,
    )

pub raise_device-requires : goal.raise_device-requires
raise_device-requires c =
    let n = c.loop-number.number in
    let leaf : is_leaf c.args.plan.now n ≡ true = ap (λ e. is_leaf_at e n) (sym c.tree-tree.ensures.tree) ∙ sym c.is_leaf.ensures ∙ c.if-is_leaf.true in
    let before = c.loop-number.invariant.between.left n (omega arith) in
    record {
      leaf = leaf;
      inside = omega (arith, c.tree-tree.ensures.sound.nodes.one_each, c.len-number-end.ensures.len, ap (λ e. length e) c.tree-tree.ensures.tree);
      first = c.requires.first;
      stands = c.loop-number.invariant.stands;
      begun = omega (arith, before, c.requires.begun n leaf);
      rises = omega (arith, before, c.requires.rises n leaf, c.number_in_cut.ensures);
      planned = omega (arith, c.requires.planned n leaf, c.number_in_cut.ensures);
      used = search rules;
      spare = c.loop-number.invariant.spare;
    }

pub loop-number-preserved : goal.loop-number-preserved
loop-number-preserved c =
    let plan = c.args.plan.now in
    let n = c.loop-number.number in
    let kept = c.loop-number.self in
    let spare = c.loop-number.spare in
    let cut = cut_of c.args.cut.now in
    let before = cut_made c.args.self.now.progress in
    elim c.if-is_leaf.branch [
      | then-is_leaf w ↦
          let leaf : is_leaf plan n ≡ true = ap (λ e. is_leaf_at e n) (sym c.tree-tree.ensures.tree) ∙ sym c.is_leaf.ensures ∙ w.if-is_leaf.true in
          let raised = w.raise_device.ensures in
          let here = raised.done ∙ w.number_in_cut.ensures ∙ sym (device-here plan cut n leaf) in
          along-more plan n kept _ _ spare _ _ (device_cut plan cut) before c.loop-number.invariant
          raised.stands here raised.others raised.spare w.self-is w.spare-is
      | else-is_leaf w ↦
          let other : is_leaf plan n ≡ false = ap (λ e. is_leaf_at e n) (sym c.tree-tree.ensures.tree) ∙ sym c.is_leaf.ensures ∙ w.if-is_leaf.false in
          let is = c.tree-tree.ensures.sound in
          let none = made-none plan c.args.self.now.progress n is c.requires.stands.progress other ∙ sym (device-other plan cut n other) in
          along-passed plan n kept _ spare _ (device_cut plan cut) before c.loop-number.invariant none w.self-is w.spare-is
    ]

pub returns-clause-done : goal.returns-clause-done
returns-clause-done c =
    let plan = c.args.plan.now in
    let is = c.tree-tree.ensures.sound in
    let cut = cut_of c.args.cut.now in
    let n = c.loop-number.number in
    let all : length plan.nodes < n = omega (arith, is.nodes.one_each, c.len-number-end.ensures.len, ap (λ e. length e) c.tree-tree.ensures.tree) in
    all_between n c.loop-number.self.progress (device_cut plan cut) (cut_made c.args.self.now.progress) c.loop-number.invariant.between (λ x from.
    let other = beyond-other plan x is (omega arith) in
    made-none plan c.args.self.now.progress x is c.requires.stands.progress other ∙ sym (device-other plan cut x other))
