-- Of `Cluster::state_after`: what it ensures; that its numbers fit.
use Rattle.std.proofs.Common.{◌≡◌, ◌∙◌, sym, ap, pos, inl, inr, arith}
use Rattle.std.proofs.lemmas.List.{length-map}
use Rattle.std.specs.Prelude.{slice_index_or}
use Rattle.pm_device.specs.declared.state.DeviceState.{DeviceState}
use Rattle.pm_device.specs.declared.kind.Kind.{Kind}
use Rattle.pm_plan.specs.Auction.{power}
use Rattle.pm_plan.specs.Plans.{end_cut}
use Rattle.pm_plan.specs.States.{state, changed_state}
use Rattle.pm_cluster.specs.ClusterFields.{core_of}
use Rattle.pm_cluster.proofs.DeviceFields.{placed, state_read, state_made}
use Rattle.pm_cluster.proofs.cluster.Cluster.state_after.Goals as goal

pub index-requires : goal.index-requires
index-requires c = omega (
  arith,
  placed c.self.inside c.self.invariant c.args.self.now c.self.view_is c.args.device.0 c.requires.leaf,
  c.self.invariant.places.all_states,
  length-map c.self.inside.states.items (λ (z : DeviceState). z.0),
)

pub returns-in-Join : goal.returns-in-Join
returns-in-Join c =
    let d = c.args.device.0 in
    let plan = c.self.inside.plan.now in
    let kept = slice_index_or (core_of c.self.inside).states d (pos 0) in
    let before = power plan (state plan) (end_cut plan c.self.inside.closed) d in
    let read = state_read c.self.inside c.self.invariant c.args.self.now c.self.view_is d c.requires.leaf _ c.index.ensures in
    let same : (kind : Kind) → kept ≡ changed_state kind kept before c.args.what = λ kind. elim c.in-Join.is [
      | inl join ↦ ap (changed_state kind kept before) (sym join)
      | inr leave ↦ ap (changed_state kind kept before) (sym leave)
    ] in
    record {
      state = state_made c.self.inside c.self.invariant c.args.self.now c.self.view_is d c.args.what c.requires.leaf c.requires.due c.index.result.now.0
          (λ kind is. read ∙ same kind);
    }

pub returns-in-Set : goal.returns-in-Set
returns-in-Set c =
    let d = c.args.device.0 in
    let plan = c.self.inside.plan.now in
    let kept = slice_index_or (core_of c.self.inside).states d (pos 0) in
    let before = power plan (state plan) (end_cut plan c.self.inside.closed) d in
    record {
      state = state_made c.self.inside c.self.invariant c.args.self.now c.self.view_is d c.args.what c.requires.leaf c.requires.due c.in-Set.state.0
          (λ kind is. ap (changed_state kind kept before) (sym c.in-Set.is));
    }
