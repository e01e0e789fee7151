-- Of `parts_of`: the turns of its loop over `line`.
use Rattle.std.proofs.Common.{◌≡◌, ◌∙◌, sym, ap, List, [], ◌∷◌, ◌++◌, map}
use Rattle.std.specs.Bool.{if◌then◌else◌}
use Rattle.std.specs.Result.{is_ok}
use Rattle.std.proofs.lemmas.List.{map-append}
use Rattle.pm_tree.specs.declared.entry.TreeEntry.{TreeEntry}
use Rattle.pm_tree.specs.Entries.{entry_of, entries_of, leaves_of}
use Rattle.pm_tree.proofs.Named.{leaves_of-more}
use Rattle.pm_plan.specs.Parts.{is_device, node_part}
use Rattle.pm_plan.specs.declared.parts.NodeSpec.{NodeSpec}
use Rattle.test_values.proofs.plans.parts_of.Goals as goal

-- one more node
more : (nodes new_nodes : List NodeSpec) (entries new_entries : List TreeEntry) (spec : NodeSpec) (entry : TreeEntry) →
    map is_device (map node_part nodes) ≡ leaves_of (entries_of entries) → is_device (node_part spec) ≡ entry.leaf →
    new_nodes ≡ nodes ++ spec ∷ [] → new_entries ≡ entries ++ entry ∷ [] →
    map is_device (map node_part new_nodes) ≡ leaves_of (entries_of new_entries)
more nodes new_nodes entries new_entries spec entry so_far leaf nodes_are entries_are =
    ap (λ all. map is_device (map node_part all)) nodes_are
    ∙ ap (map is_device) (map-append node_part nodes (spec ∷ []))
    ∙ map-append is_device (map node_part nodes) (node_part spec ∷ [])
    ∙ (λ i. so_far i ++ leaf i ∷ [])
    ∙ sym (ap (λ all. leaves_of (entries_of all)) entries_are
    ∙ ap leaves_of (map-append entry_of entries (entry ∷ []))
    ∙ leaves_of-more (entries_of entries) (entry_of entry))

pub loop-line-init : goal.loop-line-init
unfolding leaves_of
loop-line-init g c =
    ap (λ all. map is_device (map node_part all)) c.new-nodes.ensures.items ∙ sym (ap (λ all. leaves_of (entries_of all)) c.new-entries.ensures.items)

pub loop-line-preserved : goal.loop-line-preserved
loop-line-preserved g c =
    more c.loop-line.nodes.items _ c.loop-line.entries.items _ c.spec_of-spec.result c.entry_of-entry.result c.loop-line.invariant
    (sym (c.entry_of-entry.ensures ∙ c.is_leaf.ensures))
    (c.push-in-loop-line.ensures.items
    ∙ ap (λ pushed. if is_ok pushed then c.loop-line.nodes.items ++ c.spec_of-spec.result ∷ [] else c.loop-line.nodes.items)
    c.expect-in-loop-line.ensures)
    (c.push.ensures.items
    ∙ ap (λ pushed. if is_ok pushed then c.loop-line.entries.items ++ c.entry_of-entry.result ∷ [] else c.loop-line.entries.items) c.expect.ensures)
