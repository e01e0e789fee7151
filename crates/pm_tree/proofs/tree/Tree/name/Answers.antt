-- Of `Tree::name`: what it ensures.
use Rattle.std.proofs.Common.{◌∙◌, ap, sym, string_bytes, slice_get, List, ℕ, []}
use Rattle.std.specs.Option.{option_map}
use Rattle.std.proofs.lemmas.Option.{get_or_from_slice_get, slice_get-map}
use Rattle.pm_tree.specs.Entries.{names_of}
use Rattle.pm_tree.proofs.tree.Tree.name.Goals as goal

pub returns : goal.returns
returns c =
    let kept = rw c.self.view_is at c.self.invariant in
    let named = slice_get-map string_bytes c.self.inside.names.keys c.args.node.0 ∙ ap (option_map string_bytes) c.index.ensures in
    c.as_str.ensures.value
    ∙ sym (get_or_from_slice_get (names_of c.args.self.now) c.args.node.0 (string_bytes c.index.result.now) []
    (ap (λ (ns : List (List ℕ)). slice_get ns c.args.node.0) (sym kept.index.names_are) ∙ named))
