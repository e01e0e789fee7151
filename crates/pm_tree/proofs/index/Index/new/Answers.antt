-- Of `Index::new`: what it ensures; what the call of `push` requires.
use Rattle.std.proofs.Common.{◌∙◌, ap, ◌++◌, ◌∷◌, [], map, string_bytes}
use Rattle.std.specs.List.{position}
use Rattle.std.specs.Str.{bytes_eq}
use Rattle.pm_tree.specs.Names.{auctioneer}
use Rattle.pm_tree.proofs.Rows.{IsIndexOf-nil, first_row}
use Rattle.pm_tree.proofs.index.Index.new.Goals as goal

pub push-requires : goal.push-requires
push-requires c = ap (λ keys. position (bytes_eq auctioneer) (map string_bytes keys)) c.new.ensures.empty

pub returns : goal.returns
returns c =
    IsIndexOf-nil _ _ (c.in_ok-push.ensures.names ∙ ap (λ keys. map string_bytes keys ++ auctioneer ∷ []) c.new.ensures.empty)
    (c.in_ok-push.ensures.nodes ∙ ap (λ rows. rows ++ first_row ∷ []) c.new-2.ensures.items)
