-- Of `find_node`: what it ensures.
use Rattle.std.proofs.Common.{◌∙◌, string_bytes}
use Rattle.std.specs.Str.{bytes_eq}
use Rattle.pm_tree.proofs.Named.{position-map}
use Rattle.pm_tree.proofs.index.find_node.Goals as goal

pub returns-in-Some : goal.returns-in-Some
returns-in-Some c = c.in-Some.ensures.index ∙ position-map (bytes_eq c.args.name.now) string_bytes c.args.names.now.keys

pub returns-in-None : goal.returns-in-None
returns-in-None c = c.in-None.ensures.index ∙ position-map (bytes_eq c.args.name.now) string_bytes c.args.names.now.keys
