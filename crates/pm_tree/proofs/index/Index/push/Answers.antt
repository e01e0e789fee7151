-- Of `Index::push`: its clause `names`.
use Rattle.std.proofs.Common.{◌≡◌, ◌∙◌, ap, ◌++◌, ◌∷◌, [], List, ℕ, map, string_bytes, if◌then◌else◌, None}
use Rattle.std.specs.List.{position}
use Rattle.std.specs.Str.{bytes_eq}
use Rattle.std.proofs.lemmas.List.{map-append}
use Rattle.pm_tree.proofs.Named.{list_any-map, list_any-position}
use Rattle.pm_tree.proofs.index.Index.push.Goals as goal

pub returns-clause-names : goal.returns-clause-names
returns-clause-names c =
    let names = c.args.self.now.names.keys in
    let value = c.in_ok-from_str.field-0 in
    let same : string_bytes value ≡ c.args.name.now = c.in_ok-from_str.ensures.ok in
    let unknown : position (bytes_eq (string_bytes value)) (map string_bytes names) ≡ None =
    ap (λ (name : List ℕ). position (bytes_eq name) (map string_bytes names)) same ∙ c.requires in
    let absent = list_any-map (bytes_eq (string_bytes value)) string_bytes names
    ∙ list_any-position (bytes_eq (string_bytes value)) (map string_bytes names) unknown in
    let keys : c.insert.new.self.keys ≡ names ++ value ∷ [] = c.in_ok-insert.ensures.keys
    ∙ ap (λ b. if b then names else names ++ value ∷ []) absent in
    ap (map string_bytes) keys ∙ map-append string_bytes names (value ∷ []) ∙ ap (λ (name : List ℕ). map string_bytes names ++ name ∷ []) same
