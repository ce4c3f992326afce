use Rattle.std.proofs.Common.{◌≡◌, [], ◌∷◌, ◌++◌, Some, string_bytes, rules, sym, ap, ◌∙◌}
use Rattle.std.proofs.lemmas.Map.Text.{btree_map_updates_text}
use Rattle.std.specs.BTreeMap.{get_by_text}
use Rattle.xml_names.proofs.BoundNames.{changed}
use Rattle.xml_names.proofs.open_scopes.begin.Goals as goal

pub returns-clause-ok : goal.returns-clause-ok
returns-clause-ok c =
    let ns = c.args.ns in
    let key : string_bytes c.in_ok-from_str.field-0 ≡ c.args.prefix.now = search rules in
    let sets = btree_map_updates_text (string_bytes c.in_ok-from_str.field-0) c.args.index.now c.insert.new.self _ c.in_ok-insert.ensures.updates in
    changed (get_by_text c.args.index.now) (get_by_text c.insert.new.self) c.args.prefix.now (Some c.push.new.self) (λ names. names ++ ns ∷ []) (rw key at sets)
    (c.in_ok-push.ensures.items ∙ ap (λ xs. xs ++ ns ∷ []) (c.in_ok-names.ensures.items ∙ sym c.requires))
