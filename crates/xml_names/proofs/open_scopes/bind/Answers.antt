use Rattle.std.proofs.Common.{◌≡◌, [], ◌∷◌, ◌++◌, Some, rules, ap, ◌∙◌}
use Rattle.std.proofs.lemmas.Map.Text.{btree_map_updates_text}
use Rattle.std.specs.BTreeMap.{get_by_text}
use Rattle.xml_names.proofs.BoundNames.{changed, unchanged}
use Rattle.xml_names.specs.Bound.{items_in}
use Rattle.xml_names.proofs.open_scopes.bind.Goals as goal

pub returns-then-is_err-clause-err : goal.returns-then-is_err-clause-err
returns-then-is_err-clause-err c =
    let w = c.push.new.self in
    let sets = btree_map_updates_text c.args.prefix.now c.args.index.now (c.get_mut.follows.lender w) _ ((c.get_mut.follows.holds w).3 (search rules)) in
    let kept : w.items ≡ c.in-Some.names.now.items = search rules in
    unchanged (get_by_text c.args.index.now) (get_by_text (c.get_mut.follows.lender w)) c.args.prefix.now (Some w) sets (kept ∙ ap items_in c.in-Some.ensures.value)

pub returns-else-is_err-clause-ok : goal.returns-else-is_err-clause-ok
returns-else-is_err-clause-ok c =
    let ns = c.args.ns in
    let w = c.push.new.self in
    let sets = btree_map_updates_text c.args.prefix.now c.args.index.now (c.get_mut.follows.lender w) _ ((c.get_mut.follows.holds w).3 (search rules)) in
    let grown : w.items ≡ c.in-Some.names.now.items ++ ns ∷ [] = search rules in
    changed (get_by_text c.args.index.now) (get_by_text (c.get_mut.follows.lender w)) c.args.prefix.now (Some w) (λ names. names ++ ns ∷ []) sets (grown ∙ ap (λ o. items_in o ++ ns ∷ []) c.in-Some.ensures.value)
