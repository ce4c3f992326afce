use Rattle.std.proofs.Common.{◌≡◌, ◌-◌, Some, length, take, rules, ap, ◌∙◌}
use Rattle.std.proofs.lemmas.Map.Text.{btree_map_updates_text}
use Rattle.std.specs.BTreeMap.{get_by_text}
use Rattle.xml_names.proofs.BoundNames.{changed}
use Rattle.xml_names.specs.Bound.{items_in}
use Rattle.xml_names.proofs.open_scopes.shorten.Goals as goal

pub returns-in-Some-clause-others : goal.returns-in-Some-clause-others
returns-in-Some-clause-others c =
    let w = c.pop.new.self in
    let sets = btree_map_updates_text c.args.prefix.now c.args.index.now (c.get_mut.follows.lender w) _ ((c.get_mut.follows.holds w).3 (search rules)) in
    let shorter : w.items ≡ take (length c.in-Some.names.now.items - 1) c.in-Some.names.now.items = search rules in
    changed (get_by_text c.args.index.now) (get_by_text (c.get_mut.follows.lender w)) c.args.prefix.now (Some w) (λ names. take (length names - 1) names) sets
    (shorter ∙ ap (λ o. take (length (items_in o) - 1) (items_in o)) c.in-Some.ensures.value)
