use Rattle.std.proofs.Common.{None, sym}
use Rattle.std.proofs.lemmas.Map.Text.{btree_map_updates_text}
use Rattle.std.specs.BTreeMap.{get_by_text}
use Rattle.xml_names.proofs.BoundNames.{unchanged}
use Rattle.xml_names.proofs.open_scopes.forget.Goals as goal

pub returns : goal.returns
returns c =
    unchanged (get_by_text c.args.index.now) (get_by_text c.remove.new.self) c.args.prefix.now None (btree_map_updates_text c.args.prefix.now c.args.index.now c.remove.new.self _ c.remove.ensures.updates) (sym c.requires)
