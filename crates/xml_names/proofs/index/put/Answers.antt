use Rattle.std.proofs.lemmas.Map.Text.{btree_map_updates_str}
use Rattle.xml_names.proofs.index.put.Goals as goal

pub returns : goal.returns
returns c = btree_map_updates_str c.args.prefix.now c.args.index.now c.insert.new.self _ c.in_ok-insert.ensures.updates
