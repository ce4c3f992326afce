use Rattle.std.proofs.Common.{◌-◌, ◌^◌}
use Rattle.xml_writer.specs.Canon.{written_end_tag, written_inside, written_nodes}
use Rattle.xml_trees.specs.Views.{nodes_view}
use Rattle.xml_writer.proofs.WrittenNodes.{inside_is, inside_length, some_nodes}
use Rattle.xml_writer.proofs.writing.+len.Goals as goal

pub inside_len-returns : goal.inside_len-returns
inside_len-returns t c =
    let kids = nodes_view c.args.children.now.items in
    let is = inside_is c.args.default.now c.default_inside.result.now c.args.ns.now c.args.name.now kids (some_nodes c.args.children.now c.if-is_empty.ensures) c.default_inside.ensures in
    inside_length c.nodes_len-inside.result c.end_len.result c.saturating_add.result c.saturating_add-2.result (2 ^ 64 - 1) (written_nodes c.default_inside.result.now kids) (written_end_tag c.args.ns.now c.args.name.now)
    (written_inside c.args.default.now c.args.ns.now c.args.name.now kids) is c.nodes_len-inside.ensures c.end_len.ensures c.saturating_add.ensures c.saturating_add-2.ensures
