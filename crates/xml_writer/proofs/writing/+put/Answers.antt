use Rattle.std.proofs.Common.{[], ◌∷◌}
use Rattle.xml_writer.specs.Canon.{written_end_tag, written_inside, written_nodes}
use Rattle.xml_trees.specs.Views.{nodes_view}
use Rattle.xml_writer.proofs.WrittenNodes.{inside_is, some_nodes, third_room, three_items, three_spare}
use Rattle.xml_writer.proofs.writing.+put.Goals as goal

pub put_inside-put_end-requires : goal.put_inside-put_end-requires
put_inside-put_end-requires t c =
    let kids = nodes_view c.args.children.now.items in
    let is = inside_is c.args.default.now c.default_inside.result.now c.args.ns.now c.args.name.now kids (some_nodes c.args.children.now c.if-is_empty.ensures) c.default_inside.ensures in
    third_room c.args.out.now.spare c.push_reserved-2.new.self.spare c.put_nodes.new.out.spare (62 ∷ []) (written_nodes c.default_inside.result.now kids) (written_end_tag c.args.ns.now c.args.name.now)
    (written_inside c.args.default.now c.args.ns.now c.args.name.now kids) is c.requires.1.1 c.push_reserved-2.ensures.spare c.put_nodes.ensures.spare

pub put_inside-returns-clause-items : goal.put_inside-returns-clause-items
put_inside-returns-clause-items t c =
    let kids = nodes_view c.args.children.now.items in
    let is = inside_is c.args.default.now c.default_inside.result.now c.args.ns.now c.args.name.now kids (some_nodes c.args.children.now c.if-is_empty.ensures) c.default_inside.ensures in
    three_items c.args.out.now.items c.push_reserved-2.new.self.items c.put_nodes.new.out.items c.put_end.new.out.items (62 ∷ []) (written_nodes c.default_inside.result.now kids) (written_end_tag c.args.ns.now c.args.name.now)
    (written_inside c.args.default.now c.args.ns.now c.args.name.now kids) is c.push_reserved-2.ensures.items c.put_nodes.ensures.items c.put_end.ensures.items

pub put_inside-returns-clause-spare : goal.put_inside-returns-clause-spare
put_inside-returns-clause-spare t c =
    let kids = nodes_view c.args.children.now.items in
    let is = inside_is c.args.default.now c.default_inside.result.now c.args.ns.now c.args.name.now kids (some_nodes c.args.children.now c.if-is_empty.ensures) c.default_inside.ensures in
    three_spare c.args.out.now.spare c.push_reserved-2.new.self.spare c.put_nodes.new.out.spare c.put_end.new.out.spare (62 ∷ []) (written_nodes c.default_inside.result.now kids) (written_end_tag c.args.ns.now c.args.name.now)
    (written_inside c.args.default.now c.args.ns.now c.args.name.now kids) is c.push_reserved-2.ensures.spare c.put_nodes.ensures.spare c.put_end.ensures.spare
