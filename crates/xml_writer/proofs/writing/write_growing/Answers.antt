use Rattle.xml_trees.specs.Views.{elem_view}
use Rattle.xml_writer.specs.Canon.{client_namespace}
use Rattle.xml_writer.proofs.WeightLaws.{room_is_enough}
use Rattle.xml_writer.proofs.writing.write_growing.Goals as goal

pub put_element-requires : goal.put_element-requires
put_element-requires c =
    let enough = c.in_ok-make_room.ensures.ok in
    room_is_enough client_namespace (elem_view c.element-element.result.now) c.element_room.result c.make_room.new.out.spare c.element_room.ensures enough.0 enough.1
