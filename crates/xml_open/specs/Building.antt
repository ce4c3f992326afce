-- What a tree under construction has read.
use Rattle.std.specs.Prelude.{map, reverse}
use Rattle.std.specs.Option.{option_map}
use Rattle.xml_open.specs.Nested.{covered}
use Rattle.xml_open.specs.Pieces.{Reading}
use Rattle.xml_open.specs.declared.building.Building.{Building}
use Rattle.xml_trees.specs.Views.{elem_view}

abbrev pub reading_of : Building → Reading
reading_of b = record {
  ns = b.ns;
  attr_ns = b.attr_ns;
  attr_name = b.attr_name;
  attrs = b.attrs.items;
  here = option_map elem_view b.here;
  below = map elem_view (covered b.around (reverse b.below.items));
}
