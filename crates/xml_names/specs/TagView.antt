-- What a tag that was read says.
use Rattle.xml_names.specs.Names.{with_prefix}
use Rattle.xml_names.specs.Starts.{Tag}
use Rattle.xml_names.specs.declared.starts.Tag as declared

abbrev pub tag_view : declared.Tag → Tag
tag_view t = record { spelled = with_prefix t.prefix t.name; ns = t.ns; name = t.name; attributes = t.attributes.items; bindings = t.bindings.items; empty = t.empty }
