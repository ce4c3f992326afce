-- The attribute of an element that an expanded one is.
use Rattle.xml_names.specs.declared.expansion.ExpandedAttribute.{ExpandedAttribute}
use Rattle.xml_trees.specs.Attributes.{Attribute, attribute}

-- the attribute of an element that one of its start tag is, its name expanded
abbrev pub attribute_of : ExpandedAttribute → Attribute
attribute_of a = attribute a.ns a.name a.value
