-- Data forms (XEP-0004, section 3): the first child `x` of a payload, and its fields.
use Rattle.std.specs.Prelude.{ℕ, Bool, false, ◌&&◌, List, [], ◌∷◌, Option, Some, None, codes, find}
use Rattle.std.specs.Option.{option_and_then, option_map}
use Rattle.std.specs.Str.{bytes_eq}
use Rattle.im_payload.specs.Names.{data_forms}
use Rattle.im_payload.specs.Shapes.{child_text_or_empty}
use Rattle.im_stanza.specs.Stanzas.{attr_named}
use Rattle.im_payload.specs.Writing.{text_child}
use Rattle.xml_trees.specs.Attributes.{attribute}
use Rattle.xml_trees.specs.Readers.{child_of, elements_of, is_named}
use Rattle.xml_trees.specs.Trees.{Elem, element, nodes_of}

-- a text is there, and is this one
abbrev pub is_given : List ℕ → Option (List ℕ) → Bool
is_given wanted None = false
is_given wanted (Some given) = bytes_eq given wanted

abbrev pub is_field : Elem → Bool
is_field e = is_named data_forms (codes "field") e

-- a field without `var` has no name
abbrev pub has_var : List ℕ → Elem → Bool
has_var name field = is_given name (attr_named (codes "var") field)

abbrev pub is_field_of : List ℕ → Elem → Bool
is_field_of name e = is_field e && has_var name e

-- of several fields of one name the first counts
abbrev pub field_of : List ℕ → Elem → Option Elem
field_of name form = find (is_field_of name) (elements_of (nodes_of form))

-- the text of a field, empty where it has no value
abbrev pub value_of : Elem → List ℕ
value_of field = child_text_or_empty data_forms (codes "value") field

abbrev pub value_in : List ℕ → Elem → Option (List ℕ)
value_in name form = option_map value_of (field_of name form)

abbrev pub form_of : Elem → Option Elem
form_of e = child_of data_forms (codes "x") e

-- the text of the field of this name, where there are a form and such a field
abbrev pub field_value : List ℕ → Elem → Option (List ℕ)
field_value name e = option_and_then (value_in name) (form_of e)

-- what is written of a field
abbrev pub field_elem : List ℕ → List ℕ → Elem
field_elem name given = element data_forms (codes "field") (attribute [] (codes "var") name ∷ []) (text_child data_forms (codes "value") given)

abbrev pub field_where : List ℕ → Option (List ℕ) → Option Elem
field_where name given = option_map (field_elem name) given

-- the field that tells what the form is for (XEP-0068, section 3.1)
abbrev pub form_type_elem : List ℕ → Elem
form_type_elem given =
    element data_forms (codes "field") (attribute [] (codes "type") (codes "hidden") ∷ attribute [] (codes "var") (codes "FORM_TYPE") ∷ []) (text_child data_forms (codes "value") given)
