-- Headers of streams (RFC 6120, sections 4.7 and 4.8).
use Rattle.std.specs.Prelude.{ℕ, Bool, ◌&&◌, if◌then◌else◌, List, [], ◌∷◌, Option, Some, None, codes, unwrap_or}
use Rattle.std.specs.Str.{bytes_eq}
use Rattle.xml_names.specs.Scopes.{first_bound, xml_namespace}
use Rattle.xml_names.specs.Starts.{Tag}
use Rattle.xml_names.specs.declared.expansion.ExpandedAttribute.{ExpandedAttribute}
use Rattle.xml_names.specs.declared.headers.Header.{Header}
use Rattle.xml_names.specs.declared.headers.HeaderValues.{HeaderValues}
use Rattle.xml_tokens.specs.Tags.{is_empty}

-- the value of the attribute with an expanded name
abbrev pub value_in : List ExpandedAttribute → List ℕ → List ℕ → Option (List ℕ)
value_in [] ns name = None
value_in (a ∷ more) ns name = if bytes_eq a.ns ns && bytes_eq a.name name then Some a.value else value_in more ns name

-- the content namespace: the default namespace that the tag declares
abbrev pub content_of : Tag → List ℕ
content_of t = unwrap_or (first_bound t.bindings []) []

abbrev pub opens_stream : Tag → Bool
opens_stream t = bytes_eq t.ns (codes "http://etherx.jabber.org/streams") && bytes_eq t.name (codes "stream")

-- what a tag says as a header: its attributes have no namespace, but `xml:lang`
abbrev pub header_of : Tag → Header
header_of t = record {
  ns = t.ns;
  name = t.name;
  content = content_of t;
  to = value_in t.attributes [] (codes "to");
  from = value_in t.attributes [] (codes "from");
  id = value_in t.attributes [] (codes "id");
  version = value_in t.attributes [] (codes "version");
  lang = value_in t.attributes xml_namespace (codes "lang");
}

-- ---- the values of a header's attributes, put in their places one by one

abbrev pub values_of : List ExpandedAttribute → HeaderValues
values_of attributes = record {
  to = value_in attributes [] (codes "to");
  from = value_in attributes [] (codes "from");
  id = value_in attributes [] (codes "id");
  version = value_in attributes [] (codes "version");
  lang = value_in attributes xml_namespace (codes "lang");
}

-- with a value in the place of the attribute that has this name and no namespace
abbrev pub plain_put : HeaderValues → List ℕ → List ℕ → HeaderValues
plain_put v name value =
    if bytes_eq name (codes "to") then record v { to = Some value }
    else (if bytes_eq name (codes "from") then record v { from = Some value }
    else (if bytes_eq name (codes "id") then record v { id = Some value }
    else (if bytes_eq name (codes "version") then record v { version = Some value } else v)))

-- with an attribute's value in its place, if it is one of a header
abbrev pub put : HeaderValues → ExpandedAttribute → HeaderValues
put v a =
    if is_empty a.ns then plain_put v a.name a.value
    else (if bytes_eq a.ns xml_namespace && bytes_eq a.name (codes "lang") then record v { lang = Some a.value } else v)

-- with the values of attributes in their places, the last one put first
abbrev pub all_put : List ExpandedAttribute → HeaderValues → HeaderValues
all_put [] v = v
all_put (a ∷ more) v = put (all_put more v) a
