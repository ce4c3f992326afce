-- Elements, headers and footers as they are written (RFC 6120, section 4; XML 1.0, sections 2.4 and 3.1; Namespaces in
-- XML 1.0, sections 3 to 6).
use Rattle.std.specs.Prelude.{ℕ, ◌+◌, ◌==◌, Bool, true, false, not, ◌||◌, if◌then◌else◌, List, [], ◌∷◌, ◌++◌, Option, Some, None, codes, map}
use Rattle.std.specs.Int.Digits.{digits_of}
use Rattle.std.specs.List.{flat_map}
use Rattle.std.specs.Str.{bytes_eq}
use Rattle.xml_tokens.specs.Spelling.{spelled_text, spelled_value}
use Rattle.xml_tokens.specs.Tags as tokens
use Rattle.xml_tokens.specs.Tags.{is_empty, tag_end}
use Rattle.xml_names.specs.Scopes.{xml_namespace}
use Rattle.xml_names.specs.declared.headers.Header.{Header}
use Rattle.xml_trees.specs.Attributes.{Attribute}
use Rattle.xml_trees.specs.Trees.{Elem, element, Nodes, no_nodes, child, text}

-- the content namespace of a written header, which is the default in force at the top
abbrev pub client_namespace : List ℕ
client_namespace = codes "jabber:client"

-- the namespace of a header and a footer (RFC 6120, section 4.8.1)
abbrev pub streams_namespace : List ℕ
streams_namespace = codes "http://etherx.jabber.org/streams"

-- ---- attributes

-- an attribute as it is spelled: its name with a prefix, and its value
abbrev pub spelled : List ℕ → List ℕ → tokens.Attribute
spelled name value = record { name = name; value = value }

-- a number in decimal
unfoldable pub number_text : ℕ → List ℕ
number_text n = if n == 0 then 48 ∷ [] else map (λ d. 48 + d) (digits_of 10 n)

-- an attribute with the prefix `a` and digits, and its declaration just before it
abbrev pub foreign : List ℕ → Attribute → List tokens.Attribute
foreign digits a = spelled (codes "xmlns:a" ++ digits) a.ns ∷ spelled (97 ∷ (digits ++ (58 ∷ a.name))) a.value ∷ []

-- An attribute without a namespace has no prefix, and one in the XML namespace has `xml`. Another has the prefix with
-- the number, which is declared just before it.
unfoldable pub spelled_attribute : ℕ → Attribute → List tokens.Attribute
spelled_attribute n a =
    if is_empty a.ns then spelled a.name a.value ∷ []
    else (if bytes_eq a.ns xml_namespace then spelled (codes "xml:" ++ a.name) a.value ∷ []
    else foreign (number_text n) a)

-- the attribute has a numbered prefix
abbrev pub is_foreign : Attribute → Bool
is_foreign a = not (is_empty a.ns || bytes_eq a.ns xml_namespace)

-- the number of the next prefix
unfoldable pub next_number : ℕ → Attribute → ℕ
next_number n a = if is_foreign a then n + 1 else n

abbrev pub spelled_attributes : ℕ → List Attribute → List tokens.Attribute
spelled_attributes n [] = []
spelled_attributes n (a ∷ more) = spelled_attribute n a ++ spelled_attributes (next_number n a) more

-- a space, the name, `=`, and the value in single quotes
unfoldable pub assignment : tokens.Attribute → List ℕ
assignment a = 32 ∷ (a.name ++ (61 ∷ 39 ∷ (spelled_value a.value ++ (39 ∷ []))))

abbrev pub assignments : List tokens.Attribute → List ℕ
assignments attributes = flat_map assignment attributes

-- ---- tags

-- an element's name: in the streams namespace with the prefix `stream`, and in the XML namespace with `xml`
unfoldable pub spelled_name : List ℕ → List ℕ → List ℕ
spelled_name ns name =
    if bytes_eq ns streams_namespace then codes "stream:" ++ name
    else (if bytes_eq ns xml_namespace then codes "xml:" ++ name else name)

-- An element of the namespace has a prefix: `stream` is bound by the header, and `xml` always is (Namespaces in XML 1.0,
-- section 3).
abbrev pub has_prefix : List ℕ → Bool
has_prefix ns = bytes_eq ns streams_namespace || bytes_eq ns xml_namespace

-- The default namespace is declared where it isn't the one in force. A name with a prefix doesn't need it.
abbrev pub declares_default : List ℕ → List ℕ → Bool
declares_default default ns = not (has_prefix ns || bytes_eq ns default)

unfoldable pub declared_default : List ℕ → List ℕ → List tokens.Attribute
declared_default default ns = if declares_default default ns then spelled (codes "xmlns") ns ∷ [] else []

-- the default in force inside an element
unfoldable pub default_inside : List ℕ → List ℕ → List ℕ
default_inside default ns = if has_prefix ns then default else ns

-- what a start tag declares and its attributes
abbrev pub tag_attributes : List ℕ → List ℕ → List Attribute → List tokens.Attribute
tag_attributes default ns attrs = declared_default default ns ++ spelled_attributes 0 attrs

-- a start tag but for its end
abbrev pub opened : List ℕ → List ℕ → List ℕ → List Attribute → List ℕ
opened default ns name attrs = 60 ∷ (spelled_name ns name ++ assignments (tag_attributes default ns attrs))

-- a start tag of an element that has something inside
abbrev pub written_start_tag : List ℕ → List ℕ → List ℕ → List Attribute → List ℕ
written_start_tag default ns name attrs = opened default ns name attrs ++ tag_end false

abbrev pub written_end_tag : List ℕ → List ℕ → List ℕ
written_end_tag ns name = 60 ∷ 47 ∷ (spelled_name ns name ++ (62 ∷ []))

abbrev pub has_nothing : Nodes → Bool
has_nothing no_nodes = true
has_nothing (child e rest) = false
has_nothing (text t rest) = false

-- the end of a start tag, and where there is something inside, that and an end tag
abbrev pub after_attributes : Bool → List ℕ → List ℕ → List ℕ → List ℕ
after_attributes true ns name inside = tag_end true
after_attributes false ns name inside = tag_end false ++ (inside ++ written_end_tag ns name)

-- an element where a default namespace is in force, and nodes
abbrev mutual
  pub written : List ℕ → Elem → List ℕ
  written default (element ns name attrs kids) =
      opened default ns name attrs ++ after_attributes (has_nothing kids) ns name (written_nodes (default_inside default ns) kids)

  pub written_nodes : List ℕ → Nodes → List ℕ
  written_nodes default no_nodes = []
  written_nodes default (child e rest) = written default e ++ written_nodes default rest
  written_nodes default (text t rest) = spelled_text t ++ written_nodes default rest

-- what is behind the attributes of a start tag with these nodes inside
abbrev pub written_inside : List ℕ → List ℕ → List ℕ → Nodes → List ℕ
written_inside default ns name kids = after_attributes (has_nothing kids) ns name (written_nodes (default_inside default ns) kids)

-- a top-level element as it is written
abbrev pub canon : Elem → List ℕ
canon e = written client_namespace e

-- ---- headers and footers

-- an attribute of a header, where it is there
abbrev pub written_given : List ℕ → Option (List ℕ) → List ℕ
written_given name None = []
written_given name (Some value) = assignment (spelled name value)

-- a header (RFC 6120, sections 4.7 and 4.8): what is there of these attributes, and the two declarations
abbrev pub written_header : Header → List ℕ
written_header h =
    codes "<stream:stream" ++ (written_given (codes "from") h.from ++ (written_given (codes "id") h.id ++ (written_given (codes "to") h.to
    ++ (written_given (codes "version") h.version ++ (written_given (codes "xml:lang") h.lang
    ++ codes " xmlns='jabber:client' xmlns:stream='http://etherx.jabber.org/streams'>")))))

-- a footer (RFC 6120, section 4.4)
abbrev pub written_footer : List ℕ
written_footer = codes "</stream:stream>"
