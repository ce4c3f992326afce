-- Which bytes spell an element, a header or a footer, in the grammar's words (XML 1.0, sections 3 and 3.1; Namespaces in
-- XML 1.0, sections 3 to 6; RFC 6120, sections 4.4, 4.7 and 4.8).
use Rattle.std.specs.Prelude.{ℕ, ◌≡◌, true, false, List, [], ◌∷◌, ◌++◌, map, codes}
use Rattle.xml_tokens.specs.Tags as tokens
use Rattle.xml_tokens.specs.Tags.{end_tag, IsTag}
use Rattle.xml_names.specs.Grammar.{IsStart}
use Rattle.xml_names.specs.Headers.{header_of}
use Rattle.xml_names.specs.Scopes.{Scope}
use Rattle.xml_names.specs.Starts.{Tag}
use Rattle.xml_names.specs.declared.headers.Header.{Header}
use Rattle.xml_names.specs.declared.scopes.Binding.{Binding}
use Rattle.xml_trees.specs.Attributes.{Attribute, IsAttrsOf}
use Rattle.xml_framer.specs.Expanded.{attribute_of}
use Rattle.xml_writer.specs.Canon.{client_namespace, streams_namespace}
use Rattle.law_xml.specs.Texts.{IsText}
use Rattle.xml_trees.specs.Tidied.{text_node}
use Rattle.xml_framer.specs.declared.items.Item.{Item}
use Rattle.xml_framer.specs.declared.items.Item.TheVariants as item
use Rattle.xml_trees.specs.Trees.{Elem, element, Nodes, no_nodes, child, joined, namespace_of, name_of}

-- The element that a start tag begins, with these nodes inside: the attributes are the tag's, in the order of their
-- names.
pub record IsBegun (t : Tag) (kids : Nodes) (e : Elem) : Type 0 where
  pub attributes : List Attribute
  pub sorted : IsAttrsOf (map attribute_of t.attributes) attributes
  pub is : e ≡ element t.ns t.name attributes kids

mutual
  -- Bytes spell an element inside a scope: EmptyElemTag, or STag content ETag (3). Start tag and end tag have one name
  -- (3, Element Type Match), and the scope inside begins with what the start tag declares.
  pub data Spells : Scope → List ℕ → Elem → Type 0 where
    empty : (scope : Scope) (bytes : List ℕ) (e : Elem) (raw : List tokens.Attribute) (t : Tag)
        → IsStart scope bytes raw t → t.empty ≡ true → IsBegun t no_nodes e → Spells scope bytes e
    filled : (scope : Scope) (bytes : List ℕ) (e : Elem) (raw : List tokens.Attribute) (t : Tag) (start inside close : List ℕ) (kids : Nodes)
        → IsStart scope start raw t → t.empty ≡ false → SpellsContent (t.bindings ++ scope) inside kids → IsTag close (end_tag t.spelled)
        → bytes ≡ start ++ (inside ++ close) → IsBegun t kids e → Spells scope bytes e

  -- Bytes spell nodes inside a scope: a text, and elements with a text behind each (3.1, content). A text that says
  -- nothing is no node.
  pub data SpellsContent : Scope → List ℕ → Nodes → Type 0 where
    text_alone : (scope : Scope) (bytes : List ℕ) (kids : Nodes) (says : List ℕ) → IsText bytes says → kids ≡ text_node says → SpellsContent scope bytes kids
    with_element : (scope : Scope) (bytes : List ℕ) (kids : Nodes) (front says middle rest : List ℕ) (e : Elem) (more : Nodes)
        → IsText front says → Spells scope middle e → SpellsContent scope rest more → bytes ≡ front ++ (middle ++ rest)
        → kids ≡ joined (text_node says) (child e more) → SpellsContent scope bytes kids

-- the name of a header
abbrev pub IsHeaderName : List ℕ → List ℕ → Type 0
IsHeaderName ns name = (ns ≡ streams_namespace) × (name ≡ codes "stream")

-- Bytes spell an element between header and footer. A tag with a header's name would be a header there.
pub record SpellsTop (scope : Scope) (bytes : List ℕ) (e : Elem) : Type 0 where
  pub spelled : Spells scope bytes e
  pub no_header : ¬ (IsHeaderName (namespace_of e) (name_of e))

-- Bytes are the tag of a header, with this name as it is spelled, and declare a scope. Scopes begin anew there.
pub record SpellsHeader (bytes name : List ℕ) (scope : Scope) (h : Header) : Type 0 where
  pub raw : List tokens.Attribute
  pub tag : Tag
  pub start : IsStart [] bytes raw tag
  pub not_empty : tag.empty ≡ false
  pub name_is : tag.spelled ≡ name
  pub scope_is : tag.bindings ≡ scope
  pub says : h ≡ header_of tag

-- The same behind another header: inside the scope in force, and what the tag itself declares, the tag has a header's
-- name.
pub record SpellsNextHeader (scope : Scope) (bytes name : List ℕ) (inner : Scope) (h : Header) : Type 0 where
  pub spelled : SpellsHeader bytes name inner h
  pub raw : List tokens.Attribute
  pub tag : Tag
  pub start : IsStart scope bytes raw tag
  pub named : IsHeaderName tag.ns tag.name

-- Bytes are a header's tag that is one of an empty element: it is header and footer together, and spells neither alone.
pub record SpellsEmptyHeader (bytes name : List ℕ) (scope : Scope) (h : Header) : Type 0 where
  pub raw : List tokens.Attribute
  pub tag : Tag
  pub start : IsStart [] bytes raw tag
  pub is_empty : tag.empty ≡ true
  pub name_is : tag.spelled ≡ name
  pub scope_is : tag.bindings ≡ scope
  pub says : h ≡ header_of tag

-- The same behind another header, as in `SpellsNextHeader`.
pub record SpellsNextEmptyHeader (scope : Scope) (bytes name : List ℕ) (inner : Scope) (h : Header) : Type 0 where
  pub spelled : SpellsEmptyHeader bytes name inner h
  pub raw : List tokens.Attribute
  pub tag : Tag
  pub start : IsStart scope bytes raw tag
  pub named : IsHeaderName tag.ns tag.name

-- Bytes are the footer behind a header with this name as it is spelled.
abbrev pub SpellsFooter : List ℕ → List ℕ → Type 0
SpellsFooter bytes name = IsTag bytes (end_tag name)

-- Bytes spell an item behind a header that was read, whose scope and spelled name these are. A header's place is not
-- spelled.
pub data SpellsItem : Scope → List ℕ → List ℕ → Item → Type 0 where
  a_header : (scope : Scope) (name bytes : List ℕ) (i : Item) (next : List ℕ) (inner : Scope) (at : ℕ) (h : Header)
      → SpellsNextHeader scope bytes next inner h → i ≡ item.Header at h → SpellsItem scope name bytes i
  an_element : (scope : Scope) (name bytes : List ℕ) (i : Item) (e : Elem) → SpellsTop scope bytes e → i ≡ item.Element e → SpellsItem scope name bytes i
  a_footer : (scope : Scope) (name bytes : List ℕ) (i : Item) → SpellsFooter bytes name → i ≡ item.Footer → SpellsItem scope name bytes i

-- the item with the place of its first byte, where it has one
abbrev pub placed : ℕ → Item → Item
placed at (item.Header other h) = item.Header at h
placed at (item.Element e) = item.Element e
placed at item.Footer = item.Footer

-- two items are one, but for the place of a header
abbrev pub IsSameItem : Item → Item → Type 0
IsSameItem i j = placed 0 i ≡ placed 0 j

abbrev pub bind : List ℕ → List ℕ → Binding
bind prefix ns = record { prefix = prefix; ns = ns }

-- the scope of a header that is written
abbrev pub written_scope : Scope
written_scope = bind [] client_namespace ∷ bind (codes "stream") streams_namespace ∷ []

-- what a header that is written says: it is the stream's header, with these values
abbrev pub as_written : Header → Header
as_written h = record {
  ns = streams_namespace;
  name = codes "stream";
  content = client_namespace;
  to = h.to;
  from = h.from;
  id = h.id;
  version = h.version;
  lang = h.lang;
}
