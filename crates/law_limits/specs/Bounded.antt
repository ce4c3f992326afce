-- Elements that a client reads as they are written: plain ones, whose start tags are within its limits, of so many bytes
-- and so deep (RFC 6120, section 4.9.3.14).
use Rattle.std.specs.Prelude.{ℕ, ◌≡◌, ◌≢◌, ◌≤◌, ◌&&◌, nat_le, not, Bool, true, List, codes, length}
use Rattle.std.specs.List.{AllByRecursion, list_all}
use Rattle.std.specs.Str.{bytes_eq}
use Rattle.xml_framer.specs.Limits.{client_limits}
use Rattle.xml_framer.specs.TagSteps.{tag_limits}
use Rattle.law_xml.specs.Fitting.{Fits, NodesFit, TagsFit}
use Rattle.law_xml.specs.Plain.{ArePlainNodes, IsPlain, IsPlainAttribute, IsPlainElement, IsPlainName}
use Rattle.xml_names.specs.Scopes.{xmlns_namespace}
use Rattle.xml_names.specs.declared.limits.TagLimits.{TagLimits}
use Rattle.law_limits.specs.Elements.{are_local, attributes_size, element_size, nodes_size}
use Rattle.law_limits.specs.Texts.{is_printable, value_size}
use Rattle.xml_tokens.specs.Characters.{is_named}
use Rattle.xml_tokens.specs.Lines.{IsCharacters}
use Rattle.xml_trees.specs.Attributes.{Attribute}
use Rattle.xml_trees.specs.Trees.{Elem, IsTree, Nodes, depth, depth_below}

abbrev pub client_tags : TagLimits
client_tags = tag_limits client_limits

-- a plain tree that a client reads as it is written, at the top
pub record ClientReads (e : Elem) : Type 0 where
  pub tree : IsTree e
  pub plain : IsPlain e
  pub fits : Fits client_limits e

-- ---- elements, where a default namespace is in force

pub record IsBounded (default : List ℕ) (levels most : ℕ) (e : Elem) : Type 0 where
  pub plain : IsPlainElement e
  pub tags : TagsFit client_tags default e
  pub shallow : depth e ≤ levels
  pub short : element_size default e ≤ most

pub record AreBounded (default : List ℕ) (levels most : ℕ) (ks : Nodes) : Type 0 where
  pub plain : ArePlainNodes ks
  pub tags : NodesFit client_tags default ks
  pub shallow : depth_below ks ≤ levels
  pub short : nodes_size default ks ≤ most

-- ---- names and attributes

-- names and namespaces that are written out
abbrev pub is_word : List ℕ → Bool
is_word name = list_all is_printable name && (is_named name && (nat_le (length name) 40 && not (bytes_eq name (codes "xmlns"))))

abbrev pub is_space : List ℕ → Bool
is_space ns = list_all is_printable ns && (nat_le (length ns) 40 && not (bytes_eq ns xmlns_namespace))

pub record IsWord (name : List ℕ) : Type 0 where
  pub plain : IsPlainName name
  pub short : length name ≤ 40
  pub other : name ≢ codes "xmlns"

pub record IsSpace (ns : List ℕ) : Type 0 where
  pub characters : IsCharacters ns
  pub short : value_size ns ≤ 240
  pub other : ns ≢ xmlns_namespace

-- at most so many attributes, of which each has no namespace or that of XML, and so many bytes
pub record BoundedAttributes (many most : ℕ) (attrs : List Attribute) : Type 0 where
  pub plain : AllByRecursion IsPlainAttribute attrs
  pub local : are_local attrs ≡ true
  pub few : length attrs ≤ many
  pub short : attributes_size attrs ≤ most
