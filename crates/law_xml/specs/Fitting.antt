-- Trees and headers that fit into the limits of a framer as they are written (RFC 6120, section 4.9.3.14: what a stream
-- holds may be limited).
use Rattle.std.specs.Prelude.{ℕ, ◌+◌, ◌≤◌, ◌≡◌, true, List, Option, Some, None, length}
use Rattle.std.specs.List.{AllByRecursion}
use Rattle.xml_tokens.specs.Spelling.{spelled_value}
use Rattle.xml_names.specs.Grammar.{IsShort}
use Rattle.xml_names.specs.declared.headers.Header.{Header}
use Rattle.xml_names.specs.declared.limits.TagLimits.{TagLimits}
use Rattle.xml_trees.specs.Attributes.{Attribute}
use Rattle.xml_trees.specs.Trees.{Elem, Nodes, child, depth, element, no_nodes, text}
use Rattle.xml_framer.specs.TagSteps.{tag_limits}
use Rattle.xml_framer.specs.declared.limits.Limits.{Limits}
use Rattle.xml_writer.specs.Canon.{canon, client_namespace, declares_default, default_inside, is_foreign, tag_attributes, written_header}
use Rattle.law_xml.specs.Spells.{written_scope}

-- the escaped name of a namespace is within the limit
abbrev pub IsShortName : TagLimits → List ℕ → Type 0
IsShortName limits ns = length (spelled_value ns) ≤ limits.namespace_bytes

-- an attribute with a numbered prefix declares its namespace
abbrev pub IsShortAttribute : TagLimits → Attribute → Type 0
IsShortAttribute limits a = is_foreign a ≡ true → IsShortName limits a.ns

-- A start tag fits, where a default namespace is in force: as it is written it has no more attributes than the limit,
-- declarations counted, and each namespace that it declares has a short name.
pub record TagFits (limits : TagLimits) (default ns : List ℕ) (attrs : List Attribute) : Type 0 where
  pub attributes : length (tag_attributes default ns attrs) ≤ limits.attributes
  pub declared : declares_default default ns ≡ true → IsShortName limits ns
  pub prefixed : AllByRecursion (IsShortAttribute limits) attrs

-- each start tag of an element fits, and of nodes
abbrev mutual
  pub TagsFit : TagLimits → List ℕ → Elem → Type 0
  TagsFit limits default (element ns name attrs kids) = TagFits limits default ns attrs × NodesFit limits (default_inside default ns) kids

  pub NodesFit : TagLimits → List ℕ → Nodes → Type 0
  NodesFit limits default no_nodes = Unit {0}
  NodesFit limits default (child e rest) = TagsFit limits default e × NodesFit limits default rest
  NodesFit limits default (text t rest) = NodesFit limits default rest

-- An element fits as it is written at the top. One without elements in it has depth 1.
pub record Fits (limits : Limits) (e : Elem) : Type 0 where
  pub short : length (canon e) ≤ limits.bytes
  pub shallow : depth e ≤ limits.depth
  pub tags : TagsFit (tag_limits limits) client_namespace e

-- ---- headers

abbrev pub given_count : Option (List ℕ) → ℕ
given_count None = 0
given_count (Some value) = 1

-- how many attributes a written header has: those that are there, and two declarations
abbrev pub header_count : Header → ℕ
header_count h = given_count h.from + (given_count h.id + (given_count h.to + (given_count h.version + (given_count h.lang + 2))))

-- a header fits as it is written
pub record HeaderFits (limits : Limits) (h : Header) : Type 0 where
  pub short : length (written_header h) ≤ limits.bytes
  pub attributes : header_count h ≤ limits.attributes
  pub declared : AllByRecursion (IsShort limits.namespace_bytes) written_scope
