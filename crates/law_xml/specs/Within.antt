-- Spellings within the limits of a framer (RFC 6120, section 4.9.3.14: what a stream holds may be limited): how many bytes
-- an item takes, how deep its elements lie in one another, how many attributes a tag has, and how long the name of a
-- declared namespace is.
use Rattle.std.specs.Prelude.{ℕ, ◌<◌, ◌≤◌, ◌^◌, ◌++◌, List, length}
use Rattle.xml_tokens.specs.Tags as tokens
use Rattle.xml_names.specs.Grammar.{IsWithin}
use Rattle.xml_names.specs.Scopes.{Scope}
use Rattle.xml_names.specs.Starts.{Tag}
use Rattle.xml_names.specs.declared.headers.Header.{Header}
use Rattle.xml_names.specs.declared.limits.TagLimits.{TagLimits}
use Rattle.law_xml.specs.Spells.{Spells, SpellsContent, SpellsHeader, SpellsNextHeader, empty, filled, text_alone, with_element}
use Rattle.xml_framer.specs.TagSteps.{tag_limits}
use Rattle.xml_trees.specs.Trees.{Elem, Nodes, depth}
use Rattle.xml_framer.specs.declared.limits.Limits.{Limits}

-- Each start tag of a spelled element is within limits, and each in what it contains.
abbrev mutual
  pub AreTagsWithin : (limits : TagLimits) (scope : Scope) (bytes : List ℕ) (e : Elem) → Spells scope bytes e → Type 0
  AreTagsWithin limits scope bytes e (empty _ _ _ raw t start is_empty begun) = IsWithin limits raw t
  AreTagsWithin limits scope bytes e (filled _ _ _ raw t front inside close kids start not_empty content end bytes_are begun) =
      IsWithin limits raw t × AreTagsWithinContent limits (t.bindings ++ scope) inside kids content

  pub AreTagsWithinContent : (limits : TagLimits) (scope : Scope) (bytes : List ℕ) (kids : Nodes) → SpellsContent scope bytes kids → Type 0
  AreTagsWithinContent limits scope bytes kids (text_alone _ _ _ says is_text kids_are) = Unit {0}
  AreTagsWithinContent limits scope bytes kids (with_element _ _ _ front says middle rest e more is_text spelled content bytes_are kids_are) =
      AreTagsWithin limits scope middle e spelled × AreTagsWithinContent limits scope rest more content

-- A spelled element is within the limits. One without elements in it has depth 1.
pub record IsElementWithin (limits : Limits) (scope : Scope) (bytes : List ℕ) (e : Elem) (spelled : Spells scope bytes e) : Type 0 where
  pub short : length bytes ≤ limits.bytes
  pub shallow : depth e ≤ limits.depth
  pub tags : AreTagsWithin (tag_limits limits) scope bytes e spelled

-- A header's tag, with these attributes as they are spelled, is within the limits.
pub record IsHeadWithin (limits : Limits) (bytes : List ℕ) (raw : List tokens.Attribute) (t : Tag) : Type 0 where
  pub short : length bytes ≤ limits.bytes
  pub tag : IsWithin (tag_limits limits) raw t

-- The same behind another header. Whether the tag is a header's is asked in the scope in force, under the largest limits
-- that there are: a limit on attributes and one on the names of namespaces are numbers of 32 bits.
pub record IsNextHeadWithin (limits : Limits) (bytes : List ℕ) (raw : List tokens.Attribute) (t : Tag) : Type 0 where
  pub head : IsHeadWithin limits bytes raw t
  pub attributes_fit : limits.attributes < 2 ^ 32
  pub names_fit : limits.namespace_bytes < 2 ^ 32

abbrev pub IsHeaderWithin : (limits : Limits) (bytes name : List ℕ) (scope : Scope) (h : Header) → SpellsHeader bytes name scope h → Type 0
IsHeaderWithin limits bytes name scope h spelled = IsHeadWithin limits bytes spelled.raw spelled.tag

abbrev pub IsNextHeaderWithin : (limits : Limits) (scope : Scope) (bytes name : List ℕ) (inner : Scope) (h : Header) → SpellsNextHeader scope bytes name inner h → Type 0
IsNextHeaderWithin limits scope bytes name inner h spelled = IsNextHeadWithin limits bytes spelled.spelled.raw spelled.spelled.tag
