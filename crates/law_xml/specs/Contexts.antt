-- What stands before a token: whole items, and then the start tags of elements that are open, each with content behind it
-- (XML 1.0, sections 3 and 3.1; RFC 6120, sections 4.2 to 4.4 and 4.9.3.14).
use Rattle.std.specs.Prelude.{ℕ, ◌≡◌, ◌+◌, ◌≤◌, ◌⊎◌, false, List, [], ◌∷◌, ◌++◌, length}
use Rattle.xml_tokens.specs.Tags as tokens
use Rattle.xml_names.specs.Grammar.{IsStart, IsWithin}
use Rattle.xml_names.specs.Scopes.{Scope}
use Rattle.xml_names.specs.Starts.{Tag}
use Rattle.xml_trees.specs.Trees.{Nodes, depth_below}
use Rattle.xml_framer.specs.TagSteps.{tag_limits}
use Rattle.xml_framer.specs.declared.items.Item.{Item}
use Rattle.xml_framer.specs.declared.limits.Limits.{Limits}
use Rattle.xml_framer.specs.declared.states.Phase.{Phase}
use Rattle.xml_framer.specs.declared.states.Phase.TheVariants as phase
use Rattle.law_xml.specs.Spells.{IsHeaderName, SpellsContent}
use Rattle.law_xml.specs.StreamLimits.{IsStreamWithin}
use Rattle.law_xml.specs.Streams.{InForce, StreamTo}
use Rattle.law_xml.specs.Within.{AreTagsWithinContent}

-- What the faults of a token depend on beside its bytes: what may follow the items so far, the name of the last header,
-- the names of the open elements, the innermost first, and the scope inside the innermost. Names are as they are spelled.
pub record Context : Type 0 where
  pub phase : Phase
  pub name : List ℕ
  pub opens : List (List ℕ)
  pub scope : Scope

-- Bytes are the start tag of an element with this name, inside a scope and inside elements of these names, and content
-- behind it. They are within the limits. A tag with a header's name would be a header at the top.
pub record OpensElement (limits : Limits) (outer : List (List ℕ)) (around scope : Scope) (name bytes : List ℕ) : Type 0 where
  pub raw : List tokens.Attribute
  pub tag : Tag
  pub start : List ℕ
  pub inside : List ℕ
  pub kids : Nodes
  pub is_start : IsStart around start raw tag
  pub not_empty : tag.empty ≡ false
  pub name_is : tag.spelled ≡ name
  pub scope_is : scope ≡ tag.bindings ++ around
  pub content : SpellsContent (tag.bindings ++ around) inside kids
  pub no_header : outer ≡ [] → ¬ (IsHeaderName tag.ns tag.name)
  pub bytes_are : bytes ≡ start ++ inside
  pub tag_within : IsWithin (tag_limits limits) raw tag
  pub tags_within : AreTagsWithinContent (tag_limits limits) (tag.bindings ++ around) inside kids content
  pub shallow : length outer + (depth_below kids + 1) ≤ limits.depth

-- Inside a scope, bytes open elements of these names, the innermost first, and this is the scope inside the innermost.
abbrev pub AreOpen : Limits → Scope → List (List ℕ) → Scope → List ℕ → Type 0
AreOpen limits base [] scope bytes = (scope ≡ base) × (bytes ≡ [])
AreOpen limits base (name ∷ outer) scope bytes =
    (around : Scope) × (front : List ℕ) × (level : List ℕ) × AreOpen limits base outer around front × OpensElement limits outer around scope name level × (bytes ≡ front ++ level)

-- Bytes are whole items, within the limits, and open elements.
pub record HasContext (limits : Limits) (c : Context) (bytes : List ℕ) : Type 0 where
  pub now : InForce
  pub items : List Item
  pub done : List ℕ
  pub opened : List ℕ
  pub stream : StreamTo now done items
  pub within : IsStreamWithin limits now done items stream
  pub phase_is : now.phase ≡ c.phase
  pub name_is : now.name ≡ c.name
  pub are_open : AreOpen limits now.scope c.opens c.scope opened
  pub between : (c.opens ≡ []) ⊎ (c.phase ≡ phase.Between)
  pub short : length opened ≤ limits.bytes
  pub bytes_are : bytes ≡ done ++ opened
