-- Which bytes are a stream of which items, in the grammar's words (RFC 6120, sections 4.2 to 4.4, 11.5 and 11.7; XML 1.0,
-- section 2.8).
use Rattle.std.specs.Prelude.{ℕ, ◌-◌, ◌^◌, min, ◌≡◌, ◌⊎◌, true, List, [], ◌∷◌, ◌++◌, length}
use Rattle.xml_tokens.specs.Declarations.{declaration_of}
use Rattle.xml_tokens.specs.Tags.{are_white}
use Rattle.xml_tokens.specs.declared.declarations.Declaration.TheVariants as declaration
use Rattle.xml_names.specs.Scopes.{Scope}
use Rattle.xml_names.specs.declared.headers.Header.{Header}
use Rattle.law_xml.specs.Spells.{SpellsEmptyHeader, SpellsFooter, SpellsHeader, SpellsNextEmptyHeader, SpellsNextHeader, SpellsTop}
use Rattle.xml_trees.specs.Trees.{Elem}
use Rattle.xml_framer.specs.declared.items.Item.{Item}
use Rattle.xml_framer.specs.declared.items.Item.TheVariants as item
use Rattle.xml_framer.specs.declared.states.Phase.{Phase}
use Rattle.xml_framer.specs.declared.states.Phase.TheVariants as phase

-- The place of what begins behind so many bytes: a place is at most 2 ^ 64 - 1.
abbrev pub position_of : ℕ → ℕ
position_of count = min count (2 ^ 64 - 1)

-- What is in force behind the bytes of a stream so far: what may follow, and the scope and the name as it is spelled of
-- the last header.
pub record InForce : Type 0 where
  pub phase : Phase
  pub scope : Scope
  pub name : List ℕ

-- An XML declaration may stand before a header: before the first one, and behind another, where only a header may
-- follow (XML 1.0, 2.8; RFC 6120, 11.5).
abbrev pub IsDeclared : Phase → Phase → Type 0
IsDeclared before following = ((before ≡ phase.First) × (following ≡ phase.FirstDeclared)) ⊎ ((before ≡ phase.Between) × (following ≡ phase.Declared))

-- Bytes are the tag of a header that may stand there. The first tag of a stream is a header's whatever its name; behind
-- the footer none may stand (RFC 6120, 4.2 to 4.4).
abbrev pub SpellsHeaderIn : Phase → Scope → List ℕ → List ℕ → Scope → Header → Type 0
SpellsHeaderIn phase.First scope bytes name inner h = SpellsHeader bytes name inner h
SpellsHeaderIn phase.FirstDeclared scope bytes name inner h = SpellsHeader bytes name inner h
SpellsHeaderIn phase.Between scope bytes name inner h = SpellsNextHeader scope bytes name inner h
SpellsHeaderIn phase.Declared scope bytes name inner h = SpellsNextHeader scope bytes name inner h
SpellsHeaderIn phase.Ended scope bytes name inner h = ⊥

-- the same for the tag of an empty element
abbrev pub SpellsEmptyHeaderIn : Phase → Scope → List ℕ → List ℕ → Scope → Header → Type 0
SpellsEmptyHeaderIn phase.First scope bytes name inner h = SpellsEmptyHeader bytes name inner h
SpellsEmptyHeaderIn phase.FirstDeclared scope bytes name inner h = SpellsEmptyHeader bytes name inner h
SpellsEmptyHeaderIn phase.Between scope bytes name inner h = SpellsNextEmptyHeader scope bytes name inner h
SpellsEmptyHeaderIn phase.Declared scope bytes name inner h = SpellsNextEmptyHeader scope bytes name inner h
SpellsEmptyHeaderIn phase.Ended scope bytes name inner h = ⊥

-- Bytes are a stream of these items so far, and this is in force behind them. Each case adds what stands last.
pub data StreamTo : InForce → List ℕ → List Item → Type 0 where
  nothing : (now : InForce) (bytes : List ℕ) (items : List Item)
      → now.phase ≡ phase.First → now.scope ≡ [] → now.name ≡ [] → bytes ≡ [] → items ≡ [] → StreamTo now bytes items
  -- white space, anywhere between items and behind the last (11.7)
  white_space : (now : InForce) (bytes : List ℕ) (items : List Item) (front space : List ℕ)
      → StreamTo now front items → are_white space ≡ true → bytes ≡ front ++ space → StreamTo now bytes items
  declared : (now : InForce) (bytes : List ℕ) (items : List Item) (before : InForce) (front tag : List ℕ)
      → StreamTo before front items → IsDeclared before.phase now.phase → now.scope ≡ before.scope → now.name ≡ before.name
      → declaration_of tag ≡ declaration.Good → bytes ≡ front ++ tag → StreamTo now bytes items
  -- a header, which has the place of its first byte (4.2), or another, which opens the stream anew (4.3.3)
  headed : (now : InForce) (bytes : List ℕ) (items : List Item) (before : InForce) (front tag : List ℕ) (given : List Item) (h : Header)
      → StreamTo before front given → SpellsHeaderIn before.phase before.scope tag now.name now.scope h → now.phase ≡ phase.Between
      → bytes ≡ front ++ tag → items ≡ given ++ item.Header (position_of (length front)) h ∷ [] → StreamTo now bytes items
  -- the tag of an empty element is header and footer (XML 1.0, 3.1)
  headed_and_ended : (now : InForce) (bytes : List ℕ) (items : List Item) (before : InForce) (front tag : List ℕ) (given : List Item) (h : Header)
      → StreamTo before front given → SpellsEmptyHeaderIn before.phase before.scope tag now.name now.scope h → now.phase ≡ phase.Ended
      → bytes ≡ front ++ tag → items ≡ given ++ item.Header (position_of (length front)) h ∷ item.Footer ∷ [] → StreamTo now bytes items
  -- an element, which a header's scope is around
  with_element : (now : InForce) (bytes : List ℕ) (items : List Item) (front inside : List ℕ) (given : List Item) (e : Elem)
      → StreamTo now front given → now.phase ≡ phase.Between → SpellsTop now.scope inside e
      → bytes ≡ front ++ inside → items ≡ given ++ item.Element e ∷ [] → StreamTo now bytes items
  -- the footer, which has the last header's name (4.4)
  ended : (now : InForce) (bytes : List ℕ) (items : List Item) (before : InForce) (front tag : List ℕ) (given : List Item)
      → StreamTo before front given → before.phase ≡ phase.Between → SpellsFooter tag before.name
      → now.phase ≡ phase.Ended → now.scope ≡ before.scope → now.name ≡ before.name
      → bytes ≡ front ++ tag → items ≡ given ++ item.Footer ∷ [] → StreamTo now bytes items

-- Bytes are a stream of these items so far.
abbrev pub IsStream : List ℕ → List Item → Type 0
IsStream bytes items = (now : InForce) × StreamTo now bytes items
