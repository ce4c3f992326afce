-- What a state knows of the bytes behind it: the stream of the items so far, and the bytes in hand.
use Rattle.std.proofs.Common.{◌≡◌, ℕ, ◌+◌, ◌^◌, ◌<◌, ◌≤◌, ◌⊎◌, Bool, true, false, if◌then◌else◌, List, [], ◌∷◌, ◌++◌, codes, length, take, Option, Some, None, arith, length-append}
use Rattle.xml_tokens.specs.Tags.{are_white, is_end}
use Rattle.xml_names.specs.Scopes.{Scope}
use Rattle.law_xml.proofs.OpenLevels.{AreCovered, OpenLevel}
use Rattle.law_xml.proofs.TextFronts.{Gathered, Seen}
use Rattle.law_xml.proofs.ReadCharacters.{Judged}
use Rattle.xml_framer.specs.Machine.{behind_byte}
use Rattle.law_xml.specs.Spells.{IsHeaderName}
use Rattle.xml_framer.specs.States.{OpenElement, State, Turn, admits_declaration, next_position}
use Rattle.law_xml.proofs.WithinParts.{AreShallow, IsCounted, StreamIn}
use Rattle.law_xml.specs.Streams.{InForce, position_of}
use Rattle.xml_framer.specs.TagSteps.{scope_in}
use Rattle.xml_tokens.specs.Lines.{line_ends}
use Rattle.xml_framer.specs.TextSteps.{kept_back}
use Rattle.xml_trees.specs.Trees.{name_of, namespace_of}
use Rattle.xml_framer.specs.declared.items.Item.{Item}
use Rattle.xml_framer.specs.declared.limits.Limits.{Limits}
use Rattle.xml_framer.specs.declared.states.Mode.{Mode}
use Rattle.xml_framer.specs.declared.states.Mode.TheVariants as mode
use Rattle.xml_framer.specs.declared.states.Phase.{Phase}
use Rattle.xml_framer.specs.declared.states.Phase.TheVariants as phase

-- what is in force by a state
abbrev pub in_force : Phase → List Scope → List ℕ → InForce
in_force p scopes name = record { phase = p; scope = scope_in scopes; name = name }

-- ---- outside elements

-- a token is in hand, behind the stream so far
pub record TokenIn (limits : Limits) (used : ℕ) (now : InForce) (items : List Item) (bytes token : List ℕ) (position : ℕ) : Type 0 where
  pub done : List ℕ
  pub stream : StreamIn limits now done items
  pub count : limits.bytes < 2 ^ 64 → IsCounted used done bytes
  pub bytes_are : bytes ≡ done ++ token
  pub position_is : position ≡ position_of (length done)

-- an end tag is in hand, of which white space behind the name is not kept
pub record FooterIn (limits : Limits) (now : InForce) (items : List Item) (bytes token : List ℕ) : Type 0 where
  pub done : List ℕ
  pub white : List ℕ
  pub stream : StreamIn limits now done items
  pub bytes_are : bytes ≡ done ++ (token ++ white)
  pub is_white : are_white white ≡ true
  pub whole : (white ≡ []) ⊎ (length now.name + 2 ≤ length token)

-- the tag in hand is no end tag
abbrev pub BeginsNoEnd : List ℕ → Type 0
BeginsNoEnd token = (2 ≤ length token) × (is_end token ≡ false)

abbrev pub Outside : Mode → State → ℕ → List Item → List ℕ → Type 0
Outside mode.Text s used items bytes = (s.token ≡ []) × (used ≡ 0) × (s.pending ≡ [] → StreamIn s.limits (in_force s.lexical.phase s.scopes s.name) bytes items)
Outside mode.Reference s used items bytes = ⊥
Outside mode.Opening s used items bytes = (s.token ≡ 60 ∷ []) × TokenIn s.limits used (in_force s.lexical.phase s.scopes s.name) items bytes s.token s.positions.token_at
Outside mode.Bang s used items bytes = used ≡ 0
Outside mode.Question s used items bytes = (admits_declaration s.lexical.phase ≡ true) × TokenIn s.limits used (in_force s.lexical.phase s.scopes s.name) items bytes s.token s.positions.token_at
Outside mode.Declaration s used items bytes = (admits_declaration s.lexical.phase ≡ true) × TokenIn s.limits used (in_force s.lexical.phase s.scopes s.name) items bytes s.token s.positions.token_at
Outside mode.Tag s used items bytes = BeginsNoEnd s.token × TokenIn s.limits used (in_force s.lexical.phase s.scopes s.name) items bytes s.token s.positions.token_at
Outside mode.Footer s used items bytes = (used ≡ 0) × (s.lexical.spoiled ≡ false → FooterIn s.limits (in_force s.lexical.phase s.scopes s.name) items bytes s.token)
Outside mode.Section s used items bytes = ⊥

-- ---- in an element

-- the top-level element is no header
abbrev pub TopIsNoHeader : OpenElement → List OpenElement → Type 0
TopIsNoHeader o [] = ¬ (IsHeaderName (namespace_of o.element) (name_of o.element))
TopIsNoHeader o (p ∷ ps) = TopIsNoHeader p ps

-- the stream so far, the open elements, and the bytes in hand behind the last tag
pub record Around (limits : Limits) (used : ℕ) (p : Phase) (scopes : List Scope) (name : List ℕ) (below : List OpenElement) (o : OpenElement) (items : List Item) (bytes hand : List ℕ) : Type 0 where
  pub between : p ≡ phase.Between
  pub base : List Scope
  pub own : Scope
  pub rest : List Scope
  pub scopes_are : scopes ≡ own ∷ rest
  pub top : TopIsNoHeader o below
  pub done : List ℕ
  pub outer : List ℕ
  pub level : List ℕ
  pub stream : StreamIn limits (in_force phase.Between base name) done items
  pub count : limits.bytes < 2 ^ 64 → IsCounted used done bytes
  pub fits : limits.bytes < 2 ^ 64 → used ≤ limits.bytes
  pub shallow : AreShallow limits.depth o below
  pub covered : AreCovered limits base rest below outer
  pub open_level : OpenLevel limits (scope_in rest) own o level
  pub bytes_are : bytes ≡ done ++ (outer ++ (level ++ hand))

-- a text is in hand
pub record TextIn (hand pending chars : List ℕ) (in_run returned : Bool) (brackets : ℕ) : Type 0 where
  pub whole : List ℕ
  pub hand_is : hand ≡ whole ++ pending
  pub judged : Judged hand pending
  pub seen : Seen whole chars (if in_run then returned else false) (if in_run then brackets else 0)

-- a token is in hand behind a text
pub record MarkIn (hand chars token : List ℕ) : Type 0 where
  pub text : List ℕ
  pub returned : Bool
  pub brackets : ℕ
  pub judged : Judged text []
  pub seen : Seen text chars returned brackets
  pub hand_is : hand ≡ text ++ token

-- a CDATA section is in hand behind a text
pub record SectionIn (hand pending chars : List ℕ) (returned : Bool) (brackets : ℕ) : Type 0 where
  pub text : List ℕ
  pub says : List ℕ
  pub text_returned : Bool
  pub text_brackets : ℕ
  pub seen : Seen text says text_returned text_brackets
  pub inside : List ℕ
  pub said : List ℕ
  pub whole : List ℕ
  pub whole_said : List ℕ
  pub whole_is : whole ≡ inside ++ kept_back brackets
  pub gathered : Gathered whole whole_said returned brackets
  pub inside_says : line_ends inside ≡ said
  pub whole_says : whole_said ≡ said ++ kept_back brackets
  pub few : brackets ≤ 2
  pub chars_are : chars ≡ says ++ said
  pub judged : Judged hand pending
  pub hand_is : hand ≡ text ++ (codes "<![CDATA[" ++ (whole ++ pending))

-- no run of text has begun behind the last tag or token
abbrev pub HasNoRun : State → Type 0
HasNoRun s = (s.lexical.returned ≡ false) × (s.lexical.brackets ≡ 0)

-- part of `<![CDATA[`
abbrev pub OpensSection : List ℕ → Type 0
OpensSection token = (token ≡ take (length token) (codes "<![CDATA[")) × (length token ≤ 8)

abbrev pub Inside : Mode → State → OpenElement → List Item → List ℕ → List ℕ → Type 0
Inside mode.Text s o items bytes hand = (s.token ≡ []) × TextIn hand s.pending s.chars s.lexical.in_run s.lexical.returned s.lexical.brackets
Inside mode.Reference s o items bytes hand = MarkIn hand s.chars (38 ∷ s.token)
Inside mode.Opening s o items bytes hand = (s.token ≡ 60 ∷ []) × HasNoRun s × MarkIn hand s.chars s.token
Inside mode.Bang s o items bytes hand = OpensSection s.token × HasNoRun s × MarkIn hand s.chars s.token
Inside mode.Question s o items bytes hand = ⊥
Inside mode.Declaration s o items bytes hand = ⊥
Inside mode.Tag s o items bytes hand = MarkIn hand s.chars s.token
Inside mode.Footer s o items bytes hand = ⊥
Inside mode.Section s o items bytes hand = (s.token ≡ []) × SectionIn hand s.pending s.chars s.lexical.returned s.lexical.brackets

abbrev pub Hand : Option OpenElement → Mode → State → ℕ → List Item → List ℕ → Type 0
Hand None m s used items bytes = (s.below ≡ []) × Outside m s used items bytes
Hand (Some o) m s used items bytes = (hand : List ℕ) × Around s.limits used s.lexical.phase s.scopes s.name s.below o items bytes hand × Inside m s o items bytes hand

-- ---- a state

-- the place of the next byte, and what no byte changes
pub record Kept (given : Limits) (at : ℕ) (spent : Bool) (limits : Limits) (bytes : List ℕ) : Type 0 where
  pub at_is : at ≡ position_of (length bytes)
  pub not_spent : spent ≡ false
  pub limits_are : limits ≡ given
  pub few_attributes : limits.attributes < 2 ^ 32
  pub short_namespaces : limits.namespace_bytes < 2 ^ 32

pub record Read (given : Limits) (t : Turn) (bytes : List ℕ) : Type 0 where
  pub kept : Kept given t.state.positions.at t.state.lexical.spent t.state.limits bytes
  pub hand : Hand t.state.here t.state.lexical.mode t.state t.state.positions.used t.items bytes

-- what is so behind bytes, unless there is a fault
abbrev pub Explained : Limits → Turn → List ℕ → Type 0
Explained given t bytes = t.state.fault ≡ None → Read given t bytes

-- the same behind one byte more, which is still to be passed
abbrev pub After : Limits → ℕ → List ℕ → Turn → Type 0
After given b bytes u = Explained given (behind_byte u b) (bytes ++ b ∷ [])

pub kept_on : (given : Limits) (at : ℕ) (spent : Bool) (limits : Limits) (bytes : List ℕ) (b : ℕ) → Kept given at spent limits bytes → Kept given (next_position at) spent limits (bytes ++ b ∷ [])
kept_on given at spent limits bytes b k = record {
  at_is = let h = k.at_is in let n = length-append bytes (b ∷ []) in (rw n (omega (arith, h)));
  not_spent = k.not_spent;
  limits_are = k.limits_are;
  few_attributes = k.few_attributes;
  short_namespaces = k.short_namespaces;
}
