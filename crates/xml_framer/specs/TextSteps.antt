-- A byte of a text, a CDATA section or a reference (XML 1.0, sections 2.2, 2.4, 2.7, 2.11 and 4.1).
use Rattle.std.specs.Prelude.{ℕ, Bool, false, ◌&&◌, ◌||◌, ◌==◌, if◌then◌else◌, List, [], ◌∷◌, ◌++◌, encode_utf8}
use Rattle.std.specs.Option.{is_some}
use Rattle.xml_tokens.specs.Characters.{is_white}
use Rattle.xml_tokens.specs.References.{referred, reference_goes_on}
use Rattle.xml_tokens.specs.Tags.{is_empty}
use Rattle.xml_tokens.specs.Utf8.{ended_character, ends_character, ends_forbidden_character}
use Rattle.xml_tokens.specs.declared.references.Reference.{Reference}
use Rattle.xml_tokens.specs.declared.references.Reference.TheVariants as reference
use Rattle.xml_framer.specs.States.{State, fails, token_fails, gathered, in_run, item_begun, token_begun, token_ended}
use Rattle.xml_framer.specs.declared.fault.Why.TheVariants.{Restricted, NotWellFormed}
use Rattle.xml_framer.specs.declared.states.Mode.TheVariants as mode

-- `<` begins a tag, a CDATA section, a declaration, or what is restricted
abbrev pub markup_begun : State → State
markup_begun s = gathered (item_begun (token_begun s mode.Opening)) 60

-- ---- outside elements

-- Only white space may stand there. A character is judged at its last byte.
abbrev pub judged_outside : State → ℕ → State
judged_outside s b = if is_white b then s else token_fails s NotWellFormed

-- the first byte of a character is the place of what is unfinished
abbrev pub character_begun : State → State
character_begun s = if is_empty s.pending then record s { positions = record s.positions { item_at = s.positions.at } } else s

unfoldable pub text_outside : State → ℕ → State
text_outside s b = if ends_character s.pending b then judged_outside (in_run s) b else character_begun (in_run s)

-- a reference outside an element is told at its `&`
unfoldable pub between : State → ℕ → State
between s b =
    if b == 60 then markup_begun s
    else (if b == 38 then fails s s.positions.at NotWellFormed else text_outside s b)

-- ---- in an element

-- a line end is a line feed: CR LF and CR alone (2.11)
abbrev pub said : State → ℕ → List ℕ
said s b = if s.lexical.returned && b == 10 then [] else (if b == 13 then 10 ∷ [] else ended_character s.pending b)

-- how many `]` the text ends in behind a byte, up to 2
abbrev pub brackets_after : ℕ → ℕ → ℕ
brackets_after n b = if b == 93 then (if n == 0 then 1 else 2) else 0

abbrev pub character_taken : State → ℕ → State
character_taken s b = record s { chars = s.chars ++ said s b; lexical = record s.lexical { returned = b == 13; brackets = brackets_after s.lexical.brackets b } }

abbrev pub is_forbidden : State → ℕ → Bool
is_forbidden s b = ends_forbidden_character s.pending b

-- `]]>` may not stand in a text (2.4)
abbrev pub ends_section : State → ℕ → Bool
ends_section s b = s.lexical.brackets == 2 && b == 62

abbrev pub judged_text : State → ℕ → State
judged_text s b = if is_forbidden s b || ends_section s b then token_fails s NotWellFormed else character_taken s b

unfoldable pub text_inside : State → ℕ → State
text_inside s b = if ends_character s.pending b then judged_text (in_run s) b else in_run s

unfoldable pub inside : State → ℕ → State
inside s b =
    if b == 60 then markup_begun s
    else (if b == 38 then token_begun s mode.Reference else text_inside s b)

unfoldable pub in_text : State → ℕ → State
in_text s b = if is_some s.here then inside s b else between s b

-- ---- CDATA sections

-- `]` is kept back, since the section may end behind it
abbrev pub kept_back : ℕ → List ℕ
kept_back n = if n == 0 then [] else (if n == 1 then 93 ∷ [] else 93 ∷ 93 ∷ [])

abbrev pub bracket_taken : State → State
bracket_taken s =
    if s.lexical.brackets == 2 then record s { chars = s.chars ++ 93 ∷ []; lexical = record s.lexical { returned = false } }
    else record s { lexical = record s.lexical { returned = false; brackets = brackets_after s.lexical.brackets 93 } }

abbrev pub other_taken : State → ℕ → State
other_taken s b = record s { chars = (s.chars ++ kept_back s.lexical.brackets) ++ said s b; lexical = record s.lexical { returned = b == 13; brackets = 0 } }

abbrev pub section_taken : State → ℕ → State
section_taken s b = if b == 93 then bracket_taken s else other_taken s b

unfoldable pub judged_section : State → ℕ → State
judged_section s b =
    if is_forbidden s b then token_fails s NotWellFormed
    else (if ends_section s b then token_ended s else section_taken s b)

unfoldable pub in_section : State → ℕ → State
in_section s b = if ends_character s.pending b then judged_section s b else s

-- ---- references

abbrev pub refers : State → Reference → State
refers s (reference.Character c) = record (token_ended s) { chars = s.chars ++ encode_utf8 c }
refers s reference.Unknown = token_fails s Restricted
refers s reference.Malformed = token_fails s NotWellFormed

unfoldable pub in_reference : State → ℕ → State
in_reference s b =
    if b == 59 then refers s (referred s.token)
    else (if reference_goes_on s.token b then gathered s b else token_fails s NotWellFormed)
