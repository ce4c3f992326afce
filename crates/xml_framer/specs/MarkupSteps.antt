-- A byte behind `<!` or `<?`: a CDATA section opens, or a declaration (XML 1.0, sections 2.7 and 2.8), or what is
-- restricted begins (RFC 6120, section 11.1).
use Rattle.std.specs.Prelude.{ℕ, ◌-◌, nat_lt, Bool, ◌&&◌, ◌==◌, if◌then◌else◌, List, [], ◌∷◌, ◌++◌, length, codes, slice_index}
use Rattle.std.specs.Option.{is_some}
use Rattle.xml_tokens.specs.Characters.{is_white}
use Rattle.xml_tokens.specs.Declarations.{declaration_of}
use Rattle.xml_tokens.specs.declared.declarations.Declaration.{Declaration}
use Rattle.xml_tokens.specs.declared.declarations.Declaration.TheVariants as declaration
use Rattle.xml_framer.specs.States.{State, token_fails, gathered, gathered_in, in_mode, item_ended}
use Rattle.xml_framer.specs.declared.fault.Why.TheVariants as why
use Rattle.xml_framer.specs.declared.states.Mode.TheVariants as mode
use Rattle.xml_framer.specs.declared.states.Phase.{Phase}
use Rattle.xml_framer.specs.declared.states.Phase.TheVariants as phase

-- ---- `<!`

-- a CDATA section may stand in an element alone
abbrev pub section_opened : State → State
section_opened s = if is_some s.here then in_mode (record s { token = [] }) mode.Section else token_fails s why.NotWellFormed

unfoldable pub in_bang : State → ℕ → State
in_bang s b =
    if b == slice_index (codes "<![CDATA[") (length s.token)
    then (if length s.token == 8 then section_opened s else gathered s b)
    else token_fails s why.Restricted

-- ---- `<?`

unfoldable pub in_question : State → ℕ → State
in_question s b =
    if nat_lt (length s.token) 5
    then (if b == slice_index (codes "<?xml") (length s.token) then gathered s b else token_fails s why.Restricted)
    else (if is_white b then gathered_in s mode.Declaration b else token_fails s why.Restricted)

abbrev pub declared_phase : Phase → Phase
declared_phase phase.First = phase.FirstDeclared
declared_phase phase.FirstDeclared = phase.FirstDeclared
declared_phase phase.Between = phase.Declared
declared_phase phase.Declared = phase.Declared
declared_phase phase.Ended = phase.Ended

abbrev pub in_phase : State → Phase → State
in_phase s p = record s { lexical = record s.lexical { phase = p } }

abbrev pub declares : State → Declaration → State
declares s declaration.Good = in_phase (item_ended s) (declared_phase s.lexical.phase)
declares s declaration.Encoding = token_fails s why.Encoding
declares s declaration.NotWellFormed = token_fails s why.NotWellFormed

-- the token ends in `?`
abbrev pub ends_in_question : List ℕ → Bool
ends_in_question token = slice_index token (length token - 1) == 63

unfoldable pub in_declaration : State → ℕ → State
in_declaration s b =
    if b == 62 && ends_in_question s.token then declares (gathered s b) (declaration_of (s.token ++ b ∷ []))
    else gathered s b
