-- No byte of a token or a text changes the context but the one that ends a tag, a declaration or the footer.
use Rattle.std.proofs.Common.{◌≡◌, ℕ, ◌+◌, Bool, true, false, not, ◌&&◌, ◌||◌, ◌==◌, if◌then◌else◌, [], ◌∷◌, ◌++◌, None, codes, length, refl, sym, ap, ◌∙◌}
use Rattle.std.proofs.lemmas.Bool.{false≢true}
use Rattle.std.specs.Option.{is_some}
use Rattle.std.specs.Prelude.{nat_lt, slice_index}
use Rattle.xml_tokens.specs.Characters.{is_white}
use Rattle.xml_tokens.specs.Declarations.{declaration_of}
use Rattle.xml_tokens.specs.References.{reference_goes_on, referred}
use Rattle.xml_tokens.specs.Tags.{is_empty, is_quote}
use Rattle.xml_tokens.specs.Utf8.{ends_character}
use Rattle.xml_tokens.specs.declared.declarations.Declaration.{Declaration}
use Rattle.xml_tokens.specs.declared.declarations.Declaration.TheVariants as declaration
use Rattle.xml_tokens.specs.declared.references.Reference.{Reference}
use Rattle.xml_tokens.specs.declared.references.Reference.TheVariants as reference
use Rattle.xml_framer.specs.Machine.{step, taken_in}
use Rattle.xml_framer.specs.MarkupSteps.{declares, ends_in_question, in_bang, in_declaration, in_question, section_opened}
use Rattle.xml_framer.specs.States.{State, Turn, counted, fails, gathered, gathered_in, in_mode, in_run, is_text, may_declare, moved, run_begun, token_begun, token_ended, token_fails}
use Rattle.xml_framer.specs.TagSteps.{footer_closes, footer_gathered, in_footer, in_opening, in_tag, tag_closes, tag_gathered, unlimited}
use Rattle.xml_framer.specs.TextSteps.{between, bracket_taken, character_begun, character_taken, ends_section, in_reference, in_section, in_text, inside, is_forbidden, judged_outside, judged_section, judged_text, markup_begun, other_taken, refers, section_taken, text_inside, text_outside}
use Rattle.xml_framer.specs.declared.fault.Why.TheVariants as why
use Rattle.xml_framer.specs.declared.states.Mode.{Mode}
use Rattle.xml_framer.specs.declared.states.Mode.TheVariants as mode
use Rattle.law_xml.proofs.ContextsTold.{context_of}
use Rattle.law_xml.proofs.CountLaws.{takes}
use Rattle.law_xml.proofs.FaultLaws.{goes}
use Rattle.law_xml.proofs.OffsetTags.{Closed, closes_close, footer_close}

abbrev pub Same : State → State → Type 0
Same s t = context_of t ≡ context_of s

one : (s t u : State) (b : Bool) → Same s t → Same s u → Same s (if b then t else u)
one s t u true x y = x
one s t u false x y = y

-- ---- a text

run_same : (s : State) → Same s (in_run s)
run_same s = one s s (run_begun s) s.lexical.in_run refl refl

markup_same : (s : State) → Same s (markup_begun s)
markup_same s =
    let t = token_begun s mode.Opening in
    one s t (record t { positions = record t.positions { item_at = t.positions.at; used = 1 } }) (is_some t.here) refl refl

outside_same : (s : State) (b : ℕ) → Same s (text_outside s b)
unfolding text_outside
outside_same s b =
    let t = in_run s in
    let judged : Same s (judged_outside t b) = one s t (token_fails t why.NotWellFormed) (is_white b) (run_same s) (run_same s) in
    let begun : Same s (character_begun t) = one s (record t { positions = record t.positions { item_at = t.positions.at } }) t (is_empty t.pending) (run_same s) (run_same s) in
    one s (judged_outside t b) (character_begun t) (ends_character s.pending b) judged begun

between_same : (s : State) (b : ℕ) → Same s (between s b)
unfolding between
between_same s b =
    let fault = fails s s.positions.at why.NotWellFormed in
    one s (markup_begun s) (if b == 38 then fault else text_outside s b) (b == 60) (markup_same s) (one s fault (text_outside s b) (b == 38) refl (outside_same s b))

inside_same : (s : State) (b : ℕ) → Same s (inside s b)
unfolding inside text_inside
inside_same s b =
    let t = in_run s in
    let judged : Same s (judged_text t b) = one s (token_fails t why.NotWellFormed) (character_taken t b) (is_forbidden t b || ends_section t b) (run_same s) (run_same s) in
    let text : Same s (text_inside s b) = one s (judged_text t b) t (ends_character s.pending b) judged (run_same s) in
    one s (markup_begun s) (if b == 38 then token_begun s mode.Reference else text_inside s b) (b == 60) (markup_same s) (one s (token_begun s mode.Reference) (text_inside s b) (b == 38) refl text)

pub text_same : (s : State) (b : ℕ) → Same s (in_text s b)
unfolding in_text
text_same s b = one s (inside s b) (between s b) (is_some s.here) (inside_same s b) (between_same s b)

-- ---- a token

-- it is the same where a token goes on
abbrev Goes : State → State → Type 0
Goes s t = is_text t.lexical.mode ≡ false → t.fault ≡ None → Same s t

kept : (s t : State) → Same s t → Goes s t
kept s t h e n = h

ended : (s t : State) → Closed t → Goes s t
ended s t h e n = absurd (false≢true (sym e ∙ (h n).0))

goes_one : (s t u : State) (b : Bool) → Goes s t → Goes s u → Goes s (if b then t else u)
goes_one s t u true x y = x
goes_one s t u false x y = y

abbrev GoesTurn : State → Turn → Type 0
GoesTurn s t = Goes s t.state

goes_turn : (s : State) (t u : Turn) (b : Bool) → GoesTurn s t → GoesTurn s u → GoesTurn s (if b then t else u)
goes_turn s t u true x y = x
goes_turn s t u false x y = y

refers_same : (s : State) (r : Reference) → Same s (refers s r)
refers_same s (reference.Character c) = refl
refers_same s reference.Unknown = refl
refers_same s reference.Malformed = refl

reference_same : (s : State) (b : ℕ) → Same s (in_reference s b)
unfolding in_reference
reference_same s b =
    let fault = token_fails s why.NotWellFormed in
    one s (refers s (referred s.token)) (if reference_goes_on s.token b then gathered s b else fault) (b == 59) (refers_same s (referred s.token)) (one s (gathered s b) fault (reference_goes_on s.token b) refl refl)

bang_same : (s : State) (b : ℕ) → Same s (in_bang s b)
unfolding in_bang
bang_same s b =
    let opened : Same s (section_opened s) = one s (in_mode (record s { token = [] }) mode.Section) (token_fails s why.NotWellFormed) (is_some s.here) refl refl in
    let next = if length s.token == 8 then section_opened s else gathered s b in
    one s next (token_fails s why.Restricted) (b == slice_index (codes "<![CDATA[") (length s.token)) (one s (section_opened s) (gathered s b) (length s.token == 8) opened refl) refl

bracket_same : (s : State) → Same s (bracket_taken s)
bracket_same s =
    one s (record s { chars = s.chars ++ 93 ∷ []; lexical = record s.lexical { returned = false } })
    (record s { lexical = record s.lexical { returned = false; brackets = if s.lexical.brackets == 0 then 1 else 2 } }) (s.lexical.brackets == 2) refl refl

section_same : (s : State) (b : ℕ) → Same s (in_section s b)
unfolding in_section judged_section
section_same s b =
    let taken_is : Same s (section_taken s b) = one s (bracket_taken s) (other_taken s b) (b == 93) (bracket_same s) refl in
    let rest : Same s (if ends_section s b then token_ended s else section_taken s b) = one s (token_ended s) (section_taken s b) (ends_section s b) refl taken_is in
    let judged : Same s (judged_section s b) = one s (token_fails s why.NotWellFormed) (if ends_section s b then token_ended s else section_taken s b) (is_forbidden s b) refl rest in
    one s (judged_section s b) s (ends_character s.pending b) judged refl

question_same : (s : State) (b : ℕ) → Same s (in_question s b)
unfolding in_question
question_same s b =
    let fault = token_fails s why.Restricted in
    let begun = if b == slice_index (codes "<?xml") (length s.token) then gathered s b else fault in
    let spaced = if is_white b then gathered_in s mode.Declaration b else fault in
    one s begun spaced (nat_lt (length s.token) 5) (one s (gathered s b) fault (b == slice_index (codes "<?xml") (length s.token)) refl refl) (one s (gathered_in s mode.Declaration b) fault (is_white b) refl refl)

declares_goes : (s t : State) (d : Declaration) → Same s t → Goes s (declares t d)
declares_goes s t declaration.Good h e n = absurd (false≢true (sym e))
declares_goes s t declaration.Encoding h e n = h
declares_goes s t declaration.NotWellFormed h e n = h

declaration_goes : (s : State) (b : ℕ) → Goes s (in_declaration s b)
unfolding in_declaration
declaration_goes s b =
    goes_one s (declares (gathered s b) (declaration_of (s.token ++ b ∷ []))) (gathered s b) (b == 62 && ends_in_question s.token)
    (declares_goes s (gathered s b) (declaration_of (s.token ++ b ∷ [])) refl) (kept s (gathered s b) refl)

tag_goes : (t : Turn) (b : ℕ) → GoesTurn t.state (in_tag t b)
unfolding in_tag
tag_goes t b =
    let whole = moved t (gathered t.state b) in
    goes_turn t.state (tag_closes whole) (moved t (tag_gathered t.state b)) (b == 62 && not (is_some t.state.lexical.quote))
    (ended t.state (tag_closes whole).state (closes_close whole)) (kept t.state (tag_gathered t.state b) refl)

footer_same : (s : State) (b : ℕ) → Same s (footer_gathered s b)
footer_same s b =
    let spoiled = record s { lexical = record s.lexical { spoiled = true } } in
    let following = if is_white b then s else spoiled in
    one s _ (if nat_lt (length s.token) (length s.name + 2) then gathered s b else following) (is_some s.lexical.quote || is_quote b) refl
    (one s (gathered s b) following (nat_lt (length s.token) (length s.name + 2)) refl (one s s spoiled (is_white b) refl refl))

footer_goes : (t : Turn) (b : ℕ) → GoesTurn t.state (in_footer t b)
unfolding in_footer
footer_goes t b =
    let whole = moved t (gathered t.state b) in
    goes_turn t.state (footer_closes whole) (moved t (footer_gathered t.state b)) (b == 62 && not (is_some t.state.lexical.quote))
    (ended t.state (footer_closes whole).state (footer_close whole)) (kept t.state (footer_gathered t.state b) (footer_same t.state b))

unlimited_same : (s : State) → Same s (unlimited s)
unlimited_same s = one s s (record s { positions = record s.positions { used = 0 } }) (is_some s.here) refl refl

opening_goes : (t : Turn) (b : ℕ) → GoesTurn t.state (in_opening t b)
unfolding in_opening
opening_goes t b =
    let s = t.state in
    let bang = moved t (gathered_in (unlimited s) mode.Bang b) in
    let asked = if may_declare s then gathered_in s mode.Question b else token_fails s why.Restricted in
    let slash = moved t (gathered_in (unlimited s) mode.Footer b) in
    let third = if b == 47 && not (is_some s.here) then slash else in_tag t b in
    goes_turn s bang (if b == 63 then moved t asked else third) (b == 33) (kept s (gathered_in (unlimited s) mode.Bang b) (unlimited_same s))
    (goes_turn s (moved t asked) third (b == 63)
    (kept s asked (one s (gathered_in s mode.Question b) (token_fails s why.Restricted) (may_declare s) refl refl))
    (goes_turn s slash (in_tag t b) (b == 47 && not (is_some s.here)) (kept s (gathered_in (unlimited s) mode.Footer b) (unlimited_same s)) (tag_goes t b)))

mode_goes : (m : Mode) (t : Turn) (b : ℕ) → GoesTurn t.state (taken_in m t b)
mode_goes mode.Text t b = kept t.state (in_text t.state b) (text_same t.state b)
mode_goes mode.Reference t b = kept t.state (in_reference t.state b) (reference_same t.state b)
mode_goes mode.Opening t b = opening_goes t b
mode_goes mode.Bang t b = kept t.state (in_bang t.state b) (bang_same t.state b)
mode_goes mode.Question t b = kept t.state (in_question t.state b) (question_same t.state b)
mode_goes mode.Declaration t b = declaration_goes t.state b
mode_goes mode.Tag t b = tag_goes t b
mode_goes mode.Footer t b = footer_goes t b
mode_goes mode.Section t b = kept t.state (in_section t.state b) (section_same t.state b)

-- ---- a step

-- a byte that leaves a token in hand
pub token_keeps : (t : Turn) (b : ℕ) → (step t b).state.fault ≡ None → is_text (step t b).state.lexical.mode ≡ false → Same t.state (step t b).state
token_keeps t b none goes_on =
    let m = t.state.lexical.mode in
    let is = goes t m b (takes t b none) in
    let there = mode_goes m (moved t (counted t.state)) b (ap (λ (u : Turn). is_text u.state.lexical.mode) (sym is) ∙ goes_on) (ap (λ (u : Turn). u.state.fault) (sym is) ∙ none) in
    ap (λ (u : Turn). context_of u.state) is ∙ there

-- a byte in a text
pub text_keeps : (t : Turn) (b : ℕ) → (step t b).state.fault ≡ None → is_text t.state.lexical.mode ≡ true → Same t.state (step t b).state
text_keeps t b none is_text_there =
    let m = t.state.lexical.mode in
    let is = goes t m b (takes t b none) in
    ap (λ (u : Turn). context_of u.state) is ∙ in_mode_text m is_text_there
  where
    in_mode_text : (m : Mode) → is_text m ≡ true → Same t.state (taken_in m (moved t (counted t.state)) b).state
    in_mode_text mode.Text e = text_same (counted t.state) b
    in_mode_text mode.Reference e = absurd (false≢true e)
    in_mode_text mode.Opening e = absurd (false≢true e)
    in_mode_text mode.Bang e = absurd (false≢true e)
    in_mode_text mode.Question e = absurd (false≢true e)
    in_mode_text mode.Declaration e = absurd (false≢true e)
    in_mode_text mode.Tag e = absurd (false≢true e)
    in_mode_text mode.Footer e = absurd (false≢true e)
    in_mode_text mode.Section e = absurd (false≢true e)
