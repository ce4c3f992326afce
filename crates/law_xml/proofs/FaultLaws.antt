-- Each row of the table of faults.
use Rattle.std.proofs.Common.{◌≡◌, ◌≢◌, ℕ, ◌<◌, ◌≤◌, Bool, true, false, ◌==◌, if◌then◌else◌, [], ◌∷◌, ◌++◌, Option, Some, None, Ok, Err, length, refl, ap, ◌∙◌}
use Rattle.std.proofs.lemmas.Bool.{le-ltb, lt-ltb, ne_eqb}
use Rattle.std.specs.Option.{is_some}
use Rattle.std.specs.Prelude.{codes, slice_index}
use Rattle.xml_names.specs.Ends.{end_of}
use Rattle.xml_names.specs.Scopes.{Scope}
use Rattle.xml_names.specs.Starts.{Tag, start_of}
use Rattle.xml_names.specs.declared.fault.StartWhy.{StartWhy}
use Rattle.xml_names.specs.declared.fault.StartWhy.TheVariants as start
use Rattle.xml_names.specs.declared.limits.TagLimits.{TagLimits}
use Rattle.xml_tokens.specs.Characters.{is_white}
use Rattle.xml_tokens.specs.Declarations.{declaration_of}
use Rattle.xml_tokens.specs.References.{reference_goes_on, referred}
use Rattle.xml_tokens.specs.Tags.{is_end, is_qualified, start_at, tag_of}
use Rattle.xml_tokens.specs.Utf8.{continues, ends_character, utf8_next}
use Rattle.xml_tokens.specs.declared.declarations.Declaration.TheVariants as declaration
use Rattle.xml_tokens.specs.declared.references.Reference.TheVariants as reference
use Rattle.law_xml.specs.FaultRows.{Decides, EndsTag, Takes, whole}
use Rattle.xml_framer.specs.Machine.{behind_byte, goes_on, is_too_long, step, taken, taken_in}
use Rattle.xml_framer.specs.MarkupSteps.{ends_in_question, in_bang, in_declaration, in_question}
use Rattle.xml_framer.specs.States.{State, Turn, counted, in_run, may_declare, moved, run_begun, token_position}
use Rattle.xml_framer.specs.TagSteps.{begun, ends, ends_stream, footer_closes, header_tag, header_why, in_footer, in_opening, in_tag, is_header, is_spelled, is_too_deep, largest_limits, misplaced, misplaced_why, scope_in, start_why, tag_anew, tag_closes, tag_here, tag_in, tag_inside, tag_limits, tag_outside}
use Rattle.xml_framer.specs.TextSteps.{between, in_reference, in_section, in_text, inside, is_forbidden, judged_section, text_inside, text_outside}
use Rattle.xml_framer.specs.declared.fault.Fault.{Fault}
use Rattle.xml_framer.specs.declared.fault.Why.{Why}
use Rattle.xml_framer.specs.declared.fault.Why.TheVariants as why
use Rattle.xml_framer.specs.declared.states.Mode.{Mode}
use Rattle.xml_framer.specs.declared.states.Mode.TheVariants as mode
use Rattle.xml_framer.specs.declared.states.Phase.{Phase}
use Rattle.xml_framer.specs.declared.states.Phase.TheVariants as phase

abbrev found_at : ℕ → Why → Option Fault
found_at at w = Some (record { at = at; why = w })

pub long : (t : Turn) (b : ℕ) → t.state.fault ≡ None → is_too_long t.state b ≡ true → Decides t b t.state.positions.item_at why.TooLong
unfolding goes_on is_too_long
long t b none h = rw (none, h) refl

pub broken : (t : Turn) (b : ℕ) → t.state.fault ≡ None → is_too_long t.state b ≡ false → continues t.state.pending b ≡ false → Decides t b (token_position t.state) why.Encoding
unfolding goes_on is_too_long
broken t b none h e = rw (none, h, e) refl

pub goes : (t : Turn) (m : Mode) (b : ℕ) → Takes t.state m b → step t b ≡ behind_byte (taken_in m (moved t (counted t.state)) b) b
unfolding goes_on taken is_too_long utf8_next
goes t m b h = rw (h.no_fault, h.short, h.is_text, h.mode_is) refl

due : (t : Turn) (m : Mode) (b at : ℕ) (w : Why) → Takes t.state m b → (taken_in m (moved t (counted t.state)) b).state.fault ≡ Some (record { at = at; why = w }) → Decides t b at w
due t m b at w h e = ap (λ u. u.state.fault) (goes t m b h) ∙ e

-- ---- markup

bang_fails : (s : State) (b : ℕ) → (b == slice_index (codes "<![CDATA[") (length s.token)) ≡ false → (in_bang s b).fault ≡ Some (record { at = s.positions.token_at; why = why.Restricted })
unfolding in_bang
bang_fails s b e = rw e refl

pub bang : (t : Turn) (b : ℕ) → Takes t.state mode.Bang b → b ≢ slice_index (codes "<![CDATA[") (length t.state.token) → Decides t b t.state.positions.token_at why.Restricted
bang t b h apart = due t mode.Bang b t.state.positions.token_at why.Restricted h (bang_fails (counted t.state) b (ne_eqb b (slice_index (codes "<![CDATA[") (length t.state.token)) apart))

question_fails : (t : Turn) → may_declare t.state ≡ false → (in_opening t 63).state.fault ≡ Some (record { at = t.state.positions.token_at; why = why.Restricted })
unfolding in_opening
question_fails t e = rw e refl

pub question : (t : Turn) → Takes t.state mode.Opening 63 → may_declare t.state ≡ false → Decides t 63 t.state.positions.token_at why.Restricted
question t h e = due t mode.Opening 63 t.state.positions.token_at why.Restricted h (question_fails (moved t (counted t.state)) e)

opening_fails : (s : State) (b : ℕ) → length s.token < 5 → (b == slice_index (codes "<?xml") (length s.token)) ≡ false → (in_question s b).fault ≡ Some (record { at = s.positions.token_at; why = why.Restricted })
unfolding in_question
opening_fails s b few e = rw (lt-ltb (length s.token) 5 few, e) refl

pub departs : (t : Turn) (b : ℕ) → Takes t.state mode.Question b → length t.state.token < 5 → b ≢ slice_index (codes "<?xml") (length t.state.token) → Decides t b t.state.positions.token_at why.Restricted
departs t b h few apart = due t mode.Question b t.state.positions.token_at why.Restricted h (opening_fails (counted t.state) b few (ne_eqb b (slice_index (codes "<?xml") (length t.state.token)) apart))

space_fails : (s : State) (b : ℕ) → 5 ≤ length s.token → is_white b ≡ false → (in_question s b).fault ≡ Some (record { at = s.positions.token_at; why = why.Restricted })
unfolding in_question
space_fails s b most e = rw (le-ltb (length s.token) 5 most, e) refl

pub unspaced : (t : Turn) (b : ℕ) → Takes t.state mode.Question b → 5 ≤ length t.state.token → is_white b ≡ false → Decides t b t.state.positions.token_at why.Restricted
unspaced t b h most e = due t mode.Question b t.state.positions.token_at why.Restricted h (space_fails (counted t.state) b most e)

section_fails : (s : State) → length s.token ≡ 8 → is_some s.here ≡ false → (in_bang s 91).fault ≡ Some (record { at = s.positions.token_at; why = why.NotWellFormed })
unfolding in_bang
section_fails s len e = rw (len, e) refl

pub section : (t : Turn) → Takes t.state mode.Bang 91 → length t.state.token ≡ 8 → is_some t.state.here ≡ false → Decides t 91 t.state.positions.token_at why.NotWellFormed
section t h len e = due t mode.Bang 91 t.state.positions.token_at why.NotWellFormed h (section_fails (counted t.state) len e)

-- ---- declarations

encoding_fails : (s : State) → ends_in_question s.token ≡ true → declaration_of (s.token ++ 62 ∷ []) ≡ declaration.Encoding → (in_declaration s 62).fault ≡ Some (record { at = s.positions.token_at; why = why.Encoding })
unfolding in_declaration
encoding_fails s ended e = rw (ended, e) refl

pub encoding : (t : Turn) → Takes t.state mode.Declaration 62 → ends_in_question t.state.token ≡ true → declaration_of (t.state.token ++ 62 ∷ []) ≡ declaration.Encoding → Decides t 62 t.state.positions.token_at why.Encoding
encoding t h ended e = due t mode.Declaration 62 t.state.positions.token_at why.Encoding h (encoding_fails (counted t.state) ended e)

declaration_fails : (s : State) → ends_in_question s.token ≡ true → declaration_of (s.token ++ 62 ∷ []) ≡ declaration.NotWellFormed → (in_declaration s 62).fault ≡ Some (record { at = s.positions.token_at; why = why.NotWellFormed })
unfolding in_declaration
declaration_fails s ended e = rw (ended, e) refl

pub malformed_declaration : (t : Turn) → Takes t.state mode.Declaration 62 → ends_in_question t.state.token ≡ true → declaration_of (t.state.token ++ 62 ∷ []) ≡ declaration.NotWellFormed
    → Decides t 62 t.state.positions.token_at why.NotWellFormed
malformed_declaration t h ended e = due t mode.Declaration 62 t.state.positions.token_at why.NotWellFormed h (declaration_fails (counted t.state) ended e)

-- ---- references

unknown_fails : (s : State) → referred s.token ≡ reference.Unknown → (in_reference s 59).fault ≡ Some (record { at = s.positions.token_at; why = why.Restricted })
unfolding in_reference
unknown_fails s e = rw e refl

pub unknown : (t : Turn) → Takes t.state mode.Reference 59 → referred t.state.token ≡ reference.Unknown → Decides t 59 t.state.positions.token_at why.Restricted
unknown t h e = due t mode.Reference 59 t.state.positions.token_at why.Restricted h (unknown_fails (counted t.state) e)

malformed_fails : (s : State) → referred s.token ≡ reference.Malformed → (in_reference s 59).fault ≡ Some (record { at = s.positions.token_at; why = why.NotWellFormed })
unfolding in_reference
malformed_fails s e = rw e refl

pub malformed_reference : (t : Turn) → Takes t.state mode.Reference 59 → referred t.state.token ≡ reference.Malformed → Decides t 59 t.state.positions.token_at why.NotWellFormed
malformed_reference t h e = due t mode.Reference 59 t.state.positions.token_at why.NotWellFormed h (malformed_fails (counted t.state) e)

reference_fails : (s : State) (b : ℕ) → (b == 59) ≡ false → reference_goes_on s.token b ≡ false → (in_reference s b).fault ≡ Some (record { at = s.positions.token_at; why = why.NotWellFormed })
unfolding in_reference
reference_fails s b other e = rw (other, e) refl

pub reference_departs : (t : Turn) (b : ℕ) → Takes t.state mode.Reference b → b ≢ 59 → reference_goes_on t.state.token b ≡ false → Decides t b t.state.positions.token_at why.NotWellFormed
reference_departs t b h other e = due t mode.Reference b t.state.positions.token_at why.NotWellFormed h (reference_fails (counted t.state) b (ne_eqb b 59 other) e)

outside_fails : (s : State) → is_some s.here ≡ false → (in_text s 38).fault ≡ Some (record { at = s.positions.at; why = why.NotWellFormed })
unfolding in_text between
outside_fails s e = rw e refl

pub reference_outside : (t : Turn) → Takes t.state mode.Text 38 → is_some t.state.here ≡ false → Decides t 38 t.state.positions.at why.NotWellFormed
reference_outside t h e = due t mode.Text 38 t.state.positions.at why.NotWellFormed h (outside_fails (counted t.state) e)

-- ---- characters

run_pending : (b : Bool) (s : State) → (if b then s else run_begun s).pending ≡ s.pending
run_pending true s = refl
run_pending false s = refl

pub run_position : (b : Bool) (s : State) → (if b then counted s else run_begun (counted s)).positions.token_at ≡ (if b then s else run_begun s).positions.token_at
run_position true s = refl
run_position false s = refl

forbidden_fails : (s : State) (b : ℕ) → is_some s.here ≡ true → (b == 60) ≡ false → (b == 38) ≡ false → ends_character s.pending b ≡ true → is_forbidden s b ≡ true
    → (in_text s b).fault ≡ Some (record { at = (in_run s).positions.token_at; why = why.NotWellFormed })
unfolding in_text inside text_inside
forbidden_fails s b inner less and ended e =
    let same : is_forbidden (in_run s) b ≡ true = rw (run_pending s.lexical.in_run s) e in
    rw (inner, less, and, ended, same) refl

pub forbidden : (t : Turn) (b : ℕ) → Takes t.state mode.Text b → is_some t.state.here ≡ true → b ≢ 60 → b ≢ 38 → ends_character t.state.pending b ≡ true → is_forbidden t.state b ≡ true
    → Decides t b (in_run t.state).positions.token_at why.NotWellFormed
forbidden t b h inner less and ended e =
    due t mode.Text b (in_run t.state).positions.token_at why.NotWellFormed h
    (forbidden_fails (counted t.state) b inner (ne_eqb b 60 less) (ne_eqb b 38 and) ended e ∙ ap (λ p. found_at p why.NotWellFormed) (run_position t.state.lexical.in_run t.state))

brackets_fail : (s : State) → is_some s.here ≡ true → s.pending ≡ [] → s.lexical.in_run ≡ true → s.lexical.brackets ≡ 2 → (in_text s 62).fault ≡ Some (record { at = s.positions.token_at; why = why.NotWellFormed })
unfolding in_text inside text_inside utf8_next
brackets_fail s inner none running two = rw (inner, none, running, two) refl

pub brackets : (t : Turn) → Takes t.state mode.Text 62 → is_some t.state.here ≡ true → t.state.pending ≡ [] → t.state.lexical.in_run ≡ true → t.state.lexical.brackets ≡ 2
    → Decides t 62 t.state.positions.token_at why.NotWellFormed
brackets t h inner none running two = due t mode.Text 62 t.state.positions.token_at why.NotWellFormed h (brackets_fail (counted t.state) inner none running two)

in_section_fails : (s : State) (b : ℕ) → ends_character s.pending b ≡ true → is_forbidden s b ≡ true → (in_section s b).fault ≡ Some (record { at = s.positions.token_at; why = why.NotWellFormed })
unfolding in_section judged_section
in_section_fails s b ended e = rw (ended, e) refl

pub forbidden_in_section : (t : Turn) (b : ℕ) → Takes t.state mode.Section b → ends_character t.state.pending b ≡ true → is_forbidden t.state b ≡ true → Decides t b t.state.positions.token_at why.NotWellFormed
forbidden_in_section t b h ended e = due t mode.Section b t.state.positions.token_at why.NotWellFormed h (in_section_fails (counted t.state) b ended e)

text_fails : (s : State) (b : ℕ) → is_some s.here ≡ false → (b == 60) ≡ false → (b == 38) ≡ false → ends_character s.pending b ≡ true → is_white b ≡ false
    → (in_text s b).fault ≡ Some (record { at = (in_run s).positions.token_at; why = why.NotWellFormed })
unfolding in_text between text_outside
text_fails s b outer less and ended e = rw (outer, less, and, ended, e) refl

pub text_outside_elements : (t : Turn) (b : ℕ) → Takes t.state mode.Text b → is_some t.state.here ≡ false → b ≢ 60 → b ≢ 38 → ends_character t.state.pending b ≡ true → is_white b ≡ false
    → Decides t b (in_run t.state).positions.token_at why.NotWellFormed
text_outside_elements t b h outer less and ended e =
    due t mode.Text b (in_run t.state).positions.token_at why.NotWellFormed h
    (text_fails (counted t.state) b outer (ne_eqb b 60 less) (ne_eqb b 38 and) ended e ∙ ap (λ p. found_at p why.NotWellFormed) (run_position t.state.lexical.in_run t.state))

-- ---- tags

module _ (t : Turn) (inner : is_some t.state.here ≡ true) (h : EndsTag t.state mode.Tag) where
  tag_due : (at : ℕ) (w : Why) → (tag_inside (moved t (whole (counted t.state)))).state.fault ≡ Some (record { at = at; why = w }) → Decides t 62 at w
  unfolding in_tag tag_closes
  tag_due at w e = let unquoted : is_some t.state.lexical.quote ≡ false = rw h.unquoted refl in due t mode.Tag 62 at w h.takes (rw (unquoted, inner) e)

  pub mismatched : is_end (whole t.state).token ≡ true → is_spelled t.state.here (end_of (whole t.state).token) ≡ false → Decides t 62 t.state.positions.token_at why.NotWellFormed
  unfolding tag_inside ends
  mismatched ended other = tag_due t.state.positions.token_at why.NotWellFormed (rw (ended, other) refl)

  pub restricted : is_end (whole t.state).token ≡ false → tag_here (whole t.state) ≡ Err start.Restricted → Decides t 62 t.state.positions.token_at why.Restricted
  unfolding tag_inside
  restricted started e = tag_due t.state.positions.token_at why.Restricted (rw (started, e) refl)

  pub malformed : is_end (whole t.state).token ≡ false → tag_here (whole t.state) ≡ Err start.NotWellFormed → Decides t 62 t.state.positions.token_at why.NotWellFormed
  unfolding tag_inside
  malformed started e = tag_due t.state.positions.token_at why.NotWellFormed (rw (started, e) refl)

  pub deep : (tag : Tag) → is_end (whole t.state).token ≡ false → tag_here (whole t.state) ≡ Ok tag → is_too_deep t.state ≡ true → Decides t 62 t.state.positions.token_at why.TooDeep
  unfolding tag_inside begun
  deep tag started e far = tag_due t.state.positions.token_at why.TooDeep (rw (started, e, far) refl)

  pub many : is_end (whole t.state).token ≡ false → tag_here (whole t.state) ≡ Err start.TooManyAttributes → is_too_deep t.state ≡ false → Decides t 62 t.state.positions.token_at why.TooManyAttributes
  unfolding tag_inside
  many started e near = tag_due t.state.positions.token_at why.TooManyAttributes (rw (started, e, near) refl)

  pub long_name : is_end (whole t.state).token ≡ false → tag_here (whole t.state) ≡ Err start.LongNamespace → is_too_deep t.state ≡ false → Decides t 62 t.state.positions.token_at why.LongNamespace
  unfolding tag_inside
  long_name started e near = tag_due t.state.positions.token_at why.LongNamespace (rw (started, e, near) refl)

  pub many_and_deep : is_end (whole t.state).token ≡ false → tag_here (whole t.state) ≡ Err start.TooManyAttributes → is_too_deep t.state ≡ true → Decides t 62 t.state.positions.token_at why.TooDeep
  unfolding tag_inside
  many_and_deep started e far = tag_due t.state.positions.token_at why.TooDeep (rw (started, e, far) refl)

  pub long_and_deep : is_end (whole t.state).token ≡ false → tag_here (whole t.state) ≡ Err start.LongNamespace → is_too_deep t.state ≡ true → Decides t 62 t.state.positions.token_at why.TooDeep
  unfolding tag_inside
  long_and_deep started e far = tag_due t.state.positions.token_at why.TooDeep (rw (started, e, far) refl)

module _ (t : Turn) (outer : is_some t.state.here ≡ false) (h : EndsTag t.state mode.Tag) where
  outside_due : (at : ℕ) (w : Why) → (tag_outside (moved t (whole (counted t.state)))).state.fault ≡ Some (record { at = at; why = w }) → Decides t 62 at w
  unfolding in_tag tag_closes
  outside_due at w e = let unquoted : is_some t.state.lexical.quote ≡ false = rw h.unquoted refl in due t mode.Tag 62 at w h.takes (rw (unquoted, outer) e)

  pub first : (e : StartWhy) → t.state.lexical.phase ≡ phase.First → tag_anew (whole t.state) ≡ Err e → Decides t 62 t.state.positions.token_at (header_why e)
  unfolding tag_outside header_tag
  first e p is = outside_due t.state.positions.token_at (header_why e) (rw (p, is) refl)

  pub first_declared : (e : StartWhy) → t.state.lexical.phase ≡ phase.FirstDeclared → tag_anew (whole t.state) ≡ Err e → Decides t 62 t.state.positions.token_at (header_why e)
  unfolding tag_outside header_tag
  first_declared e p is = outside_due t.state.positions.token_at (header_why e) (rw (p, is) refl)

  pub header : (e : StartWhy) → t.state.lexical.phase ≡ phase.Between → is_header (whole t.state) ≡ true → tag_anew (whole t.state) ≡ Err e → Decides t 62 t.state.positions.token_at (header_why e)
  unfolding tag_outside header_tag is_header
  header e p opens is = outside_due t.state.positions.token_at (header_why e) (rw (p, opens, is) refl)

  pub element : (e : StartWhy) → t.state.lexical.phase ≡ phase.Between → is_header (whole t.state) ≡ false → tag_here (whole t.state) ≡ Err e → Decides t 62 t.state.positions.token_at (start_why t.state e)
  unfolding tag_outside is_header
  element e p opens is = outside_due t.state.positions.token_at (start_why t.state e) (rw (p, opens, is) (ap (found_at t.state.positions.token_at) (same_why e)))
    where
      same_why : (e : StartWhy) → start_why (whole (counted t.state)) e ≡ start_why t.state e
      same_why start.Restricted = refl
      same_why start.NotWellFormed = refl
      same_why start.TooManyAttributes = refl
      same_why start.LongNamespace = refl

  pub top_deep : (tag : Tag) → t.state.lexical.phase ≡ phase.Between → is_header (whole t.state) ≡ false → tag_here (whole t.state) ≡ Ok tag → is_too_deep t.state ≡ true → Decides t 62 t.state.positions.token_at why.TooDeep
  unfolding tag_outside is_header begun
  top_deep tag p opens is far = outside_due t.state.positions.token_at why.TooDeep (rw (p, opens, is, far) refl)

  pub top_many : t.state.lexical.phase ≡ phase.Between → is_header (whole t.state) ≡ false → tag_here (whole t.state) ≡ Err start.TooManyAttributes → is_too_deep t.state ≡ true → Decides t 62 t.state.positions.token_at why.TooDeep
  unfolding tag_outside is_header
  top_many p opens is far = outside_due t.state.positions.token_at why.TooDeep (rw (p, opens, is, far) refl)

  pub top_long : t.state.lexical.phase ≡ phase.Between → is_header (whole t.state) ≡ false → tag_here (whole t.state) ≡ Err start.LongNamespace → is_too_deep t.state ≡ true → Decides t 62 t.state.positions.token_at why.TooDeep
  unfolding tag_outside is_header
  top_long p opens is far = outside_due t.state.positions.token_at why.TooDeep (rw (p, opens, is, far) refl)

  pub header_after_declaration : (e : StartWhy) → t.state.lexical.phase ≡ phase.Declared → is_header (whole t.state) ≡ true → tag_anew (whole t.state) ≡ Err e → Decides t 62 t.state.positions.token_at (header_why e)
  unfolding tag_outside header_tag is_header
  header_after_declaration e p opens is = outside_due t.state.positions.token_at (header_why e) (rw (p, opens, is) refl)

  pub after_declaration : t.state.lexical.phase ≡ phase.Declared → is_header (whole t.state) ≡ false → Decides t 62 t.state.positions.token_at (misplaced_why (tag_here (whole t.state)))
  unfolding tag_outside misplaced is_header
  after_declaration p opens = outside_due t.state.positions.token_at (misplaced_why (tag_here (whole t.state))) (rw (p, opens) refl)

  pub behind_footer : t.state.lexical.phase ≡ phase.Ended → Decides t 62 t.state.positions.token_at (misplaced_why (tag_here (whole t.state)))
  unfolding tag_outside misplaced
  behind_footer p = outside_due t.state.positions.token_at (misplaced_why (tag_here (whole t.state))) (rw p refl)

footer_fails : (t : Turn) → t.state.lexical.quote ≡ None → ends_stream (whole t.state) ≡ false → (in_footer t 62).state.fault ≡ Some (record { at = t.state.positions.token_at; why = why.NotWellFormed })
unfolding in_footer footer_closes
footer_fails t unquoted e = rw (unquoted, e) refl

pub footer : (t : Turn) → EndsTag t.state mode.Footer → ends_stream (whole t.state) ≡ false → Decides t 62 t.state.positions.token_at why.NotWellFormed
footer t h e = due t mode.Footer 62 t.state.positions.token_at why.NotWellFormed h.takes (footer_fails (moved t (counted t.state)) h.unquoted e)

-- ---- `<>`

nothing_read : (limits : TagLimits) (scope : Scope) → start_of limits scope (codes "<>") ≡ Err start.NotWellFormed
unfolding start_of tag_of start_at is_qualified
nothing_read limits scope = refl

nothing_in_phase : (t : Turn) (p : Phase) → t.state.token ≡ codes "<>" → (tag_in p t).state.fault ≡ Some (record { at = t.state.positions.token_at; why = why.NotWellFormed })
unfolding header_tag misplaced is_header
nothing_in_phase t phase.First e = rw (e, nothing_read (tag_limits t.state.limits) []) refl
nothing_in_phase t phase.FirstDeclared e = rw (e, nothing_read (tag_limits t.state.limits) []) refl
nothing_in_phase t phase.Between e = rw (e, nothing_read largest_limits (scope_in t.state.scopes), nothing_read (tag_limits t.state.limits) (scope_in t.state.scopes)) refl
nothing_in_phase t phase.Declared e = rw (e, nothing_read largest_limits (scope_in t.state.scopes), nothing_read (tag_limits t.state.limits) (scope_in t.state.scopes)) refl
nothing_in_phase t phase.Ended e = rw (e, nothing_read (tag_limits t.state.limits) (scope_in t.state.scopes)) refl

pub nothing_closes : (t : Turn) (b : Bool) → is_some t.state.here ≡ b → t.state.token ≡ codes "<>" → (tag_closes t).state.fault ≡ Some (record { at = t.state.positions.token_at; why = why.NotWellFormed })
unfolding tag_closes tag_inside tag_outside
nothing_closes t true inner e = rw (inner, e, nothing_read (tag_limits t.state.limits) (scope_in t.state.scopes)) refl
nothing_closes t false outer e = rw outer (nothing_in_phase t t.state.lexical.phase e)

pub without_name : (t : Turn) → EndsTag t.state mode.Opening → t.state.token ≡ codes "<" → Decides t 62 t.state.positions.token_at why.NotWellFormed
unfolding in_opening in_tag
without_name t h one =
    let unquoted : is_some t.state.lexical.quote ≡ false = rw h.unquoted refl in
    due t mode.Opening 62 t.state.positions.token_at why.NotWellFormed h.takes (rw unquoted (nothing_closes (moved t (whole (counted t.state))) (is_some t.state.here) refl (ap (λ bs. bs ++ 62 ∷ []) one)))
