-- What is known of the bytes of a token in hand, and that they are a whole token where it ends.
use Rattle.std.proofs.Common.{◌≡◌, ℕ, ◌+◌, ◌-◌, ◌<◌, ◌≤◌, ⊎_elim, Bool, true, false, not, ◌&&◌, ◌||◌, ◌==◌, eqb, if◌then◌else◌, List, [], ◌∷◌, ◌++◌, Option, Some, None, refl, sym, ap, subst, ◌∙◌, length, length-append, append_assoc, take, drop, arith, get_or}
use Rattle.std.proofs.Math.Seq.{get_or-append_seam}
use Rattle.std.proofs.lemmas.Bool.{and_parts, and_right, cases_Bool, cond_both, eqb-true, false≢true, ltb-true, or_parts, true≢false, or_from}
use Rattle.std.proofs.lemmas.Grind.{take_at_read}
use Rattle.std.proofs.lemmas.List.{take-append-drop}
use Rattle.std.specs.List.{list_all}
use Rattle.std.specs.Option.{is_some}
use Rattle.std.specs.Prelude.{codes, nat_lt, slice_index}
use Rattle.xml_tokens.specs.Characters.{is_white}
use Rattle.xml_tokens.specs.Declarations.{declaration_of}
use Rattle.xml_tokens.specs.References.{reference_goes_on, referred}
use Rattle.xml_tokens.specs.Tags.{is_empty, is_quote, quote_behind}
use Rattle.xml_tokens.specs.Utf8.{continues, ends_character, held_after}
use Rattle.xml_tokens.specs.declared.declarations.Declaration.{Declaration}
use Rattle.xml_tokens.specs.declared.declarations.Declaration.TheVariants as declaration
use Rattle.xml_tokens.specs.declared.references.Reference.{Reference}
use Rattle.xml_tokens.specs.declared.references.Reference.TheVariants as reference
use Rattle.law_xml.proofs.OffsetTags.{Spot, closes_close, footer_close, state_by, turn_by}
use Rattle.law_xml.proofs.ReadCharacters.{ascii_alone, ascii_ends, grown_after}
use Rattle.law_xml.proofs.ReadSoFar.{OpensSection}
use Rattle.law_xml.proofs.TextFronts.{counted-append, counted_behind, ends-append, ends_after, ends_parted, section_end_0}
use Rattle.law_xml.proofs.TextHands.{opens_more}
use Rattle.law_xml.specs.Offsets.{IsOpen, IsWhole, first_of, has_declaration_end, is_no_end, is_open_tag, is_reference, leads_tag, open_declaration, open_section, open_tag, opening_declaration, opening_section, whole_declaration, whole_reference, whole_section, whole_tag}
use Rattle.law_xml.specs.Texts.{has_section_end}
use Rattle.xml_framer.specs.Machine.{passed, taken_in}
use Rattle.xml_framer.specs.ManyBytes.{quote_after}
use Rattle.xml_framer.specs.MarkupSteps.{declares, ends_in_question, in_bang, in_declaration, in_question, section_opened}
use Rattle.xml_framer.specs.States.{State, Turn, fails, gathered, gathered_in, in_mode, in_run, is_text, may_declare, moved, run_begun, token_begun, token_ended, token_fails}
use Rattle.xml_framer.specs.TagSteps.{footer_closes, footer_gathered, in_footer, in_opening, in_tag, tag_closes, tag_gathered, unlimited}
use Rattle.xml_framer.specs.TextSteps.{between, bracket_taken, brackets_after, character_begun, character_taken, ends_section, in_reference, in_section, in_text, inside, is_forbidden, judged_outside, judged_section, judged_text, markup_begun, other_taken, refers, section_taken, text_inside, text_outside}
use Rattle.xml_framer.specs.declared.fault.Fault.{Fault}
use Rattle.xml_framer.specs.declared.fault.Why.TheVariants as why
use Rattle.xml_framer.specs.declared.states.Mode.{Mode}
use Rattle.xml_framer.specs.declared.states.Mode.TheVariants as mode
use Rattle.law_xml.proofs.OffsetSteps.{none_some}
use Rattle.law_xml.proofs.ReadOutside.{grown_some as held_on}
use Rattle.law_xml.proofs.RowsTold.{least, no_quote}

-- ---- what is known of a token's bytes

-- part of `<?xml`
abbrev pub OpensDeclaration : List ℕ → Type 0
OpensDeclaration token = (token ≡ take (length token) (codes "<?xml")) × (length token ≤ 5)

-- a declaration after its opening
pub record DeclarationIn (more : List ℕ) : Type 0 where
  pub inside : List ℕ
  pub space : ℕ
  pub is : more ≡ codes "?xml" ++ space ∷ inside
  pub is_space : is_white space ≡ true
  pub no_end : has_declaration_end inside ≡ false

-- a section after its opening
pub record SectionIn (held : List ℕ) (brackets : ℕ) (more : List ℕ) : Type 0 where
  pub inside : List ℕ
  pub is : more ≡ codes "![CDATA[" ++ inside
  pub no_end : has_section_end inside ≡ false
  pub counts : held ≡ [] → brackets ≡ counted_behind 0 inside

-- the bytes after the first one, as a state has them
abbrev pub Mark : Mode → State → List ℕ → Type 0
Mark mode.Text s more = Unit {0}
Mark mode.Reference s more = s.token ≡ more
Mark mode.Opening s more = (s.token ≡ 60 ∷ []) × (s.lexical.brackets ≡ 0)
Mark mode.Tag s more = s.token ≡ 60 ∷ more
Mark mode.Footer s more = Unit {0}
Mark mode.Bang s more = (s.token ≡ 60 ∷ more) × OpensSection s.token × (s.lexical.brackets ≡ 0)
Mark mode.Question s more = (s.token ≡ 60 ∷ more) × OpensDeclaration s.token
Mark mode.Declaration s more = (s.token ≡ 60 ∷ more) × DeclarationIn more
Mark mode.Section s more = SectionIn s.pending s.lexical.brackets more

pub tails : (x y : ℕ) (xs ys : List ℕ) → x ∷ xs ≡ y ∷ ys → xs ≡ ys
tails x y xs ys e = cc

pub fronts : (token more all : List ℕ) → token ≡ 60 ∷ more → token ≡ take (length token) (60 ∷ all) → all ≡ more ++ drop (length token) (60 ∷ all)
fronts token more all is front =
    let n = length token in
    tails 60 60 all (more ++ drop n (60 ∷ all)) (sym (take-append-drop n (60 ∷ all)) ∙ ap (λ l. l ++ drop n (60 ∷ all)) (sym front ∙ is))

-- markup in hand has not ended
pub is_open : (m : Mode) (s : State) (more : List ℕ) → is_text m ≡ false → is_reference m ≡ false → Spot m s.lexical.quote more → Mark m s more → IsOpen more
is_open mode.Text s more e f spot h = absurd (false≢true (sym e))
is_open mode.Reference s more e f spot h = absurd (false≢true (sym f))
is_open mode.Opening s more e f spot h = subst IsOpen (sym spot.0) (open_tag [] refl refl)
is_open mode.Tag s more e f spot h = open_tag more spot.1 spot.2
is_open mode.Footer s more e f spot h = open_tag more spot.1 spot.2
is_open mode.Bang s more e f spot h = opening_section more (drop (length s.token) (codes "<![CDATA[")) (fronts s.token more (codes "![CDATA[") h.0 h.1.0)
is_open mode.Question s more e f spot h = opening_declaration more (drop (length s.token) (codes "<?xml")) (fronts s.token more (codes "?xml") h.0 h.1.0)
is_open mode.Declaration s more e f spot h = let d = h.1 in open_declaration more d.inside d.space d.is d.is_space d.no_end
is_open mode.Section s more e f spot h = open_section more h.inside h.is h.no_end

-- ---- after a byte

-- What is known of the token after a byte, which a state has still to pass: it goes on, or it is whole.
pub record Marks (first b : ℕ) (more : List ℕ) (u : State) : Type 0 where
  pub goes : is_text u.lexical.mode ≡ false → u.fault ≡ None → Mark u.lexical.mode (passed u b) (more ++ b ∷ [])
  pub ends : is_text u.lexical.mode ≡ true → u.fault ≡ None → IsWhole (first ∷ (more ++ b ∷ [])) × (u.token ≡ [])

module _ (first b : ℕ) (more : List ℕ) where
  broken : (u : State) (f : Fault) → u.fault ≡ Some f → Marks first b more u
  broken u f is = record { goes = λ e n. absurd (none_some f (sym is ∙ n)); ends = λ e n. absurd (none_some f (sym is ∙ n)) }

  on : (u : State) (m : Mode) → u.lexical.mode ≡ m → is_text m ≡ false → Mark m (passed u b) (more ++ b ∷ []) → Marks first b more u
  on u m is no_text h = record {
    goes = λ e n. subst (λ k. Mark k (passed u b) (more ++ b ∷ [])) (sym is) h;
    ends = λ e n. absurd (false≢true (sym no_text ∙ (ap is_text (sym is) ∙ e)));
  }

  closes : (u : State) → (u.fault ≡ None → (is_text u.lexical.mode ≡ true) × (u.token ≡ [])) → IsWhole (first ∷ (more ++ b ∷ [])) → Marks first b more u
  closes u h whole = record { goes = λ e n. absurd (false≢true (sym e ∙ (h n).0)); ends = λ e n. (whole, (h n).1) }

-- ---- references

reference_marks : (s : State) (b : ℕ) (more : List ℕ) → s.lexical.mode ≡ mode.Reference → s.token ≡ more → list_all is_no_end more ≡ true → Marks 38 b more (in_reference s b)
unfolding in_reference
reference_marks s b more is h named =
    let fault = token_fails s why.NotWellFormed in
    state_by (Marks 38 b more) (refers s (referred s.token)) (if reference_goes_on s.token b then gathered s b else fault) (b == 59) (λ e. refers_marks (referred s.token) (eqb-true b 59 e))
    (λ e. state_by (Marks 38 b more) (gathered s b) fault (reference_goes_on s.token b) (λ f. on 38 b more (gathered s b) mode.Reference is refl (ap (λ l. l ++ b ∷ []) h)) (λ f. broken 38 b more fault _ refl))
  where
    refers_marks : (x : Reference) → b ≡ 59 → Marks 38 b more (refers s x)
    refers_marks (reference.Character c) last = closes 38 b more (refers s (reference.Character c)) (λ n. (refl, refl)) (whole_reference _ more (ap (λ d. 38 ∷ (more ++ d ∷ [])) last) named)
    refers_marks reference.Unknown last = broken 38 b more (refers s reference.Unknown) _ refl
    refers_marks reference.Malformed last = broken 38 b more (refers s reference.Malformed) _ refl

-- ---- tags

tag_whole : (b : ℕ) (more : List ℕ) (q : Option ℕ) → (b == 62 && not (is_some q)) ≡ true → leads_tag more ≡ true → is_open_tag None more ≡ true → q ≡ quote_after None more → IsWhole (60 ∷ (more ++ b ∷ []))
tag_whole b more q e leads opens quote =
    let p = and_parts (b == 62) (not (is_some q)) e in
    whole_tag _ more (ap (λ d. 60 ∷ (more ++ d ∷ [])) (eqb-true b 62 p.0)) leads opens (sym quote ∙ no_quote q p.1)

tag_marks : (t : Turn) (b : ℕ) (more : List ℕ) → leads_tag more ≡ true → is_open_tag None more ≡ true → t.state.lexical.quote ≡ quote_after None more → t.state.token ≡ 60 ∷ more → Marks 60 b more (in_tag t b).state
unfolding in_tag
tag_marks t b more leads opens quote h =
    let whole = moved t (gathered t.state b) in
    turn_by (λ v. Marks 60 b more v.state) (tag_closes whole) (moved t (tag_gathered t.state b)) (b == 62 && not (is_some t.state.lexical.quote))
    (λ e. closes 60 b more (tag_closes whole).state (closes_close whole) (tag_whole b more t.state.lexical.quote e leads opens quote))
    (λ e. on 60 b more (tag_gathered t.state b) mode.Tag refl refl (ap (λ l. l ++ b ∷ []) h))

footer_mode : (s : State) (b : ℕ) → (footer_gathered s b).lexical.mode ≡ s.lexical.mode
footer_mode s b =
    let quoted = record s { lexical = record s.lexical { quote = quote_behind s.lexical.quote b; spoiled = true } } in
    let spoiled = record s { lexical = record s.lexical { spoiled = true } } in
    let rest = (if is_white b then s else spoiled) in
    let P = λ (v : State). v.lexical.mode ≡ s.lexical.mode in
    state_by P quoted (if nat_lt (length s.token) (length s.name + 2) then gathered s b else rest) (is_some s.lexical.quote || is_quote b) (λ e. refl)
    (λ e. state_by P (gathered s b) rest (nat_lt (length s.token) (length s.name + 2)) (λ f. refl) (λ f. state_by P s spoiled (is_white b) (λ g. refl) (λ g. refl)))

footer_marks : (t : Turn) (b : ℕ) (more : List ℕ) → t.state.lexical.mode ≡ mode.Footer → leads_tag more ≡ true → is_open_tag None more ≡ true → t.state.lexical.quote ≡ quote_after None more
    → Marks 60 b more (in_footer t b).state
unfolding in_footer
footer_marks t b more is leads opens quote =
    let whole = moved t (gathered t.state b) in
    turn_by (λ v. Marks 60 b more v.state) (footer_closes whole) (moved t (footer_gathered t.state b)) (b == 62 && not (is_some t.state.lexical.quote))
    (λ e. closes 60 b more (footer_closes whole).state (footer_close whole) (tag_whole b more t.state.lexical.quote e leads opens quote))
    (λ e. on 60 b more (footer_gathered t.state b) mode.Footer (footer_mode t.state b ∙ is) refl tt)

-- ---- the byte after the `<`

bang_begins : (v : State) (b : ℕ) → v.token ≡ 60 ∷ [] → v.lexical.brackets ≡ 0 → b ≡ 33 → Marks 60 b [] (gathered_in v mode.Bang b)
bang_begins v b h none is =
    let token_is = ap (λ l. l ++ b ∷ []) h in
    let opens : OpensSection (v.token ++ b ∷ []) = subst OpensSection (sym (token_is ∙ ap (λ d. 60 ∷ d ∷ []) is)) (refl, omega arith) in
    on 60 b [] (gathered_in v mode.Bang b) mode.Bang refl refl (token_is, opens, none)

question_begins : (v : State) (b : ℕ) → v.token ≡ 60 ∷ [] → b ≡ 63 → Marks 60 b [] (gathered_in v mode.Question b)
question_begins v b h is =
    let token_is = ap (λ l. l ++ b ∷ []) h in
    let opens : OpensDeclaration (v.token ++ b ∷ []) = subst OpensDeclaration (sym (token_is ∙ ap (λ d. 60 ∷ d ∷ []) is)) (refl, omega arith) in
    on 60 b [] (gathered_in v mode.Question b) mode.Question refl refl (token_is, opens)

opening_marks : (t : Turn) (b : ℕ) → t.state.lexical.quote ≡ None → t.state.token ≡ 60 ∷ [] → t.state.lexical.brackets ≡ 0 → Marks 60 b [] (in_opening t b).state
unfolding in_opening
opening_marks t b quote h none =
    let s = t.state in
    let free = record s { positions = record s.positions { used = 0 } } in
    let bang = moved t (gathered_in (unlimited s) mode.Bang b) in
    let question = gathered_in s mode.Question b in
    let fault = token_fails s why.Restricted in
    let asked = (if may_declare s then question else fault) in
    let footer = moved t (gathered_in (unlimited s) mode.Footer b) in
    let last = (if b == 47 && not (is_some s.here) then footer else in_tag t b) in
    let P = λ (v : Turn). Marks 60 b [] v.state in
    turn_by P bang (if b == 63 then moved t asked else last) (b == 33)
    (λ e. let is = eqb-true b 33 e in cond_both (is_some s.here) s free (λ v. Marks 60 b [] (gathered_in v mode.Bang b)) (λ i. bang_begins s b h none is) (λ i. bang_begins free b h none is))
    (λ e. turn_by P (moved t asked) last (b == 63)
    (λ f. state_by (Marks 60 b []) question fault (may_declare s) (λ g. question_begins s b h (eqb-true b 63 f)) (λ g. broken 60 b [] fault _ refl))
    (λ f. turn_by P footer (in_tag t b) (b == 47 && not (is_some s.here))
    (λ g. cond_both (is_some s.here) s free (λ v. Marks 60 b [] (gathered_in v mode.Footer b)) (λ i. on 60 b [] (gathered_in s mode.Footer b) mode.Footer refl refl tt)
    (λ i. on 60 b [] (gathered_in free mode.Footer b) mode.Footer refl refl tt))
    (λ g. tag_marks t b [] refl refl quote h)))

-- ---- `<!` and `<?`

section_begins : (token more held : List ℕ) (b n : ℕ) → token ≡ 60 ∷ more → OpensSection token → n ≡ 0 → (length token == 8) ≡ true → (b == slice_index (codes "<![CDATA[") (length token)) ≡ true
    → SectionIn held n (more ++ b ∷ [])
section_begins token more held b n h opens none eight e =
    let len = eqb-true (length token) 8 eight in
    let is : b ≡ 91 = eqb-true b (slice_index (codes "<![CDATA[") (length token)) e ∙ ap (slice_index (codes "<![CDATA[")) len in
    let token_is : token ++ b ∷ [] ≡ codes "<![CDATA[" = ap (λ l. l ++ b ∷ []) (opens.0 ∙ ap (λ m. take m (codes "<![CDATA[")) len) ∙ ap (λ d. take 8 (codes "<![CDATA[") ++ d ∷ []) is in
    record {
      inside = [];
      is = tails 60 60 (more ++ b ∷ []) (codes "![CDATA[") (sym (ap (λ l. l ++ b ∷ []) h) ∙ token_is);
      no_end = refl;
      counts = λ _. none;
    }

bang_marks : (s : State) (b : ℕ) (more : List ℕ) → s.lexical.mode ≡ mode.Bang → s.token ≡ 60 ∷ more → OpensSection s.token → s.lexical.brackets ≡ 0 → Marks 60 b more (in_bang s b)
unfolding in_bang
bang_marks s b more is h opens none =
    let P = Marks 60 b more in
    let opened = in_mode (record s { token = [] }) mode.Section in
    let fault = token_fails s why.NotWellFormed in
    let restricted = token_fails s why.Restricted in
    let inner = (if length s.token == 8 then section_opened s else gathered s b) in
    state_by P inner restricted (b == slice_index (codes "<![CDATA[") (length s.token))
    (λ e. state_by P (section_opened s) (gathered s b) (length s.token == 8)
    (λ f. state_by P opened fault (is_some s.here) (λ g. on 60 b more opened mode.Section refl refl (section_begins s.token more (held_after s.pending b) b s.lexical.brackets h opens none f e))
    (λ g. broken 60 b more fault _ refl))
    (λ f. on 60 b more (gathered s b) mode.Bang is refl (ap (λ l. l ++ b ∷ []) h, opens_more s.token b opens f e, none)))
    (λ e. broken 60 b more restricted _ refl)

question_more : (token : List ℕ) (b : ℕ) → OpensDeclaration token → nat_lt (length token) 5 ≡ true → (b == slice_index (codes "<?xml") (length token)) ≡ true → OpensDeclaration (token ++ b ∷ [])
question_more token b h few e =
    let n = length token in
    let small : n < 5 = ltb-true n 5 few in
    let step = (take_at_read (codes "<?xml") n 0 small).1 in
    let is = eqb-true b (slice_index (codes "<?xml") n) e in
    let len = length-append token (b ∷ []) in
    (ap (λ l. l ++ b ∷ []) h.0 ∙ ap (λ d. take n (codes "<?xml") ++ d ∷ []) is ∙ sym step ∙ ap (λ m. take m (codes "<?xml")) (sym len), omega (arith, len, small))

declaration_begins : (token more : List ℕ) (b : ℕ) → token ≡ 60 ∷ more → OpensDeclaration token → nat_lt (length token) 5 ≡ false → is_white b ≡ true → DeclarationIn (more ++ b ∷ [])
declaration_begins token more b h opens most white =
    let len : length token ≡ 5 = let l = least (length token) most in let m = opens.1 in omega (arith, l, m) in
    let token_is : token ≡ codes "<?xml" = opens.0 ∙ ap (λ m. take m (codes "<?xml")) len in
    let more_is = tails 60 60 more (codes "?xml") (sym h ∙ token_is) in
    record { inside = []; space = b; is = ap (λ l. l ++ b ∷ []) more_is; is_space = white; no_end = refl }

question_marks : (s : State) (b : ℕ) (more : List ℕ) → s.lexical.mode ≡ mode.Question → s.token ≡ 60 ∷ more → OpensDeclaration s.token → Marks 60 b more (in_question s b)
unfolding in_question
question_marks s b more is h opens =
    let P = Marks 60 b more in
    let fault = token_fails s why.Restricted in
    let declaring = gathered_in s mode.Declaration b in
    let token_is = ap (λ l. l ++ b ∷ []) h in
    state_by P (if b == slice_index (codes "<?xml") (length s.token) then gathered s b else fault) (if is_white b then declaring else fault) (nat_lt (length s.token) 5)
    (λ e. state_by P (gathered s b) fault (b == slice_index (codes "<?xml") (length s.token)) (λ f. on 60 b more (gathered s b) mode.Question is refl (token_is, question_more s.token b opens e f))
    (λ f. broken 60 b more fault _ refl))
    (λ e. state_by P declaring fault (is_white b) (λ f. on 60 b more declaring mode.Declaration refl refl (token_is, declaration_begins s.token more b h opens e f)) (λ f. broken 60 b more fault _ refl))

-- ---- declarations

-- the last of some bytes
abbrev last_of : ℕ → List ℕ → ℕ
last_of x [] = x
last_of x (y ∷ ys) = last_of y ys

last_split : (x : ℕ) (xs : List ℕ) → (front : List ℕ) × (x ∷ xs ≡ front ++ last_of x xs ∷ [])
last_split x [] = ([], refl)
last_split x (y ∷ ys) = let r = last_split y ys in (x ∷ r.0, ap (λ l. x ∷ l) r.1)

ends_last : (front : List ℕ) (x : ℕ) (xs : List ℕ) → ends_in_question (front ++ x ∷ xs) ≡ (last_of x xs == 63)
ends_last front x [] =
    let last : length (front ++ x ∷ []) - 1 ≡ length front = omega (arith, length-append front (x ∷ [])) in
    ap (λ n. eqb (get_or (front ++ x ∷ []) n 0) 63) last ∙ ap (λ n. eqb n 63) (get_or-append_seam front x [] 0)
ends_last front x (y ∷ ys) = ap ends_in_question (sym (append_assoc front (x ∷ []) (y ∷ ys))) ∙ ends_last (front ++ x ∷ []) y ys

swapped : (x y : Bool) → (x && y) ≡ false → (y && x) ≡ false
swapped true true e = e
swapped true false e = refl
swapped false true e = refl
swapped false false e = refl

declaration_more : (x b : ℕ) (inside : List ℕ) → has_declaration_end inside ≡ false → (b == 62 && last_of x inside == 63) ≡ false → has_declaration_end (inside ++ b ∷ []) ≡ false
declaration_more x b [] h last = refl
declaration_more x b (y ∷ []) h last = rw (swapped (b == 62) (y == 63) last) refl
declaration_more x b (y ∷ z ∷ zs) h last =
    let p = or_parts (y == 63 && z == 62) (has_declaration_end (z ∷ zs)) h in rw p.0 (declaration_more y b (z ∷ zs) p.1 last)

pub declaration_front : (xs ys : List ℕ) → has_declaration_end (xs ++ ys) ≡ false → has_declaration_end xs ≡ false
declaration_front [] ys h = refl
declaration_front (x ∷ []) ys h = refl
declaration_front (x ∷ y ∷ zs) ys h = let p = or_parts (x == 63 && y == 62) (has_declaration_end ((y ∷ zs) ++ ys)) h in rw p.0 (declaration_front (y ∷ zs) ys p.1)

asked_last : (x : ℕ) (inside : List ℕ) → is_white x ≡ true → (last_of x inside == 63) ≡ true → (front : List ℕ) × (inside ≡ front ++ 63 ∷ [])
asked_last x [] white e = absurd (false≢true (ap is_white (sym (eqb-true x 63 e)) ∙ white))
asked_last x (y ∷ ys) white e = let r = last_split y ys in (r.0, r.1 ∙ ap (λ d. r.0 ++ d ∷ []) (eqb-true (last_of y ys) 63 e))

declaration_whole : (token more : List ℕ) (b : ℕ) → token ≡ 60 ∷ more → DeclarationIn more → b ≡ 62 → ends_in_question token ≡ true → IsWhole (60 ∷ (more ++ b ∷ []))
declaration_whole token more b h d is asked =
    let token_is : token ≡ codes "<?xml" ++ d.space ∷ d.inside = h ∙ ap (λ l. 60 ∷ l) d.is in
    let last : (last_of d.space d.inside == 63) ≡ true = sym (ends_last (codes "<?xml") d.space d.inside) ∙ sym (ap ends_in_question token_is) ∙ asked in
    let r = asked_last d.space d.inside d.is_space last in
    let all : d.inside ++ b ∷ [] ≡ r.0 ++ codes "?>" = ap (λ l. l ++ b ∷ []) r.1 ∙ append_assoc r.0 (63 ∷ []) (b ∷ []) ∙ ap (λ c. r.0 ++ 63 ∷ c ∷ []) is in
    whole_declaration _ r.0 d.space (ap (λ l. 60 ∷ (l ++ b ∷ [])) d.is ∙ ap (λ l. codes "<?xml" ++ d.space ∷ l) all) d.is_space (declaration_front r.0 (63 ∷ []) (sym (ap has_declaration_end r.1) ∙ d.no_end))

declaration_on : (token more : List ℕ) (b : ℕ) → token ≡ 60 ∷ more → DeclarationIn more → (b == 62 && ends_in_question token) ≡ false → DeclarationIn (more ++ b ∷ [])
declaration_on token more b h d other =
    let token_is : token ≡ codes "<?xml" ++ d.space ∷ d.inside = h ∙ ap (λ l. 60 ∷ l) d.is in
    let last = ap ends_in_question token_is ∙ ends_last (codes "<?xml") d.space d.inside in
    record {
      inside = d.inside ++ b ∷ [];
      space = d.space;
      is = ap (λ l. l ++ b ∷ []) d.is;
      is_space = d.is_space;
      no_end = declaration_more d.space b d.inside d.no_end (sym (ap (λ q. b == 62 && q) last) ∙ other);
    }

declaration_marks : (s : State) (b : ℕ) (more : List ℕ) → s.lexical.mode ≡ mode.Declaration → s.token ≡ 60 ∷ more → DeclarationIn more → Marks 60 b more (in_declaration s b)
unfolding in_declaration
declaration_marks s b more is h d =
    let told = declaration_of (s.token ++ b ∷ []) in
    state_by (Marks 60 b more) (declares (gathered s b) told) (gathered s b) (b == 62 && ends_in_question s.token)
    (λ e. let p = and_parts (b == 62) (ends_in_question s.token) e in judged told (declaration_whole s.token more b h d (eqb-true b 62 p.0) p.1))
    (λ e. on 60 b more (gathered s b) mode.Declaration is refl (ap (λ l. l ++ b ∷ []) h, declaration_on s.token more b h d e))
  where
    judged : (x : Declaration) → IsWhole (60 ∷ (more ++ b ∷ [])) → Marks 60 b more (declares (gathered s b) x)
    judged declaration.Good whole = closes 60 b more (declares (gathered s b) declaration.Good) (λ n. (refl, refl)) whole
    judged declaration.Encoding whole = broken 60 b more (declares (gathered s b) declaration.Encoding) _ refl
    judged declaration.NotWellFormed whole = broken 60 b more (declares (gathered s b) declaration.NotWellFormed) _ refl

-- ---- sections

pub some_none : (x : ℕ) (xs : List ℕ) → x ∷ xs ≡ [] → ⊥
some_none x xs e = cc

zero_two : ◌≡◌ {A = ℕ} 0 2 → ⊥
zero_two e = omega (arith, e)

one_two : ◌≡◌ {A = ℕ} 1 2 → ⊥
one_two e = omega (arith, e)

-- where two `]` are counted, they stand last
mutual
  two_last : (xs : List ℕ) → counted_behind 0 xs ≡ 2 → (front : List ℕ) × (xs ≡ front ++ 93 ∷ 93 ∷ [])
  two_last [] e = absurd (zero_two e)
  two_last (b ∷ bs) e =
      ⊎_elim
      (λ (f : (b == 93) ≡ true).
      let n : brackets_after 0 b ≡ 1 = rw f refl in
      let r = two_after_one bs (sym (ap (λ k. counted_behind k bs) n) ∙ e) in
      (r.0, ap (λ d. d ∷ bs) (eqb-true b 93 f) ∙ r.1))
      (λ (f : (b == 93) ≡ false).
      let n : brackets_after 0 b ≡ 0 = rw f refl in
      let r = two_last bs (sym (ap (λ k. counted_behind k bs) n) ∙ e) in
      (b ∷ r.0, ap (λ l. b ∷ l) r.1))
      (cases_Bool (b == 93))

  two_after_one : (xs : List ℕ) → counted_behind 1 xs ≡ 2 → (front : List ℕ) × (93 ∷ xs ≡ front ++ 93 ∷ 93 ∷ [])
  two_after_one [] e = absurd (one_two e)
  two_after_one (b ∷ bs) e =
      ⊎_elim
      (λ (f : (b == 93) ≡ true).
      let n : brackets_after 1 b ≡ 2 = rw f refl in
      let r = two_after_two bs (sym (ap (λ k. counted_behind k bs) n) ∙ e) in
      (r.0, ap (λ d. 93 ∷ d ∷ bs) (eqb-true b 93 f) ∙ r.1))
      (λ (f : (b == 93) ≡ false).
      let n : brackets_after 1 b ≡ 0 = rw f refl in
      let r = two_last bs (sym (ap (λ k. counted_behind k bs) n) ∙ e) in
      (93 ∷ b ∷ r.0, ap (λ l. 93 ∷ b ∷ l) r.1))
      (cases_Bool (b == 93))

  two_after_two : (xs : List ℕ) → counted_behind 2 xs ≡ 2 → (front : List ℕ) × (93 ∷ 93 ∷ xs ≡ front ++ 93 ∷ 93 ∷ [])
  two_after_two [] e = ([], refl)
  two_after_two (b ∷ bs) e =
      ⊎_elim
      (λ (f : (b == 93) ≡ true).
      let n : brackets_after 2 b ≡ 2 = rw f refl in
      let r = two_after_two bs (sym (ap (λ k. counted_behind k bs) n) ∙ e) in
      (93 ∷ r.0, ap (λ d. 93 ∷ 93 ∷ d ∷ bs) (eqb-true b 93 f) ∙ ap (λ l. 93 ∷ l) r.1))
      (λ (f : (b == 93) ≡ false).
      let n : brackets_after 2 b ≡ 0 = rw f refl in
      let r = two_last bs (sym (ap (λ k. counted_behind k bs) n) ∙ e) in
      (93 ∷ 93 ∷ b ∷ r.0, ap (λ l. 93 ∷ 93 ∷ b ∷ l) r.1))
      (cases_Bool (b == 93))

-- a byte of ASCII comes where no character is in hand
no_ascii : (x : ℕ) (xs : List ℕ) (b n : ℕ) → n < 128 → continues (x ∷ xs) b ≡ true → (b == n) ≡ false
no_ascii x xs b n low c =
    ⊎_elim (λ (e : (b == n) ≡ true). let is = eqb-true b n e in absurd (some_none x xs (ascii_alone (x ∷ xs) b (omega (arith, is, low)) c).0)) (λ (e : (b == n) ≡ false). e) (cases_Bool (b == n))

pub same_count : (held : List ℕ) (n m b : ℕ) → continues held b ≡ true → (held ≡ [] → n ≡ m) → brackets_after n b ≡ brackets_after m b
same_count [] n m b c h = ap (λ k. brackets_after k b) (h refl)
same_count (x ∷ xs) n m b c h = let other = no_ascii x xs b 93 (omega arith) c in rw other refl

same_end : (held : List ℕ) (n m b : ℕ) → continues held b ≡ true → (held ≡ [] → n ≡ m) → (n == 2 && b == 62) ≡ false → (m == 2 && b == 62) ≡ false
same_end [] n m b c h e = subst (λ k. (k == 2 && b == 62) ≡ false) (h refl) e
same_end (x ∷ xs) n m b c h e = and_right (m == 2) (b == 62) (no_ascii x xs b 62 (omega arith) c)

section_more : (inside : List ℕ) (b : ℕ) → has_section_end inside ≡ false → (counted_behind 0 inside == 2 && b == 62) ≡ false → has_section_end (inside ++ b ∷ []) ≡ false
section_more inside b h last =
    let front : ends_after 0 inside ≡ false = sym (section_end_0 inside) ∙ h in
    section_end_0 (inside ++ b ∷ []) ∙ ends-append 0 inside (b ∷ []) ∙ or_from (ends_after 0 inside) _ front (or_from (counted_behind 0 inside == 2 && b == 62) false last refl)

module _ (s : State) (b : ℕ) (more : List ℕ) (is : s.lexical.mode ≡ mode.Section) (d : SectionIn s.pending s.lexical.brackets more) (c : continues s.pending b ≡ true) where
  section_on : (u : State) → u.lexical.mode ≡ s.lexical.mode → u.pending ≡ s.pending → u.lexical.brackets ≡ brackets_after s.lexical.brackets b → ends_section s b ≡ false → Marks 60 b more u
  section_on u same held counts other =
      on 60 b more u mode.Section (same ∙ is) refl
      (record {
        inside = d.inside ++ b ∷ [];
        is = ap (λ l. l ++ b ∷ []) d.is;
        no_end = section_more d.inside b d.no_end (same_end s.pending s.lexical.brackets (counted_behind 0 d.inside) b c d.counts other);
        counts = λ none. counts ∙ same_count s.pending s.lexical.brackets (counted_behind 0 d.inside) b c d.counts ∙ sym (counted-append 0 d.inside (b ∷ []));
      })

  section_whole : ends_section s b ≡ true → IsWhole (60 ∷ (more ++ b ∷ []))
  section_whole e =
      let p = and_parts (s.lexical.brackets == 2) (b == 62) e in
      let last = eqb-true b 62 p.1 in
      let none = (ascii_alone s.pending b (omega (arith, last)) c).0 in
      let r = two_last d.inside (sym (d.counts none) ∙ eqb-true s.lexical.brackets 2 p.0) in
      let all : d.inside ++ b ∷ [] ≡ r.0 ++ codes "]]>" = ap (λ l. l ++ b ∷ []) r.1 ∙ append_assoc r.0 (93 ∷ 93 ∷ []) (b ∷ []) ∙ ap (λ x. r.0 ++ 93 ∷ 93 ∷ x ∷ []) last in
      let front : has_section_end r.0 ≡ false = section_end_0 r.0 ∙ ends_parted r.0 (93 ∷ 93 ∷ []) (sym (section_end_0 (r.0 ++ 93 ∷ 93 ∷ [])) ∙ sym (ap has_section_end r.1) ∙ d.no_end) in
      whole_section _ r.0 (ap (λ l. 60 ∷ (l ++ b ∷ [])) d.is ∙ ap (λ l. codes "<![CDATA[" ++ l) all) front

  -- the character goes on
  section_waits : ends_character s.pending b ≡ false → Marks 60 b more s
  section_waits e =
      let high : (b == 62) ≡ false =
      ⊎_elim
      (λ (f : (b == 62) ≡ true).
      let last = eqb-true b 62 f in
      let low : b < 128 = omega (arith, last) in
      let none = (ascii_alone s.pending b low c).0 in
      absurd (true≢false (sym (ascii_ends b low) ∙ ap (λ l. ends_character l b) (sym none) ∙ e)))
      (λ (f : (b == 62) ≡ false). f) (cases_Bool (b == 62)) in
      on 60 b more s mode.Section is refl
      (record {
        inside = d.inside ++ b ∷ [];
        is = ap (λ l. l ++ b ∷ []) d.is;
        no_end = section_more d.inside b d.no_end (and_right (counted_behind 0 d.inside == 2) (b == 62) high);
        counts = λ none. absurd (held_on s.pending (sym (grown_after s.pending b c e) ∙ none));
      })
    where
      held_on : (held : List ℕ) → held ++ b ∷ [] ≡ [] → ⊥
      held_on [] h = some_none b [] h
      held_on (x ∷ xs) h = some_none x (xs ++ b ∷ []) h

  section_marks : Marks 60 b more (in_section s b)
  unfolding in_section judged_section
  section_marks =
      let P = Marks 60 b more in
      let fault = token_fails s why.NotWellFormed in
      let taken = section_taken s b in
      let rest = (if ends_section s b then token_ended s else taken) in
      let third = record s { chars = s.chars ++ 93 ∷ []; lexical = record s.lexical { returned = false } } in
      state_by P (if is_forbidden s b then fault else rest) s (ends_character s.pending b)
      (λ e. state_by P fault rest (is_forbidden s b) (λ f. broken 60 b more fault _ refl)
      (λ f. state_by P (token_ended s) taken (ends_section s b) (λ g. closes 60 b more (token_ended s) (λ n. (refl, refl)) (section_whole g))
      (λ g. state_by P (bracket_taken s) (other_taken s b) (b == 93)
      (λ i. state_by P third _ (s.lexical.brackets == 2)
      (λ j. section_on third refl refl (let n = eqb-true s.lexical.brackets 2 j in ap (λ k. k) n ∙ sym (rw (i, n) refl)) g)
      (λ j. section_on _ refl refl (ap (brackets_after s.lexical.brackets) (sym (eqb-true b 93 i))) g))
      (λ i. section_on (other_taken s b) refl refl (sym (none_counted s.lexical.brackets i)) g))))
      section_waits
    where
      none_counted : (n : ℕ) → (b == 93) ≡ false → brackets_after n b ≡ 0
      none_counted n e = rw e refl

-- ---- a byte of a token

pub mark_after : (m : Mode) (t : Turn) (b : ℕ) (more : List ℕ) → t.state.lexical.mode ≡ m → is_text m ≡ false → continues t.state.pending b ≡ true → Spot m t.state.lexical.quote more → Mark m t.state more
    → Marks (first_of m) b more (taken_in m t b).state
mark_after mode.Text t b more is no_text c spot h = absurd (false≢true (sym no_text))
mark_after mode.Reference t b more is no_text c spot h = reference_marks t.state b more is h spot
mark_after mode.Opening t b more is no_text c spot h = subst (λ l. Marks 60 b l (in_opening t b).state) (sym spot.0) (opening_marks t b spot.1 h.0 h.1)
mark_after mode.Bang t b more is no_text c spot h = bang_marks t.state b more is h.0 h.1 h.2
mark_after mode.Question t b more is no_text c spot h = question_marks t.state b more is h.0 h.1
mark_after mode.Declaration t b more is no_text c spot h = declaration_marks t.state b more is h.0 h.1
mark_after mode.Tag t b more is no_text c spot h = tag_marks t b more spot.1 spot.2 spot.3 h
mark_after mode.Footer t b more is no_text c spot h = footer_marks t b more is spot.1 spot.2 spot.3
mark_after mode.Section t b more is no_text c spot h = section_marks t.state b more is h c

-- ---- a byte of a text

-- no token is in hand, or one of which this byte is the first
pub record Begins (b : ℕ) (u : State) : Type 0 where
  pub none : is_text u.lexical.mode ≡ true → u.token ≡ []
  pub mark : is_text u.lexical.mode ≡ false → Mark u.lexical.mode (passed u b) []

abbrev Alike : State → State → Type 0
Alike s u = (u.lexical.mode ≡ s.lexical.mode) × (u.token ≡ s.token)

alike : (s u v : State) (c : Bool) → Alike s u → Alike s v → Alike s (if c then u else v)
alike s u v true x y = x
alike s u v false x y = y

run_alike : (s : State) → Alike s (in_run s)
run_alike s = alike s s (run_begun s) s.lexical.in_run (refl, refl) (refl, refl)

module _ (s : State) (b : ℕ) (is : s.lexical.mode ≡ mode.Text) (no_token : s.token ≡ []) where
  stays : (u : State) → Alike s u → Begins b u
  stays u h = record { none = λ e. h.1 ∙ no_token; mark = λ e. absurd (false≢true (sym e ∙ ap is_text (h.0 ∙ is))) }

  markup_begins : Begins b (markup_begun s)
  markup_begins =
      let t = token_begun s mode.Opening in
      let placed = record t { positions = record t.positions { item_at = t.positions.at; used = 1 } } in
      cond_both (is_some t.here) t placed (λ v. Begins b (gathered v 60))
      (λ e. record { none = λ f. absurd (false≢true f); mark = λ f. (ap (λ l. l ++ 60 ∷ []) no_token, refl) })
      (λ e. record { none = λ f. absurd (false≢true f); mark = λ f. (ap (λ l. l ++ 60 ∷ []) no_token, refl) })

  text_begins : Begins b (in_text s b)
  unfolding in_text inside between text_inside text_outside
  text_begins =
      let P = Begins b in
      let r = in_run s in
      let same = run_alike s in
      let fault = fails s s.positions.at why.NotWellFormed in
      let reference = token_begun s mode.Reference in
      let judged = alike s (token_fails r why.NotWellFormed) (character_taken r b) (is_forbidden r b || ends_section r b) same same in
      let said = alike s r (token_fails r why.NotWellFormed) (is_white b) same same in
      let begun = alike s (record r { positions = record r.positions { item_at = r.positions.at } }) r (is_empty r.pending) same same in
      state_by P (inside s b) (between s b) (is_some s.here)
      (λ i. state_by P (markup_begun s) (if b == 38 then reference else text_inside s b) (b == 60) (λ e. markup_begins)
      (λ e. state_by P reference (text_inside s b) (b == 38) (λ f. record { none = λ g. absurd (false≢true g); mark = λ g. no_token })
      (λ f. stays (text_inside s b) (alike s (judged_text r b) r (ends_character s.pending b) judged same))))
      (λ i. state_by P (markup_begun s) (if b == 38 then fault else text_outside s b) (b == 60) (λ e. markup_begins)
      (λ e. state_by P fault (text_outside s b) (b == 38) (λ f. stays fault (refl, refl))
      (λ f. stays (text_outside s b) (alike s (judged_outside r b) (character_begun r) (ends_character s.pending b) said begun))))

-- ---- the `]` that a text of an element ends in

-- A text in an element goes on, and where the byte ends a character the `]` are counted.
abbrev pub Counted : State → ℕ → State → Type 0
Counted s b u =
    u.fault ≡ None → is_text u.lexical.mode ≡ true → is_some u.here ≡ true
    → (is_some s.here ≡ true) × (held_after s.pending b ≡ [] → u.lexical.brackets ≡ brackets_after (if s.lexical.in_run then s.lexical.brackets else 0) b)

run_brackets : (x : Bool) (s : State) → (if x then s else run_begun s).lexical.brackets ≡ (if x then s.lexical.brackets else 0)
run_brackets true s = refl
run_brackets false s = refl

run_here : (x : Bool) (s : State) → (if x then s else run_begun s).here ≡ s.here
run_here true s = refl
run_here false s = refl

module _ (s : State) (b : ℕ) (c : continues s.pending b ≡ true) where
  outside_here : (text_outside s b).here ≡ s.here
  unfolding text_outside
  outside_here =
      let r = in_run s in
      let same = run_here s.lexical.in_run s in
      let P = λ (v : State). v.here ≡ s.here in
      state_by P (judged_outside r b) (character_begun r) (ends_character s.pending b) (λ e. state_by P r (token_fails r why.NotWellFormed) (is_white b) (λ f. same) (λ f. same))
      (λ e. state_by P (record r { positions = record r.positions { item_at = r.positions.at } }) r (is_empty r.pending) (λ f. same) (λ f. same))

  markup_counted : Counted s b (markup_begun s)
  markup_counted =
      let t = token_begun s mode.Opening in
      cond_both (is_some t.here) t (record t { positions = record t.positions { item_at = t.positions.at; used = 1 } }) (λ v. Counted s b (gathered v 60)) (λ e n t h. absurd (false≢true t))
      (λ e n t h. absurd (false≢true t))

  text_counted : Counted s b (in_text s b)
  unfolding in_text inside between text_inside
  text_counted =
      let P = Counted s b in
      let r = in_run s in
      let fault = fails s s.positions.at why.NotWellFormed in
      let reference = token_begun s mode.Reference in
      state_by P (inside s b) (between s b) (is_some s.here)
      (λ i. state_by P (markup_begun s) (if b == 38 then reference else text_inside s b) (b == 60) (λ e. markup_counted)
      (λ e. state_by P reference (text_inside s b) (b == 38) (λ f n t h. absurd (false≢true t))
      (λ f. state_by P (judged_text r b) r (ends_character s.pending b)
      (λ g. state_by P (token_fails r why.NotWellFormed) (character_taken r b) (is_forbidden r b || ends_section r b) (λ j n t h. absurd (none_some _ n))
      (λ j n t h. (i, λ none. ap (λ k. brackets_after k b) (run_brackets s.lexical.in_run s))))
      (λ g n t h. (i, λ none. absurd (held_on s.pending b (sym (grown_after s.pending b c g) ∙ none)))))))
      (λ i. state_by P (markup_begun s) (if b == 38 then fault else text_outside s b) (b == 60) (λ e. markup_counted)
      (λ e. state_by P fault (text_outside s b) (b == 38) (λ f n t h. absurd (none_some _ n)) (λ f n t h. absurd (false≢true (sym i ∙ (sym (ap is_some outside_here) ∙ h))))))

pub counted_after : (m : Mode) (t : Turn) (b : ℕ) → is_text m ≡ true → continues t.state.pending b ≡ true → Counted t.state b (taken_in m t b).state
counted_after mode.Text t b e c = text_counted t.state b c
counted_after mode.Reference t b e c = absurd (false≢true e)
counted_after mode.Opening t b e c = absurd (false≢true e)
counted_after mode.Bang t b e c = absurd (false≢true e)
counted_after mode.Question t b e c = absurd (false≢true e)
counted_after mode.Declaration t b e c = absurd (false≢true e)
counted_after mode.Tag t b e c = absurd (false≢true e)
counted_after mode.Footer t b e c = absurd (false≢true e)
counted_after mode.Section t b e c = absurd (false≢true e)

pub begins_after : (m : Mode) (t : Turn) (b : ℕ) → t.state.lexical.mode ≡ m → is_text m ≡ true → t.state.token ≡ [] → Begins b (taken_in m t b).state
begins_after mode.Text t b is e none = text_begins t.state b is none
begins_after mode.Reference t b is e none = absurd (false≢true e)
begins_after mode.Opening t b is e none = absurd (false≢true e)
begins_after mode.Bang t b is e none = absurd (false≢true e)
begins_after mode.Question t b is e none = absurd (false≢true e)
begins_after mode.Declaration t b is e none = absurd (false≢true e)
begins_after mode.Tag t b is e none = absurd (false≢true e)
begins_after mode.Footer t b is e none = absurd (false≢true e)
begins_after mode.Section t b is e none = absurd (false≢true e)
