-- A tag in hand has not ended: no `>` stands in it outside quotes.
use Rattle.std.proofs.Common.{◌≡◌, ℕ, ◌+◌, Bool, true, false, not, ◌&&◌, ◌||◌, ◌==◌, if◌then◌else◌, List, [], ◌∷◌, ◌++◌, Option, Some, None, Result, Ok, Err, refl, sym, ap, subst, ◌∙◌, length}
use Rattle.std.proofs.lemmas.Bool.{and_parts, cond_both, eqb-true, false≢true, and_from}
use Rattle.std.proofs.lemmas.List.Folds.{list_all-append}
use Rattle.std.specs.List.{list_all}
use Rattle.std.specs.Option.{is_some}
use Rattle.std.specs.Prelude.{codes, nat_lt, slice_index}
use Rattle.xml_names.specs.Ends.{end_of}
use Rattle.xml_names.specs.Starts.{Tag}
use Rattle.xml_names.specs.declared.fault.StartWhy.{StartWhy}
use Rattle.xml_tokens.specs.Characters.{is_white}
use Rattle.xml_tokens.specs.Declarations.{declaration_of}
use Rattle.xml_tokens.specs.References.{reference_goes_on, referred}
use Rattle.xml_tokens.specs.Tags.{is_empty, is_end, is_quote, quote_behind}
use Rattle.xml_tokens.specs.Utf8.{ends_character}
use Rattle.xml_tokens.specs.declared.declarations.Declaration.{Declaration}
use Rattle.xml_tokens.specs.declared.declarations.Declaration.TheVariants as declaration
use Rattle.xml_tokens.specs.declared.references.Reference.{Reference}
use Rattle.xml_tokens.specs.declared.references.Reference.TheVariants as reference
use Rattle.law_xml.specs.Offsets.{is_no_end, is_open_tag, is_reference, leads_tag}
use Rattle.law_xml.proofs.OffsetSteps.{is_first, none_some}
use Rattle.xml_framer.specs.ManyBytes.{quote_after}
use Rattle.xml_framer.specs.Machine.{taken_in}
use Rattle.xml_framer.specs.MarkupSteps.{declares, ends_in_question, in_bang, in_declaration, in_phase, in_question, section_opened}
use Rattle.xml_framer.specs.States.{OpenElement, State, Turn, fails, gathered, gathered_in, gives, in_mode, in_run, is_text, item_ended, may_declare, moved, run_begun, token_begun, token_ended, token_fails}
use Rattle.xml_framer.specs.TagSteps.{added_to, begun, closed, closed_open, element_from, ends, ends_stream, footer_closes, footer_gathered, header_tag, heads, in_footer, in_opening, in_tag, is_header, is_spelled, is_too_deep, joined_text, text_joined, leaf, level, misplaced, shallower, starts, tag_anew, tag_closes, tag_gathered, tag_here, tag_in, tag_inside, tag_outside, unlimited}
use Rattle.xml_framer.specs.TextSteps.{between, bracket_taken, character_begun, character_taken, ends_section, in_reference, in_section, in_text, inside, is_forbidden, judged_outside, judged_section, judged_text, markup_begun, other_taken, refers, section_taken, text_inside, text_outside}
use Rattle.xml_trees.specs.Trees.{Elem}
use Rattle.xml_framer.specs.declared.items.Item.TheVariants as item
use Rattle.xml_framer.specs.declared.fault.Why.TheVariants as why
use Rattle.xml_framer.specs.declared.states.Mode.{Mode}
use Rattle.xml_framer.specs.declared.states.Mode.TheVariants as mode
use Rattle.xml_framer.specs.declared.states.Phase.{Phase}
use Rattle.xml_framer.specs.declared.states.Phase.TheVariants as phase
use Rattle.xml_framer.proofs.PlainTags.{quote_more}

-- a token has ended, unless there is a fault
abbrev pub Closed : State → Type 0
Closed u = u.fault ≡ None → (is_text u.lexical.mode ≡ true) × (u.token ≡ [])

choose : (u v : Turn) (c : Bool) → (c ≡ true → Closed u.state) → (c ≡ false → Closed v.state) → Closed (if c then u else v).state
choose u v true x y = x refl
choose u v false x y = y refl

added_closes : (o : Option OpenElement) (t : Turn) (e : Elem) → Closed (added_to o t e).state
added_closes None t e n = (refl, refl)
added_closes (Some o) t e n = (refl, refl)

leaf_closes : (t : Turn) (tag : Tag) → Closed (leaf t tag).state
unfolding leaf
leaf_closes t tag = added_closes (joined_text t.state).here (moved t (joined_text t.state)) (element_from tag)

begun_closes : (t : Turn) (tag : Tag) → Closed (begun t tag).state
unfolding begun level
begun_closes t tag =
    let deep = moved t (token_fails t.state why.TooDeep) in
    let inner = moved t (level t.state tag) in
    choose deep (if tag.empty then leaf t tag else inner) (is_too_deep t.state) (λ e n. absurd (none_some _ n)) (λ e. choose (leaf t tag) inner tag.empty (λ f. leaf_closes t tag) (λ f n. (refl, refl)))

starts_close : (t : Turn) (x : Result Tag StartWhy) → Closed (starts t x).state
starts_close t (Ok tag) = begun_closes t tag
starts_close t (Err fault) = λ n. absurd (none_some _ n)

open_closes : (o : Option OpenElement) (t : Turn) → is_some o ≡ true → Closed (closed_open o t).state
open_closes None t e = absurd (false≢true e)
open_closes (Some o) t e = added_closes (shallower t.state).here (moved t (shallower t.state)) o.element

joined_some : (o : Option OpenElement) (chars : List ℕ) → is_some (text_joined o chars) ≡ is_some o
joined_some None chars = refl
joined_some (Some o) chars = refl

spelled_some : (o : Option OpenElement) (name : Option (List ℕ)) → is_spelled o name ≡ true → is_some o ≡ true
spelled_some None name e = e
spelled_some (Some o) name e = refl

closed_closes : (t : Turn) → is_some t.state.here ≡ true → Closed (closed t).state
unfolding closed
closed_closes t e = open_closes (joined_text t.state).here (moved t (joined_text t.state)) (joined_some t.state.here t.state.chars ∙ e)

ends_close : (t : Turn) → Closed (ends t).state
unfolding ends
ends_close t =
    choose (closed t) (moved t (token_fails t.state why.NotWellFormed)) (is_spelled t.state.here (end_of t.state.token)) (λ e. closed_closes t (spelled_some t.state.here (end_of t.state.token) e))
    (λ e n. absurd (none_some _ n))

inside_closes : (t : Turn) → Closed (tag_inside t).state
unfolding tag_inside
inside_closes t = choose (ends t) (starts t (tag_here t.state)) (is_end t.state.token) (λ e. ends_close t) (λ e. starts_close t (tag_here t.state))

heads_close : (t : Turn) (x : Result Tag StartWhy) → Closed (heads t x).state
heads_close t (Ok tag) = λ n. (refl, refl)
heads_close t (Err fault) = λ n. absurd (none_some _ n)

header_closes : (t : Turn) → Closed (header_tag t).state
unfolding header_tag
header_closes t = heads_close t (tag_anew t.state)

misplaced_closes : (t : Turn) → Closed (misplaced t).state
unfolding misplaced
misplaced_closes t n = absurd (none_some _ n)

phase_closes : (p : Phase) (t : Turn) → Closed (tag_in p t).state
phase_closes phase.First t = header_closes t
phase_closes phase.FirstDeclared t = header_closes t
phase_closes phase.Between t = choose (header_tag t) (starts t (tag_here t.state)) (is_header t.state) (λ e. header_closes t) (λ e. starts_close t (tag_here t.state))
phase_closes phase.Declared t = choose (header_tag t) (misplaced t) (is_header t.state) (λ e. header_closes t) (λ e. misplaced_closes t)
phase_closes phase.Ended t = misplaced_closes t

pub closes_close : (t : Turn) → Closed (tag_closes t).state
unfolding tag_closes tag_outside
closes_close t = choose (tag_inside t) (tag_outside t) (is_some t.state.here) (λ e. inside_closes t) (λ e. phase_closes t.state.lexical.phase t)

pub footer_close : (t : Turn) → Closed (footer_closes t).state
unfolding footer_closes
footer_close t =
    let given = gives (in_phase (item_ended t.state) phase.Ended) t.items item.Footer in
    choose given (moved t (token_fails t.state why.NotWellFormed)) (ends_stream t.state) (λ e n. (refl, refl)) (λ e n. absurd (none_some _ n))

-- ---- a byte of a tag

-- what holds of either branch holds of the choice
pub turn_by : (P : Turn → Type 0) (u v : Turn) (c : Bool) → (c ≡ true → P u) → (c ≡ false → P v) → P (if c then u else v)
turn_by P u v true x y = x refl
turn_by P u v false x y = y refl

pub state_by : (P : State → Type 0) (u v : State) (c : Bool) → (c ≡ true → P u) → (c ≡ false → P v) → P (if c then u else v)
state_by P u v true x y = x refl
state_by P u v false x y = y refl

-- the tag goes on in this mode, or it ends
abbrev TagOn : Mode → ℕ → State → State → Type 0
TagOn m b s u =
    is_text u.lexical.mode ≡ false → u.fault ≡ None → (u.lexical.mode ≡ m) × ((b == 62 && not (is_some s.lexical.quote)) ≡ false) × (u.lexical.quote ≡ quote_behind s.lexical.quote b)

ended_tag : (m : Mode) (b : ℕ) (s u : State) → Closed u → TagOn m b s u
ended_tag m b s u h e n = absurd (false≢true (sym e ∙ (h n).0))

tag_on : (t : Turn) (b : ℕ) → TagOn mode.Tag b t.state (in_tag t b).state
unfolding in_tag
tag_on t b =
    let whole = moved t (gathered t.state b) in
    turn_by (λ v. TagOn mode.Tag b t.state v.state) (tag_closes whole) (moved t (tag_gathered t.state b)) (b == 62 && not (is_some t.state.lexical.quote))
    (λ e. ended_tag mode.Tag b t.state (tag_closes whole).state (closes_close whole)) (λ f e n. (refl, f, refl))

quote_same : (q : Option ℕ) (b : ℕ) → (is_some q || is_quote b) ≡ false → q ≡ quote_behind q b
quote_same None b e = rw e refl
quote_same (Some q) b e = absurd (false≢true (sym e))

footer_on : (t : Turn) (b : ℕ) → t.state.lexical.mode ≡ mode.Footer → TagOn mode.Footer b t.state (in_footer t b).state
unfolding in_footer
footer_on t b is =
    let s = t.state in
    let whole = moved t (gathered s b) in
    let quoted = record s { lexical = record s.lexical { quote = quote_behind s.lexical.quote b; spoiled = true } } in
    let spoiled = record s { lexical = record s.lexical { spoiled = true } } in
    let rest = (if is_white b then s else spoiled) in
    turn_by (λ v. TagOn mode.Footer b s v.state) (footer_closes whole) (moved t (footer_gathered s b)) (b == 62 && not (is_some s.lexical.quote))
    (λ e. ended_tag mode.Footer b s (footer_closes whole).state (footer_close whole))
    (λ f. state_by (λ v. TagOn mode.Footer b s v) quoted (if nat_lt (length s.token) (length s.name + 2) then gathered s b else rest) (is_some s.lexical.quote || is_quote b) (λ g e n. (is, f, refl))
    (λ g. let same = quote_same s.lexical.quote b g in
    state_by (λ v. TagOn mode.Footer b s v) (gathered s b) rest (nat_lt (length s.token) (length s.name + 2)) (λ i e n. (is, f, same))
    (λ i. state_by (λ v. TagOn mode.Footer b s v) s spoiled (is_white b) (λ j e n. (is, f, same)) (λ j e n. (is, f, same)))))

-- ---- what stands after a `<`

-- as a state has it: the tag so far with its quote, or no tag
abbrev pub Spot : Mode → Option ℕ → List ℕ → Type 0
Spot mode.Text q more = Unit {0}
Spot mode.Reference q more = list_all is_no_end more ≡ true
Spot mode.Opening q more = (more ≡ []) × (q ≡ None)
Spot mode.Tag q more = (is_empty more ≡ false) × (leads_tag more ≡ true) × (is_open_tag None more ≡ true) × (q ≡ quote_after None more)
Spot mode.Footer q more = (is_empty more ≡ false) × (leads_tag more ≡ true) × (is_open_tag None more ≡ true) × (q ≡ quote_after None more) × (is_end (60 ∷ more) ≡ true)
Spot mode.Bang q more = leads_tag more ≡ false
Spot mode.Question q more = leads_tag more ≡ false
Spot mode.Declaration q more = leads_tag more ≡ false
Spot mode.Section q more = leads_tag more ≡ false

pub first_spot : (m : Mode) (q : Option ℕ) → is_first m ≡ true → q ≡ None → Spot m q []
first_spot mode.Text q e n = tt
first_spot mode.Reference q e n = refl
first_spot mode.Opening q e n = (refl, n)
first_spot mode.Tag q e n = absurd (false≢true e)
first_spot mode.Footer q e n = absurd (false≢true e)
first_spot mode.Bang q e n = absurd (false≢true e)
first_spot mode.Question q e n = absurd (false≢true e)
first_spot mode.Declaration q e n = absurd (false≢true e)
first_spot mode.Section q e n = absurd (false≢true e)

abbrev is_special : Mode → Bool
is_special mode.Bang = true
is_special mode.Question = true
is_special mode.Declaration = true
is_special mode.Section = true
is_special m = false

special_spot : (m : Mode) (q : Option ℕ) (more : List ℕ) → is_special m ≡ true → leads_tag more ≡ false → Spot m q more
special_spot mode.Text q more e h = tt
special_spot mode.Reference q more e h = absurd (false≢true e)
special_spot mode.Opening q more e h = absurd (false≢true e)
special_spot mode.Tag q more e h = absurd (false≢true e)
special_spot mode.Footer q more e h = absurd (false≢true e)
special_spot mode.Bang q more e h = h
special_spot mode.Question q more e h = h
special_spot mode.Declaration q more e h = h
special_spot mode.Section q more e h = h

leads_more : (more : List ℕ) (b : ℕ) → leads_tag more ≡ false → leads_tag (more ++ b ∷ []) ≡ false
leads_more [] b h = absurd (false≢true (sym h))
leads_more (x ∷ xs) b h = h

end_on : (more : List ℕ) (b : ℕ) → is_end (60 ∷ more) ≡ true → is_end (60 ∷ (more ++ b ∷ [])) ≡ true
end_on [] b h = absurd (false≢true h)
end_on (x ∷ xs) b h = h

leads_on : (more : List ℕ) (b : ℕ) → is_empty more ≡ false → leads_tag more ≡ true → leads_tag (more ++ b ∷ []) ≡ true
leads_on [] b some h = absurd (false≢true (sym some))
leads_on (x ∷ xs) b some h = h

open_more : (q : Option ℕ) (more : List ℕ) (b : ℕ) → is_open_tag q more ≡ true → (b == 62 && not (is_some (quote_after q more))) ≡ false → is_open_tag q (more ++ b ∷ []) ≡ true
open_more q [] b h last = rw last refl
open_more q (x ∷ xs) b h last = let p = and_parts (not (x == 62 && not (is_some q))) (is_open_tag (quote_behind q x) xs) h in rw p.0 (open_more (quote_behind q x) xs b p.1 last)

pub some_more : (more : List ℕ) (b : ℕ) → is_empty (more ++ b ∷ []) ≡ false
some_more [] b = refl
some_more (x ∷ xs) b = refl

pub named_there : (m : Mode) (q : Option ℕ) (more : List ℕ) → Spot m q more → is_reference m ≡ true → list_all is_no_end more ≡ true
named_there mode.Text q more h e = absurd (false≢true e)
named_there mode.Reference q more h e = h
named_there mode.Opening q more h e = absurd (false≢true e)
named_there mode.Tag q more h e = absurd (false≢true e)
named_there mode.Footer q more h e = absurd (false≢true e)
named_there mode.Bang q more h e = absurd (false≢true e)
named_there mode.Question q more h e = absurd (false≢true e)
named_there mode.Declaration q more h e = absurd (false≢true e)
named_there mode.Section q more h e = absurd (false≢true e)

-- ---- the byte after the `<`

abbrev SpotOn : ℕ → State → Type 0
SpotOn b u = is_text u.lexical.mode ≡ false → u.fault ≡ None → Spot u.lexical.mode u.lexical.quote (b ∷ [])

slash_spot : (b : ℕ) (q : Option ℕ) → b ≡ 47 → q ≡ None → Spot mode.Footer q (b ∷ [])
slash_spot b q is n = subst (λ d. Spot mode.Footer q (d ∷ [])) (sym is) (refl, refl, refl, n, refl)

tag_spot : (t : Turn) (b : ℕ) → t.state.lexical.quote ≡ None → (b == 33) ≡ false → (b == 63) ≡ false → SpotOn b (in_tag t b).state
tag_spot t b quote no_bang no_question e n =
    let u = (in_tag t b).state in
    let on = tag_on t b e n in
    let last = subst (λ q. (b == 62 && not (is_some q)) ≡ false) quote on.1 in
    let spot : Spot mode.Tag u.lexical.quote (b ∷ []) = (refl, rw (no_bang, no_question) refl, rw last refl, on.2 ∙ ap (λ q. quote_behind q b) quote) in
    subst (λ m. Spot m u.lexical.quote (b ∷ [])) (sym on.0) spot

opening_spot : (t : Turn) (b : ℕ) → t.state.lexical.quote ≡ None → SpotOn b (in_opening t b).state
unfolding in_opening
opening_spot t b quote =
    let s = t.state in
    let bang = moved t (gathered_in (unlimited s) mode.Bang b) in
    let question = gathered_in s mode.Question b in
    let fault = token_fails s why.Restricted in
    let asked = (if may_declare s then question else fault) in
    let footer = moved t (gathered_in (unlimited s) mode.Footer b) in
    let last = (if b == 47 && not (is_some s.here) then footer else in_tag t b) in
    let free = record s { positions = record s.positions { used = 0 } } in
    turn_by (λ v. SpotOn b v.state) bang (if b == 63 then moved t asked else last) (b == 33) (λ e i n. rw e refl)
    (λ e. turn_by (λ v. SpotOn b v.state) (moved t asked) last (b == 63)
    (λ f. state_by (SpotOn b) question fault (may_declare s) (λ g i n. rw (e, f) refl) (λ g i n. absurd (none_some _ n)))
    (λ f. turn_by (λ v. SpotOn b v.state) footer (in_tag t b) (b == 47 && not (is_some s.here))
    (λ g. let is = eqb-true b 47 (and_parts (b == 47) (not (is_some s.here)) g).0 in
    cond_both (is_some s.here) s free (λ v. SpotOn b (gathered_in v mode.Footer b)) (λ j i n. slash_spot b s.lexical.quote is quote) (λ j i n. slash_spot b s.lexical.quote is quote))
    (λ g. tag_spot t b quote e f)))

-- ---- references

abbrev Grown : List ℕ → State → Type 0
Grown more u = is_text u.lexical.mode ≡ false → u.fault ≡ None → Spot u.lexical.mode u.lexical.quote more

refers_on : (s : State) (more : List ℕ) (x : Reference) → Grown more (refers s x)
refers_on s more (reference.Character c) i n = absurd (false≢true (sym i))
refers_on s more reference.Unknown i n = absurd (none_some _ n)
refers_on s more reference.Malformed i n = absurd (none_some _ n)

reference_on : (s : State) (b : ℕ) (more : List ℕ) → s.lexical.mode ≡ mode.Reference → list_all is_no_end more ≡ true → Grown (more ++ b ∷ []) (in_reference s b)
unfolding in_reference
reference_on s b more is h =
    let fault = token_fails s why.NotWellFormed in
    state_by (Grown (more ++ b ∷ [])) (refers s (referred s.token)) (if reference_goes_on s.token b then gathered s b else fault) (b == 59) (λ e. refers_on s (more ++ b ∷ []) (referred s.token))
    (λ e. state_by (Grown (more ++ b ∷ [])) (gathered s b) fault (reference_goes_on s.token b)
    (λ f i n.
    let last : is_no_end b ≡ true = rw e refl in
    let all : list_all is_no_end (more ++ b ∷ []) ≡ true = list_all-append is_no_end more (b ∷ []) ∙ and_from _ _ h (and_from _ _ last refl) in
    subst (λ m. Spot m s.lexical.quote (more ++ b ∷ [])) (sym is) all)
    (λ f i n. absurd (none_some _ n)))

-- ---- `<!` and `<?`

abbrev SpecialOn : State → Type 0
SpecialOn u = is_text u.lexical.mode ≡ false → is_special u.lexical.mode ≡ true

bang_special : (s : State) (b : ℕ) → is_special s.lexical.mode ≡ true → SpecialOn (in_bang s b)
unfolding in_bang
bang_special s b p =
    let inner = (if length s.token == 8 then section_opened s else gathered s b) in
    let opened = in_mode (record s { token = [] }) mode.Section in
    state_by SpecialOn inner (token_fails s why.Restricted) (b == slice_index (codes "<![CDATA[") (length s.token))
    (λ e. state_by SpecialOn (section_opened s) (gathered s b) (length s.token == 8) (λ f. state_by SpecialOn opened (token_fails s why.NotWellFormed) (is_some s.here) (λ g i. refl) (λ g i. p)) (λ f i. p)) (λ e i. p)

question_special : (s : State) (b : ℕ) → is_special s.lexical.mode ≡ true → SpecialOn (in_question s b)
unfolding in_question
question_special s b p =
    let fault = token_fails s why.Restricted in
    state_by SpecialOn (if b == slice_index (codes "<?xml") (length s.token) then gathered s b else fault) (if is_white b then gathered_in s mode.Declaration b else fault) (nat_lt (length s.token) 5)
    (λ e. state_by SpecialOn (gathered s b) fault (b == slice_index (codes "<?xml") (length s.token)) (λ f i. p) (λ f i. p))
    (λ e. state_by SpecialOn (gathered_in s mode.Declaration b) fault (is_white b) (λ f i. refl) (λ f i. p))

declares_special : (s : State) (d : Declaration) → is_special s.lexical.mode ≡ true → SpecialOn (declares s d)
declares_special s declaration.Good p i = absurd (false≢true (sym i))
declares_special s declaration.Encoding p i = p
declares_special s declaration.NotWellFormed p i = p

declaration_special : (s : State) (b : ℕ) → is_special s.lexical.mode ≡ true → SpecialOn (in_declaration s b)
unfolding in_declaration
declaration_special s b p =
    let told = declaration_of (s.token ++ b ∷ []) in
    state_by SpecialOn (declares (gathered s b) told) (gathered s b) (b == 62 && ends_in_question s.token) (λ e. declares_special (gathered s b) told p) (λ e i. p)

section_special : (s : State) (b : ℕ) → is_special s.lexical.mode ≡ true → SpecialOn (in_section s b)
unfolding in_section judged_section
section_special s b p =
    let fault = token_fails s why.NotWellFormed in
    let taken = section_taken s b in
    let rest = (if ends_section s b then token_ended s else taken) in
    let third = record s { chars = s.chars ++ 93 ∷ []; lexical = record s.lexical { returned = false } } in
    state_by SpecialOn (if is_forbidden s b then fault else rest) s (ends_character s.pending b)
    (λ e. state_by SpecialOn fault rest (is_forbidden s b) (λ f i. p)
    (λ f. state_by SpecialOn (token_ended s) taken (ends_section s b) (λ g i. absurd (false≢true (sym i)))
    (λ g. state_by SpecialOn (bracket_taken s) (other_taken s b) (b == 93) (λ j. state_by SpecialOn third _ (s.lexical.brackets == 2) (λ l i. p) (λ l i. p)) (λ j i. p))))
    (λ e i. p)

-- ---- a byte of a token

grown : (u : State) (q : Option ℕ) (b : ℕ) (more : List ℕ) (m : Mode) → Spot mode.Tag q more → (u.lexical.mode ≡ m) × ((b == 62 && not (is_some q)) ≡ false) × (u.lexical.quote ≡ quote_behind q b)
    → Spot mode.Tag u.lexical.quote (more ++ b ∷ [])
grown u q b more m h on =
    let last = subst (λ x. (b == 62 && not (is_some x)) ≡ false) h.3 on.1 in
    (some_more more b, leads_on more b h.0 h.1, open_more None more b h.2 last, on.2 ∙ ap (λ x. quote_behind x b) h.3 ∙ sym (quote_more None more b))

pub spot_after : (m : Mode) (t : Turn) (b : ℕ) (more : List ℕ) → t.state.lexical.mode ≡ m → t.state.fault ≡ None → is_text m ≡ false → Spot m t.state.lexical.quote more
    → is_text (taken_in m t b).state.lexical.mode ≡ false → (taken_in m t b).state.fault ≡ None → Spot (taken_in m t b).state.lexical.mode (taken_in m t b).state.lexical.quote (more ++ b ∷ [])
spot_after mode.Text t b more is none no_text h e n = absurd (false≢true (sym no_text))
spot_after mode.Reference t b more is none no_text h e n = reference_on t.state b more is h e n
spot_after mode.Opening t b more is none no_text h e n =
    subst (λ l. Spot (in_opening t b).state.lexical.mode (in_opening t b).state.lexical.quote (l ++ b ∷ [])) (sym h.0) (opening_spot t b h.1 e n)
spot_after mode.Tag t b more is none no_text h e n =
    let on = tag_on t b e n in subst (λ m. Spot m (in_tag t b).state.lexical.quote (more ++ b ∷ [])) (sym on.0) (grown (in_tag t b).state t.state.lexical.quote b more mode.Tag h on)
spot_after mode.Footer t b more is none no_text h e n =
    let on = footer_on t b is e n in
    let tag = grown (in_footer t b).state t.state.lexical.quote b more mode.Footer (h.0, h.1, h.2, h.3) on in
    subst (λ m. Spot m (in_footer t b).state.lexical.quote (more ++ b ∷ [])) (sym on.0) (tag.0, tag.1, tag.2, tag.3, end_on more b h.4)
spot_after mode.Bang t b more is none no_text h e n = special_spot (in_bang t.state b).lexical.mode _ (more ++ b ∷ []) (bang_special t.state b (ap is_special is) e) (leads_more more b h)
spot_after mode.Question t b more is none no_text h e n = special_spot (in_question t.state b).lexical.mode _ (more ++ b ∷ []) (question_special t.state b (ap is_special is) e) (leads_more more b h)
spot_after mode.Declaration t b more is none no_text h e n = special_spot (in_declaration t.state b).lexical.mode _ (more ++ b ∷ []) (declaration_special t.state b (ap is_special is) e) (leads_more more b h)
spot_after mode.Section t b more is none no_text h e n = special_spot (in_section t.state b).lexical.mode _ (more ++ b ∷ []) (section_special t.state b (ap is_special is) e) (leads_more more b h)

-- ---- a byte of a text leaves the quote

abbrev Leaves : State → State → Type 0
Leaves s u = u.lexical.quote ≡ s.lexical.quote

one : (s u v : State) (b : Bool) → Leaves s u → Leaves s v → Leaves s (if b then u else v)
one s u v true x y = x
one s u v false x y = y

run_leaves : (s : State) → Leaves s (in_run s)
run_leaves s = one s s (run_begun s) s.lexical.in_run refl refl

markup_leaves : (s : State) → Leaves s (markup_begun s)
markup_leaves s =
    let t = token_begun s mode.Opening in
    one s t (record t { positions = record t.positions { item_at = t.positions.at; used = 1 } }) (is_some t.here) refl refl

text_leaves : (s : State) (b : ℕ) → Leaves s (in_text s b)
unfolding in_text inside between text_inside text_outside
text_leaves s b =
    let r = in_run s in
    let fault = fails s s.positions.at why.NotWellFormed in
    let reference = token_begun s mode.Reference in
    let judged = one s (token_fails r why.NotWellFormed) (character_taken r b) (is_forbidden r b || ends_section r b) (run_leaves s) (run_leaves s) in
    let said = one s r (token_fails r why.NotWellFormed) (is_white b) (run_leaves s) (run_leaves s) in
    let begun = one s (record r { positions = record r.positions { item_at = r.positions.at } }) r (is_empty r.pending) (run_leaves s) (run_leaves s) in
    one s (inside s b) (between s b) (is_some s.here)
    (one s (markup_begun s) (if b == 38 then reference else text_inside s b) (b == 60) (markup_leaves s)
    (one s reference (text_inside s b) (b == 38) refl (one s (judged_text r b) r (ends_character s.pending b) judged (run_leaves s))))
    (one s (markup_begun s) (if b == 38 then fault else text_outside s b) (b == 60) (markup_leaves s)
    (one s fault (text_outside s b) (b == 38) refl (one s (judged_outside r b) (character_begun r) (ends_character s.pending b) said begun)))

pub quote_after_text : (m : Mode) (t : Turn) (b : ℕ) → is_text m ≡ true → (taken_in m t b).state.lexical.quote ≡ t.state.lexical.quote
quote_after_text mode.Text t b e = text_leaves t.state b
quote_after_text mode.Reference t b e = absurd (false≢true e)
quote_after_text mode.Opening t b e = absurd (false≢true e)
quote_after_text mode.Tag t b e = absurd (false≢true e)
quote_after_text mode.Footer t b e = absurd (false≢true e)
quote_after_text mode.Bang t b e = absurd (false≢true e)
quote_after_text mode.Question t b e = absurd (false≢true e)
quote_after_text mode.Declaration t b e = absurd (false≢true e)
quote_after_text mode.Section t b e = absurd (false≢true e)
