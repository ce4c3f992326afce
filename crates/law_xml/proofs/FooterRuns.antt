-- A framer reads what spells the footer: the stream ends.
use Rattle.std.proofs.Common.{◌≡◌, ℕ, ◌+◌, ◌<◌, ◌≤◌, true, false, eqb, ltb, leb, not, List, [], ◌∷◌, ◌++◌, Some, None, length, bytes_eq, refl, sym, ap, subst, ◌∙◌, arith, append_assoc, append-nil, length-append}
use Rattle.std.proofs.lemmas.Bool.{and_parts, and_left, and_from, not-true, lt-ltb, le-ltb, and_right}
use Rattle.std.proofs.lemmas.Option.{same_Some}
use Rattle.std.proofs.lemmas.Slice.Eq.{bytes_eq-Decides}
use Rattle.std.specs.List.{list_all}
use Rattle.std.specs.Option.{is_some}
use Rattle.xml_names.proofs.EndLaws.{end_tags_are_read}
use Rattle.xml_names.specs.Ends.{end_of}
use Rattle.xml_tokens.specs.Characters.{is_white}
use Rattle.xml_tokens.specs.Tags.{IsEndTag, IsTag, are_white, end_tag, is_quote}
use Rattle.xml_tokens.specs.Utf8.{utf8_next, utf8_run}
use Rattle.law_xml.proofs.FaultLaws.{goes}
use Rattle.xml_framer.proofs.Pieces.{run_append}
use Rattle.law_xml.proofs.Quiet.{AreAlike, IsFresh, IsQuiet}
use Rattle.law_xml.proofs.TagParts.{is_inner, name_part, white_inner, white_part, name_is_inner}
use Rattle.law_xml.proofs.TagRuns.{DecidesLast, InMarkup, after, alike_after, begins, held_behind, opened, opened_is, takes}
use Rattle.xml_tokens.proofs.ValueTexts.{leads}
use Rattle.law_xml.specs.FaultRows.{Takes}
use Rattle.xml_framer.specs.Machine.{behind_byte, is_too_long, passed, run, step}
use Rattle.xml_framer.specs.MarkupSteps.{in_phase}
use Rattle.xml_framer.specs.States.{State, Turn, counted, gathered, gathered_in, gives, item_ended, moved, turn}
use Rattle.xml_framer.specs.TagSteps.{ends_stream, footer_closes, in_footer, in_opening, is_between, is_name_of}
use Rattle.xml_framer.specs.declared.items.Item.{Item}
use Rattle.xml_framer.specs.declared.items.Item.TheVariants as item
use Rattle.xml_framer.specs.declared.states.Mode.TheVariants as mode
use Rattle.xml_framer.specs.declared.states.Phase.TheVariants as phase

-- ---- nothing is counted

uncounted_is_short : (t : State) (b : ℕ) → t.positions.used ≡ 0 → is_too_long t b ≡ false
unfolding is_too_long
uncounted_is_short t b none = and_left (ltb 0 t.positions.used) _ (ap (ltb 0) none)

-- the `/` behind `<` shows that there is no limit
slash_is_short : (t : State) → t.lexical.mode ≡ mode.Opening → is_some t.here ≡ false → is_too_long t 47 ≡ false
unfolding is_too_long
slash_is_short t m outer = rw (m, outer) (and_right (ltb 0 t.positions.used) _ (and_right (leb t.limits.bytes t.positions.used) false refl))

-- what isn't counted stays so
still_uncounted : (n : ℕ) → n ≡ 0 → after n ≡ 0
still_uncounted n none = ap after none

same_besides : (t u : State) → u.limits ≡ t.limits → u.here ≡ t.here → u.below ≡ t.below → u.scopes ≡ t.scopes → u.name ≡ t.name → u.lexical.phase ≡ t.lexical.phase → u.lexical.spent ≡ t.lexical.spent → AreAlike t u
same_besides t u a b c d e f g = record { limits = a; here = b; below = c; scopes = d; name = e; phase = f; spent = g }

-- ---- `/` behind `<`

abbrev slashed : State → State
slashed t = passed (gathered_in (record (counted t) { positions = record (counted t).positions { used = 0 } }) mode.Footer 47) 47

slash_step : (t : State) (items : List Item) → Takes t mode.Opening 47 → is_some t.here ≡ false → step (turn t items) 47 ≡ turn (slashed t) items
unfolding in_opening
slash_step t items h outer = goes (turn t items) mode.Opening 47 h ∙ rw outer refl

slashed_is : (s t : State) (token : List ℕ) → InMarkup s t mode.Opening token None [] → InMarkup s (slashed t) mode.Footer (token ++ 47 ∷ []) None []
unfolding utf8_next
slashed_is s t token h = record {
  alike = alike_after s t (slashed t) h.alike (same_besides t (slashed t) refl refl refl refl refl refl refl);
  no_fault = h.no_fault;
  chars = h.chars;
  mode_is = refl;
  quote_is = h.quote_is;
  not_spoiled = h.not_spoiled;
  token_is = ap (λ l. l ++ 47 ∷ []) h.token_is;
  held_is = held_behind s t mode.Opening token [] [] None 47 h refl;
  token_at = h.token_at;
  item_at = h.item_at;
}

-- ---- a byte of the name, and white space behind it

abbrev kept : State → ℕ → State
kept t b = passed (gathered (counted t) b) b

abbrev skipped : State → ℕ → State
skipped t b = passed (counted t) b

module _ (t : State) (items : List Item) (b : ℕ) (h : Takes t mode.Footer b) (unquoted : t.lexical.quote ≡ None) (inner : is_inner b ≡ true) where
  no_end : eqb b 62 ≡ false
  no_end = not-true _ (and_parts (not (eqb b 62)) (not (is_quote b)) inner).0

  no_quote : is_quote b ≡ false
  no_quote = not-true _ (and_parts (not (eqb b 62)) (not (is_quote b)) inner).1

  none_open : is_some t.lexical.quote ≡ false
  none_open = ap is_some unquoted

  keep_step : ltb (length t.token) (length t.name + 2) ≡ true → step (turn t items) b ≡ turn (kept t b) items
  unfolding in_footer
  keep_step few = goes (turn t items) mode.Footer b h ∙ rw (no_end, none_open, no_quote, few) refl

  skip_step : ltb (length t.token) (length t.name + 2) ≡ false → is_white b ≡ true → step (turn t items) b ≡ turn (skipped t b) items
  unfolding in_footer
  skip_step all white = goes (turn t items) mode.Footer b h ∙ rw (no_end, none_open, no_quote, all, white) refl

kept_is : (s t : State) (token held next : List ℕ) (b : ℕ) → InMarkup s t mode.Footer token None held → utf8_next held b ≡ Some next → InMarkup s (kept t b) mode.Footer (token ++ b ∷ []) None next
kept_is s t token held next b h e = record {
  alike = alike_after s t (kept t b) h.alike (same_besides t (kept t b) refl refl refl refl refl refl refl);
  no_fault = h.no_fault;
  chars = h.chars;
  mode_is = h.mode_is;
  quote_is = h.quote_is;
  not_spoiled = h.not_spoiled;
  token_is = ap (λ l. l ++ b ∷ []) h.token_is;
  held_is = held_behind s t mode.Footer token held next None b h e;
  token_at = h.token_at;
  item_at = h.item_at;
}

skipped_is : (s t : State) (token held next : List ℕ) (b : ℕ) → InMarkup s t mode.Footer token None held → utf8_next held b ≡ Some next → InMarkup s (skipped t b) mode.Footer token None next
skipped_is s t token held next b h e = record {
  alike = alike_after s t (skipped t b) h.alike (same_besides t (skipped t b) refl refl refl refl refl refl refl);
  no_fault = h.no_fault;
  chars = h.chars;
  mode_is = h.mode_is;
  quote_is = h.quote_is;
  not_spoiled = h.not_spoiled;
  token_is = h.token_is;
  held_is = held_behind s t mode.Footer token held next None b h e;
  token_at = h.token_at;
  item_at = h.item_at;
}

-- behind bytes, of which these are kept
record Keeps (s t : State) (items : List Item) (bytes token : List ℕ) : Type 0 where
  following : State
  goes_on : run (turn t items) bytes ≡ turn following items
  markup : InMarkup s following mode.Footer token None []
  uncounted : following.positions.used ≡ 0

nothing_more : (s t : State) (items : List Item) (token held : List ℕ) → InMarkup s t mode.Footer token None held → t.positions.used ≡ 0 → utf8_run held [] ≡ Some [] → Keeps s t items [] token
nothing_more s t items token held h none r =
    record { following = t; goes_on = refl; markup = subst (InMarkup s t mode.Footer token None) (same_Some held [] r) h; uncounted = none }

few_kept : (s t : State) (token held : List ℕ) → InMarkup s t mode.Footer token None held → length token < length s.name + 2 → ltb (length t.token) (length t.name + 2) ≡ true
few_kept s t token held h less =
    let kept = ap length h.token_is in
    let name = ap length h.alike.name in
    lt-ltb (length t.token) (length t.name + 2) (omega (arith, kept, name, less))

all_kept : (s t : State) (token held : List ℕ) → InMarkup s t mode.Footer token None held → length s.name + 2 ≤ length token → ltb (length t.token) (length t.name + 2) ≡ false
all_kept s t token held h most =
    let kept = ap length h.token_is in
    let name = ap length h.alike.name in
    le-ltb (length t.token) (length t.name + 2) (omega (arith, kept, name, most))

keeps : (s t : State) (items : List Item) (bs token held : List ℕ) → InMarkup s t mode.Footer token None held → t.positions.used ≡ 0 → length token + length bs ≤ length s.name + 2 → list_all is_inner bs ≡ true → utf8_run held bs ≡ Some []
    → Keeps s t items bs (token ++ bs)
keeps s t items [] token held h none less inner r = subst (Keeps s t items []) (sym (append-nil token)) (nothing_more s t items token held h none r)
keeps s t items (b ∷ bs) token held h none less inner r =
    let p = and_parts (is_inner b) (list_all is_inner bs) inner in
    let l = leads held b bs r in
    let shown = takes s t mode.Footer token held l.next None b h l.is (uncounted_is_short t b none) in
    let one = keep_step t items b shown h.quote_is p.0 (few_kept s t token held h (omega (arith, less))) in
    let len = length-append token (b ∷ []) in
    let rest = keeps s (kept t b) items bs (token ++ b ∷ []) l.next (kept_is s t token held l.next b h l.is) (still_uncounted t.positions.used none) (omega (arith, less, len)) p.1 l.goes in
    let whole : Keeps s t items (b ∷ bs) ((token ++ b ∷ []) ++ bs) =
    record { following = rest.following; goes_on = ap (λ u. run u bs) one ∙ rest.goes_on; markup = rest.markup; uncounted = rest.uncounted } in
    subst (Keeps s t items (b ∷ bs)) (append_assoc token (b ∷ []) bs) whole

skips : (s t : State) (items : List Item) (bs token held : List ℕ) → InMarkup s t mode.Footer token None held → t.positions.used ≡ 0 → length s.name + 2 ≤ length token → are_white bs ≡ true → utf8_run held bs ≡ Some [] → Keeps s t items bs token
skips s t items [] token held h none most white r = nothing_more s t items token held h none r
skips s t items (b ∷ bs) token held h none most white r =
    let p = and_parts (is_white b) (are_white bs) white in
    let l = leads held b bs r in
    let shown = takes s t mode.Footer token held l.next None b h l.is (uncounted_is_short t b none) in
    let one = skip_step t items b shown h.quote_is (white_inner b p.0) (all_kept s t token held h most) p.0 in
    let rest = skips s (skipped t b) items bs token l.next (skipped_is s t token held l.next b h l.is) (still_uncounted t.positions.used none) most p.1 l.goes in
    record { following = rest.following; goes_on = ap (λ u. run u bs) one ∙ rest.goes_on; markup = rest.markup; uncounted = rest.uncounted }

-- ---- `>`

abbrev ended : State → State
ended t = passed (in_phase (item_ended (gathered (counted t) 62)) phase.Ended) 62

in_footer_closes : (t : Turn) → t.state.lexical.quote ≡ None → in_footer t 62 ≡ footer_closes (moved t (gathered t.state 62))
unfolding in_footer
in_footer_closes t e = let none : is_some t.state.lexical.quote ≡ false = ap is_some e in rw none refl

closes_stream : (t : Turn) → ends_stream t.state ≡ true → footer_closes t ≡ gives (in_phase (item_ended t.state) phase.Ended) t.items item.Footer
unfolding footer_closes
closes_stream t e = rw e refl

end_step : (t : State) (items : List Item) → Takes t mode.Footer 62 → t.lexical.quote ≡ None → ends_stream (gathered (counted t) 62) ≡ true → step (turn t items) 62 ≡ turn (ended t) (items ++ item.Footer ∷ [])
end_step t items h unquoted e =
    goes (turn t items) mode.Footer 62 h ∙ ap (λ u. behind_byte u 62) (in_footer_closes (turn (counted t) items) unquoted ∙ closes_stream (turn (gathered (counted t) 62) items) e)

-- The stream has ended: what stays as it was, and that nothing is in hand.
pub record HasEnded (s t : State) : Type 0 where
  pub limits : t.limits ≡ s.limits
  pub here : t.here ≡ s.here
  pub below : t.below ≡ s.below
  pub scopes : t.scopes ≡ s.scopes
  pub name : t.name ≡ s.name
  pub spent : t.lexical.spent ≡ s.lexical.spent
  pub phase_is : t.lexical.phase ≡ phase.Ended
  pub chars : t.chars ≡ s.chars
  pub fresh : IsFresh t
  pub uncounted : t.positions.used ≡ 0

ended_is : (s t : State) (token : List ℕ) → InMarkup s t mode.Footer token None [] → HasEnded s (ended t)
unfolding utf8_next
ended_is s t token h = record {
  limits = h.alike.limits;
  here = h.alike.here;
  below = h.alike.below;
  scopes = h.alike.scopes;
  name = h.alike.name;
  spent = h.alike.spent;
  phase_is = refl;
  chars = h.chars;
  fresh = record {
    quiet = record { no_fault = h.no_fault; text = refl; no_token = refl; no_pending = held_behind s t mode.Footer token [] [] None 62 h refl; no_quote = refl; not_spoiled = refl; counted = omega arith; uncounted = λ none. refl };
    no_run = refl;
  };
  uncounted = refl;
}

-- the end tag that is kept has the name
name_kept : (name : List ℕ) → IsEndTag (60 ∷ 47 ∷ (name ++ 62 ∷ [])) name → end_of (60 ∷ 47 ∷ (name ++ 62 ∷ [])) ≡ Some name
name_kept name h = (end_tags_are_read (60 ∷ 47 ∷ (name ++ 62 ∷ [])) name).1 h

ends : (s t : State) (bytes : List ℕ) → InMarkup s t mode.Footer (60 ∷ 47 ∷ s.name) None [] → s.lexical.phase ≡ phase.Between → IsEndTag bytes s.name → ends_stream (gathered (counted t) 62) ≡ true
ends s t bytes h between is =
    let kept : end_of (t.token ++ 62 ∷ []) ≡ Some s.name =
    ap (λ l. end_of (l ++ 62 ∷ [])) h.token_is ∙ name_kept s.name (record { space = []; bytes_are = refl; name_is = is.name_is; space_white = refl }) in
    let named : is_name_of (end_of (t.token ++ 62 ∷ [])) t.name ≡ true =
    ap (λ o. is_name_of o t.name) kept ∙ ap (bytes_eq s.name) h.alike.name ∙ (bytes_eq-Decides s.name s.name).1 refl in
    and_from _ _ (ap not h.not_spoiled) (and_from _ _ (ap is_between (h.alike.phase ∙ between)) named)

-- ---- the footer

module _ (s : State) (items : List Item) (bytes : List ℕ) (quiet : IsQuiet s) (outer : is_some s.here ≡ false) where
  slash : (step (step (turn s items) 60) 47 ≡ turn (slashed (opened false s)) items) × InMarkup s (slashed (opened false s)) mode.Footer (60 ∷ 47 ∷ []) None []
  unfolding utf8_next
  slash =
      let t = opened false s in
      let h = opened_is s false quiet outer in
      let begun : step (turn s items) 60 ≡ turn t items = begins s items false quiet (uncounted_is_short s 60 (quiet.uncounted outer)) outer in
      let none : is_some t.here ≡ false = outer in
      let shown = takes s t mode.Opening (60 ∷ []) [] [] None 47 h refl (slash_is_short t refl none) in
      (ap (λ u. step u 47) begun ∙ slash_step t items shown none, slashed_is s t (60 ∷ []) h)

  -- White space behind the name isn't kept, and so the end tag in hand is the footer's without it.
  pub footer_run : s.lexical.phase ≡ phase.Between → IsTag bytes (end_tag s.name) → (t : State) × (run (turn s items) bytes ≡ turn t (items ++ item.Footer ∷ [])) × HasEnded s t × DecidesLast s items bytes
  unfolding utf8_next
  footer_run between is =
      let token = 60 ∷ 47 ∷ s.name in
      let begun = slashed (opened false s) in
      let named = keeps s begun items s.name (60 ∷ 47 ∷ []) [] slash.1 refl (omega arith) (name_is_inner s.name is.name_is) (name_part s.name is.name_is).runs in
      let spaced = skips s named.following items is.space token [] named.markup named.uncounted (omega arith) is.space_white (white_part is.space is.space_white).runs in
      let u = spaced.following in
      let shown = takes s u mode.Footer token [] [] None 62 spaced.markup refl (uncounted_is_short u 62 spaced.uncounted) in
      let last = end_step u items shown spaced.markup.quote_is (ends s u bytes spaced.markup between is) in
      let front = 60 ∷ 47 ∷ (s.name ++ is.space) in
      let whole : bytes ≡ front ++ 62 ∷ [] = is.bytes_are ∙ ap (λ l. 60 ∷ 47 ∷ l) (sym (append_assoc s.name is.space (62 ∷ []))) in
      let before : run (turn s items) front ≡ turn u items =
      ap (λ v. run v (s.name ++ is.space)) slash.0 ∙ run_append (turn begun items) s.name is.space ∙ ap (λ v. run v is.space) named.goes_on ∙ spaced.goes_on in
      let read : run (turn s items) bytes ≡ turn (ended u) (items ++ item.Footer ∷ []) =
      ap (run (turn s items)) whole ∙ run_append (turn s items) front (62 ∷ []) ∙ ap (λ v. run v (62 ∷ [])) before ∙ last in
      (ended u, read, ended_is s u token spaced.markup, (front, whole, u, before))
