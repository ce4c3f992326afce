-- The machine reads character data, and white space outside elements (XML 1.0, sections 2.4, 2.8 and 2.11).
use Rattle.std.proofs.Common.{◌≡◌, ℕ, suc, inl, Bool, true, false, cond, eqb, not, ◌&&◌, ◌||◌, List, [], ◌∷◌, ◌++◌, Option, Some, length, unwrap_or, refl, sym, ap, subst, ◌∙◌, arith, append_assoc, append-nil}
use Rattle.std.proofs.lemmas.Bool.{and_parts, or_parts, or_from, not-true, true≢false, cond-true, cond-false}
use Rattle.std.proofs.lemmas.Bool.Decides.{nat_tests}
use Rattle.std.specs.List.{list_all}
use Rattle.std.specs.Option.{is_some}
use Rattle.xml_tokens.specs.Characters.{are_characters_after, is_white}
use Rattle.xml_tokens.specs.Utf8.{ends_character, is_nothing, utf8_next, utf8_run}
use Rattle.law_xml.proofs.ByteSteps.{Goes, Kept, Room, goes_first, goes_none, kept_one, kept_room, kept_then, one_more, one_more_low, takes}
use Rattle.law_xml.proofs.FaultLaws.{goes}
use Rattle.law_xml.proofs.HeldBytes.{Follows, ends_within, first_allowed, low_next, none_within}
use Rattle.law_xml.proofs.Quiet.{IsFresh, IsQuiet}
use Rattle.law_xml.proofs.SpelledTexts.{leads, one_some}
use Rattle.law_xml.proofs.TextBytes.{Reads, bounded, character_kept, ending_says, ends_it, ends_none, going_kept, going_says, no_end, reads_character, reads_going, says}
use Rattle.law_xml.specs.FaultRows.{Takes}
use Rattle.xml_framer.specs.Machine.{passed, run, step}
use Rattle.xml_framer.specs.States.{OpenElement, State, counted, in_run, run_begun, token_fails, turn}
use Rattle.law_xml.specs.Texts.{IsCharacterData}
use Rattle.xml_tokens.specs.Lines.{line_ends, line_ends_after}
use Rattle.xml_framer.specs.TextSteps.{between, brackets_after, character_taken, ends_section, in_text, inside, is_forbidden, judged_text, text_inside, text_outside}
use Rattle.xml_framer.specs.declared.items.Item.{Item}
use Rattle.xml_framer.specs.declared.fault.Why.TheVariants.{NotWellFormed}
use Rattle.xml_framer.specs.declared.states.Mode.TheVariants as mode
use Rattle.law_xml.proofs.ReadOutside.{white_low}

-- ---- character data

abbrev no_mark : ℕ → Bool
no_mark b = not (eqb b 60 || eqb b 38)

is_inside : (s : State) (b : ℕ) (o : OpenElement) → s.here ≡ Some o → eqb b 60 ≡ false → eqb b 38 ≡ false → in_text s b ≡ text_inside s b
unfolding in_text inside
is_inside s b o here less and = rw (here, less, and) refl

ended_inside : (s : State) (b : ℕ) → s.lexical.in_run ≡ true → ends_character s.pending b ≡ true → is_forbidden s b ≡ false → ends_section s b ≡ false → text_inside s b ≡ character_taken s b
unfolding text_inside
ended_inside s b running ended allowed none =
    cond-true (ends_character s.pending b) (judged_text (in_run s) b) (in_run s) ended
    ∙ ap (λ u. judged_text u b) (cond-true s.lexical.in_run s (run_begun s) running)
    ∙ cond-false (is_forbidden s b || ends_section s b) (token_fails s NotWellFormed) (character_taken s b) (or_from (is_forbidden s b) (ends_section s b) allowed none)

going_inside : (s : State) (b : ℕ) → s.lexical.in_run ≡ true → ends_character s.pending b ≡ false → text_inside s b ≡ s
unfolding text_inside
going_inside s b running ended = rw (ended, running) refl

pub text_step : (s : State) (items : List Item) (b : ℕ) (o : OpenElement) → Takes s mode.Text b → s.here ≡ Some o → no_mark b ≡ true → step (turn s items) b ≡ turn (passed (text_inside (counted s) b) b) items
text_step s items b o h here plain =
    let p = or_parts (eqb b 60) (eqb b 38) (not-true (eqb b 60 || eqb b 38) plain) in
    goes (turn s items) mode.Text b h ∙ ap (λ u. turn (passed u b) items) (is_inside (counted s) b o here p.0 p.1)

-- nothing is in hand, and this is the text so far
pub record Said (s : State) (text : List ℕ) : Type 0 where
  pub quiet : IsQuiet s
  pub chars : s.chars ≡ text

pub in_front : (front chars held say rest more : List ℕ) → front ≡ chars ++ say → say ++ rest ≡ held ++ more → front ++ rest ≡ (chars ++ held) ++ more
in_front front chars held say rest more is e = rw is (append_assoc chars say rest ∙ ap (λ l. chars ++ l) e ∙ sym (append_assoc chars held more))

quiet_read : (s : State) (o : OpenElement) (a c n : ℕ) (r : Bool) → Reads s mode.Text o a c n r → s.pending ≡ [] → IsQuiet s
quiet_read s o a c n r h held = record {
  no_fault = h.no_fault;
  text = h.mode_is;
  no_token = h.no_token;
  no_pending = held;
  no_quote = h.no_quote;
  not_spoiled = h.not_spoiled;
  counted = h.counted;
  uncounted = λ none. absurd (true≢false (sym (ap is_some h.here) ∙ none));
}

-- what is read behind a byte, and what was to be read
abbrev DataGoes : State → List Item → ℕ → Bool → List ℕ → Type 0
DataGoes s items n r bs = Goes s items bs (λ t. Said t ((s.chars ++ s.pending) ++ line_ends_after r bs))

abbrev DataAfter : List Item → OpenElement → ℕ → ℕ → ℕ → Bool → List ℕ → List ℕ → Type 0
DataAfter items o a c n r bs held = (u : State) → Reads u mode.Text o a c n r → u.lexical.in_run ≡ true → Room u (length bs) → u.pending ≡ held → DataGoes u items n r bs

module _ (s : State) (items : List Item) (o : OpenElement) (a c n b : ℕ) (r : Bool) (bs : List ℕ) (h : Reads s mode.Text o a c n r) (running : s.lexical.in_run ≡ true) (room : Room s (length (b ∷ bs)))
    (plain : no_mark b ≡ true) (none : ends_within n (b ∷ bs) ≡ false) (all : are_characters_after a c (b ∷ bs) ≡ true) where
  data_ended : utf8_next s.pending b ≡ Some [] → DataAfter items o c b (brackets_after n b) (eqb b 13) bs [] → DataGoes s items n r (b ∷ bs)
  data_ended is more =
      let u : State = passed (character_taken (counted s) b) b in
      let held : u.pending ≡ [] = ap (λ (l : Option (List ℕ)). unwrap_or l s.pending) is in
      let stepped : step (turn s items) b ≡ turn u items =
      text_step s items b o (takes s mode.Text b (length bs) [] h.no_fault h.mode_is room is) h.here plain
      ∙ ap (λ v. turn (passed v b) items) (ended_inside (counted s) b running (ends_it s b is) (bounded s mode.Text o a c n b r bs h all) (no_end s mode.Text o a c n b r bs [] h is none)) in
      let same : (u.chars ++ u.pending) ++ line_ends_after (eqb b 13) bs ≡ (s.chars ++ s.pending) ++ line_ends_after r (b ∷ bs) =
      in_front (u.chars ++ u.pending) s.chars s.pending (says s.lexical.returned s.pending b) (line_ends_after (eqb b 13) bs) (line_ends_after r (b ∷ bs))
      (ap (λ l. u.chars ++ l) held ∙ append-nil u.chars) (ending_says s.lexical.returned r s.pending b bs is h.returned) in
      goes_first s u items b bs (λ t. Said t ((s.chars ++ s.pending) ++ line_ends_after r (b ∷ bs))) stepped (character_kept s b)
      (subst (λ l. Goes u items bs (λ t. Said t l)) same
      (more u (reads_character s mode.Text o a c n b r h is) running (kept_room s u 1 (length bs) (length (b ∷ bs)) (omega arith) (character_kept s b) room) held))

  data_going : (x : ℕ) (xs : List ℕ) → utf8_next s.pending b ≡ Some (x ∷ xs) → DataAfter items o c b (brackets_after n b) (eqb b 13) bs (x ∷ xs) → DataGoes s items n r (b ∷ bs)
  data_going x xs is more =
      let u : State = passed (counted s) b in
      let held : u.pending ≡ x ∷ xs = ap (λ (l : Option (List ℕ)). unwrap_or l s.pending) is in
      let stepped : step (turn s items) b ≡ turn u items =
      text_step s items b o (takes s mode.Text b (length bs) (x ∷ xs) h.no_fault h.mode_is room is) h.here plain
      ∙ ap (λ v. turn (passed v b) items) (going_inside (counted s) b running (ends_none s b x xs is)) in
      let same : (u.chars ++ u.pending) ++ line_ends_after (eqb b 13) bs ≡ (s.chars ++ s.pending) ++ line_ends_after r (b ∷ bs) =
      in_front (u.chars ++ u.pending) s.chars s.pending (x ∷ xs) (line_ends_after (eqb b 13) bs) (line_ends_after r (b ∷ bs))
      (ap (λ l. u.chars ++ l) held) (going_says r s.pending b x xs bs is) in
      goes_first s u items b bs (λ t. Said t ((s.chars ++ s.pending) ++ line_ends_after r (b ∷ bs))) stepped (going_kept s b)
      (subst (λ l. Goes u items bs (λ t. Said t l)) same
      (more u (reads_going s mode.Text o a c n b x r xs h is) running (kept_room s u 1 (length bs) (length (b ∷ bs)) (omega arith) (going_kept s b) room) held))

  data_next : (next : List ℕ) → utf8_next s.pending b ≡ Some next → DataAfter items o c b (brackets_after n b) (eqb b 13) bs next → DataGoes s items n r (b ∷ bs)
  data_next [] is more = data_ended is more
  data_next (x ∷ xs) is more = data_going x xs is more

data_runs : (bs : List ℕ) (s : State) (items : List Item) (o : OpenElement) (a c n : ℕ) (r : Bool) → Reads s mode.Text o a c n r → s.lexical.in_run ≡ true → Room s (length bs) → list_all no_mark bs ≡ true
    → ends_within n bs ≡ false → are_characters_after a c bs ≡ true → utf8_run s.pending bs ≡ Some [] → DataGoes s items n r bs
data_runs [] s items o a c n r h running room plain none all utf8 =
    let held : s.pending ≡ [] = one_some s.pending [] utf8 in
    goes_none s items (λ t. Said t ((s.chars ++ s.pending) ++ [])) (record {
      quiet = quiet_read s o a c n r h held;
      chars = sym (append-nil (s.chars ++ s.pending) ∙ ap (λ l. s.chars ++ l) held ∙ append-nil s.chars);
    })
data_runs (b ∷ bs) s items o a c n r h running room plain none all utf8 =
    let l = leads (utf8_next s.pending b) (λ next. utf8_run next bs) utf8 in
    let p = and_parts (no_mark b) (list_all no_mark bs) plain in
    let q = or_parts (eqb n 2 && eqb b 62) (ends_within (brackets_after n b) bs) none in
    data_next s items o a c n b r bs h running room p.0 none all l.next l.is
    (λ u reads runs fits held. data_runs bs u items o c b (brackets_after n b) (eqb b 13) reads runs fits p.1 q.1 (first_allowed a c b bs all).1 (ap (λ g. utf8_run g bs) held ∙ l.goes))

-- ---- where a run of text begins

begins_same : (s : State) (b : ℕ) → s.lexical.in_run ≡ false → text_inside (counted s) b ≡ text_inside (counted (run_begun s)) b
unfolding text_inside
begins_same s b fresh = rw fresh refl

begun_kept : (s : State) → Kept s (run_begun s) 0
begun_kept s = record { alike = record { limits = refl; here = refl; below = refl; scopes = refl; name = refl; phase = refl; spent = refl }; item_at = refl; used = omega arith; counted = λ h. h; uncounted = λ h. h }

reads_begun : (s : State) (o : OpenElement) (a c : ℕ) → IsQuiet s → s.here ≡ Some o → Reads (run_begun s) mode.Text o a c 0 false
reads_begun s o a c q here = record {
  no_fault = q.no_fault;
  mode_is = q.text;
  here = here;
  no_token = q.no_token;
  no_quote = q.no_quote;
  not_spoiled = q.not_spoiled;
  counted = q.counted;
  follows = subst (Follows a c) (sym q.no_pending) tt;
  brackets = λ none. refl;
  returned = λ none. refl;
}

module _ (s : State) (items : List Item) (o : OpenElement) (a c : ℕ) (h : IsFresh s) (here : s.here ≡ Some o) where
  begins_step : (b n : ℕ) (next : List ℕ) → Room s (suc n) → utf8_next s.pending b ≡ Some next → no_mark b ≡ true → step (turn s items) b ≡ step (turn (run_begun s) items) b
  begins_step b n next room is plain =
      let q = h.quiet in
      text_step s items b o (takes s mode.Text b n next q.no_fault q.text room is) here plain
      ∙ ap (λ u. turn (passed u b) items) (begins_same s b h.no_run)
      ∙ sym (text_step (run_begun s) items b o (takes (run_begun s) mode.Text b n next q.no_fault q.text room is) here plain)

  pub data_fresh : (bs : List ℕ) → Room s (length bs) → IsCharacterData bs → are_characters_after a c bs ≡ true → utf8_run [] bs ≡ Some [] → Goes s items bs (λ t. Said t (s.chars ++ line_ends bs))
  data_fresh [] room good all utf8 = goes_none s items (λ t. Said t (s.chars ++ [])) (record { quiet = h.quiet; chars = sym (append-nil s.chars) })
  data_fresh (b ∷ bs) room good all utf8 =
      let v = run_begun s in
      let q = h.quiet in
      let held : s.pending ≡ [] = q.no_pending in
      let l = leads (utf8_next [] b) (λ next. utf8_run next bs) utf8 in
      let g = data_runs (b ∷ bs) v items o a c 0 false (reads_begun s o a c q here) refl room good.no_markup (none_within (b ∷ bs) good.no_section_end) all (ap (λ x. utf8_run x (b ∷ bs)) held ∙ utf8) in
      let same : (v.chars ++ v.pending) ++ line_ends (b ∷ bs) ≡ s.chars ++ line_ends (b ∷ bs) = ap (λ x. x ++ line_ends (b ∷ bs)) (ap (λ x. s.chars ++ x) held ∙ append-nil s.chars) in
      record {
        state = g.state;
        runs = ap (λ t. run t bs) (begins_step b (length bs) l.next room (ap (λ x. utf8_next x b) held ∙ l.is) (and_parts (no_mark b) (list_all no_mark bs) good.no_markup).0) ∙ g.runs;
        kept = kept_then s v g.state 0 (length (b ∷ bs)) (length (b ∷ bs)) (omega arith) (begun_kept s) g.kept;
        holds = record { quiet = g.holds.quiet; chars = g.holds.chars ∙ same };
      }

-- ---- white space outside elements

chosen : (P : State → Type 0) (x : Bool) (s t : State) → P s → P t → P (cond x s t)
chosen P true s t p q = p
chosen P false s t p q = q

white_no_mark : (b : ℕ) → is_white b ≡ true → (eqb b 60 || eqb b 38) ≡ false
white_no_mark b h = grind (arith, nat_tests)

white_is : (s : State) (b : ℕ) → is_some s.here ≡ false → ends_character s.pending b ≡ true → is_white b ≡ true → eqb b 60 ≡ false → eqb b 38 ≡ false → in_text s b ≡ in_run s
unfolding in_text between text_outside
white_is s b outer ended white less and = rw (outer, less, and, ended, white) refl

white_kept : (s : State) (b : ℕ) → Kept s (passed (in_run (counted s)) b) 1
white_kept s b =
    chosen (λ u. Kept s (passed u b) 1) s.lexical.in_run (counted s) (run_begun (counted s))
    (kept_one s (passed (counted s) b) (record { limits = refl; here = refl; below = refl; scopes = refl; name = refl; phase = refl; spent = refl }) refl refl)
    (kept_one s (passed (run_begun (counted s)) b) (record { limits = refl; here = refl; below = refl; scopes = refl; name = refl; phase = refl; spent = refl }) refl refl)

white_said : (s : State) (b : ℕ) → IsQuiet s → is_some s.here ≡ false → utf8_next s.pending b ≡ Some [] → Said (passed (in_run (counted s)) b) s.chars
white_said s b q outer e =
    let held : unwrap_or (utf8_next s.pending b) s.pending ≡ [] = ap (λ (l : Option (List ℕ)). unwrap_or l s.pending) e in
    chosen (λ u. Said (passed u b) s.chars) s.lexical.in_run (counted s) (run_begun (counted s))
    (record { quiet = record { no_fault = q.no_fault; text = q.text; no_token = q.no_token; no_pending = held; no_quote = q.no_quote; not_spoiled = q.not_spoiled; counted = one_more_low s.positions.used; uncounted = λ none. ap one_more (q.uncounted outer) }; chars = refl })
    (record { quiet = record { no_fault = q.no_fault; text = q.text; no_token = q.no_token; no_pending = held; no_quote = q.no_quote; not_spoiled = q.not_spoiled; counted = one_more_low s.positions.used; uncounted = λ none. ap one_more (q.uncounted outer) }; chars = refl })

pub white_goes : (bs : List ℕ) (s : State) (items : List Item) → IsQuiet s → is_some s.here ≡ false → list_all is_white bs ≡ true → Goes s items bs (λ t. Said t s.chars)
white_goes [] s items q outer white = goes_none s items (λ t. Said t s.chars) (record { quiet = q; chars = refl })
white_goes (b ∷ bs) s items q outer white =
    let p = and_parts (is_white b) (list_all is_white bs) white in
    let m = or_parts (eqb b 60) (eqb b 38) (white_no_mark b p.0) in
    let e : utf8_next s.pending b ≡ Some [] = ap (λ x. utf8_next x b) q.no_pending ∙ low_next b (white_low b p.0) in
    let u : State = passed (in_run (counted s)) b in
    let k = white_kept s b in
    let w = white_said s b q outer e in
    let stepped : step (turn s items) b ≡ turn u items =
    goes (turn s items) mode.Text b (takes s mode.Text b 0 [] q.no_fault q.text (inl (q.uncounted outer)) e)
    ∙ ap (λ v. turn (passed v b) items) (white_is (counted s) b outer (ap is_nothing e) p.0 m.0 m.1) in
    goes_first s u items b bs (λ t. Said t s.chars) stepped k
    (subst (λ l. Goes u items bs (λ t. Said t l)) w.chars (white_goes bs u items w.quiet (ap is_some k.alike.here ∙ outer) p.1))
