-- The machine reads a CDATA section (XML 1.0, section 2.7).
use Rattle.std.proofs.Common.{◌≡◌, ℕ, ◌+◌, ◌≤◌, ⊎_elim, Bool, true, false, cond, eqb, ltb, not, ◌&&◌, List, [], ◌∷◌, ◌++◌, Option, Some, codes, length, slice_index, unwrap_or, refl, sym, ap, subst, ◌∙◌, arith, append_assoc, append-nil, length-append}
use Rattle.std.proofs.lemmas.Bool.{and_parts, and_right, cases_Bool, cond-true, ltb-true, not-true, or_parts, true≢false}
use Rattle.std.proofs.lemmas.List.{append_cancel_right}
use Rattle.std.specs.Option.{is_some}
use Rattle.xml_tokens.specs.Characters.{are_characters_after}
use Rattle.xml_tokens.specs.Utf8.{utf8_next, utf8_run}
use Rattle.law_xml.proofs.ByteSteps.{Goes, InToken, Room, first_room, gathered_kept, goes_first, goes_none, goes_one, goes_then, in_token_more, kept_one, kept_room, one_more_low, takes}
use Rattle.law_xml.proofs.DataRuns.{in_front}
use Rattle.law_xml.proofs.FaultLaws.{goes}
use Rattle.law_xml.proofs.HeldBytes.{Follows, ends_within, first_allowed, low_next, none_within}
use Rattle.law_xml.proofs.Quiet.{IsQuiet}
use Rattle.law_xml.proofs.ReferenceRuns.{Fresh}
use Rattle.law_xml.proofs.SectionBytes.{bracket_says, section_byte, section_ends, section_takes, section_waits, so_far}
use Rattle.law_xml.proofs.SpelledTexts.{leads, one_some}
use Rattle.law_xml.proofs.TextBytes.{Reads, bounded, ending_says, ends_it, ends_none, going_kept, going_says, no_end, reads_going, says}
use Rattle.xml_framer.specs.Machine.{passed, step}
use Rattle.xml_framer.specs.MarkupSteps.{in_bang, section_opened}
use Rattle.xml_framer.specs.States.{OpenElement, State, counted, gathered, gathered_in, in_mode, moved, token_begun, token_ended, token_fails, turn}
use Rattle.xml_framer.specs.TagSteps.{in_opening}
use Rattle.law_xml.specs.Texts.{has_section_end}
use Rattle.xml_tokens.specs.Lines.{line_ends, line_ends_after}
use Rattle.xml_framer.specs.TextSteps.{brackets_after, in_text, inside, is_forbidden, kept_back, section_taken}
use Rattle.xml_framer.specs.declared.fault.Why.TheVariants as why
use Rattle.xml_framer.specs.declared.items.Item.{Item}
use Rattle.xml_framer.specs.declared.states.Mode.{Mode}
use Rattle.xml_framer.specs.declared.states.Mode.TheVariants as mode

-- ---- its opening

-- part of `<![CDATA[` is in hand
record Opens (s : State) (m : Mode) (token text : List ℕ) : Type 0 where
  in_token : InToken s m token [] text
  brackets : s.lexical.brackets ≡ 0
  returned : s.lexical.returned ≡ false

less_is : (s : State) (o : OpenElement) → s.here ≡ Some o → in_text s 60 ≡ gathered (token_begun s mode.Opening) 60
unfolding in_text inside
less_is s o here = rw here refl

less_goes : (s : State) (items : List Item) (o : OpenElement) → IsQuiet s → s.here ≡ Some o → Room s 1 → Goes s items (60 ∷ []) (λ t. Opens t mode.Opening (60 ∷ []) s.chars)
less_goes s items o q here room =
    let u : State = passed (gathered (token_begun (counted s) mode.Opening) 60) 60 in
    let is : utf8_next s.pending 60 ≡ Some [] = ap (λ x. utf8_next x 60) q.no_pending ∙ low_next 60 (omega arith) in
    let stepped : step (turn s items) 60 ≡ turn u items =
    goes (turn s items) mode.Text 60 (takes s mode.Text 60 0 [] q.no_fault q.text room is) ∙ ap (λ v. turn (passed v 60) items) (less_is (counted s) o here) in
    goes_one s u items 60 (λ t. Opens t mode.Opening (60 ∷ []) s.chars) stepped
    (kept_one s u (record { limits = refl; here = refl; below = refl; scopes = refl; name = refl; phase = refl; spent = refl }) refl refl)
    (record {
      in_token = record {
        no_fault = q.no_fault;
        mode_is = refl;
        token_is = ap (λ l. l ++ 60 ∷ []) q.no_token;
        pending_is = ap (λ (l : Option (List ℕ)). unwrap_or l s.pending) is;
        no_quote = q.no_quote;
        not_spoiled = q.not_spoiled;
        chars_are = refl;
        counted = one_more_low s.positions.used;
      };
      brackets = refl;
      returned = refl;
    })

mark_is : (s : State) (items : List Item) (o : OpenElement) → s.here ≡ Some o → in_opening (turn s items) 33 ≡ turn (gathered (in_mode s mode.Bang) 33) items
unfolding in_opening
mark_is s items o here = ap (λ u. turn (gathered_in u mode.Bang 33) items) (cond-true (is_some s.here) s (record s { positions = record s.positions { used = 0 } }) (ap is_some here))

mark_goes : (s : State) (items : List Item) (o : OpenElement) (text : List ℕ) → Opens s mode.Opening (60 ∷ []) text → s.here ≡ Some o → Room s 1 → Goes s items (33 ∷ []) (λ t. Opens t mode.Bang (60 ∷ 33 ∷ []) text)
mark_goes s items o text h here room =
    let i = h.in_token in
    let u : State = passed (gathered (in_mode (counted s) mode.Bang) 33) 33 in
    let is : utf8_next s.pending 33 ≡ Some [] = ap (λ x. utf8_next x 33) i.pending_is ∙ low_next 33 (omega arith) in
    let stepped : step (turn s items) 33 ≡ turn u items =
    goes (turn s items) mode.Opening 33 (takes s mode.Opening 33 0 [] i.no_fault i.mode_is room is) ∙ ap (λ t. moved t (passed t.state 33)) (mark_is (counted s) items o here) in
    goes_one s u items 33 (λ t. Opens t mode.Bang (60 ∷ 33 ∷ []) text) stepped
    (kept_one s u (record { limits = refl; here = refl; below = refl; scopes = refl; name = refl; phase = refl; spent = refl }) refl refl)
    (record {
      in_token = record {
        no_fault = i.no_fault;
        mode_is = refl;
        token_is = ap (λ l. l ++ 33 ∷ []) i.token_is;
        pending_is = ap (λ (l : Option (List ℕ)). unwrap_or l s.pending) is;
        no_quote = i.no_quote;
        not_spoiled = i.not_spoiled;
        chars_are = i.chars_are;
        counted = one_more_low s.positions.used;
      };
      brackets = h.brackets;
      returned = h.returned;
    })

-- each byte is the one of `<![CDATA[` that is due, and none is the last
abbrev are_due : List ℕ → List ℕ → Bool
are_due token [] = true
are_due token (b ∷ bs) = (eqb b (slice_index (codes "<![CDATA[") (length token)) && (not (eqb (length token) 8) && ltb b 128)) && are_due (token ++ b ∷ []) bs

letter_is : (s : State) (token : List ℕ) (b : ℕ) → s.token ≡ token → eqb b (slice_index (codes "<![CDATA[") (length token)) ≡ true → eqb (length token) 8 ≡ false → in_bang s b ≡ gathered s b
unfolding in_bang
letter_is s token b is due more = rw (is, due, more) refl

letters_go : (bs : List ℕ) (s : State) (items : List Item) (token text : List ℕ) → Opens s mode.Bang token text → Room s (length bs) → are_due token bs ≡ true → Goes s items bs (λ t. Opens t mode.Bang (token ++ bs) text)
letters_go [] s items token text h room due =
    goes_none s items (λ t. Opens t mode.Bang (token ++ []) text) (subst (λ l. Opens s mode.Bang l text) (sym (append-nil token)) h)
letters_go (b ∷ bs) s items token text h room due =
    let i = h.in_token in
    let p = and_parts (eqb b (slice_index (codes "<![CDATA[") (length token)) && (not (eqb (length token) 8) && ltb b 128)) (are_due (token ++ b ∷ []) bs) due in
    let q = and_parts (eqb b (slice_index (codes "<![CDATA[") (length token))) (not (eqb (length token) 8) && ltb b 128) p.0 in
    let r = and_parts (not (eqb (length token) 8)) (ltb b 128) q.1 in
    let u : State = passed (gathered (counted s) b) b in
    let next : utf8_next [] b ≡ Some [] = low_next b (ltb-true b 128 r.1) in
    let stepped : step (turn s items) b ≡ turn u items =
    goes (turn s items) mode.Bang b (takes s mode.Bang b (length bs) [] i.no_fault i.mode_is room (ap (λ x. utf8_next x b) i.pending_is ∙ next))
    ∙ ap (λ v. turn (passed v b) items) (letter_is (counted s) token b i.token_is q.0 (not-true (eqb (length token) 8) r.0)) in
    goes_first s u items b bs (λ t. Opens t mode.Bang (token ++ (b ∷ bs)) text) stepped (gathered_kept s b)
    (subst (λ l. Goes u items bs (λ t. Opens t mode.Bang l text)) (append_assoc token (b ∷ []) bs)
    (letters_go bs u items (token ++ b ∷ []) text (record { in_token = in_token_more s mode.Bang token [] text b [] i next; brackets = h.brackets; returned = h.returned })
    (kept_room s u 1 (length bs) (length (b ∷ bs)) (omega arith) (gathered_kept s b) room) p.1))

-- in a section, before the `]]>`
record InSection (s : State) (o : OpenElement) (a c n : ℕ) (r : Bool) (text : List ℕ) : Type 0 where
  reads : Reads s mode.Section o a c n r
  few : s.lexical.brackets ≤ 2
  chars : so_far s ++ s.pending ≡ text

bracket_is : (s : State) (o : OpenElement) (token : List ℕ) → s.here ≡ Some o → s.token ≡ token → length token ≡ 8 → in_bang s 91 ≡ in_mode (record s { token = [] }) mode.Section
unfolding in_bang
bracket_is s o token here is eight =
    let len : length s.token ≡ 8 = ap length is ∙ eight in
    cond-true (eqb 91 (slice_index (codes "<![CDATA[") (length s.token))) (cond (eqb (length s.token) 8) (section_opened s) (gathered s 91)) (token_fails s why.Restricted) (ap (λ n. eqb 91 (slice_index (codes "<![CDATA[") n)) len)
    ∙ cond-true (eqb (length s.token) 8) (section_opened s) (gathered s 91) (ap (λ n. eqb n 8) len)
    ∙ cond-true (is_some s.here) (in_mode (record s { token = [] }) mode.Section) (token_fails s why.NotWellFormed) (ap is_some here)

bracket_goes : (s : State) (items : List Item) (o : OpenElement) (token text : List ℕ) (a c : ℕ) → Opens s mode.Bang token text → length token ≡ 8 → s.here ≡ Some o → Room s 1 → Goes s items (91 ∷ []) (λ t. (t.pending ≡ []) × InSection t o a c 0 false text)
bracket_goes s items o token text a c h eight here room =
    let i = h.in_token in
    let u : State = passed (in_mode (record (counted s) { token = [] }) mode.Section) 91 in
    let is : utf8_next s.pending 91 ≡ Some [] = ap (λ x. utf8_next x 91) i.pending_is ∙ low_next 91 (omega arith) in
    let held : u.pending ≡ [] = ap (λ (l : Option (List ℕ)). unwrap_or l s.pending) is in
    let stepped : step (turn s items) 91 ≡ turn u items =
    goes (turn s items) mode.Bang 91 (takes s mode.Bang 91 0 [] i.no_fault i.mode_is room is) ∙ ap (λ v. turn (passed v 91) items) (bracket_is (counted s) o token here i.token_is eight) in
    goes_one s u items 91 (λ t. (t.pending ≡ []) × InSection t o a c 0 false text) stepped
    (kept_one s u (record { limits = refl; here = refl; below = refl; scopes = refl; name = refl; phase = refl; spent = refl }) refl refl) (
      held,
      record {
        reads = record {
          no_fault = i.no_fault;
          mode_is = refl;
          here = here;
          no_token = refl;
          no_quote = i.no_quote;
          not_spoiled = i.not_spoiled;
          counted = one_more_low s.positions.used;
          follows = subst (Follows a c) (sym held) tt;
          brackets = λ none. h.brackets;
          returned = λ none. h.returned;
        };
        few = subst (λ n. n ≤ 2) (sym h.brackets) (omega arith);
        chars = ap (λ l. so_far u ++ l) held ∙ append-nil (so_far u) ∙ ap (λ n. s.chars ++ kept_back n) h.brackets ∙ append-nil s.chars ∙ i.chars_are;
      },
    )

-- `<![CDATA[` in an element
opening_goes : (s : State) (items : List Item) (o : OpenElement) (a c : ℕ) → IsQuiet s → s.here ≡ Some o → Room s 9 → Goes s items (codes "<![CDATA[") (λ t. (t.pending ≡ []) × InSection t o a c 0 false s.chars)
opening_goes s items o a c q here room =
    let P : State → Type 0 = λ t. (t.pending ≡ []) × InSection t o a c 0 false s.chars in
    goes_then s items (60 ∷ []) (33 ∷ 91 ∷ 67 ∷ 68 ∷ 65 ∷ 84 ∷ 65 ∷ 91 ∷ []) (λ t. Opens t mode.Opening (60 ∷ []) s.chars) P (less_goes s items o q here (first_room s 1 8 room))
    (λ t kept begun.
    let left : Room t 8 = kept_room s t 1 8 9 refl kept room in
    let inner : t.here ≡ Some o = kept.alike.here ∙ here in
    goes_then t items (33 ∷ []) (91 ∷ 67 ∷ 68 ∷ 65 ∷ 84 ∷ 65 ∷ 91 ∷ []) (λ u. Opens u mode.Bang (60 ∷ 33 ∷ []) s.chars) P (mark_goes t items o s.chars begun inner (first_room t 1 7 left))
    (λ u kept_u marked.
    let left_u : Room u 7 = kept_room t u 1 7 8 refl kept_u left in
    goes_then u items (91 ∷ 67 ∷ 68 ∷ 65 ∷ 84 ∷ 65 ∷ []) (91 ∷ []) (λ v. Opens v mode.Bang (60 ∷ 33 ∷ 91 ∷ 67 ∷ 68 ∷ 65 ∷ 84 ∷ 65 ∷ []) s.chars) P
    (letters_go (91 ∷ 67 ∷ 68 ∷ 65 ∷ 84 ∷ 65 ∷ []) u items (60 ∷ 33 ∷ []) s.chars marked (first_room u 6 1 left_u) refl)
    (λ v kept_v lettered. bracket_goes v items o (60 ∷ 33 ∷ 91 ∷ 67 ∷ 68 ∷ 65 ∷ 84 ∷ 65 ∷ []) s.chars a c lettered refl (kept_v.alike.here ∙ kept_u.alike.here ∙ inner) (kept_room u v 6 1 7 refl kept_v left_u))))

-- ---- what it holds

-- in a section, with no character in hand, and this is its text so far
record Holds (s : State) (o : OpenElement) (text : List ℕ) : Type 0 where
  reads : Reads s mode.Section o 0 0 s.lexical.brackets s.lexical.returned
  few : s.lexical.brackets ≤ 2
  held : s.pending ≡ []
  text_is : so_far s ≡ text

reads_again : (s : State) (o : OpenElement) (a c n : ℕ) (r : Bool) → Reads s mode.Section o a c n r → s.pending ≡ [] → Reads s mode.Section o 0 0 s.lexical.brackets s.lexical.returned
reads_again s o a c n r h held = record {
  no_fault = h.no_fault;
  mode_is = h.mode_is;
  here = h.here;
  no_token = h.no_token;
  no_quote = h.no_quote;
  not_spoiled = h.not_spoiled;
  counted = h.counted;
  follows = subst (Follows 0 0) (sym held) tt;
  brackets = λ none. refl;
  returned = λ none. refl;
}

abbrev SectionGoes : State → List Item → OpenElement → Bool → List ℕ → Type 0
SectionGoes s items o r bs = Goes s items bs (λ t. Holds t o ((so_far s ++ s.pending) ++ line_ends_after r bs))

abbrev SectionAfter : List Item → OpenElement → ℕ → ℕ → ℕ → Bool → List ℕ → List ℕ → Type 0
SectionAfter items o a c n r bs held = (u : State) → Reads u mode.Section o a c n r → u.lexical.brackets ≤ 2 → Room u (length bs) → u.pending ≡ held → SectionGoes u items o r bs

module _ (s : State) (items : List Item) (o : OpenElement) (a c n b : ℕ) (r : Bool) (bs : List ℕ) (h : Reads s mode.Section o a c n r) (few : s.lexical.brackets ≤ 2) (room : Room s (length (b ∷ bs)))
    (none : ends_within n (b ∷ bs) ≡ false) (all : are_characters_after a c (b ∷ bs) ≡ true) where
  section_ended : utf8_next s.pending b ≡ Some [] → SectionAfter items o c b (brackets_after n b) (eqb b 13) bs [] → SectionGoes s items o r (b ∷ bs)
  section_ended is more =
      let u : State = passed (section_taken (counted s) b) b in
      let w = section_byte s o a c n b r h few is in
      let stepped : step (turn s items) b ≡ turn u items =
      goes (turn s items) mode.Section b (takes s mode.Section b (length bs) [] h.no_fault h.mode_is room is)
      ∙ ap (λ v. turn (passed v b) items) (section_takes (counted s) b (ends_it s b is) (bounded s mode.Section o a c n b r bs h all) (no_end s mode.Section o a c n b r bs [] h is none)) in
      let same : (so_far u ++ u.pending) ++ line_ends_after (eqb b 13) bs ≡ (so_far s ++ s.pending) ++ line_ends_after r (b ∷ bs) =
      in_front (so_far u ++ u.pending) (so_far s) s.pending (says s.lexical.returned s.pending b) (line_ends_after (eqb b 13) bs) (line_ends_after r (b ∷ bs))
      (ap (λ l. so_far u ++ l) w.held ∙ append-nil (so_far u) ∙ w.text) (ending_says s.lexical.returned r s.pending b bs is h.returned) in
      goes_first s u items b bs (λ t. Holds t o ((so_far s ++ s.pending) ++ line_ends_after r (b ∷ bs))) stepped w.kept
      (subst (λ l. Goes u items bs (λ t. Holds t o l)) same
      (more u w.reads w.few (kept_room s u 1 (length bs) (length (b ∷ bs)) (omega arith) w.kept room) w.held))

  section_going : (x : ℕ) (xs : List ℕ) → utf8_next s.pending b ≡ Some (x ∷ xs) → SectionAfter items o c b (brackets_after n b) (eqb b 13) bs (x ∷ xs) → SectionGoes s items o r (b ∷ bs)
  section_going x xs is more =
      let u : State = passed (counted s) b in
      let held : u.pending ≡ x ∷ xs = ap (λ (l : Option (List ℕ)). unwrap_or l s.pending) is in
      let stepped : step (turn s items) b ≡ turn u items =
      goes (turn s items) mode.Section b (takes s mode.Section b (length bs) (x ∷ xs) h.no_fault h.mode_is room is)
      ∙ ap (λ v. turn (passed v b) items) (section_waits (counted s) b (ends_none s b x xs is)) in
      let same : (so_far u ++ u.pending) ++ line_ends_after (eqb b 13) bs ≡ (so_far s ++ s.pending) ++ line_ends_after r (b ∷ bs) =
      in_front (so_far u ++ u.pending) (so_far s) s.pending (x ∷ xs) (line_ends_after (eqb b 13) bs) (line_ends_after r (b ∷ bs))
      (ap (λ l. so_far u ++ l) held) (going_says r s.pending b x xs bs is) in
      goes_first s u items b bs (λ t. Holds t o ((so_far s ++ s.pending) ++ line_ends_after r (b ∷ bs))) stepped (going_kept s b)
      (subst (λ l. Goes u items bs (λ t. Holds t o l)) same
      (more u (reads_going s mode.Section o a c n b x r xs h is) few (kept_room s u 1 (length bs) (length (b ∷ bs)) (omega arith) (going_kept s b) room) held))

  section_next : (next : List ℕ) → utf8_next s.pending b ≡ Some next → SectionAfter items o c b (brackets_after n b) (eqb b 13) bs next → SectionGoes s items o r (b ∷ bs)
  section_next [] is more = section_ended is more
  section_next (x ∷ xs) is more = section_going x xs is more

inside_goes : (bs : List ℕ) (s : State) (items : List Item) (o : OpenElement) (a c n : ℕ) (r : Bool) → Reads s mode.Section o a c n r → s.lexical.brackets ≤ 2 → Room s (length bs)
    → ends_within n bs ≡ false → are_characters_after a c bs ≡ true → utf8_run s.pending bs ≡ Some [] → SectionGoes s items o r bs
inside_goes [] s items o a c n r h few room none all utf8 =
    let held : s.pending ≡ [] = one_some s.pending [] utf8 in
    goes_none s items (λ t. Holds t o ((so_far s ++ s.pending) ++ [])) (record {
      reads = reads_again s o a c n r h held;
      few = few;
      held = held;
      text_is = sym (append-nil (so_far s ++ s.pending) ∙ ap (λ l. so_far s ++ l) held ∙ append-nil (so_far s));
    })
inside_goes (b ∷ bs) s items o a c n r h few room none all utf8 =
    let l = leads (utf8_next s.pending b) (λ next. utf8_run next bs) utf8 in
    let q = or_parts (eqb n 2 && eqb b 62) (ends_within (brackets_after n b) bs) none in
    section_next s items o a c n b r bs h few room none all l.next l.is
    (λ u reads fits within held. inside_goes bs u items o c b (brackets_after n b) (eqb b 13) reads fits within q.1 (first_allowed a c b bs all).1 (ap (λ g. utf8_run g bs) held ∙ l.goes))

-- ---- its end

allowed_here : (s : State) (b : ℕ) → s.pending ≡ [] → is_forbidden s b ≡ is_forbidden (record s { pending = [] }) b
allowed_here s b held = ap (λ l. is_forbidden (record s { pending = l }) b) held

says_there : (q : Bool) (held : List ℕ) → held ≡ [] → says q held 93 ≡ 93 ∷ []
says_there q held none = ap (λ l. says q l 93) none ∙ bracket_says q

-- a `]` behind what the section holds so far
closing_goes : (s : State) (items : List Item) (o : OpenElement) (text : List ℕ) → Holds s o text → Room s 1 → Goes s items (93 ∷ []) (λ t. Holds t o (text ++ 93 ∷ []) × (t.lexical.brackets ≡ brackets_after s.lexical.brackets 93))
closing_goes s items o text h room =
    let i = h.reads in
    let is : utf8_next s.pending 93 ≡ Some [] = ap (λ x. utf8_next x 93) h.held ∙ low_next 93 (omega arith) in
    let u : State = passed (section_taken (counted s) 93) 93 in
    let w = section_byte s o 0 0 s.lexical.brackets 93 s.lexical.returned i h.few is in
    let stepped : step (turn s items) 93 ≡ turn u items =
    goes (turn s items) mode.Section 93 (takes s mode.Section 93 0 [] i.no_fault i.mode_is room is)
    ∙ ap (λ v. turn (passed v 93) items) (section_takes (counted s) 93 (ends_it s 93 is) (allowed_here s 93 h.held) (and_right (eqb s.lexical.brackets 2) false refl)) in
    goes_one s u items 93 (λ t. Holds t o (text ++ 93 ∷ []) × (t.lexical.brackets ≡ brackets_after s.lexical.brackets 93)) stepped w.kept (
      record { reads = reads_again u o 0 93 (brackets_after s.lexical.brackets 93) false w.reads w.held; few = w.few; held = w.held; text_is = w.text ∙ ap (λ l. so_far s ++ l) (says_there s.lexical.returned s.pending h.held) ∙ ap (λ l. l ++ 93 ∷ []) h.text_is },
      w.counts,
    )

two_after : (m n : ℕ) → n ≡ brackets_after m 93 → brackets_after n 93 ≡ 2
two_after m n e =
    ap (λ k. brackets_after k 93) e
    ∙ ⊎_elim (λ (none : eqb m 0 ≡ true). ap (λ x. brackets_after (cond x 1 2) 93) none) (λ (some : eqb m 0 ≡ false). ap (λ x. brackets_after (cond x 1 2) 93) some) (cases_Bool (eqb m 0))

greater_goes : (s : State) (items : List Item) (o : OpenElement) (text : List ℕ) → Holds s o ((text ++ 93 ∷ []) ++ 93 ∷ []) → s.lexical.brackets ≡ 2 → Room s 1 → Goes s items (62 ∷ []) (λ t. Fresh t text)
greater_goes s items o text h two room =
    let i = h.reads in
    let is : utf8_next s.pending 62 ≡ Some [] = ap (λ x. utf8_next x 62) h.held ∙ low_next 62 (omega arith) in
    let u : State = passed (token_ended (counted s)) 62 in
    let stepped : step (turn s items) 62 ≡ turn u items =
    goes (turn s items) mode.Section 62 (takes s mode.Section 62 0 [] i.no_fault i.mode_is room is)
    ∙ ap (λ v. turn (passed v 62) items) (section_ends (counted s) (ends_it s 62 is) (allowed_here s 62 h.held) two) in
    goes_one s u items 62 (λ t. Fresh t text) stepped
    (kept_one s u (record { limits = refl; here = refl; below = refl; scopes = refl; name = refl; phase = refl; spent = refl }) refl refl)
    (record {
      fresh = record {
        quiet = record {
          no_fault = i.no_fault;
          text = refl;
          no_token = refl;
          no_pending = ap (λ (l : Option (List ℕ)). unwrap_or l s.pending) is;
          no_quote = refl;
          not_spoiled = refl;
          counted = one_more_low s.positions.used;
          uncounted = λ none. absurd (true≢false (sym (ap is_some i.here) ∙ none));
        };
        no_run = refl;
      };
      chars = append_cancel_right s.chars text (93 ∷ 93 ∷ []) (sym (ap (λ n. s.chars ++ kept_back n) two) ∙ h.text_is ∙ append_assoc text (93 ∷ []) (93 ∷ []));
    })

-- `]]>` behind what the section holds
ending_goes : (s : State) (items : List Item) (o : OpenElement) (text : List ℕ) → Holds s o text → Room s 3 → Goes s items (codes "]]>") (λ t. Fresh t text)
ending_goes s items o text h room =
    goes_then s items (93 ∷ []) (93 ∷ 62 ∷ []) (λ t. Holds t o (text ++ 93 ∷ []) × (t.lexical.brackets ≡ brackets_after s.lexical.brackets 93)) (λ t. Fresh t text) (closing_goes s items o text h (first_room s 1 2 room))
    (λ t kept first.
    let left : Room t 2 = kept_room s t 1 2 3 refl kept room in
    goes_then t items (93 ∷ []) (62 ∷ []) (λ u. Holds u o ((text ++ 93 ∷ []) ++ 93 ∷ []) × (u.lexical.brackets ≡ brackets_after t.lexical.brackets 93)) (λ u. Fresh u text) (closing_goes t items o (text ++ 93 ∷ []) first.0 (first_room t 1 1 left))
    (λ u kept_u second. greater_goes u items o text second.0 (second.1 ∙ two_after s.lexical.brackets t.lexical.brackets first.1) (kept_room t u 1 1 2 refl kept_u left)))

-- a CDATA section in an element, from its `<` to its `>`
pub section_runs : (s : State) (items : List Item) (o : OpenElement) (a c : ℕ) (held : List ℕ) → IsQuiet s → s.here ≡ Some o → Room s (length (codes "<![CDATA[" ++ (held ++ codes "]]>"))) → has_section_end held ≡ false
    → are_characters_after a c held ≡ true → utf8_run [] held ≡ Some [] → Goes s items (codes "<![CDATA[" ++ (held ++ codes "]]>")) (λ t. Fresh t (s.chars ++ line_ends held))
section_runs s items o a c held q here room none all utf8 =
    let count : length (codes "<![CDATA[" ++ (held ++ codes "]]>")) ≡ 9 + (length held + 3) = omega (arith, length-append held (codes "]]>")) in
    let fits : Room s (9 + (length held + 3)) = subst (Room s) count room in
    goes_then s items (codes "<![CDATA[") (held ++ codes "]]>") (λ t. (t.pending ≡ []) × InSection t o a c 0 false s.chars) (λ t. Fresh t (s.chars ++ line_ends held)) (opening_goes s items o a c q here (first_room s 9 (length held + 3) fits))
    (λ t kept opened.
    let left : Room t (length held + 3) = kept_room s t 9 (length held + 3) (9 + (length held + 3)) refl kept fits in
    let i = opened.1 in
    goes_then t items held (codes "]]>") (λ u. Holds u o (s.chars ++ line_ends held)) (λ u. Fresh u (s.chars ++ line_ends held))
    (subst (λ l. Goes t items held (λ u. Holds u o (l ++ line_ends held))) i.chars
    (inside_goes held t items o a c 0 false i.reads i.few (first_room t (length held) 3 left) (none_within held none) all (ap (λ l. utf8_run l held) opened.0 ∙ utf8)))
    (λ u kept_u inner. ending_goes u items o (s.chars ++ line_ends held) inner (kept_room t u (length held) 3 (length held + 3) refl kept_u left)))
