-- The machine reads a reference (XML 1.0, section 4.1).
use Rattle.std.proofs.Common.{◌≡◌, ℕ, ◌+◌, Bool, true, false, cond, eqb, List, [], ◌∷◌, ◌++◌, Option, Some, length, encode_utf8, unwrap_or, refl, sym, ap, subst, ◌∙◌, arith, append_assoc, append-nil, length-append}
use Rattle.std.proofs.lemmas.Bool.{and_parts, true≢false}
use Rattle.std.specs.Option.{is_some}
use Rattle.xml_tokens.proofs.Going.{references_go_on}
use Rattle.xml_tokens.specs.References.{each_goes_on, number_goes_on, reference_goes_on, referred}
use Rattle.xml_tokens.specs.Utf8.{utf8_next, utf8_run}
use Rattle.xml_tokens.specs.declared.references.Reference.TheVariants.{Character, Malformed}
use Rattle.law_xml.proofs.ByteSteps.{Goes, InToken, Room, gathered_kept, goes_first, goes_none, goes_one, goes_then, first_room, in_token_more, kept_one, kept_room, one_more_low, takes}
use Rattle.law_xml.proofs.FaultLaws.{goes}
use Rattle.law_xml.proofs.HeldBytes.{low_next}
use Rattle.law_xml.proofs.Quiet.{IsFresh, IsQuiet}
use Rattle.law_xml.proofs.SpelledTexts.{leads, one_some}
use Rattle.xml_framer.specs.Machine.{passed, step}
use Rattle.xml_framer.specs.States.{OpenElement, State, counted, gathered, token_begun, token_ended, turn}
use Rattle.xml_framer.specs.TextSteps.{in_reference, in_text, inside, refers}
use Rattle.xml_framer.specs.declared.items.Item.{Item}
use Rattle.xml_framer.specs.declared.states.Mode.TheVariants as mode
use Rattle.xml_tokens.proofs.ValueSpellings.{goes_unended as goes_no_end}

-- ---- a byte of its name

-- `;` goes on no reference
number_ends : (xs : List ℕ) → number_goes_on xs 59 ≡ false
number_ends [] = refl
number_ends (x ∷ xs) = same (eqb x 120)
  where
    same : (p : Bool) → cond p false false ≡ false
    same true = refl
    same false = refl

gathers : (s : State) (b : ℕ) → eqb b 59 ≡ false → reference_goes_on s.token b ≡ true → in_reference s b ≡ gathered s b
unfolding in_reference
gathers s b other h = rw (other, h) refl

name_runs : (name : List ℕ) (s : State) (items : List Item) (so_far held chars : List ℕ) → InToken s mode.Reference so_far held chars → Room s (length name) → each_goes_on so_far name ≡ true → utf8_run held name ≡ Some []
    → Goes s items name (λ t. InToken t mode.Reference (so_far ++ name) [] chars)
name_runs [] s items so_far held chars h room each utf8 =
    goes_none s items (λ t. InToken t mode.Reference (so_far ++ []) [] chars)
    (record { no_fault = h.no_fault; mode_is = h.mode_is; token_is = h.token_is ∙ sym (append-nil so_far); pending_is = h.pending_is ∙ one_some held [] utf8; no_quote = h.no_quote; not_spoiled = h.not_spoiled; chars_are = h.chars_are; counted = h.counted })
name_runs (b ∷ bs) s items so_far held chars h room each utf8 =
    let l = leads (utf8_next held b) (λ next. utf8_run next bs) utf8 in
    let p = and_parts (reference_goes_on so_far b) (each_goes_on (so_far ++ b ∷ []) bs) each in
    let u : State = passed (gathered (counted s) b) b in
    let is : utf8_next s.pending b ≡ Some l.next = ap (λ x. utf8_next x b) h.pending_is ∙ l.is in
    let stepped : step (turn s items) b ≡ turn u items =
    goes (turn s items) mode.Reference b (takes s mode.Reference b (length bs) l.next h.no_fault h.mode_is room is)
    ∙ ap (λ v. turn (passed v b) items) (gathers (counted s) b (goes_no_end so_far b p.0) (ap (λ x. reference_goes_on x b) h.token_is ∙ p.0)) in
    let whole : (so_far ++ b ∷ []) ++ bs ≡ so_far ++ (b ∷ bs) = append_assoc so_far (b ∷ []) bs in
    goes_first s u items b bs (λ t. InToken t mode.Reference (so_far ++ (b ∷ bs)) [] chars) stepped (gathered_kept s b)
    (subst (λ x. Goes u items bs (λ t. InToken t mode.Reference x [] chars)) whole
    (name_runs bs u items (so_far ++ b ∷ []) l.next chars (in_token_more s mode.Reference so_far held chars b l.next h l.is) (kept_room s u 1 (length bs) (length (b ∷ bs)) (omega arith) (gathered_kept s b) room) p.1 l.goes))

-- ---- its two ends

-- nothing is in hand, a token ended, and this is the text so far
pub record Fresh (s : State) (text : List ℕ) : Type 0 where
  pub fresh : IsFresh s
  pub chars : s.chars ≡ text

ampersand_is : (s : State) (o : OpenElement) → s.here ≡ Some o → in_text s 38 ≡ token_begun s mode.Reference
unfolding in_text inside
ampersand_is s o here = rw here refl

ampersand_runs : (s : State) (items : List Item) (o : OpenElement) → IsQuiet s → s.here ≡ Some o → Room s 1 → Goes s items (38 ∷ []) (λ t. InToken t mode.Reference [] [] s.chars)
ampersand_runs s items o q here room =
    let u : State = passed (token_begun (counted s) mode.Reference) 38 in
    let is : utf8_next s.pending 38 ≡ Some [] = ap (λ x. utf8_next x 38) q.no_pending ∙ low_next 38 (omega arith) in
    let stepped : step (turn s items) 38 ≡ turn u items =
    goes (turn s items) mode.Text 38 (takes s mode.Text 38 0 [] q.no_fault q.text room is) ∙ ap (λ v. turn (passed v 38) items) (ampersand_is (counted s) o here) in
    goes_one s u items 38 (λ t. InToken t mode.Reference [] [] s.chars) stepped
    (kept_one s u (record { limits = refl; here = refl; below = refl; scopes = refl; name = refl; phase = refl; spent = refl }) refl refl)
    (record { no_fault = q.no_fault; mode_is = refl; token_is = q.no_token; pending_is = ap (λ (l : Option (List ℕ)). unwrap_or l s.pending) is; no_quote = q.no_quote; not_spoiled = q.not_spoiled; chars_are = refl; counted = one_more_low s.positions.used })

abbrev referring : State → ℕ → State
referring s c = record (token_ended s) { chars = s.chars ++ encode_utf8 c }

refers_is : (s : State) (c : ℕ) → referred s.token ≡ Character c → in_reference s 59 ≡ referring s c
unfolding in_reference
refers_is s c e = ap (refers s) e

semicolon_runs : (s : State) (items : List Item) (o : OpenElement) (name chars : List ℕ) (c : ℕ) → InToken s mode.Reference name [] chars → s.here ≡ Some o → Room s 1 → referred name ≡ Character c
    → Goes s items (59 ∷ []) (λ t. Fresh t (chars ++ encode_utf8 c))
semicolon_runs s items o name chars c h here room e =
    let u : State = passed (referring (counted s) c) 59 in
    let is : utf8_next s.pending 59 ≡ Some [] = ap (λ x. utf8_next x 59) h.pending_is ∙ low_next 59 (omega arith) in
    let stepped : step (turn s items) 59 ≡ turn u items =
    goes (turn s items) mode.Reference 59 (takes s mode.Reference 59 0 [] h.no_fault h.mode_is room is) ∙ ap (λ v. turn (passed v 59) items) (refers_is (counted s) c (ap referred h.token_is ∙ e)) in
    goes_one s u items 59 (λ t. Fresh t (chars ++ encode_utf8 c)) stepped
    (kept_one s u (record { limits = refl; here = refl; below = refl; scopes = refl; name = refl; phase = refl; spent = refl }) refl refl)
    (record {
      fresh = record {
        quiet = record {
          no_fault = h.no_fault;
          text = refl;
          no_token = refl;
          no_pending = ap (λ (l : Option (List ℕ)). unwrap_or l s.pending) is;
          no_quote = refl;
          not_spoiled = refl;
          counted = one_more_low s.positions.used;
          uncounted = λ none. absurd (true≢false (sym (ap is_some here) ∙ none));
        };
        no_run = refl;
      };
      chars = ap (λ l. l ++ encode_utf8 c) h.chars_are;
    })

-- a reference in an element, from its `&` to its `;`
pub reference_runs : (s : State) (items : List Item) (o : OpenElement) (name : List ℕ) (c : ℕ) → IsQuiet s → s.here ≡ Some o → Room s (length (38 ∷ (name ++ 59 ∷ []))) → referred name ≡ Character c → utf8_run [] name ≡ Some []
    → Goes s items (38 ∷ (name ++ 59 ∷ [])) (λ t. Fresh t (s.chars ++ encode_utf8 c))
reference_runs s items o name c q here room e utf8 =
    let all : length (38 ∷ (name ++ 59 ∷ [])) ≡ 1 + (length name + 1) = omega (arith, length-append name (59 ∷ [])) in
    let fits : Room s (1 + (length name + 1)) = subst (Room s) all room in
    let each : each_goes_on [] name ≡ true = references_go_on name (λ none. no_character c (sym e ∙ none)) in
    goes_then s items (38 ∷ []) (name ++ 59 ∷ []) (λ t. InToken t mode.Reference [] [] s.chars) (λ t. Fresh t (s.chars ++ encode_utf8 c)) (ampersand_runs s items o q here (first_room s 1 (length name + 1) fits))
    (λ t kept begun.
    let left : Room t (length name + 1) = kept_room s t 1 (length name + 1) (1 + (length name + 1)) refl kept fits in
    goes_then t items name (59 ∷ []) (λ u. InToken u mode.Reference name [] s.chars) (λ u. Fresh u (s.chars ++ encode_utf8 c)) (name_runs name t items [] [] s.chars begun (first_room t (length name) 1 left) each utf8)
    (λ u kept_too named. semicolon_runs u items o name s.chars c named (kept_too.alike.here ∙ kept.alike.here ∙ here) (kept_room t u (length name) 1 (length name + 1) refl kept_too left) e))
  where
    no_character : (c : ℕ) → Character c ≡ Malformed → ⊥
    no_character c h = cc
