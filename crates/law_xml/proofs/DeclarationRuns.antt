-- The machine reads a declaration outside elements (XML 1.0, section 2.8).
use Rattle.std.proofs.Common.{◌≡◌, ℕ, suc, ◌+◌, ◌-◌, ◌<◌, ⊎_elim, inr, inl, Bool, true, false, eqb, ltb, not, ◌&&◌, List, [], ◌∷◌, ◌++◌, Option, codes, get_or, length, slice_index, unwrap_or, refl, sym, ap, subst, ◌∙◌, arith, append_assoc, append-nil, length-append}
use Rattle.std.proofs.lemmas.Bool.{and_from, and_left, and_parts, cond-true, cond-false, ltb-true, not-true}
use Rattle.std.proofs.Math.Seq.{get_or-append_seam}
use Rattle.std.proofs.lemmas.List.Folds.{list_all-append}
use Rattle.std.specs.List.{list_all}
use Rattle.std.specs.Option.{is_some}
use Rattle.xml_tokens.proofs.DeclarationGrammar.{good_declarations}
use Rattle.xml_tokens.specs.Characters.{is_white}
use Rattle.xml_tokens.specs.Declarations.{declaration_of}
use Rattle.xml_tokens.specs.Utf8.{utf8_next}
use Rattle.xml_tokens.specs.declared.declarations.Declaration.TheVariants.{Good}
use Rattle.law_xml.proofs.ByteSteps.{Goes, InToken, Room, first_room, gathered_kept, goes_first, goes_none, goes_one, goes_then, in_token_more, kept_one, kept_room, one_more_low, takes}
use Rattle.law_xml.proofs.DeclarationBytes.{are_unmarked, is_unmarked, shaped, white_unmarked}
use Rattle.law_xml.proofs.FaultLaws.{goes}
use Rattle.law_xml.proofs.HeldBytes.{low_next}
use Rattle.xml_framer.proofs.Pieces.{run_append}
use Rattle.law_xml.proofs.Quiet.{HasRoom, IsFresh, IsQuiet}
use Rattle.xml_framer.specs.Machine.{passed, run, step}
use Rattle.xml_framer.specs.MarkupSteps.{declared_phase, declares, ends_in_question, in_declaration, in_phase, in_question}
use Rattle.xml_framer.specs.States.{State, admits_declaration, counted, gathered, gathered_in, in_mode, item_ended, may_declare, moved, token_begun, token_fails, turn}
use Rattle.xml_framer.specs.TagSteps.{in_opening}
use Rattle.xml_framer.specs.TextSteps.{between, in_text, inside}
use Rattle.xml_framer.specs.declared.fault.Why.TheVariants as why
use Rattle.xml_framer.specs.declared.items.Item.{Item}
use Rattle.xml_framer.specs.declared.states.Mode.{Mode}
use Rattle.xml_framer.specs.declared.states.Mode.TheVariants as mode

-- behind a declaration: only the phase, the places and what is known of a run of text are others
pub record HasDeclared (s t : State) : Type 0 where
  pub fresh : IsFresh t
  pub limits : t.limits ≡ s.limits
  pub here : t.here ≡ s.here
  pub below : t.below ≡ s.below
  pub scopes : t.scopes ≡ s.scopes
  pub name : t.name ≡ s.name
  pub chars : t.chars ≡ s.chars
  pub spent : t.lexical.spent ≡ s.lexical.spent
  pub phase : t.lexical.phase ≡ declared_phase s.lexical.phase

-- ---- its first byte, from where the bytes are counted

abbrev begun_outside : State → State
begun_outside s = record s { positions = record s.positions { item_at = s.positions.at; used = 1 } }

abbrev less_begun : State → State
less_begun s = passed (gathered (begun_outside (token_begun (counted s) mode.Opening)) 60) 60

less_is : (s : State) → is_some s.here ≡ false → in_text s 60 ≡ gathered (begun_outside (token_begun s mode.Opening)) 60
unfolding in_text between
less_is s outer =
    cond-false (is_some s.here) (inside s 60) (between s 60) outer
    ∙ ap (λ u. gathered u 60) (cond-false (is_some s.here) (token_begun s mode.Opening) (begun_outside (token_begun s mode.Opening)) outer)

less_steps : (s : State) (items : List Item) → IsQuiet s → is_some s.here ≡ false → step (turn s items) 60 ≡ turn (less_begun s) items
less_steps s items q outer =
    goes (turn s items) mode.Text 60 (takes s mode.Text 60 0 [] q.no_fault q.text (inl (q.uncounted outer)) (ap (λ x. utf8_next x 60) q.no_pending ∙ low_next 60 (omega arith)))
    ∙ ap (λ v. turn (passed v 60) items) (less_is (counted s) outer)

less_held : (s : State) → IsQuiet s → InToken (less_begun s) mode.Opening (60 ∷ []) [] s.chars
less_held s q = record {
  no_fault = q.no_fault;
  mode_is = refl;
  token_is = ap (λ l. l ++ 60 ∷ []) q.no_token;
  pending_is = ap (λ (l : Option (List ℕ)). unwrap_or l s.pending) (ap (λ x. utf8_next x 60) q.no_pending ∙ low_next 60 (omega arith));
  no_quote = q.no_quote;
  not_spoiled = q.not_spoiled;
  chars_are = refl;
  counted = omega arith;
}

-- ---- `?xml` and white space

-- a byte that is added to the token, in another mode
module _ (s : State) (items : List Item) (m k : Mode) (token text : List ℕ) (b : ℕ) (h : InToken s m token [] text) (low : b < 128) where
  rendered_held : InToken (passed (gathered (in_mode (counted s) k) b) b) k (token ++ b ∷ []) [] text
  rendered_held = record {
    no_fault = h.no_fault;
    mode_is = refl;
    token_is = ap (λ l. l ++ b ∷ []) h.token_is;
    pending_is = ap (λ (l : Option (List ℕ)). unwrap_or l s.pending) (ap (λ x. utf8_next x b) h.pending_is ∙ low_next b low);
    no_quote = h.no_quote;
    not_spoiled = h.not_spoiled;
    chars_are = h.chars_are;
    counted = one_more_low s.positions.used;
  }

  turns : step (turn s items) b ≡ turn (passed (gathered (in_mode (counted s) k) b) b) items → Goes s items (b ∷ []) (λ t. InToken t k (token ++ b ∷ []) [] text)
  turns stepped =
      let u : State = passed (gathered (in_mode (counted s) k) b) b in
      goes_one s u items b (λ t. InToken t k (token ++ b ∷ []) [] text) stepped (kept_one s u (record { limits = refl; here = refl; below = refl; scopes = refl; name = refl; phase = refl; spent = refl }) refl refl) rendered_held

question_is : (s : State) (items : List Item) → may_declare s ≡ true → in_opening (turn s items) 63 ≡ turn (gathered_in s mode.Question 63) items
unfolding in_opening
question_is s items may = ap (λ u. turn u items) (cond-true (may_declare s) (gathered_in s mode.Question 63) (token_fails s why.Restricted) may)

question_goes : (s : State) (items : List Item) (text : List ℕ) → InToken s mode.Opening (60 ∷ []) [] text → may_declare s ≡ true → Room s 1 → Goes s items (63 ∷ []) (λ t. InToken t mode.Question (60 ∷ 63 ∷ []) [] text)
question_goes s items text h may room =
    turns s items mode.Opening mode.Question (60 ∷ []) text 63 h (omega arith)
    (goes (turn s items) mode.Opening 63 (takes s mode.Opening 63 0 [] h.no_fault h.mode_is room (ap (λ x. utf8_next x 63) h.pending_is ∙ low_next 63 (omega arith)))
    ∙ ap (λ t. moved t (passed t.state 63)) (question_is (counted s) items may))

-- each byte is the one of `<?xml` that is due
abbrev are_due : List ℕ → List ℕ → Bool
are_due token [] = true
are_due token (b ∷ bs) = (ltb (length token) 5 && (eqb b (slice_index (codes "<?xml") (length token)) && ltb b 128)) && are_due (token ++ b ∷ []) bs

letter_is : (s : State) (token : List ℕ) (b : ℕ) → s.token ≡ token → ltb (length token) 5 ≡ true → eqb b (slice_index (codes "<?xml") (length token)) ≡ true → in_question s b ≡ gathered s b
unfolding in_question
letter_is s token b is few due = rw (is, few, due) refl

-- bytes that are added to the token, each in its turn
gathers : (s : State) (items : List Item) (m : Mode) (token text : List ℕ) (b : ℕ) (bs : List ℕ) → InToken s m token [] text → Room s (length (b ∷ bs)) → b < 128
    → step (turn s items) b ≡ turn (passed (gathered (counted s) b) b) items
    → ((u : State) → InToken u m (token ++ b ∷ []) [] text → Room u (length bs) → Goes u items bs (λ t. InToken t m ((token ++ b ∷ []) ++ bs) [] text))
    → Goes s items (b ∷ bs) (λ t. InToken t m (token ++ (b ∷ bs)) [] text)
gathers s items m token text b bs h room low stepped more =
    let u : State = passed (gathered (counted s) b) b in
    goes_first s u items b bs (λ t. InToken t m (token ++ (b ∷ bs)) [] text) stepped (gathered_kept s b)
    (subst (λ l. Goes u items bs (λ t. InToken t m l [] text)) (append_assoc token (b ∷ []) bs)
    (more u (in_token_more s m token [] text b [] h (low_next b low)) (kept_room s u 1 (length bs) (length (b ∷ bs)) (omega arith) (gathered_kept s b) room)))

letters_go : (bs : List ℕ) (s : State) (items : List Item) (token text : List ℕ) → InToken s mode.Question token [] text → Room s (length bs) → are_due token bs ≡ true → Goes s items bs (λ t. InToken t mode.Question (token ++ bs) [] text)
letters_go [] s items token text h room due =
    goes_none s items (λ t. InToken t mode.Question (token ++ []) [] text) (subst (λ l. InToken s mode.Question l [] text) (sym (append-nil token)) h)
letters_go (b ∷ bs) s items token text h room due =
    let p = and_parts (ltb (length token) 5 && (eqb b (slice_index (codes "<?xml") (length token)) && ltb b 128)) (are_due (token ++ b ∷ []) bs) due in
    let q = and_parts (ltb (length token) 5) (eqb b (slice_index (codes "<?xml") (length token)) && ltb b 128) p.0 in
    let r = and_parts (eqb b (slice_index (codes "<?xml") (length token))) (ltb b 128) q.1 in
    let low = ltb-true b 128 r.1 in
    gathers s items mode.Question token text b bs h room low
    (goes (turn s items) mode.Question b (takes s mode.Question b (length bs) [] h.no_fault h.mode_is room (ap (λ x. utf8_next x b) h.pending_is ∙ low_next b low))
    ∙ ap (λ v. turn (passed v b) items) (letter_is (counted s) token b h.token_is q.0 r.0))
    (λ u held fits. letters_go bs u items (token ++ b ∷ []) text held fits p.1)

white_is : (s : State) (b : ℕ) → s.token ≡ codes "<?xml" → is_white b ≡ true → in_question s b ≡ gathered_in s mode.Declaration b
unfolding in_question
white_is s b is white = rw (is, white) refl

white_goes : (s : State) (items : List Item) (text : List ℕ) (b : ℕ) → InToken s mode.Question (codes "<?xml") [] text → is_white b ≡ true → b < 128 → Room s 1
    → Goes s items (b ∷ []) (λ t. InToken t mode.Declaration (codes "<?xml" ++ b ∷ []) [] text)
white_goes s items text b h white low room =
    turns s items mode.Question mode.Declaration (codes "<?xml") text b h low
    (goes (turn s items) mode.Question b (takes s mode.Question b 0 [] h.no_fault h.mode_is room (ap (λ x. utf8_next x b) h.pending_is ∙ low_next b low))
    ∙ ap (λ v. turn (passed v b) items) (white_is (counted s) b h.token_is white))

-- ---- up to its `?`

-- a byte of ASCII other than `>`
abbrev is_within : ℕ → Bool
is_within b = not (eqb b 62) && ltb b 128

within_is : (s : State) (b : ℕ) → eqb b 62 ≡ false → in_declaration s b ≡ gathered s b
unfolding in_declaration
within_is s b other = cond-false (eqb b 62 && ends_in_question s.token) (declares (gathered s b) (declaration_of (s.token ++ b ∷ []))) (gathered s b) (and_left (eqb b 62) (ends_in_question s.token) other)

within_go : (bs : List ℕ) (s : State) (items : List Item) (token text : List ℕ) → InToken s mode.Declaration token [] text → Room s (length bs) → list_all is_within bs ≡ true
    → Goes s items bs (λ t. InToken t mode.Declaration (token ++ bs) [] text)
within_go [] s items token text h room all =
    goes_none s items (λ t. InToken t mode.Declaration (token ++ []) [] text) (subst (λ l. InToken s mode.Declaration l [] text) (sym (append-nil token)) h)
within_go (b ∷ bs) s items token text h room all =
    let p = and_parts (is_within b) (list_all is_within bs) all in
    let q = and_parts (not (eqb b 62)) (ltb b 128) p.0 in
    let low = ltb-true b 128 q.1 in
    gathers s items mode.Declaration token text b bs h room low
    (goes (turn s items) mode.Declaration b (takes s mode.Declaration b (length bs) [] h.no_fault h.mode_is room (ap (λ x. utf8_next x b) h.pending_is ∙ low_next b low))
    ∙ ap (λ v. turn (passed v b) items) (within_is (counted s) b (not-true (eqb b 62) q.0)))
    (λ u held fits. within_go bs u items (token ++ b ∷ []) text held fits p.1)

unmarked_within : (bs : List ℕ) → are_unmarked bs ≡ true → list_all is_within bs ≡ true
unmarked_within [] h = refl
unmarked_within (b ∷ bs) h =
    let p = and_parts (is_unmarked b) (are_unmarked bs) h in
    let q = and_parts (not (eqb b 62) && not (eqb b 63)) (ltb b 128) p.0 in
    let r = and_parts (not (eqb b 62)) (not (eqb b 63)) q.0 in
    and_from _ _ (and_from _ _ r.0 q.1) (unmarked_within bs p.1)

-- ---- its last byte

ends_asked : (front : List ℕ) → ends_in_question (front ++ 63 ∷ []) ≡ true
ends_asked front =
    let last : length (front ++ 63 ∷ []) - 1 ≡ length front = omega (arith, length-append front (63 ∷ [])) in
    ap (λ n. eqb (get_or (front ++ 63 ∷ []) n 0) 63) last ∙ ap (λ n. eqb n 63) (get_or-append_seam front 63 [] 0)

abbrev declared_here : State → State
declared_here s = in_phase (item_ended (gathered s 62)) (declared_phase s.lexical.phase)

greater_is : (s : State) (token : List ℕ) → s.token ≡ token → ends_in_question token ≡ true → declaration_of (token ++ 62 ∷ []) ≡ Good → in_declaration s 62 ≡ declared_here s
unfolding in_declaration
greater_is s token is asked good =
    cond-true (eqb 62 62 && ends_in_question s.token) (declares (gathered s 62) (declaration_of (s.token ++ 62 ∷ []))) (gathered s 62) (ap ends_in_question is ∙ asked)
    ∙ ap (declares (gathered s 62)) (ap (λ l. declaration_of (l ++ 62 ∷ [])) is ∙ good)

greater_steps : (s : State) (items : List Item) (token text : List ℕ) → InToken s mode.Declaration token [] text → Room s 1 → ends_in_question token ≡ true → declaration_of (token ++ 62 ∷ []) ≡ Good
    → step (turn s items) 62 ≡ turn (passed (declared_here (counted s)) 62) items
greater_steps s items token text h room asked good =
    goes (turn s items) mode.Declaration 62 (takes s mode.Declaration 62 0 [] h.no_fault h.mode_is room (ap (λ x. utf8_next x 62) h.pending_is ∙ low_next 62 (omega arith)))
    ∙ ap (λ v. turn (passed v 62) items) (greater_is (counted s) token h.token_is asked good)

declared_fresh : (s : State) (token text : List ℕ) → InToken s mode.Declaration token [] text → IsFresh (passed (declared_here (counted s)) 62)
declared_fresh s token text h = record {
  quiet = record {
    no_fault = h.no_fault;
    text = refl;
    no_token = refl;
    no_pending = ap (λ (l : Option (List ℕ)). unwrap_or l s.pending) (ap (λ x. utf8_next x 62) h.pending_is ∙ low_next 62 (omega arith));
    no_quote = refl;
    not_spoiled = refl;
    counted = omega arith;
    uncounted = λ none. refl;
  };
  no_run = refl;
}

-- ---- all of it

-- what stands between the `<` and the `>`
abbrev middle : ℕ → List ℕ → List ℕ
middle w inner = codes "?xml" ++ (w ∷ (inner ++ 63 ∷ []))

middle_goes : (s : State) (items : List Item) (text : List ℕ) (w : ℕ) (inner : List ℕ) → InToken s mode.Opening (60 ∷ []) [] text → may_declare s ≡ true → is_white w ≡ true → are_unmarked inner ≡ true → Room s (length (middle w inner))
    → Goes s items (middle w inner) (λ t. InToken t mode.Declaration (60 ∷ middle w inner) [] text)
middle_goes s items text w inner h may white unmarked room =
    let P : State → Type 0 = λ t. InToken t mode.Declaration (60 ∷ middle w inner) [] text in
    let low : w < 128 = ltb-true w 128 (and_parts (not (eqb w 62) && not (eqb w 63)) (ltb w 128) (white_unmarked w white)).1 in
    let last : list_all is_within (inner ++ 63 ∷ []) ≡ true = list_all-append is_within inner (63 ∷ []) ∙ and_from _ _ (unmarked_within inner unmarked) refl in
    let n = length (inner ++ 63 ∷ []) in
    let fits : Room s (1 + (3 + (1 + n))) = subst (Room s) (omega arith) room in
    goes_then s items (63 ∷ []) (codes "xml" ++ (w ∷ (inner ++ 63 ∷ []))) (λ t. InToken t mode.Question (60 ∷ 63 ∷ []) [] text) P (question_goes s items text h may (first_room s 1 (3 + (1 + n)) fits))
    (λ t kept_t asked.
    let fits_t : Room t (3 + (1 + n)) = kept_room s t 1 (3 + (1 + n)) (1 + (3 + (1 + n))) refl kept_t fits in
    goes_then t items (codes "xml") (w ∷ (inner ++ 63 ∷ [])) (λ u. InToken u mode.Question (codes "<?xml") [] text) P (letters_go (codes "xml") t items (60 ∷ 63 ∷ []) text asked (first_room t 3 (1 + n) fits_t) refl)
    (λ u kept_u lettered.
    let fits_u : Room u (1 + n) = kept_room t u 3 (1 + n) (3 + (1 + n)) refl kept_u fits_t in
    goes_then u items (w ∷ []) (inner ++ 63 ∷ []) (λ v. InToken v mode.Declaration (codes "<?xml" ++ w ∷ []) [] text) P (white_goes u items text w lettered white low (first_room u 1 n fits_u))
    (λ v kept_v spaced. within_go (inner ++ 63 ∷ []) v items (codes "<?xml" ++ w ∷ []) text spaced (kept_room u v 1 n (1 + n) refl kept_v fits_u) last)))

-- one byte is counted behind the `<`
room_begun : (s : State) (bytes : List ℕ) (n : ℕ) → length bytes ≡ suc n → s.positions.used ≡ 0 → HasRoom s bytes → Room (less_begun s) n
room_begun s bytes n count none h = inr (⊎_elim (λ below. inl (omega (arith, count, none, below))) (λ large. inr (omega arith, large)) h)

-- Where a declaration may stand, the bytes of a good one are read as a declaration (RFC 6120, section 11.5), and give nothing.
pub declaration_run : (s : State) (items : List Item) (bytes : List ℕ) → IsQuiet s → may_declare s ≡ true → HasRoom s bytes → declaration_of bytes ≡ Good → (t : State) × (run (turn s items) bytes ≡ turn t items) × HasDeclared s t
declaration_run s items bytes q may fits good =
    let outer : is_some s.here ≡ false = not-true (is_some s.here) (and_parts (not (is_some s.here)) (admits_declaration s.lexical.phase) may).0 in
    let h = shaped bytes ((good_declarations bytes).0 good) in
    let mid = middle h.white h.inner in
    let whole : bytes ≡ (60 ∷ mid) ++ 62 ∷ [] = h.is ∙ ap (λ l. codes "<?xml" ++ (h.white ∷ l)) (sym (append_assoc h.inner (63 ∷ []) (62 ∷ []))) in
    let count : length bytes ≡ suc (length mid + 1) = ap length whole ∙ omega (arith, length-append mid (62 ∷ [])) in
    let u = less_begun s in
    let room_u : Room u (length mid + 1) = room_begun s bytes (length mid + 1) count (q.uncounted outer) fits in
    let g = middle_goes u items s.chars h.white h.inner (less_held s q) may h.is_space h.unmarked (first_room u (length mid) 1 room_u) in
    let t = g.state in
    let v : State = passed (declared_here (counted t)) 62 in
    let last = greater_steps t items (60 ∷ mid) s.chars g.holds (kept_room u t (length mid) 1 (length mid + 1) refl g.kept room_u) (ends_asked (codes "<?xml" ++ (h.white ∷ h.inner))) (ap declaration_of (sym whole) ∙ good) in (
      v,
      ap (run (turn s items)) whole ∙ ap (λ x. run x (mid ++ 62 ∷ [])) (less_steps s items q outer) ∙ run_append (turn u items) mid (62 ∷ []) ∙ ap (λ x. run x (62 ∷ [])) g.runs ∙ last,
      record {
        fresh = declared_fresh t (60 ∷ mid) s.chars g.holds;
        limits = g.kept.alike.limits;
        here = g.kept.alike.here;
        below = g.kept.alike.below;
        scopes = g.kept.alike.scopes;
        name = g.kept.alike.name;
        chars = g.holds.chars_are;
        spent = g.kept.alike.spent;
        phase = ap declared_phase g.kept.alike.phase;
      },
    )
