-- What texts, values and names of XML's characters say has XML's characters.
use Rattle.std.proofs.Common.{◌≡◌, ℕ, ◌<◌, ◌≤◌, ◌⊎◌, inl, inr, ⊎_elim, Bool, true, false, eqb, ltb, not, ◌&&◌, ◌||◌, List, [], ◌∷◌, ◌++◌, Some, None, codes, encode_utf8, refl, sym, ap, subst, ◌∙◌, arith, append-nil}
use Rattle.std.proofs.Math.Bool.{and-false}
use Rattle.std.proofs.lemmas.Bool.{cases_Bool, and_parts, eqb-true}
use Rattle.std.proofs.lemmas.Bool.Decides.{nat_tests}
use Rattle.std.proofs.lemmas.Str.{IsUtf8-encode, IsUtf8-from_is_utf8, chars_from_encodes}
use Rattle.std.specs.List.{list_all}
use Rattle.std.specs.Option.{option_and_then}
use Rattle.std.specs.Str.{IsUtf8, chars, is_utf8}
use lib.Utf8.{encode}
use Rattle.xml_tokens.proofs.CharacterLaws.{characters_are_those}
use Rattle.xml_tokens.proofs.Splits.{following-append, front-append}
use Rattle.xml_tokens.proofs.Utf8Runs.{runs_are_text, text_runs}
use Rattle.xml_tokens.proofs.ValueSpellings.{said_is_text}
use Rattle.xml_tokens.proofs.ValueTexts.{Runs, ascii_step, begins_anew, leads, legal_scalar, reference_names, runs_append}
use Rattle.xml_tokens.specs.Characters.{are_characters, are_characters_after, ends_forbidden, is_character, is_white}
use Rattle.xml_tokens.specs.Fronts.{front, following}
use Rattle.xml_tokens.specs.Lines.{IsCharacters, line_ends, line_ends_after}
use Rattle.xml_tokens.specs.References.{referred}
use Rattle.xml_tokens.specs.Tags.{has_parts, is_after_colon, is_qualified}
use Rattle.xml_tokens.specs.Characters.{is_name, is_named}
use Rattle.xml_tokens.specs.Utf8.{is_lead, utf8_next, utf8_run}
use Rattle.xml_tokens.specs.ValueGrammar.{IsValue, SpellsValue, data_alone, with_reference, spaces}
use Rattle.xml_tokens.specs.declared.references.Reference.TheVariants.{Character}
use Rattle.xml_names.specs.Names.{IsName}
use Rattle.law_xml.specs.Plain.{IsPlainName}
use Rattle.law_xml.specs.Texts as texts
use Rattle.law_xml.specs.Texts.{IsText, SpellsText}
use Rattle.law_xml.proofs.HeldBytes.{first_allowed, parted}

-- ---- characters, from two bytes on

-- a byte after which what came before is forgotten
record Forgets (b : ℕ) : Type 0 where
  no_first : eqb b 239 ≡ false
  no_second : eqb b 191 ≡ false

low_forgets : (b : ℕ) → b < 128 → Forgets b
low_forgets b low = record { no_first = grind (arith, nat_tests); no_second = grind (arith, nat_tests) }

first_forgotten : (c x : ℕ) (xs : List ℕ) → eqb c 239 ≡ false → are_characters_after c x xs ≡ are_characters_after 0 x xs
first_forgotten c x [] h = refl
first_forgotten c x (y ∷ ys) h = rw h refl

quiet : (a c x : ℕ) → eqb c 191 ≡ false → ends_forbidden a c x ≡ ends_forbidden 0 0 x
quiet a c x k = let e : (eqb a 239 && eqb c 191) ≡ false = rw k (and-false (eqb a 239)) in rw e refl

forgotten : (a c : ℕ) (xs : List ℕ) → Forgets c → are_characters_after a c xs ≡ are_characters_after 0 0 xs
forgotten a c [] h = refl
forgotten a c (x ∷ xs) h =
    let first = ap not (quiet a c x h.no_second) in
    let rest = first_forgotten c x xs h.no_first in
    (λ i. first i && rest i)

-- the same after any two bytes that are forgotten
same_after : (a c u v : ℕ) (xs : List ℕ) → Forgets c → Forgets v → are_characters_after a c xs ≡ are_characters_after u v xs
same_after a c u v xs h k = forgotten a c xs h ∙ sym (forgotten u v xs k)

-- ---- where a character begins

begins_low : (b : ℕ) (held next : List ℕ) → held ≡ [] → utf8_next held b ≡ Some next → (b < 128) ⊎ (192 ≤ b)
unfolding utf8_next
begins_low b held next none e =
    ⊎_elim (λ (small : ltb b 128 ≡ true). inl (grind (arith, nat_tests)))
    (λ (large : ltb b 128 ≡ false).
    ⊎_elim (λ (lead : is_lead b ≡ true). inr (grind (arith, nat_tests)))
    (λ (other : is_lead b ≡ false).
    let clash : None ≡ Some next = sym (ap (λ p. utf8_next p b) none ∙ rw (large, other) refl) ∙ e in absurd cc)
    (cases_Bool (is_lead b)))
    (cases_Bool (ltb b 128))

no_third : (a c b : ℕ) → (b < 128) ⊎ (192 ≤ b) → ends_forbidden a c b ≡ ends_forbidden 0 0 b
no_third a c b (inl low) = let e : (eqb b 190 || eqb b 191) ≡ false = grind (arith, nat_tests) in rw (e, and-false (eqb a 239 && eqb c 191)) refl
no_third a c b (inr high) = let e : (eqb b 190 || eqb b 191) ≡ false = grind (arith, nat_tests) in rw (e, and-false (eqb a 239 && eqb c 191)) refl

no_second : (b : ℕ) → (b < 128) ⊎ (192 ≤ b) → eqb b 191 ≡ false
no_second b (inl low) = grind (arith, nat_tests)
no_second b (inr high) = grind (arith, nat_tests)

second_quiet : (a u b x : ℕ) → eqb b 191 ≡ false → ends_forbidden a b x ≡ ends_forbidden u b x
second_quiet a u b x k = quiet a b x k ∙ sym (quiet u b x k)

second_anew : (c u b : ℕ) (xs : List ℕ) → eqb b 191 ≡ false → are_characters_after c b xs ≡ are_characters_after u b xs
second_anew c u b [] k = refl
second_anew c u b (x ∷ xs) k = ap (λ t. not t && are_characters_after b x xs) (second_quiet c u b x k)

-- a whole text may stand after anything
anew : (a c : ℕ) (bs : List ℕ) → Runs [] bs → are_characters_after a c bs ≡ are_characters_after 0 0 bs
anew a c [] h = refl
anew a c (b ∷ bs) h =
    let l = leads [] b bs h in
    let starts = begins_low b [] l.next refl l.is in
    let first = ap not (no_third a c b starts) in
    let rest = second_anew c 0 b bs (no_second b starts) in
    (λ i. first i && rest i)

-- ---- whole texts of XML's characters

pub record Whole (bs : List ℕ) : Type 0 where
  pub runs : Runs [] bs
  pub characters : are_characters_after 0 0 bs ≡ true

pub whole_of : (bs : List ℕ) → IsCharacters bs → Whole bs
unfolding are_characters
whole_of bs h = record { runs = text_runs bs h.utf8; characters = h.characters }

pub from_whole : (bs : List ℕ) → Whole bs → IsCharacters bs
unfolding are_characters
from_whole bs h = record { utf8 = runs_are_text [] bs tt h.runs; characters = h.characters }

append_characters : (a c : ℕ) (xs ys : List ℕ) → are_characters_after a c xs ≡ true → Whole ys → are_characters_after a c (xs ++ ys) ≡ true
append_characters a c [] ys h k = anew a c ys k.runs ∙ k.characters
append_characters a c (x ∷ xs) ys h k = let f = first_allowed a c x xs h in rw f.0 (append_characters c x xs ys f.1 k)

whole_append : (xs ys : List ℕ) → Whole xs → Whole ys → Whole (xs ++ ys)
whole_append xs ys h k = record { runs = runs_append xs ys [] h.runs ∙ k.runs; characters = append_characters 0 0 xs ys h.characters k }

-- where a byte of ASCII stands, no character is in hand before it or after it
record AtAscii (held bs : List ℕ) : Type 0 where
  nothing : held ≡ []
  goes : Runs [] bs

ascii_stands : (b : ℕ) (held bs : List ℕ) → b < 128 → Runs held (b ∷ bs) → AtAscii held bs
ascii_stands b held bs low h =
    let l = leads held b bs h in
    let nothing = begins_anew b held l.next (inl low) l.is in
    record { nothing = nothing; goes = sym (ascii_step b bs low) ∙ ap (λ x. utf8_run x (b ∷ bs)) (sym nothing) ∙ h }

record RunParts (held xs ys : List ℕ) : Type 0 where
  first : Runs held xs
  second : Runs [] ys

run_parts : (b : ℕ) (xs ys held : List ℕ) → b < 128 → Runs held (xs ++ (b ∷ ys)) → RunParts held xs ys
run_parts b [] ys held low h = let a = ascii_stands b held ys low h in record { first = ap Some a.nothing; second = a.goes }
run_parts b (x ∷ xs) ys held low h =
    let l = leads held x (xs ++ (b ∷ ys)) h in
    let p = run_parts b xs ys l.next low l.goes in
    record { first = ap (option_and_then (λ next. utf8_run next xs)) l.is ∙ p.first; second = p.second }

record WholeParts (xs ys : List ℕ) : Type 0 where
  first : Whole xs
  second : Whole ys

-- a byte of ASCII parts a text into two
whole_parts : (b : ℕ) (xs ys : List ℕ) → b < 128 → Whole (xs ++ (b ∷ ys)) → WholeParts xs ys
whole_parts b xs ys low h =
    let r = run_parts b xs ys [] low h.runs in
    let c = parted 0 0 xs (b ∷ ys) h.characters in
    let after = first_allowed c.before c.last b ys c.second in
    record {
      first = record { runs = r.first; characters = c.first };
      second = record { runs = r.second; characters = sym (forgotten c.last b ys (low_forgets b low)) ∙ after.1 };
    }

-- ---- line ends and spaces

lines_run : (bs : List ℕ) (returned : Bool) (held : List ℕ) → Runs held bs → Runs held (line_ends_after returned bs)
lines_run [] returned held h = h
lines_run (b ∷ bs) returned held h =
    ⊎_elim
    (λ (n13 : eqb b 13 ≡ true).
    let low : b < 128 = grind (arith, nat_tests) in
    let a = ascii_stands b held bs low h in
    rw (n13, a.nothing) (ascii_step 10 (line_ends_after true bs) (omega arith) ∙ lines_run bs true [] a.goes))
    (λ (n13 : eqb b 13 ≡ false).
    ⊎_elim
    (λ (joins : (returned && eqb b 10) ≡ true).
    let feed = (and_parts returned (eqb b 10) joins).1 in
    let low : b < 128 = grind (arith, nat_tests) in
    let a = ascii_stands b held bs low h in
    rw (n13, joins, a.nothing) (lines_run bs false [] a.goes))
    (λ (unjoined : (returned && eqb b 10) ≡ false).
    let l = leads held b bs h in
    rw (n13, unjoined) (ap (option_and_then (λ next. utf8_run next (line_ends_after false bs))) l.is ∙ lines_run bs false l.next l.goes))
    (cases_Bool (returned && eqb b 10)))
    (cases_Bool (eqb b 13))

feed_allowed : (a c : ℕ) → ends_forbidden a c 10 ≡ false
feed_allowed a c = and-false (eqb a 239 && eqb c 191)

lines_characters : (bs : List ℕ) (returned : Bool) (a c : ℕ) → (returned ≡ true → Forgets c) → are_characters_after a c bs ≡ true → are_characters_after a c (line_ends_after returned bs) ≡ true
lines_characters [] returned a c low h = refl
lines_characters (b ∷ bs) returned a c low h =
    let f = first_allowed a c b bs h in
    ⊎_elim
    (λ (n13 : eqb b 13 ≡ true).
    let is13 : b ≡ 13 = eqb-true b 13 n13 in
    let forgets = low_forgets b (omega (arith, is13)) in
    let ih = lines_characters bs true c b (λ t. forgets) f.1 in
    rw (n13, feed_allowed a c) (same_after c 10 c b (line_ends_after true bs) (low_forgets 10 (omega arith)) forgets ∙ ih))
    (λ (n13 : eqb b 13 ≡ false).
    ⊎_elim
    (λ (joins : (returned && eqb b 10) ≡ true).
    let p = and_parts returned (eqb b 10) joins in
    let is10 : b ≡ 10 = eqb-true b 10 p.1 in
    let forgets = low_forgets b (omega (arith, is10)) in
    let ih = lines_characters bs false c b (λ t. forgets) f.1 in
    rw (n13, joins) (same_after a c c b (line_ends_after false bs) (low p.0) forgets ∙ ih))
    (λ (unjoined : (returned && eqb b 10) ≡ false).
    rw (n13, unjoined, f.0) (lines_characters bs false c b (λ t. absurd cc) f.1))
    (cases_Bool (returned && eqb b 10)))
    (cases_Bool (eqb b 13))

pub whole_lines : (bs : List ℕ) → Whole bs → Whole (line_ends bs)
whole_lines bs h = record { runs = lines_run bs false [] h.runs; characters = lines_characters bs false 0 0 (λ t. absurd cc) h.characters }

space_allowed : (a c : ℕ) → ends_forbidden a c 32 ≡ false
space_allowed a c = and-false (eqb a 239 && eqb c 191)

spaces_characters : (bs : List ℕ) (a c : ℕ) → are_characters_after a c bs ≡ true → are_characters_after a c (spaces bs) ≡ true
spaces_characters [] a c h = refl
spaces_characters (b ∷ bs) a c h =
    let f = first_allowed a c b bs h in
    let ih = spaces_characters bs c b f.1 in
    ⊎_elim
    (λ (white : is_white b ≡ true).
    let low : b < 128 = grind (arith, nat_tests) in
    rw (white, space_allowed a c) (same_after c 32 c b (spaces bs) (low_forgets 32 (omega arith)) (low_forgets b low) ∙ ih))
    (λ (other : is_white b ≡ false). rw (other, f.0) ih)
    (cases_Bool (is_white b))

-- ---- a character that a reference says

legal_characters : (c : ℕ) → is_character c ≡ true → are_characters (encode c) ≡ true
legal_characters c legal =
    let text = IsUtf8-encode c (legal_scalar c legal) in
    let one : c ∷ [] ≡ chars (encode c) = chars_from_encodes (c ∷ []) (encode c) text (append-nil (encode c)) in
    characters_are_those (encode c) text ∙ ap (list_all is_character) (sym one) ∙ rw legal refl

referred_whole : (name : List ℕ) (c : ℕ) → referred name ≡ Character c → Whole (encode_utf8 c)
referred_whole name c known =
    let legal = (reference_names name c known).legal in
    whole_of (encode_utf8 c) (record { utf8 = IsUtf8-encode c (legal_scalar c legal); characters = legal_characters c legal })

-- ---- texts and values

text_whole : (bytes says : List ℕ) → SpellsText bytes says → Whole bytes → Whole says
text_whole bytes says (texts.data_alone _ _ plain is) h = subst Whole (sym is) (whole_lines bytes h)
text_whole bytes says (texts.with_reference _ _ plain name rest more c data_is known spelled are is) h =
    let p = whole_parts 38 plain (name ++ (59 ∷ rest)) (omega arith) (subst Whole are h) in
    let q = whole_parts 59 name rest (omega arith) p.second in
    subst Whole (sym is) (whole_append (line_ends plain) (encode_utf8 c ++ more) (whole_lines plain p.first)
    (whole_append (encode_utf8 c) more (referred_whole name c known) (text_whole rest more spelled q.second)))
text_whole bytes says (texts.with_section _ _ plain inside rest more data_is no_end spelled are is) h =
    let p = whole_parts 60 plain (codes "![CDATA[" ++ (inside ++ (codes "]]>" ++ rest))) (omega arith) (subst Whole are h) in
    let q = whole_parts 91 (codes "![CDATA") (inside ++ (codes "]]>" ++ rest)) (omega arith) p.second in
    let r = whole_parts 93 inside (93 ∷ 62 ∷ rest) (omega arith) q.second in
    let t = whole_parts 62 (93 ∷ []) rest (omega arith) r.second in
    subst Whole (sym is) (whole_append (line_ends plain) (line_ends inside ++ more) (whole_lines plain p.first)
    (whole_append (line_ends inside) more (whole_lines inside r.first) (text_whole rest more spelled t.second)))

pub text_says_characters : (bytes says : List ℕ) → IsText bytes says → IsCharacters says
text_says_characters bytes says h = from_whole says (text_whole bytes says h.spelled (whole_of bytes h.characters))

value_characters : (raw says : List ℕ) → SpellsValue raw says → Whole raw → are_characters_after 0 0 says ≡ true
value_characters raw says (data_alone _ _ plain is) h = subst (λ l. are_characters_after 0 0 l ≡ true) (sym is) (spaces_characters (line_ends raw) 0 0 (whole_lines raw h).characters)
value_characters raw says (with_reference _ _ plain name rest more c data_is known spelled are is) h =
    let p = whole_parts 38 plain (name ++ (59 ∷ rest)) (omega arith) (subst Whole are h) in
    let q = whole_parts 59 name rest (omega arith) p.second in
    let said : Whole more = record { runs = text_runs more (said_is_text rest more spelled (from_whole rest q.second).utf8); characters = value_characters rest more spelled q.second } in
    subst (λ l. are_characters_after 0 0 l ≡ true) (sym is)
    (append_characters 0 0 (spaces (line_ends plain)) (encode_utf8 c ++ more) (spaces_characters (line_ends plain) 0 0 (whole_lines plain p.first).characters)
    (whole_append (encode_utf8 c) more (referred_whole name c known) said))

pub value_says_characters : (raw says : List ℕ) → IsValue raw says → IsCharacters says
unfolding are_characters
value_says_characters raw says h = record { utf8 = said_is_text raw says h.spelled h.characters.utf8; characters = value_characters raw says h.spelled (whole_of raw h.characters) }

-- ---- names

abbrev uncolonned : ℕ → Bool
uncolonned b = not (eqb b 58)

plain_from : (name : List ℕ) → is_name name ≡ true → IsUtf8 name → IsPlainName name
plain_from name h text = record { characters = record { utf8 = text; characters = (and_parts (is_named name) (are_characters name) h).1 }; is_name = h }

pub local_is_plain : (name prefix local : List ℕ) → is_qualified name ≡ true → IsName name prefix local → IsPlainName local
unfolding is_qualified
local_is_plain name prefix local q (inl (is, uncolon)) =
    let p = and_parts (has_parts name) (is_utf8 name) q in
    let parts = and_parts (is_name (front uncolonned name)) (is_after_colon (following uncolonned name)) p.0 in
    let after : following uncolonned name ≡ 58 ∷ local = ap (following uncolonned) is ∙ following-append uncolonned prefix (58 ∷ local) uncolon refl in
    let runs = run_parts 58 prefix local [] (omega arith) (ap (utf8_run []) (sym is) ∙ text_runs name (IsUtf8-from_is_utf8 name p.1)) in
    plain_from local (sym (ap is_after_colon after) ∙ parts.1) (runs_are_text [] local tt runs.second)
local_is_plain name prefix local q (inr (is, none, uncolon)) =
    let p = and_parts (has_parts name) (is_utf8 name) q in
    let parts = and_parts (is_name (front uncolonned name)) (is_after_colon (following uncolonned name)) p.0 in
    let all : front uncolonned name ≡ local = ap (front uncolonned) (is ∙ sym (append-nil local)) ∙ front-append uncolonned local [] uncolon refl in
    plain_from local (sym (ap is_name all) ∙ parts.0) (subst IsUtf8 is (IsUtf8-from_is_utf8 name p.1))
