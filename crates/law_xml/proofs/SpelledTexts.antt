-- A text is spelled by what is written for it.
use Rattle.std.proofs.Common.{◌≡◌, ℕ, ◌<◌, ◌≤◌, Bool, true, false, eqb, ltb, not, ◌&&◌, ◌||◌, List, [], ◌∷◌, ◌++◌, Option, Some, None, codes, refl, sym, ap, subst, ◌∙◌, arith, ⊎_elim, append_assoc, append-nil}
use Rattle.std.proofs.lemmas.Bool.{cases_Bool, and_parts, and_from, eqb-true, cond-true, cond-false, false_from_ne_true, lt-ltb}
use Rattle.std.proofs.lemmas.Bool.Decides.{nat_tests}
use Rattle.std.proofs.lemmas.List.Folds.{list_all-append}
use Rattle.std.specs.List.{list_all}
use Rattle.std.specs.Option.{option_and_then}
use Rattle.std.specs.Prelude.{encode_utf8}
use Rattle.std.proofs.lemmas.Str.{IsUtf8-nil}
use lib.Utf8.{encode}
use Rattle.xml_tokens.proofs.SpellingRuns.{text_plain_is}
use Rattle.xml_tokens.proofs.RoundTrips.{text_characters}
use Rattle.xml_tokens.proofs.Utf8Runs as runs
use Rattle.xml_tokens.specs.Characters.{are_characters}
use Rattle.xml_tokens.specs.References.{referred}
use Rattle.xml_tokens.specs.Spelling.{text_byte, is_text_plain, spelled_text}
use Rattle.xml_tokens.specs.Utf8.{is_second, is_tail, utf8_next, utf8_run}
use Rattle.xml_tokens.specs.declared.references.Reference.TheVariants.{Character}
use Rattle.law_xml.specs.Texts.{IsCharacterData, IsText, SpellsText, data_alone, with_reference, begins_section_end, has_section_end}
use Rattle.xml_tokens.specs.Lines.{IsCharacters, line_ends, line_ends_after}

-- ---- a run of plain bytes

plain_no_mark : (b : ℕ) → is_text_plain b ≡ true → not (eqb b 60 || eqb b 38) ≡ true
plain_no_mark b h = grind (arith, nat_tests)

plain_no_return : (b : ℕ) → is_text_plain b ≡ true → eqb b 13 ≡ false
plain_no_return b h = grind (arith, nat_tests)

plain_no_greater : (b : ℕ) → is_text_plain b ≡ true → eqb b 62 ≡ false
plain_no_greater b h = grind (arith, nat_tests)

no_marks : (bs : List ℕ) → list_all is_text_plain bs ≡ true → list_all (λ b. not (eqb b 60 || eqb b 38)) bs ≡ true
no_marks [] h = refl
no_marks (b ∷ bs) h = let p = and_parts (is_text_plain b) (list_all is_text_plain bs) h in and_from _ _ (plain_no_mark b p.0) (no_marks bs p.1)

never : (x y : Bool) → (x && (y && false)) ≡ false
never true true = refl
never true false = refl
never false y = refl

no_end_here : (bs : List ℕ) → list_all is_text_plain bs ≡ true → begins_section_end bs ≡ false
no_end_here [] h = refl
no_end_here (a ∷ []) h = refl
no_end_here (a ∷ b ∷ []) h = refl
no_end_here (a ∷ b ∷ c ∷ bs) h =
    let p = and_parts (is_text_plain a) _ h in
    let q = and_parts (is_text_plain b) _ p.1 in
    let r = and_parts (is_text_plain c) _ q.1 in
    rw (plain_no_greater c r.0) (never (eqb a 93) (eqb b 93))

no_end : (bs : List ℕ) → list_all is_text_plain bs ≡ true → has_section_end bs ≡ false
no_end [] h = refl
no_end (b ∷ bs) h = rw (no_end_here (b ∷ bs) h) (no_end bs (and_parts (is_text_plain b) (list_all is_text_plain bs) h).1)

same_ends : (bs : List ℕ) → list_all is_text_plain bs ≡ true → line_ends_after false bs ≡ bs
same_ends [] h = refl
same_ends (b ∷ bs) h = let p = and_parts (is_text_plain b) (list_all is_text_plain bs) h in rw (plain_no_return b p.0) (ap (λ l. b ∷ l) (same_ends bs p.1))

plain_data : (bs : List ℕ) → list_all is_text_plain bs ≡ true → IsCharacterData bs
plain_data bs h = record { no_markup = no_marks bs h; no_section_end = no_end bs h }

-- ---- an escape

record Escape (b : ℕ) : Type 0 where
  name : List ℕ
  is : text_byte b ≡ 38 ∷ (name ++ (59 ∷ []))
  says : referred name ≡ Character b
  one : encode_utf8 b ≡ b ∷ []
  low : b < 128
  runs : (rest : List ℕ) → utf8_run [] (text_byte b ++ rest) ≡ utf8_run [] rest

ampersand : Escape 38
unfolding text_byte referred encode utf8_next
ampersand = record { name = codes "amp"; is = refl; says = refl; one = refl; low = omega arith; runs = λ rest. refl }

less : Escape 60
unfolding text_byte referred encode utf8_next
less = record { name = codes "lt"; is = refl; says = refl; one = refl; low = omega arith; runs = λ rest. refl }

greater : Escape 62
unfolding text_byte referred encode utf8_next
greater = record { name = codes "gt"; is = refl; says = refl; one = refl; low = omega arith; runs = λ rest. refl }

return_byte : Escape 13
unfolding text_byte referred encode utf8_next
return_byte = record { name = codes "#xD"; is = refl; says = refl; one = refl; low = omega arith; runs = λ rest. refl }

at_byte : (b n : ℕ) → eqb b n ≡ true → Escape n → Escape b
at_byte b n e h = subst Escape (sym (eqb-true b n e)) h

escape : (b : ℕ) → is_text_plain b ≡ false → Escape b
escape b h =
    ⊎_elim (λ e. at_byte b 38 e ampersand)
    (λ (n38 : eqb b 38 ≡ false). ⊎_elim (λ e. at_byte b 60 e less)
    (λ (n60 : eqb b 60 ≡ false). ⊎_elim (λ e. at_byte b 62 e greater)
    (λ (n62 : eqb b 62 ≡ false). ⊎_elim (λ e. at_byte b 13 e return_byte)
    (λ (n13 : eqb b 13 ≡ false). absurd (grind (arith, nat_tests, n38, n60, n62, n13, h)))
    (cases_Bool (eqb b 13))) (cases_Bool (eqb b 62))) (cases_Bool (eqb b 60))) (cases_Bool (eqb b 38))

-- ---- a text

-- plain bytes that were seen, and a text behind them
seen_and : (plain t : List ℕ) → list_all is_text_plain plain ≡ true → SpellsText (plain ++ spelled_text t) (plain ++ t)
seen_and plain [] h =
    data_alone (plain ++ []) (plain ++ []) (subst IsCharacterData (sym (append-nil plain)) (plain_data plain h)) (sym (same_ends (plain ++ []) (subst (λ l. list_all is_text_plain l ≡ true) (sym (append-nil plain)) h)))
seen_and plain (b ∷ t) h =
    ⊎_elim
    (λ (p : is_text_plain b ≡ true).
    let more : list_all is_text_plain (plain ++ b ∷ []) ≡ true = list_all-append is_text_plain plain (b ∷ []) ∙ and_from _ _ h (and_from _ _ p refl) in
    let bytes : (plain ++ b ∷ []) ++ spelled_text t ≡ plain ++ spelled_text (b ∷ t) = append_assoc plain (b ∷ []) (spelled_text t) ∙ ap (λ l. plain ++ (l ++ spelled_text t)) (sym (text_plain_is b p)) in
    subst (λ l. SpellsText l (plain ++ (b ∷ t))) bytes (subst (SpellsText ((plain ++ b ∷ []) ++ spelled_text t)) (append_assoc plain (b ∷ []) t) (seen_and (plain ++ b ∷ []) t more)))
    (λ (p : is_text_plain b ≡ false).
    let e = escape b p in
    let bytes : plain ++ spelled_text (b ∷ t) ≡ plain ++ (38 ∷ (e.name ++ (59 ∷ spelled_text t))) =
    ap (λ l. plain ++ (l ++ spelled_text t)) e.is ∙ ap (λ l. plain ++ (38 ∷ l)) (append_assoc e.name (59 ∷ []) (spelled_text t)) in
    let says : plain ++ (b ∷ t) ≡ line_ends plain ++ (encode_utf8 b ++ t) = ap (λ l. l ++ (b ∷ t)) (sym (same_ends plain h)) ∙ ap (λ l. line_ends plain ++ (l ++ t)) (sym e.one) in
    with_reference (plain ++ spelled_text (b ∷ t)) (plain ++ (b ∷ t)) plain e.name (spelled_text t) t b (plain_data plain h) e.says (seen_and [] t refl) bytes says)
    (cases_Bool (is_text_plain b))

-- ---- its characters

second_high : (x b : ℕ) → is_second x b ≡ true → 128 ≤ b
second_high x b h = grind (arith, nat_tests)

tail_high : (b : ℕ) → is_tail b ≡ true → 128 ≤ b
tail_high b h = grind (arith, nat_tests)

no_second : (x b : ℕ) → b < 128 → is_second x b ≡ false
no_second x b low = false_from_ne_true (is_second x b) (λ h. let high = second_high x b h in omega (arith, low, high))

no_tail : (b : ℕ) → b < 128 → is_tail b ≡ false
no_tail b low = false_from_ne_true (is_tail b) (λ h. let high = tail_high b h in omega (arith, low, high))

pub none_some : (x : List ℕ) → None ≡ Some x → ⊥
none_some x e = cc

pub one_some : (x y : List ℕ) → Some x ≡ Some y → x ≡ y
one_some x y e = cc

-- a byte of ASCII ends no character that began before
pub alone : (b : ℕ) → b < 128 → (held next : List ℕ) → utf8_next held b ≡ Some next → (held ≡ []) × (next ≡ [])
unfolding utf8_next
alone b low [] next h = (refl, sym (one_some [] next (sym (cond-true (ltb b 128) (Some []) _ (lt-ltb b 128 low)) ∙ h)))
alone b low (x ∷ []) next h = absurd (none_some next (sym (cond-false (is_second x b) _ None (no_second x b low)) ∙ h))
alone b low (x ∷ y ∷ []) next h = absurd (none_some next (sym (cond-false (is_tail b) _ None (no_tail b low)) ∙ h))
alone b low (x ∷ y ∷ z ∷ more) next h = absurd (none_some next (sym (cond-false (is_tail b) _ None (no_tail b low)) ∙ h))

pub record Leads (o : Option (List ℕ)) (f : List ℕ → Option (List ℕ)) : Type 0 where
  pub next : List ℕ
  pub is : o ≡ Some next
  pub goes : f next ≡ Some []

pub leads : (o : Option (List ℕ)) (f : List ℕ → Option (List ℕ)) → option_and_then f o ≡ Some [] → Leads o f
leads None f h = absurd (none_some [] h)
leads (Some x) f h = record { next = x; is = refl; goes = h }

text_runs : (t held : List ℕ) → utf8_run held t ≡ Some [] → utf8_run held (spelled_text t) ≡ Some []
text_runs [] held h = h
text_runs (b ∷ t) held h =
    let l = leads (utf8_next held b) (λ next. utf8_run next t) h in
    ⊎_elim
    (λ (p : is_text_plain b ≡ true).
    ap (λ l. utf8_run held (l ++ spelled_text t)) (text_plain_is b p) ∙ ap (option_and_then (λ next. utf8_run next (spelled_text t))) l.is ∙ text_runs t l.next l.goes)
    (λ (p : is_text_plain b ≡ false).
    let e = escape b p in
    let a = alone b e.low held l.next l.is in
    ap (λ s. utf8_run s (text_byte b ++ spelled_text t)) a.0 ∙ e.runs (spelled_text t) ∙ text_runs t [] (ap (λ s. utf8_run s t) (sym a.1) ∙ l.goes))
    (cases_Bool (is_text_plain b))

pub text_spelled : (t : List ℕ) → IsCharacters t → IsText (spelled_text t) t
text_spelled t h =
    record {
      characters = record { utf8 = runs.runs_are_text [] (spelled_text t) tt (text_runs t [] (runs.text_runs t h.utf8)); characters = text_characters t h.characters };
      spelled = seen_and [] t refl;
    }

pub no_text : IsText [] []
unfolding are_characters
no_text = record { characters = record { utf8 = IsUtf8-nil; characters = refl }; spelled = data_alone [] [] (plain_data [] refl) refl }
