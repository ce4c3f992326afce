-- Of the bytes in front of a tag, one list alone is a text, and it says one thing.
use Rattle.std.proofs.Common.{◌≡◌, ℕ, Bool, true, false, eqb, not, ◌||◌, List, [], ◌∷◌, ◌++◌, codes, encode_utf8, refl, sym, ap, subst, ◌∙◌, arith, append_assoc}
use Rattle.std.proofs.lemmas.Bool.{and_parts, and_from, or_parts, false≢true, not_from_false}
use Rattle.std.proofs.lemmas.Bool.Decides.{nat_tests}
use Rattle.std.proofs.lemmas.List.{append_cancel_left}
use Rattle.std.specs.List.{list_all}
use Rattle.xml_tokens.proofs.Going.{references_go_on}
use Rattle.xml_tokens.proofs.Splits.{following-append, front-append, stops}
use Rattle.xml_tokens.specs.Characters.{is_digit}
use Rattle.xml_tokens.specs.Fronts.{following, front}
use Rattle.xml_tokens.specs.References.{each_goes_on, is_hex_digit, reference_goes_on, referred}
use Rattle.xml_tokens.specs.declared.references.Reference.TheVariants.{Character, Malformed}
use Rattle.law_xml.specs.Texts.{IsCharacterData, IsText, SpellsText, begins_section_end, data_alone, has_section_end, with_reference, with_section}
use Rattle.xml_tokens.specs.Lines.{line_ends}
use Rattle.xml_tokens.proofs.ValueSpellings.{goes_unended}

-- ---- what runs up to the first byte that fails a test is one list

same_front : (p : ℕ → Bool) (a b x y : List ℕ) → list_all p a ≡ true → list_all p b ≡ true → stops p x ≡ true → stops p y ≡ true → a ++ x ≡ b ++ y → (a ≡ b) × (x ≡ y)
same_front p a b x y all other s t e = (
  sym (front-append p a x all s) ∙ (ap (front p) e ∙ front-append p b y other t),
  sym (following-append p a x all s) ∙ (ap (following p) e ∙ following-append p b y other t),
)

-- ---- a CDATA section runs up to the first `]]>`

no_third : ◌≡◌ {A = ℕ} 62 93 → ⊥
no_third h = omega (arith, h)

no_early : (b : ℕ) (bs x y : List ℕ) → has_section_end (b ∷ bs) ≡ false → 93 ∷ 93 ∷ 62 ∷ x ≡ (b ∷ bs) ++ (93 ∷ 93 ∷ 62 ∷ y) → ⊥
no_early b [] x y h e = let third : ◌≡◌ {A = ℕ} 62 93 = cc in no_third third
no_early b (c ∷ []) x y h e = let third : ◌≡◌ {A = ℕ} 62 93 = cc in no_third third
no_early b (c ∷ d ∷ ds) x y h e =
    let first : 93 ≡ b = cc in
    let second : 93 ≡ c = cc in
    let third : 62 ≡ d = cc in
    let here : begins_section_end (93 ∷ 93 ∷ 62 ∷ ds) ≡ false = subst (λ d. begins_section_end (93 ∷ 93 ∷ d ∷ ds) ≡ false) (sym third)
    (subst (λ c. begins_section_end (93 ∷ c ∷ d ∷ ds) ≡ false) (sym second)
    (subst (λ b. begins_section_end (b ∷ c ∷ d ∷ ds) ≡ false) (sym first) (or_parts (begins_section_end (b ∷ c ∷ d ∷ ds)) _ h).0)) in
    false≢true (sym here)

pub one_section : (a b x y : List ℕ) → has_section_end a ≡ false → has_section_end b ≡ false → a ++ (93 ∷ 93 ∷ 62 ∷ x) ≡ b ++ (93 ∷ 93 ∷ 62 ∷ y) → (a ≡ b) × (x ≡ y)
one_section [] [] x y p q e = let rest : x ≡ y = cc in (refl, rest)
one_section [] (d ∷ ds) x y p q e = absurd (no_early d ds x y q e)
one_section (c ∷ cs) [] x y p q e = absurd (no_early c cs y x p (sym e))
one_section (c ∷ cs) (d ∷ ds) x y p q e =
    let head : c ≡ d = cc in
    let tail : cs ++ (93 ∷ 93 ∷ 62 ∷ x) ≡ ds ++ (93 ∷ 93 ∷ 62 ∷ y) = cc in
    let more = one_section cs ds x y (or_parts (begins_section_end (c ∷ cs)) (has_section_end cs) p).1 (or_parts (begins_section_end (d ∷ ds)) (has_section_end ds) q).1 tail in
    (λ i. head i ∷ more.0 i, more.1)

-- ---- a reference's name runs up to the first `;`

digit_unended : (b : ℕ) → is_digit b ≡ true → eqb b 59 ≡ false
digit_unended b h = grind (arith, nat_tests)

hex_digit_unended : (b : ℕ) → is_hex_digit b ≡ true → eqb b 59 ≡ false
hex_digit_unended b h = grind (arith, nat_tests)

each_unended : (so name : List ℕ) → each_goes_on so name ≡ true → list_all (λ b. not (eqb b 59)) name ≡ true
each_unended so [] h = refl
each_unended so (b ∷ bs) h =
    let p = and_parts (reference_goes_on so b) _ h in
    and_from _ _ (not_from_false _ (goes_unended so b p.0)) (each_unended (so ++ b ∷ []) bs p.1)

name_unended : (name : List ℕ) (c : ℕ) → referred name ≡ Character c → list_all (λ b. not (eqb b 59)) name ≡ true
name_unended name c e = each_unended [] name (references_go_on name (λ bad. let clash : Malformed ≡ Character c = sym bad ∙ e in cc))

one_character : (name other : List ℕ) (c d : ℕ) → referred name ≡ Character c → referred other ≡ Character d → name ≡ other → c ≡ d
one_character name other c d p q e = let both : Character c ≡ Character d = sym p ∙ (ap referred e ∙ q) in cc

-- ---- what stands behind the character data that a text begins with

abbrev no_mark : ℕ → Bool
no_mark b = not (eqb b 60 || eqb b 38)

reference_and : (bytes plain name rest after : List ℕ) → bytes ≡ plain ++ (38 ∷ (name ++ (59 ∷ rest))) → bytes ++ after ≡ plain ++ (38 ∷ (name ++ (59 ∷ (rest ++ after))))
reference_and bytes plain name rest after is =
    ap (λ l. l ++ after) is ∙ (append_assoc plain (38 ∷ (name ++ (59 ∷ rest))) after ∙ ap (λ l. plain ++ (38 ∷ l)) (append_assoc name (59 ∷ rest) after))

section_and : (bytes plain inside rest after : List ℕ) → bytes ≡ plain ++ (codes "<![CDATA[" ++ (inside ++ (codes "]]>" ++ rest)))
    → bytes ++ after ≡ plain ++ (60 ∷ 33 ∷ 91 ∷ 67 ∷ 68 ∷ 65 ∷ 84 ∷ 65 ∷ 91 ∷ (inside ++ (93 ∷ 93 ∷ 62 ∷ (rest ++ after))))
section_and bytes plain inside rest after is =
    ap (λ l. l ++ after) is
    ∙ (append_assoc plain (codes "<![CDATA[" ++ (inside ++ (codes "]]>" ++ rest))) after
    ∙ ap (λ l. plain ++ (codes "<![CDATA[" ++ l)) (append_assoc inside (codes "]]>" ++ rest) after))

no_reference : (x y : List ℕ) → 60 ∷ x ≡ 38 ∷ y → ⊥
no_reference x y e = let first : ◌≡◌ {A = ℕ} 60 38 = cc in omega (arith, first)

no_section : (c : ℕ) (x y : List ℕ) → (c ≡ 33 → ⊥) → 60 ∷ c ∷ x ≡ 60 ∷ 33 ∷ y → ⊥
no_section c x y other e = let second : c ≡ 33 = cc in other second

aligned : (plain other x y one two : List ℕ) → IsCharacterData plain → IsCharacterData other → stops no_mark x ≡ true → stops no_mark y ≡ true
    → one ≡ plain ++ x → two ≡ other ++ y → one ≡ two → (plain ≡ other) × (x ≡ y)
aligned plain other x y one two p q s t left right e = same_front no_mark plain other x y p.no_markup q.no_markup s t (sym left ∙ (e ∙ right))

after_begin : (x y : List ℕ) → 60 ∷ 33 ∷ 91 ∷ 67 ∷ 68 ∷ 65 ∷ 84 ∷ 65 ∷ 91 ∷ x ≡ 60 ∷ 33 ∷ 91 ∷ 67 ∷ 68 ∷ 65 ∷ 84 ∷ 65 ∷ 91 ∷ y → x ≡ y
after_begin x y e = append_cancel_left (codes "<![CDATA[") x y e

-- ---- a text

one_spelled : (a s : List ℕ) → SpellsText a s → (b r : List ℕ) (c d : ℕ) (x y : List ℕ) → SpellsText b r → (c ≡ 33 → ⊥) → (d ≡ 33 → ⊥)
    → a ++ (60 ∷ c ∷ x) ≡ b ++ (60 ∷ d ∷ y) → (a ≡ b) × (s ≡ r)
one_spelled a s (data_alone _ _ characters says) b r c d x y (data_alone _ _ characters' says') other other' e =
    let same = aligned a b (60 ∷ c ∷ x) (60 ∷ d ∷ y) _ _ characters characters' refl refl refl refl e in
    (same.0, says ∙ (ap line_ends same.0 ∙ sym says'))
one_spelled a s (data_alone _ _ characters says) b r c d x y (with_reference _ _ plain name rest more k characters' known spelled is says') other other' e =
    let same = aligned a plain (60 ∷ c ∷ x) _ _ _ characters characters' refl refl refl (reference_and b plain name rest (60 ∷ d ∷ y) is) e in
    absurd (no_reference _ _ same.1)
one_spelled a s (data_alone _ _ characters says) b r c d x y (with_section _ _ plain inside rest more characters' whole spelled is says') other other' e =
    let same = aligned a plain (60 ∷ c ∷ x) _ _ _ characters characters' refl refl refl (section_and b plain inside rest (60 ∷ d ∷ y) is) e in
    absurd (no_section c _ _ other same.1)
one_spelled a s (with_reference _ _ plain name rest more k characters known spelled is says) b r c d x y (data_alone _ _ characters' says') other other' e =
    let same = aligned plain b _ (60 ∷ d ∷ y) _ _ characters characters' refl refl (reference_and a plain name rest (60 ∷ c ∷ x) is) refl e in
    absurd (no_reference _ _ (sym same.1))
one_spelled a s (with_reference _ _ plain name rest more k characters known spelled is says) b r c d x y (with_reference _ _ plain' name' rest' more' k' characters' known' spelled' is' says') other other' e =
    let u = 60 ∷ c ∷ x in
    let v = 60 ∷ d ∷ y in
    let same = aligned plain plain' (38 ∷ (name ++ (59 ∷ (rest ++ u)))) (38 ∷ (name' ++ (59 ∷ (rest' ++ v)))) _ _ characters characters' refl refl (reference_and a plain name rest u is) (reference_and b plain' name' rest' v is') e in
    let following : 38 ∷ (name ++ (59 ∷ (rest ++ u))) ≡ 38 ∷ (name' ++ (59 ∷ (rest' ++ v))) = same.1 in
    let names : name ++ (59 ∷ (rest ++ u)) ≡ name' ++ (59 ∷ (rest' ++ v)) = cc in
    let named = same_front (λ b. not (eqb b 59)) name name' (59 ∷ (rest ++ u)) (59 ∷ (rest' ++ v)) (name_unended name k known) (name_unended name' k' known') refl refl names in
    let ended : 59 ∷ (rest ++ u) ≡ 59 ∷ (rest' ++ v) = named.1 in
    let rests : rest ++ u ≡ rest' ++ v = cc in
    let one = one_spelled rest more spelled rest' more' c d x y spelled' other other' rests in
    let character = one_character name name' k k' known known' named.0 in
    (is ∙ ((λ i. same.0 i ++ (38 ∷ (named.0 i ++ (59 ∷ one.0 i)))) ∙ sym is'), says ∙ ((λ i. line_ends (same.0 i) ++ (encode_utf8 (character i) ++ one.1 i)) ∙ sym says'))
one_spelled a s (with_reference _ _ plain name rest more k characters known spelled is says) b r c d x y (with_section _ _ plain' inside rest' more' characters' whole spelled' is' says') other other' e =
    let same = aligned plain plain' _ _ _ _ characters characters' refl refl (reference_and a plain name rest (60 ∷ c ∷ x) is) (section_and b plain' inside rest' (60 ∷ d ∷ y) is') e in
    absurd (no_reference _ _ (sym same.1))
one_spelled a s (with_section _ _ plain inside rest more characters whole spelled is says) b r c d x y (data_alone _ _ characters' says') other other' e =
    let same = aligned plain b _ (60 ∷ d ∷ y) _ _ characters characters' refl refl (section_and a plain inside rest (60 ∷ c ∷ x) is) refl e in
    absurd (no_section d _ _ other' (sym same.1))
one_spelled a s (with_section _ _ plain inside rest more characters whole spelled is says) b r c d x y (with_reference _ _ plain' name' rest' more' k' characters' known' spelled' is' says') other other' e =
    let same = aligned plain plain' _ _ _ _ characters characters' refl refl (section_and a plain inside rest (60 ∷ c ∷ x) is) (reference_and b plain' name' rest' (60 ∷ d ∷ y) is') e in
    absurd (no_reference _ _ same.1)
one_spelled a s (with_section _ _ plain inside rest more characters whole spelled is says) b r c d x y (with_section _ _ plain' inside' rest' more' characters' whole' spelled' is' says') other other' e =
    let u = 60 ∷ c ∷ x in
    let v = 60 ∷ d ∷ y in
    let same = aligned plain plain' (60 ∷ 33 ∷ 91 ∷ 67 ∷ 68 ∷ 65 ∷ 84 ∷ 65 ∷ 91 ∷ (inside ++ (93 ∷ 93 ∷ 62 ∷ (rest ++ u)))) (60 ∷ 33 ∷ 91 ∷ 67 ∷ 68 ∷ 65 ∷ 84 ∷ 65 ∷ 91 ∷ (inside' ++ (93 ∷ 93 ∷ 62 ∷ (rest' ++ v)))) _ _ characters characters' refl refl
    (section_and a plain inside rest u is) (section_and b plain' inside' rest' v is') e in
    let insides = after_begin (inside ++ (93 ∷ 93 ∷ 62 ∷ (rest ++ u))) (inside' ++ (93 ∷ 93 ∷ 62 ∷ (rest' ++ v))) same.1 in
    let section = one_section inside inside' (rest ++ u) (rest' ++ v) whole whole' insides in
    let one = one_spelled rest more spelled rest' more' c d x y spelled' other other' section.1 in
    (is ∙ ((λ i. same.0 i ++ (codes "<![CDATA[" ++ (section.0 i ++ (codes "]]>" ++ one.0 i)))) ∙ sym is'), says ∙ ((λ i. line_ends (same.0 i) ++ (line_ends (section.0 i) ++ one.1 i)) ∙ sym says'))

-- a text in front of a tag, and what is behind it
pub one_text : (a s b r : List ℕ) (c d : ℕ) (x y : List ℕ) → IsText a s → IsText b r → (c ≡ 33 → ⊥) → (d ≡ 33 → ⊥) → a ++ (60 ∷ c ∷ x) ≡ b ++ (60 ∷ d ∷ y) → (a ≡ b) × (s ≡ r)
one_text a s b r c d x y p q other other' e = one_spelled a s p.spelled b r c d x y q.spelled other other' e
