-- Names as they are written, with a prefix or without one.
use Rattle.std.proofs.Common.{◌≡◌, ◌≢◌, ℕ, ◌+◌, ◌<◌, true, false, eqb, not, ◌&&◌, List, [], ◌∷◌, ◌++◌, get_or, map, codes, refl, sym, ap, ◌∙◌, arith, ⊎_elim, append-nil}
use Rattle.std.proofs.lemmas.Bool.{cases_Bool, and_parts, and_from, or_left, eqb-true, not_from_false, and_right}
use Rattle.std.proofs.lemmas.Bool.Decides.{nat_tests}
use Rattle.std.proofs.lemmas.Int.Digits.{all_below_base_digits_of, first_digits_of, same_from_digits_of}
use Rattle.std.proofs.lemmas.List.Elements.{All-from_recursion}
use Rattle.std.proofs.lemmas.Str.{IsUtf8-append, IsUtf8-from_ascii, IsUtf8-from_is_utf8, is_utf8-from_IsUtf8}
use Rattle.std.proofs.lemmas.Str.Ascii.{IsAscii-from_all}
use Rattle.std.specs.Int.Digits.{digits_of, AllBelowBase}
use Rattle.std.specs.List.{AllByRecursion}
use Rattle.std.specs.Str.{is_utf8, chars}
use lib.Utf8.{encode}
use Rattle.xml_tokens.proofs.Splits.{front-append, following-append}
use Rattle.xml_tokens.specs.Characters.{is_name, is_named, is_name_byte, is_name_start, go_on, is_control, ends_forbidden, are_characters, are_characters_after}
use Rattle.xml_tokens.specs.Fronts.{front, following}
use Rattle.xml_tokens.specs.Tags.{is_qualified, is_after_colon}
use Rattle.xml_names.proofs.NameLaws.{parts_of}
use Rattle.xml_names.specs.Names.{IsName, no_colon, prefix_of, local_of}
use Rattle.xml_writer.specs.Canon.{number_text}
use Rattle.law_xml.specs.Plain.{IsPlainName}
use Rattle.base_lemmas.proofs.Utf8.{IsUtf8-one}

-- ---- names without a colon

byte_no_colon : (b : ℕ) → is_name_byte b ≡ true → not (eqb b 58) ≡ true
byte_no_colon b h = grind (arith, nat_tests)

go_no_colon : (bs : List ℕ) → go_on bs ≡ true → no_colon bs ≡ true
go_no_colon [] h = refl
go_no_colon (b ∷ bs) h = let p = and_parts (is_name_byte b) (go_on bs) h in and_from _ _ (byte_no_colon b p.0) (go_no_colon bs p.1)

pub name_no_colon : (bs : List ℕ) → is_name bs ≡ true → no_colon bs ≡ true
name_no_colon [] h = refl
name_no_colon (b ∷ bs) h =
    let p = and_parts (is_name_start b) (go_on bs) (and_parts (is_named (b ∷ bs)) (are_characters (b ∷ bs)) h).0 in
    and_from _ _ (byte_no_colon b (or_left (is_name_start b) _ p.0)) (go_no_colon bs p.1)

pub name_qualified : (name : List ℕ) → IsPlainName name → is_qualified name ≡ true
unfolding is_qualified
name_qualified name h =
    let plain = name_no_colon name h.is_name in
    let f : front (λ b. not (eqb b 58)) name ≡ name = ap (front (λ b. not (eqb b 58))) (sym (append-nil name)) ∙ front-append (λ b. not (eqb b 58)) name [] plain refl in
    let b : following (λ b. not (eqb b 58)) name ≡ [] = ap (following (λ b. not (eqb b 58))) (sym (append-nil name)) ∙ following-append (λ b. not (eqb b 58)) name [] plain refl in
    and_from _ _ (and_from _ _ (ap is_name f ∙ h.is_name) (ap is_after_colon b)) (is_utf8-from_IsUtf8 name h.characters.utf8)

pub prefixed_qualified : (prefix name : List ℕ) → IsPlainName prefix → IsPlainName name → is_qualified (prefix ++ (58 ∷ name)) ≡ true
unfolding is_qualified
prefixed_qualified prefix name p h =
    let plain = name_no_colon prefix p.is_name in
    let f : front (λ b. not (eqb b 58)) (prefix ++ (58 ∷ name)) ≡ prefix = front-append (λ b. not (eqb b 58)) prefix (58 ∷ name) plain refl in
    let b : following (λ b. not (eqb b 58)) (prefix ++ (58 ∷ name)) ≡ 58 ∷ name = following-append (λ b. not (eqb b 58)) prefix (58 ∷ name) plain refl in
    let text = IsUtf8-append prefix (58 ∷ name) p.characters.utf8 (IsUtf8-append (58 ∷ []) name (IsUtf8-one 58 (omega arith)) h.characters.utf8) in
    and_from _ _ (and_from _ _ (ap is_name f ∙ p.is_name) (ap is_after_colon b ∙ h.is_name)) (is_utf8-from_IsUtf8 (prefix ++ (58 ∷ name)) text)

-- ---- numbered prefixes

abbrev pub numbered_prefix : ℕ → List ℕ
numbered_prefix n = 97 ∷ number_text n

abbrev figures : List ℕ → List ℕ
figures ds = map (λ d. 48 + d) ds

figures_go_on : (ds : List ℕ) → AllBelowBase 10 ds → go_on (figures ds) ≡ true
figures_go_on [] h = refl
figures_go_on (d ∷ ds) h = let here : is_name_byte (48 + d) ≡ true = grind (arith, nat_tests, h.0) in and_from _ _ here (figures_go_on ds h.1)

figures_ascii : (ds : List ℕ) → AllBelowBase 10 ds → AllByRecursion (λ b. b < 128) (figures ds)
figures_ascii [] h = tt
figures_ascii (d ∷ ds) h = (omega (arith, h.0), figures_ascii ds h.1)

figure_allowed : (a b d : ℕ) → d < 10 → not (ends_forbidden a b (48 + d)) ≡ true
figure_allowed a b d h =
    let calm : is_control (48 + d) ≡ false = grind (arith, nat_tests, h) in
    let n190 : eqb (48 + d) 190 ≡ false = grind (arith, nat_tests, h) in
    let n191 : eqb (48 + d) 191 ≡ false = grind (arith, nat_tests, h) in
    rw (calm, n190, n191) (not_from_false _ (and_right (eqb a 239 && eqb b 191) false refl))

figures_characters : (a b : ℕ) (ds : List ℕ) → AllBelowBase 10 ds → are_characters_after a b (figures ds) ≡ true
figures_characters a b [] h = refl
figures_characters a b (d ∷ ds) h = and_from _ _ (figure_allowed a b d h.0) (figures_characters b (48 + d) ds h.1)

figures_plain : (ds : List ℕ) → AllBelowBase 10 ds → IsPlainName (97 ∷ figures ds)
unfolding are_characters
figures_plain ds h =
    let text = IsUtf8-from_ascii (97 ∷ figures ds) (IsAscii-from_all (97 ∷ figures ds) (All-from_recursion (λ x. x < 128) (97 ∷ figures ds) (omega arith, figures_ascii ds h))) in
    let all : are_characters_after 0 0 (97 ∷ figures ds) ≡ true = figures_characters 0 97 ds h in
    record { characters = record { utf8 = text; characters = all }; is_name = and_from _ _ (figures_go_on ds h) all }

pub numbered_plain : (n : ℕ) → IsPlainName (numbered_prefix n)
unfolding number_text
numbered_plain n =
    ⊎_elim (λ (zero_is : eqb n 0 ≡ true). rw zero_is (figures_plain (0 ∷ []) (omega arith, tt)))
    (λ (other : eqb n 0 ≡ false). rw other (figures_plain (digits_of 10 n) (all_below_base_digits_of 10 n (omega arith))))
    (cases_Bool (eqb n 0))

figures_same : (xs ys : List ℕ) → figures xs ≡ figures ys → xs ≡ ys
figures_same [] [] e = refl
figures_same [] (y ∷ ys) e = absurd cc
figures_same (x ∷ xs) [] e = absurd cc
figures_same (x ∷ xs) (y ∷ ys) e =
    let first : 48 + x ≡ 48 + y = cc in
    let rest : figures xs ≡ figures ys = cc in
    let same : x ≡ y = omega (arith, first) in
    rw same (ap (λ l. y ∷ l) (figures_same xs ys rest))

no_lone_zero : (ds : List ℕ) → 0 < get_or ds 0 0 → figures ds ≡ 48 ∷ [] → ⊥
no_lone_zero [] h e = absurd cc
no_lone_zero (d ∷ ds) h e = let first : 48 + d ≡ 48 = cc in omega (arith, first, h)

pub number_same : (m n : ℕ) → number_text m ≡ number_text n → m ≡ n
unfolding number_text
number_same m n e =
    ⊎_elim
    (λ (m0 : eqb m 0 ≡ true).
    ⊎_elim (λ (n0 : eqb n 0 ≡ true). eqb-true m 0 m0 ∙ sym (eqb-true n 0 n0))
    (λ (nn : eqb n 0 ≡ false).
    let is : figures (digits_of 10 n) ≡ 48 ∷ [] = sym (rw (m0, nn) at e) in
    absurd (no_lone_zero (digits_of 10 n) (first_digits_of 10 n (omega arith) (grind (arith, nat_tests, nn))) is))
    (cases_Bool (eqb n 0)))
    (λ (mm : eqb m 0 ≡ false).
    ⊎_elim
    (λ (n0 : eqb n 0 ≡ true).
    let is : figures (digits_of 10 m) ≡ 48 ∷ [] = rw (mm, n0) at e in
    absurd (no_lone_zero (digits_of 10 m) (first_digits_of 10 m (omega arith) (grind (arith, nat_tests, mm))) is))
    (λ (nn : eqb n 0 ≡ false).
    let is : figures (digits_of 10 m) ≡ figures (digits_of 10 n) = rw (mm, nn) at e in
    same_from_digits_of 10 m n (omega arith) (figures_same (digits_of 10 m) (digits_of 10 n) is))
    (cases_Bool (eqb n 0)))
    (cases_Bool (eqb m 0))

tail_same : (x : ℕ) (xs ys : List ℕ) → x ∷ xs ≡ x ∷ ys → xs ≡ ys
tail_same x xs ys e = cc

pub numbered_differ : (m n : ℕ) → m ≢ n → numbered_prefix m ≢ numbered_prefix n
numbered_differ m n other e = other (number_same m n (tail_same 97 (number_text m) (number_text n) e))

-- ---- names that differ

pub apart_by_prefix : (x y p q l m : List ℕ) → IsName x p l → IsName y q m → p ≢ q → x ≢ y
apart_by_prefix x y p q l m hx hy other e = other (sym (parts_of x p l hx).0 ∙ ap prefix_of e ∙ (parts_of y q m hy).0)

pub apart_by_local : (x y p q l m : List ℕ) → IsName x p l → IsName y q m → l ≢ m → x ≢ y
apart_by_local x y p q l m hx hy other e = other (sym (parts_of x p l hx).1 ∙ ap local_of e ∙ (parts_of y q m hy).1)

-- ---- the prefixes with a meaning

pub xml_plain : IsPlainName (codes "xml")
unfolding are_characters is_utf8 chars encode
xml_plain = record { characters = record { utf8 = IsUtf8-from_is_utf8 (codes "xml") refl; characters = refl }; is_name = refl }

pub xmlns_plain : IsPlainName (codes "xmlns")
unfolding are_characters is_utf8 chars encode
xmlns_plain = record { characters = record { utf8 = IsUtf8-from_is_utf8 (codes "xmlns") refl; characters = refl }; is_name = refl }

pub stream_plain : IsPlainName (codes "stream")
unfolding are_characters is_utf8 chars encode
stream_plain = record { characters = record { utf8 = IsUtf8-from_is_utf8 (codes "stream") refl; characters = refl }; is_name = refl }
