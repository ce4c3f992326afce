-- Names of ASCII characters without a colon.
use Rattle.std.proofs.Common.{◌≡◌, ℕ, zero, suc, ◌+◌, ◌-◌, ◌<◌, ◌++◌, cond, Some, None, true, false, eqb, not, ◌&&◌, nat_lt, List, [], ◌∷◌, take, drop, length, length-drop, refl, sym, ap, ◌∙◌, arith, ⊎_elim}
use Rattle.std.proofs.lemmas.Bool.{cases_Bool, and_parts, and_from, cond-true}
use Rattle.std.proofs.lemmas.Bool.Decides.{nat_tests}
use Rattle.std.proofs.lemmas.Str.{is_utf8-from_IsUtf8}
use Rattle.std.proofs.Math.Seq.{take-length}
use Rattle.std.specs.Char.{is_ascii_lowercase}
use Rattle.std.specs.List.{list_all, prefix_len}
use Rattle.std.specs.Str.{IsAscii}
use Rattle.xml_tokens.proofs.Splits as splits
use Rattle.xml_tokens.proofs.Texts.{ascii_is_text}
use Rattle.xml_tokens.specs.Characters.{is_name_byte, is_ascii_name_byte, begins_as_name, is_name, go_on, ends_forbidden, are_characters, are_characters_after}
use Rattle.xml_tokens.specs.Fronts.{front, following}
use Rattle.xml_tokens.specs.Tags.{has_parts, is_after_colon, is_empty, is_qualified, is_qualified_byte}

no_colon : (b : ℕ) → is_ascii_name_byte b ≡ true → not (eqb b 58) ≡ true
no_colon b h = grind (arith, nat_tests)

quiet : (x y b : ℕ) → is_ascii_name_byte b ≡ true → ends_forbidden x y b ≡ false
quiet x y b h = grind (arith, nat_tests)

small : (b : ℕ) → is_ascii_name_byte b ≡ true → b < 128
small b h = grind (arith, nat_tests)

qualified_byte : (b : ℕ) → is_ascii_name_byte b ≡ true → is_qualified_byte b ≡ true
qualified_byte b h = rw (and_parts (is_name_byte b) _ h).0 refl

goes_on : (bs : List ℕ) → list_all is_ascii_name_byte bs ≡ true → go_on bs ≡ true
goes_on [] h = refl
goes_on (b ∷ bs) h =
    let p = and_parts (is_ascii_name_byte b) _ h in and_from _ _ (and_parts (is_name_byte b) _ p.0).0 (goes_on bs p.1)

characters : (x y : ℕ) (bs : List ℕ) → list_all is_ascii_name_byte bs ≡ true → are_characters_after x y bs ≡ true
characters x y [] h = refl
characters x y (b ∷ bs) h = let p = and_parts (is_ascii_name_byte b) _ h in rw (quiet x y b p.0) (characters y b bs p.1)

all_in_front : (bs : List ℕ) → list_all is_ascii_name_byte bs ≡ true → front (λ b. not (eqb b 58)) bs ≡ bs
all_in_front [] h = refl
all_in_front (b ∷ bs) h = let p = and_parts (is_ascii_name_byte b) _ h in rw (no_colon b p.0) (ap (λ l. b ∷ l) (all_in_front bs p.1))

none_behind : (bs : List ℕ) → list_all is_ascii_name_byte bs ≡ true → following (λ b. not (eqb b 58)) bs ≡ []
none_behind [] h = refl
none_behind (b ∷ bs) h = let p = and_parts (is_ascii_name_byte b) _ h in rw (no_colon b p.0) (none_behind bs p.1)

is_a_name : (bs : List ℕ) → begins_as_name bs ≡ true → list_all is_ascii_name_byte bs ≡ true → is_name bs ≡ true
unfolding are_characters
is_a_name [] begins h = absurd cc
is_a_name (b ∷ bs) begins h =
    let p = and_parts (is_ascii_name_byte b) _ h in
    and_from _ _ (and_from _ _ begins (goes_on bs p.1)) (characters 0 0 (b ∷ bs) h)

has_one_part : (bs : List ℕ) → begins_as_name bs ≡ true → list_all is_ascii_name_byte bs ≡ true → has_parts bs ≡ true
has_one_part bs begins h =
    and_from _ _ (ap is_name (all_in_front bs h) ∙ is_a_name bs begins h) (ap is_after_colon (none_behind bs h))

ascii : (bs : List ℕ) → list_all is_ascii_name_byte bs ≡ true → IsAscii bs
ascii [] h i = omega arith
ascii (b ∷ bs) h zero = small b (and_parts (is_ascii_name_byte b) _ h).0
ascii (b ∷ bs) h (suc i) = ascii bs (and_parts (is_ascii_name_byte b) _ h).1 i

one_qualified : (name : List ℕ) → begins_as_name name ≡ true → list_all is_ascii_name_byte name ≡ true → is_qualified name ≡ true
unfolding is_qualified
one_qualified name begins h = and_from _ _ (has_one_part name begins h) (is_utf8-from_IsUtf8 name (ascii_is_text name (ascii name h)))

all_qualified : (bs : List ℕ) → list_all is_ascii_name_byte bs ≡ true → list_all is_qualified_byte bs ≡ true
all_qualified [] h = refl
all_qualified (b ∷ bs) h =
    let p = and_parts (is_ascii_name_byte b) _ h in and_from _ _ (qualified_byte b p.0) (all_qualified bs p.1)

-- small letters at the front, and what goes on behind them
small_letter : (b : ℕ) → is_ascii_lowercase b ≡ true → is_ascii_name_byte b ≡ true
small_letter b h = grind (arith, nat_tests)

pub letters_first : (bs : List ℕ) (n m : ℕ) → n ≡ prefix_len is_ascii_lowercase bs → m ≡ prefix_len is_ascii_name_byte (take (length bs - n) (drop n bs)) → n + m ≡ prefix_len is_ascii_name_byte bs
letters_first bs n m is more =
    let left : take (length bs - n) (drop n bs) ≡ drop n bs = ap (λ k. take k (drop n bs)) (sym (length-drop n bs)) ∙ take-length (drop n bs) in
    ap (λ k. n + k) (more ∙ ap (prefix_len is_ascii_name_byte) left)
    ∙ (ap (λ k. k + prefix_len is_ascii_name_byte (drop k bs)) is ∙ splits.prefix_in_two is_ascii_lowercase is_ascii_name_byte small_letter bs)

-- ---- at the front

-- what is behind them doesn't begin with another
pub stops_after : (bs rest : List ℕ) → rest ≡ following is_ascii_name_byte bs → is_empty (front is_ascii_name_byte rest) ≡ true
stops_after bs rest is = ap (λ l. is_empty (front is_ascii_name_byte l)) is ∙ none bs
  where
    none : (bs : List ℕ) → is_empty (front is_ascii_name_byte (following is_ascii_name_byte bs)) ≡ true
    none [] = refl
    none (b ∷ bs) =
        ⊎_elim
        (λ (t : is_ascii_name_byte b ≡ true). rw t (none bs))
        (λ (f : is_ascii_name_byte b ≡ false). rw (f, f) refl)
        (cases_Bool (is_ascii_name_byte b))

other : (b : ℕ) → is_ascii_name_byte b ≡ false → (nat_lt b 128 && not (eqb b 58)) ≡ not (is_qualified_byte b)
other b h = grind (arith, nat_tests)

-- what doesn't begin with one goes on a name only with a colon or past ASCII
pub goes_on_no_name : (b : ℕ) (bs : List ℕ) → is_empty (front is_ascii_name_byte (b ∷ bs)) ≡ true
    → (nat_lt b 128 && not (eqb b 58)) ≡ is_empty (front is_qualified_byte (b ∷ bs))
goes_on_no_name b bs h =
    ⊎_elim
    (λ (t : is_ascii_name_byte b ≡ true). absurd (contrary b bs t h))
    (λ (f : is_ascii_name_byte b ≡ false). other b f ∙ splits.none_in_front is_qualified_byte b bs)
    (cases_Bool (is_ascii_name_byte b))
  where
    contrary : (b : ℕ) (bs : List ℕ) → is_ascii_name_byte b ≡ true → is_empty (front is_ascii_name_byte (b ∷ bs)) ≡ true → ⊥
    contrary b bs t h = let e : not (is_ascii_name_byte b) ≡ true = splits.none_in_front is_ascii_name_byte b bs ∙ h in cc

pub front_ascii : (bytes name : List ℕ) → name ≡ front is_ascii_name_byte bytes → IsAscii name
front_ascii bytes name is = ascii name (ap (list_all is_ascii_name_byte) is ∙ splits.front_passes is_ascii_name_byte bytes)

-- bytes of ASCII that no more bytes of a name follow
record Alone (bytes name rest : List ℕ) : Type 0 where
  pub front_is : front is_qualified_byte bytes ≡ name
  pub after_is : following is_qualified_byte bytes ≡ rest

alone : (bytes name rest : List ℕ) → name ≡ front is_ascii_name_byte bytes → rest ≡ following is_ascii_name_byte bytes → is_empty (front is_qualified_byte rest) ≡ true → Alone bytes name rest
alone bytes name rest is rest_is none =
    let all = all_qualified name (ap (list_all is_ascii_name_byte) is ∙ splits.front_passes is_ascii_name_byte bytes) in
    let stop = splits.stops_where_none is_qualified_byte rest none in
    let whole : bytes ≡ name ++ rest = sym (splits.joined is_ascii_name_byte bytes) ∙ (ap (λ l. l ++ following is_ascii_name_byte bytes) (sym is) ∙ ap (λ l. name ++ l) (sym rest_is)) in
    record {
      front_is = ap (front is_qualified_byte) whole ∙ splits.front-append is_qualified_byte name rest all stop;
      after_is = ap (following is_qualified_byte) whole ∙ splits.following-append is_qualified_byte name rest all stop;
    }

pub front_named : (bytes name rest : List ℕ) → name ≡ front is_ascii_name_byte bytes → rest ≡ following is_ascii_name_byte bytes → begins_as_name name ≡ true → is_empty (front is_qualified_byte rest) ≡ true
    → Some name ≡ cond (is_qualified (front is_qualified_byte bytes)) (Some (front is_qualified_byte bytes)) None
front_named bytes name rest is rest_is begins none =
    let a = alone bytes name rest is rest_is none in
    let q = one_qualified name begins (ap (list_all is_ascii_name_byte) is ∙ splits.front_passes is_ascii_name_byte bytes) in
    sym (ap (λ l. cond (is_qualified l) (Some l) None) a.front_is ∙ cond-true (is_qualified name) (Some name) None q)

pub front_alone : (bytes name rest : List ℕ) → name ≡ front is_ascii_name_byte bytes → rest ≡ following is_ascii_name_byte bytes → is_empty (front is_qualified_byte rest) ≡ true → rest ≡ following is_qualified_byte bytes
front_alone bytes name rest is rest_is none = sym (alone bytes name rest is rest_is none).after_is
