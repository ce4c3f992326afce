-- A tag ends at its first `>` outside quotes, so of the bytes of a tag no others that begin alike are a tag's.
use Rattle.std.proofs.Common.{◌≡◌, ℕ, Bool, true, false, cond, eqb, not, ◌&&◌, ◌||◌, List, [], ◌∷◌, ◌++◌, Option, Some, None, refl, sym, ap, subst, ◌∙◌, arith, ⊎_elim}
use Rattle.std.proofs.lemmas.Bool.{cases_Bool, and_parts, and_from, or_parts, eq-eqb, false≢true, not-true, cond-true, cond-false}
use Rattle.std.proofs.lemmas.Bool.Decides.{nat_tests}
use Rattle.std.specs.List.{list_all}
use Rattle.xml_tokens.proofs.TagLaws.{qualified_all, qualified_begins}
use Rattle.xml_tokens.specs.Characters.{is_name_start, is_white}
use Rattle.xml_tokens.specs.Tags.{Attribute, AreAttributes, IsEndTag, IsSpelled, IsStartTag, IsTag, Tag, are_white, end_tag, is_empty, is_open, is_qualified_byte, is_quote, quote_behind, start_tag, tag_end}
use Rattle.xml_tokens.proofs.TagWords.{none-from_is_empty as nothing_in}

-- behind a quote, if one is open, the first `>` outside quotes is the last byte
abbrev ends_last : Option ℕ → List ℕ → Bool
ends_last quote [] = false
ends_last quote (b ∷ bs) = cond (not (is_open quote) && eqb b 62) (is_empty bs) (ends_last (quote_behind quote b) bs)

-- ---- two lists that end so

one_end : (quote : Option ℕ) (a b x y : List ℕ) → ends_last quote a ≡ true → ends_last quote b ≡ true → a ++ x ≡ b ++ y → a ≡ b
one_end quote [] b x y p q e = absurd (false≢true p)
one_end quote (c ∷ cs) [] x y p q e = absurd (false≢true q)
one_end quote (c ∷ cs) (d ∷ ds) x y p q e =
    let head : c ≡ d = cc in
    let tail : cs ++ x ≡ ds ++ y = cc in
    let other : ends_last quote (c ∷ ds) ≡ true = subst (λ z. ends_last quote (z ∷ ds) ≡ true) (sym head) q in
    let test = not (is_open quote) && eqb c 62 in
    let inner = quote_behind quote c in
    ⊎_elim
    (λ (t : test ≡ true).
    let left : cs ≡ [] = nothing_in cs (sym (cond-true test (is_empty cs) (ends_last inner cs) t) ∙ p) in
    let right : ds ≡ [] = nothing_in ds (sym (cond-true test (is_empty ds) (ends_last inner ds) t) ∙ other) in
    λ i. head i ∷ (left ∙ sym right) i)
    (λ (f : test ≡ false).
    let more = one_end inner cs ds x y (sym (cond-false test (is_empty cs) (ends_last inner cs) f) ∙ p) (sym (cond-false test (is_empty ds) (ends_last inner ds) f) ∙ other) tail in
    λ i. head i ∷ more i)
    (cases_Bool test)

-- ---- a tag ends so

abbrev goes_by : ℕ → Bool
goes_by b = not (is_quote b || eqb b 62)

unquoted_run : (xs ys : List ℕ) → list_all goes_by xs ≡ true → ends_last None (xs ++ ys) ≡ ends_last None ys
unquoted_run [] ys h = refl
unquoted_run (x ∷ xs) ys h =
    let p = and_parts (goes_by x) (list_all goes_by xs) h in
    let q = or_parts (is_quote x) (eqb x 62) (not-true _ p.0) in
    rw (q.1, q.0) (unquoted_run xs ys p.1)

quoted_run : (q : ℕ) (raw rest : List ℕ) → list_all (λ b. not (eqb b q)) raw ≡ true → ends_last (Some q) (raw ++ q ∷ rest) ≡ ends_last None rest
quoted_run q [] rest inside = let same : eqb q q ≡ true = eq-eqb q q refl in rw same refl
quoted_run q (b ∷ bs) rest inside = let p = and_parts (not (eqb b q)) _ inside in rw (not-true _ p.0) (quoted_run q bs rest p.1)

pub quote_no_end : (q : ℕ) → is_quote q ≡ true → eqb q 62 ≡ false
quote_no_end q h = grind (arith, nat_tests)

opening_run : (q : ℕ) (rest : List ℕ) → is_quote q ≡ true → ends_last None (q ∷ rest) ≡ ends_last (Some q) rest
opening_run q rest h = rw (quote_no_end q h, h) refl

white_goes_by : (xs : List ℕ) → are_white xs ≡ true → list_all goes_by xs ≡ true
white_goes_by [] h = refl
white_goes_by (x ∷ xs) h = let p = and_parts (is_white x) (are_white xs) h in and_from _ _ (apart x p.0) (white_goes_by xs p.1)
  where
    apart : (x : ℕ) → is_white x ≡ true → goes_by x ≡ true
    apart x h = grind (arith, nat_tests)

name_goes_by : (xs : List ℕ) → list_all is_qualified_byte xs ≡ true → list_all goes_by xs ≡ true
name_goes_by [] h = refl
name_goes_by (x ∷ xs) h = let p = and_parts (is_qualified_byte x) _ h in and_from _ _ (apart x p.0) (name_goes_by xs p.1)
  where
    apart : (x : ℕ) → is_qualified_byte x ≡ true → goes_by x ≡ true
    apart x h = grind (arith, nat_tests)

attribute_run : (bytes name raw rest : List ℕ) → IsSpelled bytes name raw rest → ends_last None bytes ≡ ends_last None rest
attribute_run bytes name raw rest h =
    let opened = h.quote ∷ (raw ++ (h.quote ∷ rest)) in
    let gap = h.before ++ (61 ∷ (h.after ++ opened)) in
    ap (ends_last None) h.bytes_are
    ∙ unquoted_run h.space (name ++ gap) (white_goes_by h.space h.space_white)
    ∙ unquoted_run name gap (name_goes_by name (qualified_all name h.name_is))
    ∙ unquoted_run h.before (61 ∷ (h.after ++ opened)) (white_goes_by h.before h.before_white)
    ∙ unquoted_run h.after opened (white_goes_by h.after h.after_white)
    ∙ opening_run h.quote (raw ++ (h.quote ∷ rest)) h.quote_is
    ∙ quoted_run h.quote raw rest h.raw_inside

attributes_run : (attributes : List Attribute) (bytes rest : List ℕ) → AreAttributes bytes attributes rest → ends_last None bytes ≡ ends_last None rest
attributes_run [] bytes rest h = ap (ends_last None) h
attributes_run (a ∷ more) bytes rest h = attribute_run bytes a.name h.1.0 h.0 h.1.1 ∙ attributes_run more h.0 rest h.2

end_ends : (empty : Bool) → ends_last None (tag_end empty) ≡ true
end_ends true = refl
end_ends false = refl

tag_ends : (bytes : List ℕ) (t : Tag) → IsTag bytes t → ends_last None bytes ≡ true
tag_ends bytes (start_tag name attributes empty) h =
    ap (ends_last None) h.bytes_are
    ∙ unquoted_run name h.inside (name_goes_by name (qualified_all name h.name_is))
    ∙ attributes_run attributes h.inside (h.space ++ tag_end empty) h.inside_is
    ∙ unquoted_run h.space (tag_end empty) (white_goes_by h.space h.space_white) ∙ end_ends empty
tag_ends bytes (end_tag name) h =
    ap (ends_last None) h.bytes_are
    ∙ unquoted_run name (h.space ++ (62 ∷ [])) (name_goes_by name (qualified_all name h.name_is))
    ∙ unquoted_run h.space (62 ∷ []) (white_goes_by h.space h.space_white)

-- two tags that begin one list are one list
pub one_tag : (a b x y : List ℕ) (t u : Tag) → IsTag a t → IsTag b u → a ++ x ≡ b ++ y → a ≡ b
one_tag a b x y t u p q e = one_end None a b x y (tag_ends a t p) (tag_ends b u q) e

-- ---- their second bytes

-- bytes begin as a start tag does: with `<` and what a name may begin with
pub record BeginsStart (bytes : List ℕ) : Type 0 where
  pub second : ℕ
  pub rest : List ℕ
  pub bytes_are : bytes ≡ 60 ∷ second ∷ rest
  pub starts : is_name_start second ≡ true

pub start_begins : (bytes name : List ℕ) (attributes : List Attribute) (empty : Bool) → IsStartTag bytes name attributes empty → BeginsStart bytes
start_begins bytes name attributes empty h =
    let b = qualified_begins name h.name_is in
    record { second = b.first; rest = b.others ++ h.inside; bytes_are = h.bytes_are ∙ ap (λ l. 60 ∷ (l ++ h.inside)) b.name_is; starts = b.starts }

-- bytes begin as an end tag does
pub record BeginsEnd (bytes : List ℕ) : Type 0 where
  pub rest : List ℕ
  pub bytes_are : bytes ≡ 60 ∷ 47 ∷ rest

pub end_begins : (bytes name : List ℕ) → IsEndTag bytes name → BeginsEnd bytes
end_begins bytes name h = record { rest = name ++ (h.space ++ (62 ∷ [])); bytes_are = h.bytes_are }

pub start_no_slash : (b : ℕ) → is_name_start b ≡ true → b ≡ 47 → ⊥
start_no_slash b h e = false≢true (subst (λ c. is_name_start c ≡ true) e h)

pub start_no_exclamation : (b : ℕ) → is_name_start b ≡ true → b ≡ 33 → ⊥
start_no_exclamation b h e = false≢true (subst (λ c. is_name_start c ≡ true) e h)
