-- Reading a tag is its grammar, both ways.
use Rattle.std.proofs.Common.{◌≡◌, ◌≢◌, ℕ, zero, suc, Bool, true, false, cond, eqb, not, ◌&&◌, List, [], ◌∷◌, ◌++◌, Option, Some, None, length, refl, sym, ap, subst, ◌∙◌, arith, ⊎_elim}
use Rattle.std.proofs.lemmas.Bool.{cases_Bool, and_parts, and_from, or_left, or_right, eqb-true, eq-eqb, false≢true, not-false, not_from_true, not_from_false, cond-true, cond-false}
use Rattle.std.proofs.lemmas.Bool.Decides.{nat_tests}
use Rattle.std.proofs.lemmas.List.Folds.{list_all-append}
use Rattle.std.proofs.lemmas.Option.{cond_some, same_Some}
use Rattle.std.proofs.lemmas.Slice.Eq.{bytes_eq-Decides}
use Rattle.std.specs.List.{list_all}
use Rattle.std.specs.Option.{option_map, option_and_then}
use Rattle.std.specs.Str.{bytes_eq}
use Rattle.xml_tokens.specs.Characters.{is_white, is_name_start, is_name_byte, is_name, is_named, go_on}
use Rattle.xml_tokens.specs.Fronts.{front, following}
use Rattle.xml_tokens.specs.Tags.{Attribute, Tag, start_tag, end_tag, is_quote, is_qualified, has_parts, is_after_colon, are_white, IsSpelled, IsAttribute, AreAttributes, names_of, tag_end, IsStartTag, IsEndTag, IsTag, Spelled, Found, Inside, found, closed, quoted, assigned, named, is_empty, is_qualified_byte, spelled_at, attribute_at, end_in, with_more, unless_ended, inside_within, inside_of, are_distinct, start_with, start_at, end_at, begun_at, tag_at}
use Rattle.xml_tokens.proofs.Splits.{joined, front_passes, stops, front-append, following-append, after_stops}
use Rattle.xml_tokens.proofs.ValueSpellings.{is_value, says_value}
use Rattle.xml_tokens.proofs.TagWords.{is_spelled}
use Rattle.xml_tokens.proofs.InsideRuns.{finds, inside_step}
use Rattle.base_lemmas.proofs.Conditions.{guard_tells}
use Rattle.base_lemmas.proofs.DistinctItems.{AllPairs-from_test, test-from_AllPairs}

abbrev spelled : List ℕ → List ℕ → List ℕ → Spelled
spelled n r s = record { name = n; raw = r; rest = s }

-- ---- what is spelled so is read

start_no_white : (n : ℕ) → is_name_start n ≡ true → is_white n ≡ false
start_no_white n h = grind (arith, nat_tests)

white_no_name : (w : ℕ) → is_white w ≡ true → is_qualified_byte w ≡ false
white_no_name w h = grind (arith, nat_tests)

quote_no_white : (q : ℕ) → is_quote q ≡ true → is_white q ≡ false
quote_no_white q h = grind (arith, nat_tests)

-- a qualified name begins as a name does
pub record Begins (name : List ℕ) : Type 0 where
  pub first : ℕ
  pub others : List ℕ
  pub name_is : name ≡ first ∷ others
  pub starts : is_name_start first ≡ true

pub qualified_begins : (name : List ℕ) → is_qualified name ≡ true → Begins name
unfolding is_qualified
qualified_begins [] h = absurd (false≢true h)
qualified_begins (n ∷ ns) h =
    let parts = and_parts (has_parts (n ∷ ns)) _ h in
    let prefix = and_parts (is_name (front (λ b. not (eqb b 58)) (n ∷ ns))) _ parts.0 in
    ⊎_elim
    (λ (colon : eqb n 58 ≡ true). absurd (false≢true (subst (λ b. is_name (cond (not b) (n ∷ front (λ b. not (eqb b 58)) ns) []) ≡ true) colon prefix.0)))
    (λ (other : eqb n 58 ≡ false).
    let named_here : is_name (n ∷ front (λ b. not (eqb b 58)) ns) ≡ true = subst (λ b. is_name (cond (not b) (n ∷ front (λ b. not (eqb b 58)) ns) []) ≡ true) other prefix.0 in
    record { first = n; others = ns; name_is = refl; starts = (and_parts _ _ (and_parts _ _ named_here).0).0 })
    (cases_Bool (eqb n 58))

bytes_of_name : (bs : List ℕ) → go_on bs ≡ true → list_all is_qualified_byte bs ≡ true
bytes_of_name [] h = refl
bytes_of_name (b ∷ bs) h = let p = and_parts _ _ h in and_from _ _ (or_left (is_name_byte b) _ p.0) (bytes_of_name bs p.1)

name_all : (bs : List ℕ) → is_name bs ≡ true → list_all is_qualified_byte bs ≡ true
name_all [] h = refl
name_all (b ∷ bs) h =
    let p = and_parts _ _ (and_parts (is_named (b ∷ bs)) _ h).0 in
    and_from _ _ (or_left (is_name_byte b) _ (or_left (is_name_start b) _ p.0)) (bytes_of_name bs p.1)

colon_all : (bs : List ℕ) (name : List ℕ) → bs ≡ following (λ b. not (eqb b 58)) name → is_after_colon bs ≡ true → list_all is_qualified_byte bs ≡ true
colon_all [] name is h = refl
colon_all (c ∷ bs) name is h =
    let colon = not-false _ (after_stops (λ b. not (eqb b 58)) name c bs (sym is)) in
    and_from _ _ (or_right (is_name_byte c) _ colon) (name_all bs h)

pub qualified_all : (name : List ℕ) → is_qualified name ≡ true → list_all is_qualified_byte name ≡ true
unfolding is_qualified
qualified_all name h =
    let parts = and_parts (is_name (front (λ b. not (eqb b 58)) name)) _ (and_parts (has_parts name) _ h).0 in
    subst (λ l. list_all is_qualified_byte l ≡ true) (joined (λ b. not (eqb b 58)) name)
    (list_all-append is_qualified_byte (front (λ b. not (eqb b 58)) name) (following (λ b. not (eqb b 58)) name)
    ∙ and_from _ _ (name_all (front (λ b. not (eqb b 58)) name) parts.0) (colon_all (following (λ b. not (eqb b 58)) name) name refl parts.1))

pub name_stops : (name rest : List ℕ) → is_qualified name ≡ true → stops is_white (name ++ rest) ≡ true
name_stops name rest h =
    let b = qualified_begins name h in
    subst (λ l. stops is_white (l ++ rest) ≡ true) (sym b.name_is) (not_from_false _ (start_no_white b.first b.starts))

white_stops : (space : List ℕ) (c : ℕ) (rest : List ℕ) → are_white space ≡ true → is_qualified_byte c ≡ false → stops is_qualified_byte (space ++ c ∷ rest) ≡ true
white_stops [] c rest h other = not_from_false _ other
white_stops (w ∷ ws) c rest h other = let p = and_parts (is_white w) (are_white ws) h in not_from_false _ (white_no_name w p.0)

some_not_empty : (space : List ℕ) → space ≢ [] → is_empty space ≡ false
some_not_empty [] h = absurd (h refl)
some_not_empty (b ∷ bs) h = refl

pub spelled_again : (bytes name raw rest : List ℕ) → IsSpelled bytes name raw rest → spelled_at bytes ≡ Some (spelled name raw rest)
unfolding spelled_at
spelled_again bytes name raw rest h =
    let q = h.quote in
    let value = raw ++ (q ∷ rest) in
    let opened = q ∷ value in
    let equals = 61 ∷ (h.after ++ opened) in
    let gap = h.before ++ equals in
    let inner = name ++ gap in
    let whole = h.space ++ inner in
    let s1 = name_stops name gap h.name_is in
    let f1 : front is_white whole ≡ h.space = front-append is_white h.space inner h.space_white s1 in
    let b1 : following is_white whole ≡ inner = following-append is_white h.space inner h.space_white s1 in
    let all = qualified_all name h.name_is in
    let s2 = white_stops h.before 61 (h.after ++ opened) h.before_white refl in
    let f2 : front is_qualified_byte inner ≡ name = front-append is_qualified_byte name gap all s2 in
    let b2 : following is_qualified_byte inner ≡ gap = following-append is_qualified_byte name gap all s2 in
    let b3 : following is_white gap ≡ equals = following-append is_white h.before equals h.before_white refl in
    let b4 : following is_white (h.after ++ opened) ≡ opened = following-append is_white h.after opened h.after_white (not_from_false _ (quote_no_white q h.quote_is)) in
    let same : eqb q q ≡ true = eq-eqb q q refl in
    let s5 : stops (λ b. not (eqb b q)) (q ∷ rest) ≡ true = not_from_false _ (not_from_true _ same) in
    let f5 : front (λ b. not (eqb b q)) value ≡ raw = front-append (λ b. not (eqb b q)) raw (q ∷ rest) h.raw_inside s5 in
    let b5 : following (λ b. not (eqb b q)) value ≡ q ∷ rest = following-append (λ b. not (eqb b q)) raw (q ∷ rest) h.raw_inside s5 in
    let close : closed name (front (λ b. not (eqb b q)) value) (following (λ b. not (eqb b q)) value) ≡ Some (spelled name raw rest) =
    ap (λ l. closed name l (following (λ b. not (eqb b q)) value)) f5 ∙ ap (closed name raw) b5 in
    let quote_step : quoted name opened ≡ Some (spelled name raw rest) = cond-true (is_quote q) (closed name (front (λ b. not (eqb b q)) value) (following (λ b. not (eqb b q)) value)) None h.quote_is ∙ close in
    let assign_step : assigned name equals ≡ Some (spelled name raw rest) = ap (quoted name) b4 ∙ quote_step in
    let name_step : named name gap ≡ Some (spelled name raw rest) = cond-true (is_qualified name) (assigned name (following is_white gap)) None h.name_is ∙ ap (assigned name) b3 ∙ assign_step in
    let inner_step : named (front is_qualified_byte inner) (following is_qualified_byte inner) ≡ Some (spelled name raw rest) =
    ap (λ l. named l (following is_qualified_byte inner)) f2 ∙ ap (named name) b2 ∙ name_step in
    let at : List ℕ → List ℕ → Option Spelled = λ space inner. cond (is_empty space) None (named (front is_qualified_byte inner) (following is_qualified_byte inner)) in
    let whole_step : at (front is_white whole) (following is_white whole) ≡ Some (spelled name raw rest) =
    ap (λ l. at l (following is_white whole)) f1 ∙ ap (at h.space) b1
    ∙ ap (λ b. cond b None (named (front is_qualified_byte inner) (following is_qualified_byte inner))) (some_not_empty h.space h.some_space) ∙ inner_step in
    ap (λ l. at (front is_white l) (following is_white l)) h.bytes_are ∙ whole_step

attribute_again : (bytes : List ℕ) (a : Attribute) (rest : List ℕ) → IsAttribute bytes a rest → attribute_at bytes ≡ Some (record { attribute = a; rest = rest })
attribute_again bytes a rest h =
    ap (option_and_then found) (spelled_again bytes a.name h.0 rest h.1)
    ∙ ap (option_map (λ v. record { attribute = record { name = a.name; value = v }; rest = rest })) (says_value h.0 a.value h.2)

end_again : (empty : Bool) → end_in (tag_end empty) ≡ Some empty
end_again true = refl
end_again false = refl

end_stops : (empty : Bool) → stops is_white (tag_end empty) ≡ true
end_stops true = refl
end_stops false = refl

start_ends_none : (n : ℕ) (ns : List ℕ) → is_name_start n ≡ true → end_in (n ∷ ns) ≡ None
start_ends_none n ns h =
    let no_end : eqb n 62 ≡ false = grind (arith, nat_tests) in
    let no_slash : eqb n 47 ≡ false = grind (arith, nat_tests) in
    rw (no_end, no_slash) refl

attribute_no_end : (bytes : List ℕ) (a : Attribute) (rest : List ℕ) → IsAttribute bytes a rest → end_in (following is_white bytes) ≡ None
attribute_no_end bytes a rest h =
    let i = h.1 in
    let gap = i.before ++ (61 ∷ (i.after ++ (i.quote ∷ (h.0 ++ (i.quote ∷ rest))))) in
    let b = qualified_begins a.name i.name_is in
    ap (λ l. end_in (following is_white l)) i.bytes_are
    ∙ ap end_in (following-append is_white i.space (a.name ++ gap) i.space_white (name_stops a.name gap i.name_is))
    ∙ ap (λ l. end_in (l ++ gap)) b.name_is ∙ start_ends_none b.first (b.others ++ gap) b.starts

pub inside_again : (attributes : List Attribute) (bytes space : List ℕ) (empty : Bool) → are_white space ≡ true → AreAttributes bytes attributes (space ++ tag_end empty) → inside_of bytes ≡ Some (record { attributes = attributes; empty = empty })
inside_again [] bytes space empty white h =
    inside_step bytes
    ∙ ap (λ e. unless_ended e (option_and_then (λ f. with_more (f.attribute ∷ []) (inside_of f.rest)) (attribute_at bytes)))
    (ap (λ l. end_in (following is_white l)) h ∙ ap end_in (following-append is_white space (tag_end empty) white (end_stops empty)) ∙ end_again empty)
inside_again (a ∷ more) bytes space empty white h =
    inside_step bytes
    ∙ ap (λ e. unless_ended e (option_and_then (λ f. with_more (f.attribute ∷ []) (inside_of f.rest)) (attribute_at bytes))) (attribute_no_end bytes a h.0 h.1)
    ∙ ap (option_and_then (λ f. with_more (f.attribute ∷ []) (inside_of f.rest))) (attribute_again bytes a h.0 h.1)
    ∙ ap (with_more (a ∷ [])) (inside_again more h.0 space empty white h.2)

inside_stops : (attributes : List Attribute) (inside space : List ℕ) (empty : Bool) → are_white space ≡ true → AreAttributes inside attributes (space ++ tag_end empty) → stops is_qualified_byte inside ≡ true
inside_stops [] inside space true white h = subst (λ l. stops is_qualified_byte l ≡ true) (sym h) (white_stops space 47 (62 ∷ []) white refl)
inside_stops [] inside space false white h = subst (λ l. stops is_qualified_byte l ≡ true) (sym h) (white_stops space 62 [] white refl)
inside_stops (a ∷ more) inside space empty white h =
    let i = h.1.1 in
    subst (λ l. stops is_qualified_byte l ≡ true) (sym i.bytes_are) (space_stops i.space (a.name ++ (i.before ++ (61 ∷ (i.after ++ (i.quote ∷ (h.1.0 ++ (i.quote ∷ h.0))))))) i.some_space i.space_white)
  where
    space_stops : (ws rest : List ℕ) → ws ≢ [] → are_white ws ≡ true → stops is_qualified_byte (ws ++ rest) ≡ true
    space_stops [] rest some white = absurd (some refl)
    space_stops (w ∷ ws) rest some white = let p = and_parts (is_white w) (are_white ws) white in not_from_false _ (white_no_name w p.0)

pub start_no_slash : (n : ℕ) → is_name_start n ≡ true → eqb n 47 ≡ false
start_no_slash n h = grind (arith, nat_tests)

-- behind `<` a name says a start tag
begun_by_name : (name rest : List ℕ) → is_qualified name ≡ true → begun_at (name ++ rest) ≡ start_at (name ++ rest)
begun_by_name name rest h =
    let b = qualified_begins name h in
    subst (λ l. begun_at (l ++ rest) ≡ start_at (l ++ rest)) (sym b.name_is) (rw (start_no_slash b.first b.starts) refl)

start_again : (bytes name : List ℕ) (attributes : List Attribute) (empty : Bool) → IsStartTag bytes name attributes empty → tag_at bytes ≡ Some (start_tag name attributes empty)
unfolding start_at
start_again bytes name attributes empty h =
    let s = inside_stops attributes h.inside h.space empty h.space_white h.inside_is in
    let all = qualified_all name h.name_is in
    let f : front is_qualified_byte (name ++ h.inside) ≡ name = front-append is_qualified_byte name h.inside all s in
    let b : following is_qualified_byte (name ++ h.inside) ≡ h.inside = following-append is_qualified_byte name h.inside all s in
    let i = inside_again attributes h.inside h.space empty h.space_white h.inside_is in
    let at : List ℕ → List ℕ → Option Tag = λ n rest. cond (is_qualified n) (option_and_then (start_with n) (inside_of rest)) None in
    let made : at name h.inside ≡ Some (start_tag name attributes empty) =
    cond-true (is_qualified name) (option_and_then (start_with name) (inside_of h.inside)) None h.name_is
    ∙ ap (option_and_then (start_with name)) i
    ∙ cond-true (are_distinct (names_of attributes)) (Some (start_tag name attributes empty)) None (test-from_AllPairs bytes_eq bytes_eq-Decides (names_of attributes) h.distinct) in
    ap tag_at h.bytes_are ∙ begun_by_name name h.inside h.name_is
    ∙ ap (λ n. at n (following is_qualified_byte (name ++ h.inside))) f ∙ ap (at name) b ∙ made

end_tag_again : (bytes name : List ℕ) → IsEndTag bytes name → tag_at bytes ≡ Some (end_tag name)
unfolding end_at
end_tag_again bytes name h =
    let ending = h.space ++ (62 ∷ []) in
    let s = white_stops h.space 62 [] h.space_white refl in
    let all = qualified_all name h.name_is in
    let f : front is_qualified_byte (name ++ ending) ≡ name = front-append is_qualified_byte name ending all s in
    let b : following is_qualified_byte (name ++ ending) ≡ ending = following-append is_qualified_byte name ending all s in
    let w : following is_white ending ≡ 62 ∷ [] = following-append is_white h.space (62 ∷ []) h.space_white refl in
    let at : List ℕ → List ℕ → Option Tag = λ n rest. cond (is_qualified n && bytes_eq (following is_white rest) (62 ∷ [])) (Some (end_tag n)) None in
    ap tag_at h.bytes_are ∙ ap (λ n. at n (following is_qualified_byte (name ++ ending))) f ∙ ap (at name) b
    ∙ ap (λ l. cond (is_qualified name && bytes_eq l (62 ∷ [])) (Some (end_tag name)) None) w
    ∙ cond-true (is_qualified name && true) (Some (end_tag name)) None (and_from _ _ h.name_is refl)

pub tag_again : (bytes : List ℕ) (t : Tag) → IsTag bytes t → tag_at bytes ≡ Some t
tag_again bytes (start_tag name attributes empty) h = start_again bytes name attributes empty h
tag_again bytes (end_tag name) h = end_tag_again bytes name h

-- ---- what is read is spelled so

end_tells : (bs : List ℕ) (empty : Bool) → end_in bs ≡ Some empty → bs ≡ tag_end empty
end_tells bs empty e =
    ⊎_elim
    (λ (closes : bytes_eq bs (62 ∷ []) ≡ true).
    let same : Some false ≡ Some empty = sym (cond-true (bytes_eq bs (62 ∷ [])) (Some false) (cond (bytes_eq bs (47 ∷ 62 ∷ [])) (Some true) None) closes) ∙ e in
    (bytes_eq-Decides bs (62 ∷ [])).0 closes ∙ ap tag_end (same_Some _ _ same))
    (λ (other : bytes_eq bs (62 ∷ []) ≡ false).
    let rest : cond (bytes_eq bs (47 ∷ 62 ∷ [])) (Some true) None ≡ Some empty = sym (cond-false (bytes_eq bs (62 ∷ [])) (Some false) (cond (bytes_eq bs (47 ∷ 62 ∷ [])) (Some true) None) other) ∙ e in
    let p = cond_some (bytes_eq bs (47 ∷ 62 ∷ [])) true empty rest in
    (bytes_eq-Decides bs (47 ∷ 62 ∷ [])).0 p.0 ∙ ap tag_end p.1)
    (cases_Bool (bytes_eq bs (62 ∷ [])))

record Insides (bs : List ℕ) (i : Inside) : Type 0 where
  space : List ℕ
  attributes_are : AreAttributes bs i.attributes (space ++ tag_end i.empty)
  space_white : are_white space ≡ true

found_attribute : (bs : List ℕ) (f : Found) → attribute_at bs ≡ Some f → IsAttribute bs f.attribute f.rest
found_attribute bs f e =
    let h = finds bs f e in
    let s = is_spelled bs h.as_spelled h.spelled_is in
    (h.as_spelled.raw, subst (λ n. IsSpelled bs n h.as_spelled.raw f.rest) (sym h.name_is) (subst (λ r. IsSpelled bs h.as_spelled.name h.as_spelled.raw r) (sym h.rest_is) s), is_value h.as_spelled.raw f.attribute.value h.value_is)

ended_tells : (bs : List ℕ) (empty : Bool) (i : Inside) → end_in (following is_white bs) ≡ Some empty → Some (record { attributes = []; empty = empty }) ≡ Some i → Insides bs i
ended_tells bs empty i ends e =
    let inner : Inside = record { attributes = []; empty = empty } in
    let same : inner ≡ i = cc in
    subst (Insides bs) same (record {
      space = front is_white bs;
      attributes_are = sym (joined is_white bs) ∙ ap (λ l. front is_white bs ++ l) (end_tells (following is_white bs) empty ends);
      space_white = front_passes is_white bs;
    })

more_tells : (a : Attribute) (o : Option Inside) (i : Inside) → with_more (a ∷ []) o ≡ Some i → (j : Inside) × (o ≡ Some j) × (i ≡ record { attributes = a ∷ j.attributes; empty = j.empty })
more_tells a None i e = absurd cc
more_tells a (Some j) i e = let grown : Inside = record { attributes = a ∷ j.attributes; empty = j.empty } in let same : grown ≡ i = cc in (j, refl, sym same)

module _ (k : ℕ) (ih : (bs : List ℕ) (i : Inside) → inside_within k bs ≡ Some i → Insides bs i) (bs : List ℕ) (i : Inside) where
  by_found : (o : Option Found) → attribute_at bs ≡ o → option_and_then (λ f. with_more (f.attribute ∷ []) (inside_within k f.rest)) o ≡ Some i → Insides bs i
  by_found None o_is e = absurd cc
  by_found (Some f) o_is e =
      let m = more_tells f.attribute (inside_within k f.rest) i e in
      let rest = ih f.rest m.0 m.1 in
      subst (Insides bs) (sym m.2) (record { space = rest.space; attributes_are = (f.rest, found_attribute bs f o_is, rest.attributes_are); space_white = rest.space_white })

  by_end : (end : Option Bool) → end_in (following is_white bs) ≡ end → unless_ended end (option_and_then (λ f. with_more (f.attribute ∷ []) (inside_within k f.rest)) (attribute_at bs)) ≡ Some i → Insides bs i
  by_end None end_is e = by_found (attribute_at bs) refl e
  by_end (Some empty) end_is e = ended_tells bs empty i end_is e

inside_tells : (k : ℕ) (bs : List ℕ) (i : Inside) → inside_within k bs ≡ Some i → Insides bs i
inside_tells zero bs i e = absurd cc
inside_tells (suc k) bs i e = by_end k (inside_tells k) bs i (end_in (following is_white bs)) refl e

started : (bs name inside : List ℕ) (o : Option Inside) (t : Tag) → bs ≡ name ++ inside → is_qualified name ≡ true → inside_of inside ≡ o → option_and_then (start_with name) o ≡ Some t → IsTag (60 ∷ bs) t
unfolding inside_of
started bs name inside None t bs_are named_so is e = absurd cc
started bs name inside (Some i) t bs_are named_so is e =
    let g = guard_tells (are_distinct (names_of i.attributes)) (Some (start_tag name i.attributes i.empty)) t e in
    let inner = inside_tells (suc (length inside)) inside i is in
    subst (IsTag (60 ∷ bs)) (same_Some (start_tag name i.attributes i.empty) t g.1) (record {
      inside = inside;
      space = inner.space;
      bytes_are = ap (λ l. 60 ∷ l) bs_are;
      name_is = named_so;
      inside_is = inner.attributes_are;
      space_white = inner.space_white;
      distinct = AllPairs-from_test bytes_eq bytes_eq-Decides (names_of i.attributes) g.0;
    })

start_tells : (bs : List ℕ) (t : Tag) → start_at bs ≡ Some t → IsTag (60 ∷ bs) t
unfolding start_at
start_tells bs t e =
    let g = guard_tells (is_qualified (front is_qualified_byte bs)) _ t e in
    started bs (front is_qualified_byte bs) (following is_qualified_byte bs) (inside_of (following is_qualified_byte bs)) t (sym (joined is_qualified_byte bs)) g.0 refl g.1

end_tag_tells : (bs : List ℕ) (t : Tag) → end_at bs ≡ Some t → IsTag (60 ∷ 47 ∷ bs) t
unfolding end_at
end_tag_tells bs t e =
    let name = front is_qualified_byte bs in
    let rest = following is_qualified_byte bs in
    let g = guard_tells (is_qualified name && bytes_eq (following is_white rest) (62 ∷ [])) (Some (end_tag name)) t e in
    let p = and_parts (is_qualified name) _ g.0 in
    let closes = (bytes_eq-Decides (following is_white rest) (62 ∷ [])).0 p.1 in
    subst (IsTag (60 ∷ 47 ∷ bs)) (same_Some (end_tag name) t g.1) (record {
      space = front is_white rest;
      bytes_are = ap (λ l. 60 ∷ 47 ∷ l) (sym (joined is_qualified_byte bs) ∙ ap (λ l. name ++ l) (sym (joined is_white rest) ∙ ap (λ l. front is_white rest ++ l) closes));
      name_is = p.0;
      space_white = front_passes is_white rest;
    })

begun_tells : (bs : List ℕ) (t : Tag) → begun_at bs ≡ Some t → IsTag (60 ∷ bs) t
begun_tells [] t e = absurd cc
begun_tells (b ∷ bs) t e =
    ⊎_elim
    (λ (slash : eqb b 47 ≡ true).
    let inner : end_at bs ≡ Some t = sym (cond-true (eqb b 47) (end_at bs) (start_at (b ∷ bs)) slash) ∙ e in
    subst (λ x. IsTag (60 ∷ x ∷ bs) t) (sym (eqb-true b 47 slash)) (end_tag_tells bs t inner))
    (λ (other : eqb b 47 ≡ false). start_tells (b ∷ bs) t (sym (cond-false (eqb b 47) (end_at bs) (start_at (b ∷ bs)) other) ∙ e))
    (cases_Bool (eqb b 47))

pub tag_tells : (bytes : List ℕ) (t : Tag) → tag_at bytes ≡ Some t → IsTag bytes t
tag_tells [] t e = absurd cc
tag_tells (b ∷ bs) t e =
    let g = guard_tells (eqb b 60) (begun_at bs) t e in
    subst (λ x. IsTag (x ∷ bs) t) (sym (eqb-true b 60 g.0)) (begun_tells bs t g.1)
