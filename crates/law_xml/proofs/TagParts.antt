-- What the bytes of a tag do to its quotes and to the character in hand.
use Rattle.std.proofs.Common.{◌≡◌, ℕ, Bool, true, false, eqb, ltb, not, ◌&&◌, List, [], ◌∷◌, ◌++◌, Option, Some, None, refl, sym, ap, subst, ◌∙◌, arith, append_assoc}
use Rattle.std.proofs.lemmas.Bool.{and_parts, and_from, and_left, and_right, eq-eqb, not-true, not_from_false, cond-true, cond-false}
use Rattle.std.proofs.lemmas.Bool.Decides.{nat_tests}
use Rattle.std.proofs.lemmas.Str.{IsUtf8-from_is_utf8}
use Rattle.std.specs.List.{list_all}
use Rattle.std.specs.Option.{is_some}
use Rattle.std.specs.Str.{IsUtf8, is_utf8}
use Rattle.xml_tokens.proofs.TagLaws.{qualified_all, qualified_begins}
use Rattle.xml_tokens.proofs.Utf8Runs as runs
use Rattle.xml_tokens.specs.Characters.{is_white, is_name_start}
use Rattle.xml_tokens.specs.Tags.{Attribute, AreAttributes, IsEndTag, IsSpelled, IsStartTag, are_white, has_parts, is_qualified, is_qualified_byte, is_quote, quote_behind, tag_end}
use Rattle.xml_tokens.specs.Utf8.{utf8_run}
use Rattle.xml_tokens.specs.Values.{value_of}
use Rattle.xml_tokens.proofs.ValueSpellings.{says_value}
use Rattle.xml_framer.proofs.PlainTags.{quote_append}
use Rattle.xml_tokens.proofs.ValueTexts.{ascii_runs, ascii_step, runs_append, value_runs}
use Rattle.xml_framer.specs.ManyBytes.{quote_after}
use Rattle.law_xml.proofs.TagEnds.{quote_no_end}

-- a byte ends a tag
abbrev pub ends_tag : Option ℕ → ℕ → Bool
ends_tag quote b = eqb b 62 && not (is_some quote)

-- none of these bytes ends a tag
abbrev pub none_ends : Option ℕ → List ℕ → Bool
none_ends quote [] = true
none_ends quote (b ∷ bs) = not (ends_tag quote b) && none_ends (quote_behind quote b) bs

-- Bytes outside quotes that end no tag, and leave neither a quote open nor a character in hand.
pub record IsPart (bytes : List ℕ) : Type 0 where
  pub goes_on : none_ends None bytes ≡ true
  pub unquoted : quote_after None bytes ≡ None
  pub runs : utf8_run [] bytes ≡ Some []

ends_append : (quote : Option ℕ) (a b : List ℕ) → none_ends quote a ≡ true → none_ends (quote_after quote a) b ≡ true → none_ends quote (a ++ b) ≡ true
ends_append quote [] b h k = k
ends_append quote (x ∷ xs) b h k =
    let p = and_parts (not (ends_tag quote x)) (none_ends (quote_behind quote x) xs) h in and_from _ _ p.0 (ends_append (quote_behind quote x) xs b p.1 k)

pub part_append : (a b : List ℕ) → IsPart a → IsPart b → IsPart (a ++ b)
part_append a b h k = record {
  goes_on = ends_append None a b h.goes_on (ap (λ q. none_ends q b) h.unquoted ∙ k.goes_on);
  unquoted = quote_append None a b ∙ ap (λ q. quote_after q b) h.unquoted ∙ k.unquoted;
  runs = runs_append a b [] h.runs ∙ k.runs;
}

-- ---- white space, names and signs

-- a byte that neither ends a tag nor begins a quote
abbrev pub is_inner : ℕ → Bool
is_inner b = not (eqb b 62) && not (is_quote b)

inner_ends : (bs : List ℕ) → list_all is_inner bs ≡ true → (none_ends None bs ≡ true) × (quote_after None bs ≡ None)
inner_ends [] h = (refl, refl)
inner_ends (b ∷ bs) h =
    let p = and_parts (is_inner b) (list_all is_inner bs) h in
    let q = and_parts (not (eqb b 62)) (not (is_quote b)) p.0 in
    let rest = inner_ends bs p.1 in
    let same : quote_behind None b ≡ None = cond-false (is_quote b) (Some b) None (not-true _ q.1) in
    (and_from _ _ (not_from_false _ (and_left (eqb b 62) _ (not-true _ q.0))) (ap (λ o. none_ends o bs) same ∙ rest.0), ap (λ o. quote_after o bs) same ∙ rest.1)

inner_part : (bs : List ℕ) → list_all is_inner bs ≡ true → utf8_run [] bs ≡ Some [] → IsPart bs
inner_part bs h r = let e = inner_ends bs h in record { goes_on = e.0; unquoted = e.1; runs = r }

each : (p q : ℕ → Bool) → ((b : ℕ) → p b ≡ true → q b ≡ true) → (bs : List ℕ) → list_all p bs ≡ true → list_all q bs ≡ true
each p q f [] h = refl
each p q f (b ∷ bs) h = let s = and_parts (p b) (list_all p bs) h in and_from _ _ (f b s.0) (each p q f bs s.1)

pub white_inner : (b : ℕ) → is_white b ≡ true → is_inner b ≡ true
white_inner b h = grind (arith, nat_tests)

white_ascii : (b : ℕ) → is_white b ≡ true → ltb b 128 ≡ true
white_ascii b h = grind (arith, nat_tests)

name_inner : (b : ℕ) → is_qualified_byte b ≡ true → is_inner b ≡ true
name_inner b h = grind (arith, nat_tests)

pub white_part : (space : List ℕ) → are_white space ≡ true → IsPart space
white_part space h = inner_part space (each is_white is_inner white_inner space h) (ascii_runs space (each is_white (λ b. ltb b 128) white_ascii space h))

pub name_is_inner : (name : List ℕ) → is_qualified name ≡ true → list_all is_inner name ≡ true
name_is_inner name h = each is_qualified_byte is_inner name_inner name (qualified_all name h)

pub name_part : (name : List ℕ) → is_qualified name ≡ true → IsPart name
unfolding is_qualified
name_part name h =
    inner_part name (name_is_inner name h) (runs.text_runs name (IsUtf8-from_is_utf8 name (and_parts (has_parts name) (is_utf8 name) h).1))

equals_part : IsPart (61 ∷ [])
equals_part = inner_part (61 ∷ []) refl (ascii_runs (61 ∷ []) refl)

slash_part : IsPart (47 ∷ [])
slash_part = inner_part (47 ∷ []) refl (ascii_runs (47 ∷ []) refl)

nothing_part : IsPart []
nothing_part = record { goes_on = refl; unquoted = refl; runs = refl }

-- ---- values in their quotes

quoted_ends : (q : ℕ) (raw : List ℕ) → list_all (λ b. not (eqb b q)) raw ≡ true → (none_ends (Some q) raw ≡ true) × (quote_after (Some q) raw ≡ Some q)
quoted_ends q [] h = (refl, refl)
quoted_ends q (b ∷ bs) h =
    let p = and_parts (not (eqb b q)) _ h in
    let rest = quoted_ends q bs p.1 in
    let same : quote_behind (Some q) b ≡ Some q = cond-false (eqb b q) None (Some q) (not-true _ p.0) in
    (and_from _ _ (not_from_false _ (and_right (eqb b 62) false refl)) (ap (λ o. none_ends o bs) same ∙ rest.0), ap (λ o. quote_after o bs) same ∙ rest.1)

quote_low : (q : ℕ) → is_quote q ≡ true → ltb q 128 ≡ true
quote_low q h = grind (arith, nat_tests)

-- the quote that closes a value
closing_part : (q : ℕ) → is_quote q ≡ true → (none_ends (Some q) (q ∷ []) ≡ true) × (quote_after (Some q) (q ∷ []) ≡ None)
closing_part q h = (and_from _ _ (not_from_false _ (and_right (eqb q 62) false refl)) refl, cond-true (eqb q q) None (Some q) (eq-eqb q q refl))

quoted_part : (q : ℕ) (raw : List ℕ) → is_quote q ≡ true → list_all (λ b. not (eqb b q)) raw ≡ true → utf8_run [] raw ≡ Some [] → IsPart (q ∷ (raw ++ q ∷ []))
quoted_part q raw h inside r =
    let begun : quote_behind None q ≡ Some q = cond-true (is_quote q) (Some q) None h in
    let e = quoted_ends q raw inside in
    let c = closing_part q h in
    let alone : utf8_run [] (q ∷ []) ≡ Some [] = ascii_runs (q ∷ []) (and_from _ _ (quote_low q h) refl) in
    let within : none_ends (Some q) (raw ++ q ∷ []) ≡ true = ends_append (Some q) raw (q ∷ []) e.0 (ap (λ o. none_ends o (q ∷ [])) e.1 ∙ c.0) in
    let after : quote_after (Some q) (raw ++ q ∷ []) ≡ None = quote_append (Some q) raw (q ∷ []) ∙ ap (λ o. quote_after o (q ∷ [])) e.1 ∙ c.1 in
    record {
      goes_on = and_from _ _ (not_from_false _ (and_left (eqb q 62) _ (quote_no_end q h))) (ap (λ o. none_ends o (raw ++ q ∷ [])) begun ∙ within);
      unquoted = ap (λ o. quote_after o (raw ++ q ∷ [])) begun ∙ after;
      runs = runs_append (q ∷ []) (raw ++ q ∷ []) [] alone ∙ runs_append raw (q ∷ []) [] r ∙ alone;
    }

-- ---- attributes

-- what bytes begin with is a part, and then comes the rest
record Front (bytes rest : List ℕ) : Type 0 where
  front : List ℕ
  bytes_are : bytes ≡ front ++ rest
  part : IsPart front

attribute_front : (bytes name raw rest v : List ℕ) → IsSpelled bytes name raw rest → value_of raw ≡ Some v → Front bytes rest
attribute_front bytes name raw rest v h value =
    let q = h.quote in
    let quoted = q ∷ (raw ++ q ∷ []) in
    record {
      front = h.space ++ (name ++ (h.before ++ ((61 ∷ []) ++ (h.after ++ quoted))));
      bytes_are = h.bytes_are ∙ sym (simp append_assoc refl);
      part =
          part_append h.space _ (white_part h.space h.space_white)
          (part_append name _ (name_part name h.name_is)
          (part_append h.before _ (white_part h.before h.before_white)
          (part_append (61 ∷ []) _ equals_part
          (part_append h.after quoted (white_part h.after h.after_white) (quoted_part q raw h.quote_is h.raw_inside (value_runs raw v value))))));
    }

attributes_front : (attributes : List Attribute) (bytes rest : List ℕ) → AreAttributes bytes attributes rest → Front bytes rest
attributes_front [] bytes rest h = record { front = []; bytes_are = h; part = nothing_part }
attributes_front (a ∷ more) bytes rest h =
    let one = attribute_front bytes a.name h.1.0 h.0 a.value h.1.1 (says_value h.1.0 a.value h.1.2) in
    let others = attributes_front more h.0 rest h.2 in
    record {
      front = one.front ++ others.front;
      bytes_are = one.bytes_are ∙ ap (λ l. one.front ++ l) others.bytes_are ∙ sym (append_assoc one.front others.front rest);
      part = part_append one.front others.front one.part others.part;
    }

-- ---- whole tags

-- Bytes are `<`, a part that begins with a byte, and `>`.
pub record IsWhole (bytes : List ℕ) (first : ℕ) : Type 0 where
  pub others : List ℕ
  pub bytes_are : bytes ≡ 60 ∷ ((first ∷ others) ++ 62 ∷ [])
  pub part : IsPart (first ∷ others)

-- what stands before the `>`
abbrev end_slash : Bool → List ℕ
end_slash true = 47 ∷ []
end_slash false = []

end_is : (empty : Bool) → tag_end empty ≡ end_slash empty ++ 62 ∷ []
end_is true = refl
end_is false = refl

end_part : (empty : Bool) → IsPart (end_slash empty)
end_part true = slash_part
end_part false = nothing_part

-- behind `<` a start tag begins as a name does
pub record IsStartWhole (bytes : List ℕ) : Type 0 where
  pub first : ℕ
  pub starts : is_name_start first ≡ true
  pub whole : IsWhole bytes first

pub start_whole : (bytes name : List ℕ) (attributes : List Attribute) (empty : Bool) → IsStartTag bytes name attributes empty → IsStartWhole bytes
start_whole bytes name attributes empty h =
    let begun = qualified_begins name h.name_is in
    let inside = attributes_front attributes h.inside (h.space ++ tag_end empty) h.inside_is in
    let following = inside.front ++ (h.space ++ end_slash empty) in
    let whole : h.inside ≡ following ++ 62 ∷ [] =
    inside.bytes_are ∙ ap (λ l. inside.front ++ (h.space ++ l)) (end_is empty) ∙ sym (simp append_assoc refl) in
    let name_is : name ++ following ≡ begun.first ∷ (begun.others ++ following) = ap (λ l. l ++ following) begun.name_is in
    let part : IsPart (name ++ following) =
    part_append name following (name_part name h.name_is) (part_append inside.front _ inside.part (part_append h.space (end_slash empty) (white_part h.space h.space_white) (end_part empty))) in
    record {
      first = begun.first;
      starts = begun.starts;
      whole = record {
        others = begun.others ++ following;
        bytes_are = h.bytes_are ∙ ap (λ l. 60 ∷ (name ++ l)) whole ∙ ap (λ l. 60 ∷ l) (sym (append_assoc name following (62 ∷ [])) ∙ ap (λ l. l ++ 62 ∷ []) name_is);
        part = subst IsPart name_is part;
      };
    }

pub end_whole : (bytes name : List ℕ) → IsEndTag bytes name → IsWhole bytes 47
end_whole bytes name h = record {
  others = name ++ h.space;
  bytes_are = h.bytes_are ∙ ap (λ l. 60 ∷ 47 ∷ l) (sym (append_assoc name h.space (62 ∷ [])));
  part = part_append (47 ∷ []) (name ++ h.space) slash_part (part_append name h.space (name_part name h.name_is) (white_part h.space h.space_white));
}

-- a tag's bytes are text
pub whole_text : (bytes : List ℕ) (first : ℕ) → IsWhole bytes first → IsUtf8 bytes
whole_text bytes first h =
    let inner = first ∷ h.others in
    let end : utf8_run [] (62 ∷ []) ≡ Some [] = ascii_runs (62 ∷ []) refl in
    let all : utf8_run [] (60 ∷ (inner ++ 62 ∷ [])) ≡ Some [] = ascii_step 60 (inner ++ 62 ∷ []) (omega arith) ∙ runs_append inner (62 ∷ []) [] h.part.runs ∙ end in
    runs.runs_are_text [] bytes tt (ap (utf8_run []) h.bytes_are ∙ all)
