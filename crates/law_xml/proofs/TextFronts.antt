-- A text grows: what has been read of it, up to a character, a reference or a CDATA section.
use Rattle.std.proofs.Common.{◌≡◌, ℕ, ◌<◌, Bool, true, false, leb, not, ◌&&◌, ◌||◌, ◌==◌, if◌then◌else◌, List, [], ◌∷◌, ◌++◌, codes, refl, sym, ap, subst, ◌∙◌, arith, append_assoc, append-nil, encode_utf8}
use Rattle.std.proofs.lemmas.Bool.{and_parts, and_from, and_right, or_from, or_parts, eqb-true, ne_eqb, true≢false, le-leb, leb-true}
use Rattle.std.proofs.lemmas.Bool.Decides.{nat_tests}
use Rattle.std.proofs.lemmas.List.Folds.{list_all-append}
use Rattle.std.specs.List.{list_all}
use Rattle.xml_tokens.specs.References.{referred}
use Rattle.xml_tokens.specs.Utf8.{IsPending, ended_character, ends_character, is_lead, is_second, is_tail, utf8_next}
use Rattle.xml_tokens.specs.declared.references.Reference.TheVariants.{Character}
use Rattle.law_xml.proofs.ReadCharacters.{second_high, tail_high}
use Rattle.law_xml.specs.Texts.{IsCharacterData, SpellsText, begins_section_end, data_alone, has_section_end, with_reference, with_section}
use Rattle.xml_tokens.specs.Lines.{line_ends, line_ends_after}
use Rattle.xml_framer.specs.TextSteps.{brackets_after}
use Rattle.std.proofs.Math.Bool.{or-false, or_assoc}

-- ---- `]]>`, with the `]` in front counted

-- whether the last byte is a carriage return
abbrev pub returned_after : Bool → List ℕ → Bool
returned_after r [] = r
returned_after r (b ∷ bs) = returned_after (b == 13) bs

-- how many `]` stand last, up to 2
abbrev pub counted_behind : ℕ → List ℕ → ℕ
counted_behind n [] = n
counted_behind n (b ∷ bs) = counted_behind (brackets_after n b) bs

-- `]]>` ends somewhere
abbrev pub ends_after : ℕ → List ℕ → Bool
ends_after n [] = false
ends_after n (b ∷ bs) = (n == 2 && b == 62) || ends_after (brackets_after n b) bs

by_test : {P : Type 0} (b : Bool) → (b ≡ true → P) → (b ≡ false → P) → P
by_test true t f = t refl
by_test false t f = f refl

returned-append : (r : Bool) (xs ys : List ℕ) → returned_after r (xs ++ ys) ≡ returned_after (returned_after r xs) ys
returned-append r [] ys = refl
returned-append r (x ∷ xs) ys = returned-append (x == 13) xs ys

pub counted-append : (n : ℕ) (xs ys : List ℕ) → counted_behind n (xs ++ ys) ≡ counted_behind (counted_behind n xs) ys
counted-append n [] ys = refl
counted-append n (x ∷ xs) ys = counted-append (brackets_after n x) xs ys

pub ends-append : (n : ℕ) (xs ys : List ℕ) → ends_after n (xs ++ ys) ≡ (ends_after n xs || ends_after (counted_behind n xs) ys)
ends-append n [] ys = refl
ends-append n (x ∷ xs) ys =
    ap (λ t. (n == 2 && x == 62) || t) (ends-append (brackets_after n x) xs ys)
    ∙ sym (or_assoc (n == 2 && x == 62) (ends_after (brackets_after n x) xs) (ends_after (counted_behind (brackets_after n x) xs) ys))

-- a front of what has no `]]>` has none
pub ends_parted : (xs ys : List ℕ) → ends_after 0 (xs ++ ys) ≡ false → ends_after 0 xs ≡ false
ends_parted xs ys e = (or_parts (ends_after 0 xs) (ends_after (counted_behind 0 xs) ys) (sym (ends-append 0 xs ys) ∙ e)).0

line_ends-append : (r : Bool) (xs ys : List ℕ) → line_ends_after r (xs ++ ys) ≡ line_ends_after r xs ++ line_ends_after (returned_after r xs) ys
line_ends-append r [] ys = refl
line_ends-append r (x ∷ xs) ys =
    by_test (x == 13)
    (λ e. rw e (ap (λ l. 10 ∷ l) (line_ends-append true xs ys)))
    (λ e. by_test (r && x == 10)
    (λ f. rw (e, f) (line_ends-append false xs ys))
    (λ f. rw (e, f) (ap (λ l. x ∷ l) (line_ends-append false xs ys))))

pub line_ends_bracket : (xs : List ℕ) → line_ends (xs ++ 93 ∷ []) ≡ line_ends xs ++ 93 ∷ []
line_ends_bracket xs = line_ends-append false xs (93 ∷ []) ∙ ap (λ l. line_ends xs ++ l) (one (returned_after false xs))
  where
    one : (r : Bool) → line_ends_after r (93 ∷ []) ≡ 93 ∷ []
    one true = refl
    one false = refl

no_bracket : (n b : ℕ) → (b == 93) ≡ false → brackets_after n b ≡ 0
no_bracket n b e = rw e refl

no_greater : (n b : ℕ) → (b == 93) ≡ true → (n == 2 && b == 62) ≡ false
no_greater n b e = and_right (n == 2) (b == 62) (ap (λ c. c == 62) (eqb-true b 93 e))

begins_no : (x : ℕ) (bs : List ℕ) → (x == 93) ≡ false → begins_section_end (x ∷ bs) ≡ false
begins_no x [] e = refl
begins_no x (b ∷ []) e = refl
begins_no x (b ∷ c ∷ cs) e = rw e refl

begins_one : (b : ℕ) (bs : List ℕ) → (b == 93) ≡ false → begins_section_end (93 ∷ b ∷ bs) ≡ false
begins_one b [] e = refl
begins_one b (c ∷ cs) e = rw e refl

-- the count in front stands for the `]` themselves
mutual
  pub section_end_0 : (bs : List ℕ) → has_section_end bs ≡ ends_after 0 bs
  section_end_0 [] = refl
  section_end_0 (b ∷ bs) =
      by_test (b == 93)
      (λ e. subst (λ c. has_section_end (c ∷ bs) ≡ ends_after 0 (c ∷ bs)) (sym (eqb-true b 93 e)) (section_end_1 bs))
      (λ e. rw (begins_no b bs e, e) (section_end_0 bs))

  section_end_1 : (bs : List ℕ) → has_section_end (93 ∷ bs) ≡ ends_after 1 bs
  section_end_1 [] = refl
  section_end_1 (b ∷ bs) =
      by_test (b == 93)
      (λ e. subst (λ c. has_section_end (93 ∷ c ∷ bs) ≡ ends_after 1 (c ∷ bs)) (sym (eqb-true b 93 e)) (section_end_2 bs))
      (λ e. rw (begins_one b bs e, begins_no b bs e, e) (section_end_0 bs))

  section_end_2 : (bs : List ℕ) → has_section_end (93 ∷ 93 ∷ bs) ≡ ends_after 2 bs
  section_end_2 [] = refl
  section_end_2 (b ∷ bs) =
      by_test (b == 93)
      (λ e. subst (λ c. has_section_end (93 ∷ 93 ∷ c ∷ bs) ≡ ends_after 2 (c ∷ bs)) (sym (eqb-true b 93 e)) (section_end_2 bs))
      (λ e. by_test (b == 62)
      (λ f. rw f refl)
      (λ f. rw (f, begins_one b bs e, begins_no b bs e, e) (section_end_0 bs)))

-- ---- a character more

-- what the machine says of a byte that ends a character
abbrev pub said_after : Bool → List ℕ → ℕ → List ℕ
said_after r held b = if r && b == 10 then [] else (if b == 13 then 10 ∷ [] else ended_character held b)

abbrev are_high : List ℕ → Bool
are_high bs = list_all (λ b. leb 128 b) bs

high_mark : (b : ℕ) → leb 128 b ≡ true → not (b == 60 || b == 38) ≡ true
high_mark b h = grind (arith, nat_tests)

high_apart : (b c : ℕ) → leb 128 b ≡ true → c < 128 → (b == c) ≡ false
high_apart b c h low = ne_eqb b c (λ e. let least = leb-true 128 b h in omega (arith, e, least, low))

high_ends : (bs : List ℕ) (r : Bool) → are_high bs ≡ true → line_ends_after r bs ≡ bs
high_ends [] r h = refl
high_ends (b ∷ bs) r h =
    let p = and_parts (leb 128 b) (are_high bs) h in
    let thirteen = high_apart b 13 p.0 (omega arith) in
    let ten = and_right r (b == 10) (high_apart b 10 p.0 (omega arith)) in
    rw (thirteen, ten) (ap (λ l. b ∷ l) (high_ends bs false p.1))

high_marks : (bs : List ℕ) → are_high bs ≡ true → list_all (λ b. not (b == 60 || b == 38)) bs ≡ true
high_marks [] h = refl
high_marks (b ∷ bs) h = let p = and_parts (leb 128 b) (are_high bs) h in and_from _ _ (high_mark b p.0) (high_marks bs p.1)

high_no_end : (bs : List ℕ) (n : ℕ) → are_high bs ≡ true → ends_after n bs ≡ false
high_no_end [] n h = refl
high_no_end (b ∷ bs) n h =
    let p = and_parts (leb 128 b) (are_high bs) h in or_from _ _ (and_right (n == 2) (b == 62) (high_apart b 62 p.0 (omega arith))) (high_no_end bs (brackets_after n b) p.1)

lead_high : (x : ℕ) → is_lead x ≡ true → leb 128 x ≡ true
lead_high x h = grind (arith, nat_tests)

pending_high : (held : List ℕ) → IsPending held → are_high held ≡ true
pending_high [] p = refl
pending_high (x ∷ []) p = and_from _ _ (lead_high x p) refl
pending_high (x ∷ y ∷ []) p = and_from _ _ (lead_high x p.1) (and_from _ _ (le-leb 128 y (second_high x y p.2).0) refl)
pending_high (x ∷ y ∷ z ∷ []) p = and_from _ _ (lead_high x p.1) (and_from _ _ (le-leb 128 y (second_high x y p.2).0) (and_from _ _ (le-leb 128 z (tail_high z p.3).0) refl))
pending_high (x ∷ y ∷ z ∷ w ∷ more) p = absurd p

last_high : (x : ℕ) (xs : List ℕ) (b : ℕ) → ends_character (x ∷ xs) b ≡ true → leb 128 b ≡ true
unfolding utf8_next
last_high x [] b e =
    by_test (is_second x b) (λ t. le-leb 128 b (second_high x b t).0) (λ f. let n : ends_character (x ∷ []) b ≡ false = rw f refl in absurd (true≢false (sym e ∙ n)))
last_high x (y ∷ []) b e =
    by_test (is_tail b) (λ t. le-leb 128 b (tail_high b t).0) (λ f. let n : ends_character (x ∷ y ∷ []) b ≡ false = rw f refl in absurd (true≢false (sym e ∙ n)))
last_high x (y ∷ z ∷ more) b e =
    by_test (is_tail b) (λ t. le-leb 128 b (tail_high b t).0) (λ f. let n : ends_character (x ∷ y ∷ z ∷ more) b ≡ false = rw f refl in absurd (true≢false (sym e ∙ n)))

high-append : (xs : List ℕ) (b : ℕ) → are_high xs ≡ true → leb 128 b ≡ true → are_high (xs ++ b ∷ []) ≡ true
high-append xs b h e = list_all-append (λ c. leb 128 c) xs (b ∷ []) ∙ and_from _ _ h (and_from _ _ e refl)

-- what a whole character does to a text, of which these numbers are known
record IsCharacter (r : Bool) (n : ℕ) (held : List ℕ) (b : ℕ) : Type 0 where
  returned : returned_after r (held ++ b ∷ []) ≡ (b == 13)
  counted : counted_behind n (held ++ b ∷ []) ≡ brackets_after n b
  ends : ends_after n (held ++ b ∷ []) ≡ (n == 2 && b == 62)
  says : line_ends_after r (held ++ b ∷ []) ≡ said_after r held b

one_says : (r : Bool) (b : ℕ) → ends_character [] b ≡ true → line_ends_after r (b ∷ []) ≡ said_after r [] b
one_says r b e =
    by_test (b == 13)
    (λ t. let none : (r && b == 10) ≡ false = and_right r (b == 10) (ap (λ c. c == 10) (eqb-true b 13 t)) in rw (t, none) refl)
    (λ f. by_test (r && b == 10) (λ t. rw (f, t) refl) (λ g. rw (f, g, e) refl))

character : (r : Bool) (n : ℕ) (held : List ℕ) (b : ℕ) → IsPending held → ends_character held b ≡ true → IsCharacter r n held b
character r n [] b p e = record { returned = refl; counted = refl; ends = or-false (n == 2 && b == 62); says = one_says r b e }
character r n (x ∷ xs) b p e =
    let last = last_high x xs b e in
    let high = high-append (x ∷ xs) b (pending_high (x ∷ xs) p) last in
    let thirteen = high_apart b 13 last (omega arith) in
    let ten = and_right r (b == 10) (high_apart b 10 last (omega arith)) in
    let bracket = high_apart b 93 last (omega arith) in
    record {
      returned = returned-append r (x ∷ xs) (b ∷ []);
      counted = counted-append n (x ∷ xs) (b ∷ []) ∙ (no_bracket (counted_behind n (x ∷ xs)) b bracket ∙ sym (no_bracket n b bracket));
      ends = high_no_end (x ∷ xs ++ b ∷ []) n high ∙ sym (and_right (n == 2) (b == 62) (high_apart b 62 last (omega arith)));
      says = high_ends (x ∷ xs ++ b ∷ []) r high ∙ rw (ten, thirteen, e) refl;
    }

-- ---- character data

-- bytes without `]]>`, what stands last in them, and what they say
pub record Gathered (bytes said : List ℕ) (returned : Bool) (brackets : ℕ) : Type 0 where
  pub no_end : ends_after 0 bytes ≡ false
  pub returned_is : returned_after false bytes ≡ returned
  pub brackets_are : counted_behind 0 bytes ≡ brackets
  pub says : line_ends bytes ≡ said

pub nothing_gathered : Gathered [] [] false 0
nothing_gathered = record { no_end = refl; returned_is = refl; brackets_are = refl; says = refl }

pub character_gathered : (bytes said : List ℕ) (r : Bool) (n : ℕ) (held : List ℕ) (b : ℕ) → Gathered bytes said r n → IsPending held → ends_character held b ≡ true → (n == 2 && b == 62) ≡ false
    → Gathered (bytes ++ (held ++ b ∷ [])) (said ++ said_after r held b) (b == 13) (brackets_after n b)
character_gathered bytes said r n held b h p e open_end =
    let c = character (returned_after false bytes) (counted_behind 0 bytes) held b p e in
    record {
      no_end = ends-append 0 bytes (held ++ b ∷ []) ∙ or_from _ _ h.no_end (c.ends ∙ (ap (λ m. m == 2 && b == 62) h.brackets_are ∙ open_end));
      returned_is = returned-append false bytes (held ++ b ∷ []) ∙ c.returned;
      brackets_are = counted-append 0 bytes (held ++ b ∷ []) ∙ (c.counted ∙ ap (λ m. brackets_after m b) h.brackets_are);
      says = line_ends-append false bytes (held ++ b ∷ []) ∙ (ap (λ l. l ++ line_ends_after (returned_after false bytes) (held ++ b ∷ [])) h.says ∙ ap (λ l. said ++ l) (c.says ∙ ap (λ t. said_after t held b) h.returned_is));
    }

-- ---- a text so far

-- bytes that say this, and behind which any text may stand
abbrev pub IsFront : List ℕ → List ℕ → Type 0
IsFront bytes says = (rest more : List ℕ) → SpellsText rest more → SpellsText (bytes ++ rest) (says ++ more)

pub no_front : IsFront [] []
no_front rest more h = h

abbrev has_no_markup : List ℕ → Bool
has_no_markup bs = list_all (λ b. not (b == 60 || b == 38)) bs

-- a text so far: references and CDATA sections, and the character data behind the last of them
pub record Seen (text says : List ℕ) (returned : Bool) (brackets : ℕ) : Type 0 where
  pub front : List ℕ
  pub front_says : List ℕ
  pub is_front : IsFront front front_says
  pub plain : List ℕ
  pub plain_says : List ℕ
  pub gathered : Gathered plain plain_says returned brackets
  pub no_markup : list_all (λ b. not (b == 60 || b == 38)) plain ≡ true
  pub text_is : text ≡ front ++ plain
  pub says_is : says ≡ front_says ++ plain_says

pub front_seen : (text says : List ℕ) → IsFront text says → Seen text says false 0
front_seen text says h =
    record { front = text; front_says = says; is_front = h; plain = []; plain_says = []; gathered = nothing_gathered; no_markup = refl; text_is = sym (append-nil text); says_is = sym (append-nil says) }

spelled_as : (a b c d : List ℕ) → a ≡ b → c ≡ d → SpellsText a c → SpellsText b d
spelled_as a b c d e f h = subst (SpellsText b) f (subst (λ l. SpellsText l c) e h)

module _ (text says : List ℕ) (r : Bool) (n : ℕ) (h : Seen text says r n) where
  data_is : IsCharacterData h.plain
  data_is = record { no_markup = h.no_markup; no_section_end = section_end_0 h.plain ∙ h.gathered.no_end }

  pub seen_text : SpellsText text says
  seen_text =
      spelled_as (h.front ++ h.plain) text (h.front_says ++ h.plain_says) says (sym h.text_is) (sym h.says_is)
      (h.is_front h.plain h.plain_says (data_alone h.plain h.plain_says data_is (sym h.gathered.says)))

  -- a reference behind it
  pub reference_front : (name : List ℕ) (c : ℕ) → referred name ≡ Character c → IsFront (text ++ (38 ∷ (name ++ 59 ∷ []))) (says ++ encode_utf8 c)
  reference_front name c is rest more t =
      spelled_as (h.front ++ (h.plain ++ (38 ∷ (name ++ (59 ∷ rest))))) _ (h.front_says ++ (h.plain_says ++ (encode_utf8 c ++ more))) _
      (rw (h.text_is) (simp (append_assoc))) (rw (h.says_is) (simp (append_assoc)))
      (h.is_front (h.plain ++ (38 ∷ (name ++ (59 ∷ rest)))) (h.plain_says ++ (encode_utf8 c ++ more))
      (with_reference _ _ h.plain name rest more c data_is is t refl (ap (λ l. l ++ (encode_utf8 c ++ more)) (sym h.gathered.says))))

  -- a CDATA section behind it
  pub section_front : (inside : List ℕ) (said : List ℕ) → ends_after 0 inside ≡ false → line_ends inside ≡ said → IsFront (text ++ (codes "<![CDATA[" ++ (inside ++ codes "]]>"))) (says ++ said)
  section_front inside said none is rest more t =
      spelled_as (h.front ++ (h.plain ++ (codes "<![CDATA[" ++ (inside ++ (codes "]]>" ++ rest))))) _ (h.front_says ++ (h.plain_says ++ (said ++ more))) _
      (rw (h.text_is) (simp (append_assoc))) (rw (h.says_is) (simp (append_assoc)))
      (h.is_front (h.plain ++ (codes "<![CDATA[" ++ (inside ++ (codes "]]>" ++ rest)))) (h.plain_says ++ (said ++ more))
      (with_section _ _ h.plain inside rest more data_is (section_end_0 inside ∙ none) t refl
      (ap (λ l. l ++ (said ++ more)) (sym h.gathered.says) ∙ ap (λ l. line_ends h.plain ++ (l ++ more)) (sym is))))

  -- a character behind it
  pub character_seen : (held : List ℕ) (b : ℕ) → IsPending held → ends_character held b ≡ true → (b == 60 || b == 38) ≡ false → (n == 2 && b == 62) ≡ false
      → Seen (text ++ (held ++ b ∷ [])) (says ++ said_after r held b) (b == 13) (brackets_after n b)
  character_seen held b p e mark open_end = record {
    front = h.front;
    front_says = h.front_says;
    is_front = h.is_front;
    plain = h.plain ++ (held ++ b ∷ []);
    plain_says = h.plain_says ++ said_after r held b;
    gathered = character_gathered h.plain h.plain_says r n held b h.gathered p e open_end;
    no_markup = list_all-append (λ c. not (c == 60 || c == 38)) h.plain (held ++ b ∷ []) ∙ and_from _ _ h.no_markup (list_all-append (λ c. not (c == 60 || c == 38)) held (b ∷ []) ∙ and_from _ _ (high_marks held (pending_high held p)) (rw mark refl));
    text_is = ap (λ l. l ++ (held ++ b ∷ [])) h.text_is ∙ append_assoc h.front h.plain (held ++ b ∷ []);
    says_is = ap (λ l. l ++ said_after r held b) h.says_is ∙ append_assoc h.front_says h.plain_says (said_after r held b);
  }
