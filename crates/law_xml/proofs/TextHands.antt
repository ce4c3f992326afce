-- A byte keeps what is known of the text, the reference or the CDATA section in hand.
use Rattle.std.proofs.Common.{◌≡◌, ℕ, zero, suc, ◌<◌, ◌≤◌, Bool, true, false, ◌&&◌, ◌||◌, ◌==◌, if◌then◌else◌, List, [], ◌∷◌, ◌++◌, codes, length, take, slice_index, refl, sym, ap, subst, ◌∙◌, arith, append_assoc, append-nil, length-append, encode_utf8, bytes_eq}
use Rattle.std.proofs.lemmas.Bool.{and_parts, and_from, and_right, eqb-true, eqb-false, true≢false}
use Rattle.std.proofs.lemmas.Bool.Decides.{nat_tests}
use Rattle.std.proofs.lemmas.Grind.{take_at_read}
use Rattle.std.proofs.lemmas.Slice.Eq.{bytes_eq-Decides}
use Rattle.std.specs.List.{list_all}
use Rattle.xml_tokens.specs.Characters.{is_digit, is_name}
use Rattle.xml_tokens.specs.References.{are_digits, character_numbered, character_reference, decimal_reference, entity_reference, hexadecimal_reference, is_hex_digit, number_of, referred}
use Rattle.xml_tokens.specs.Utf8.{continues, ends_character, ends_forbidden_character, held_after, utf8_next}
use Rattle.xml_tokens.specs.declared.references.Reference.{Reference}
use Rattle.xml_tokens.specs.declared.references.Reference.TheVariants as reference
use Rattle.law_xml.proofs.ReadSoFar.{MarkIn, OpensSection, SectionIn, TextIn}
use Rattle.law_xml.proofs.TextFronts.{Gathered, Seen, character_gathered, character_seen, ends_after, ends_parted, front_seen, line_ends_bracket, nothing_gathered, reference_front, said_after, section_front, seen_text}
use Rattle.law_xml.proofs.ReadCharacters.{Judged, are_plain, ascii_alone, byte_judged, ended_after, grown_after, judged_characters, plain-append, plain_judged}
use Rattle.law_xml.specs.Texts.{IsText}
use Rattle.xml_framer.specs.TextSteps.{brackets_after, kept_back}

pub four-append : (x y z w v : List ℕ) → (x ++ (y ++ (z ++ w))) ++ v ≡ x ++ (y ++ (z ++ (w ++ v)))
four-append x y z w v = append_assoc x (y ++ (z ++ w)) v ∙ ap (λ l. x ++ l) (append_assoc y (z ++ w) v ∙ ap (λ l. y ++ l) (append_assoc z w v))

-- ---- a text

pub marked_text : (hand chars token : List ℕ) (h : MarkIn hand chars token) → IsText h.text chars
marked_text hand chars token h = record { characters = judged_characters h.text h.judged; spelled = seen_text h.text chars h.returned h.brackets h.seen }

pub mark_more : (hand chars token : List ℕ) (b : ℕ) → MarkIn hand chars token → MarkIn (hand ++ b ∷ []) chars (token ++ b ∷ [])
mark_more hand chars token b h = record {
  text = h.text;
  returned = h.returned;
  brackets = h.brackets;
  judged = h.judged;
  seen = h.seen;
  hand_is = ap (λ l. l ++ b ∷ []) h.hand_is ∙ append_assoc h.text token (b ∷ []);
}

pub mark_begun : (hand pending chars : List ℕ) (r : Bool) (n b : ℕ) → TextIn hand pending chars true r n → pending ≡ [] → MarkIn (hand ++ b ∷ []) chars (b ∷ [])
mark_begun hand pending chars r n b h none = record {
  text = hand;
  returned = r;
  brackets = n;
  judged = subst (Judged hand) none h.judged;
  seen = subst (λ t. Seen t chars r n) (sym (h.hand_is ∙ ap (λ p. h.whole ++ p) none ∙ append-nil h.whole)) h.seen;
  hand_is = refl;
}

pub text_grows : (hand pending chars : List ℕ) (r : Bool) (n b : ℕ) → TextIn hand pending chars true r n → continues pending b ≡ true → ends_character pending b ≡ true → ends_forbidden_character pending b ≡ false
    → (b == 60 || b == 38) ≡ false → (n == 2 && b == 62) ≡ false → TextIn (hand ++ b ∷ []) (held_after pending b) (chars ++ said_after r pending b) true (b == 13) (brackets_after n b)
text_grows hand pending chars r n b h c e free mark open_end = record {
  whole = h.whole ++ (pending ++ b ∷ []);
  hand_is =
      ap (λ l. l ++ b ∷ []) h.hand_is ∙ append_assoc h.whole pending (b ∷ []) ∙ sym (append-nil (h.whole ++ (pending ++ b ∷ [])))
      ∙ ap (λ p. (h.whole ++ (pending ++ b ∷ [])) ++ p) (sym (ended_after pending b e));
  judged = byte_judged hand pending b h.judged c (λ t. free);
  seen = character_seen h.whole chars r n h.seen pending b h.judged.begun e mark open_end;
}

pub text_waits : (hand pending chars : List ℕ) (r : Bool) (n b : ℕ) → TextIn hand pending chars true r n → continues pending b ≡ true → ends_character pending b ≡ false → TextIn (hand ++ b ∷ []) (held_after pending b) chars true r n
text_waits hand pending chars r n b h c e = record {
  whole = h.whole;
  hand_is = ap (λ l. l ++ b ∷ []) h.hand_is ∙ append_assoc h.whole pending (b ∷ []) ∙ ap (λ p. h.whole ++ p) (sym (grown_after pending b c e));
  judged = byte_judged hand pending b h.judged c (λ t. absurd (true≢false (sym t ∙ e)));
  seen = h.seen;
}

-- ---- a reference

peel : {P : Type 0} (c : ℕ) (b : Bool) (x y : Reference) → (if b then x else y) ≡ reference.Character c → (b ≡ true → x ≡ reference.Character c → P) → (y ≡ reference.Character c → P) → P
peel c true x y e t f = t refl e
peel c false x y e t f = f e

all_plain : (p : ℕ → Bool) → ((b : ℕ) → p b ≡ true → are_plain (b ∷ []) ≡ true) → (bs : List ℕ) → list_all p bs ≡ true → are_plain bs ≡ true
all_plain p f [] h = refl
all_plain p f (b ∷ bs) h = let q = and_parts (p b) (list_all p bs) h in plain-append (b ∷ []) bs ∙ and_from _ _ (f b q.0) (all_plain p f bs q.1)

digit_plain : (b : ℕ) → is_digit b ≡ true → are_plain (b ∷ []) ≡ true
digit_plain b h = grind (arith, nat_tests)

hex_plain : (b : ℕ) → is_hex_digit b ≡ true → are_plain (b ∷ []) ≡ true
hex_plain b h = grind (arith, nat_tests)

digits_plain : (p : ℕ → Bool) → ((b : ℕ) → p b ≡ true → are_plain (b ∷ []) ≡ true) → (bs : List ℕ) → are_digits p bs ≡ true → are_plain bs ≡ true
digits_plain p f [] h = refl
digits_plain p f (b ∷ bs) h = all_plain p f (b ∷ bs) h

never : (r : Reference) (c : ℕ) → r ≡ reference.Malformed → r ≡ reference.Character c → ⊥
never r c e f = let g : reference.Malformed ≡ reference.Character c = sym e ∙ f in cc

hexadecimal_plain : (ds : List ℕ) (c : ℕ) → hexadecimal_reference ds ≡ reference.Character c → are_plain ds ≡ true
hexadecimal_plain ds c e = peel c (are_digits is_hex_digit ds) (character_numbered (number_of 16 ds)) reference.Malformed e (λ t is. digits_plain is_hex_digit hex_plain ds t) (λ is. absurd (never reference.Malformed c refl is))

decimal_plain : (ds : List ℕ) (c : ℕ) → decimal_reference ds ≡ reference.Character c → are_plain ds ≡ true
decimal_plain ds c e = peel c (are_digits is_digit ds) (character_numbered (number_of 10 ds)) reference.Malformed e (λ t is. digits_plain is_digit digit_plain ds t) (λ is. absurd (never reference.Malformed c refl is))

numbered_plain : (bs : List ℕ) (c : ℕ) → character_reference bs ≡ reference.Character c → are_plain bs ≡ true
numbered_plain [] c e = refl
numbered_plain (b ∷ bs) c e =
    peel c (b == 120) (hexadecimal_reference bs) (decimal_reference (b ∷ bs)) e
    (λ t is. subst (λ d. are_plain (d ∷ bs) ≡ true) (sym (eqb-true b 120 t)) (hexadecimal_plain bs c is)) (λ is. decimal_plain (b ∷ bs) c is)

known : (name word : List ℕ) → are_plain word ≡ true → bytes_eq name word ≡ true → are_plain name ≡ true
known name word plain e = subst (λ l. are_plain l ≡ true) (sym ((bytes_eq-Decides name word).0 e)) plain

entity_plain : (name : List ℕ) (c : ℕ) → entity_reference name ≡ reference.Character c → are_plain name ≡ true
entity_plain name c e =
    peel c (bytes_eq name (codes "amp")) _ _ e (λ t is. known name (codes "amp") refl t)
    (λ e. peel c (bytes_eq name (codes "lt")) _ _ e (λ t is. known name (codes "lt") refl t)
    (λ e. peel c (bytes_eq name (codes "gt")) _ _ e (λ t is. known name (codes "gt") refl t)
    (λ e. peel c (bytes_eq name (codes "apos")) _ _ e (λ t is. known name (codes "apos") refl t)
    (λ e. peel c (bytes_eq name (codes "quot")) _ _ e (λ t is. known name (codes "quot") refl t)
    (λ e. absurd (last (is_name name) e))))))
  where
    last : (b : Bool) → (if b then reference.Unknown else reference.Malformed) ≡ reference.Character c → ⊥
    last true e = cc
    last false e = cc

referred_plain : (name : List ℕ) (c : ℕ) → referred name ≡ reference.Character c → are_plain name ≡ true
unfolding referred
referred_plain [] c e = refl
referred_plain (b ∷ bs) c e =
    peel c (b == 35) (character_reference bs) (entity_reference (b ∷ bs)) e
    (λ t is. subst (λ d. are_plain (d ∷ bs) ≡ true) (sym (eqb-true b 35 t)) (numbered_plain bs c is)) (λ is. entity_plain (b ∷ bs) c is)

-- a reference is whole
pub reference_ends : (hand pending chars token : List ℕ) (b c : ℕ) → MarkIn hand chars (38 ∷ token) → continues pending b ≡ true → b ≡ 59 → referred token ≡ reference.Character c
    → (r : Bool) (n : ℕ) → TextIn (hand ++ b ∷ []) (held_after pending b) (chars ++ encode_utf8 c) false r n
reference_ends hand pending chars token b c h on is says r n =
    let none = (ascii_alone pending b (omega (arith, is)) on).1 in
    let all : hand ++ b ∷ [] ≡ h.text ++ (38 ∷ (token ++ 59 ∷ [])) = ap (λ l. l ++ b ∷ []) h.hand_is ∙ append_assoc h.text (38 ∷ token) (b ∷ []) ∙ ap (λ d. h.text ++ (38 ∷ (token ++ d ∷ []))) is in
    let plain : are_plain (38 ∷ (token ++ 59 ∷ [])) ≡ true = plain-append token (59 ∷ []) ∙ and_from _ _ (referred_plain token c says) refl in
    let whole = h.text ++ (38 ∷ (token ++ 59 ∷ [])) in
    record {
      whole = whole;
      hand_is = all ∙ sym (append-nil whole) ∙ ap (λ p. whole ++ p) (sym none);
      judged = subst (λ l. Judged l (held_after pending b)) (sym all) (subst (Judged whole) (sym none) (plain_judged h.text (38 ∷ (token ++ 59 ∷ [])) h.judged plain));
      seen = front_seen whole (chars ++ encode_utf8 c) (reference_front h.text chars h.returned h.brackets h.seen token c says);
    }

-- ---- a CDATA section opens

pub opens_more : (token : List ℕ) (b : ℕ) → OpensSection token → (length token == 8) ≡ false → (b == slice_index (codes "<![CDATA[") (length token)) ≡ true → OpensSection (token ++ b ∷ [])
opens_more token b h apart e =
    let n = length token in
    let small : n < 9 = let l = h.1 in omega arith in
    let step = (take_at_read (codes "<![CDATA[") n 0 small).1 in
    let is = eqb-true b (slice_index (codes "<![CDATA[") n) e in
    let len = length-append token (b ∷ []) in (
      ap (λ l. l ++ b ∷ []) h.0 ∙ ap (λ d. take n (codes "<![CDATA[") ++ d ∷ []) is ∙ sym step ∙ ap (λ m. take m (codes "<![CDATA[")) (sym len),
      let l = h.1 in let other = eqb-false n 8 apart in omega (arith, len, l, other),
    )

pub section_opens : (hand pending chars token : List ℕ) (b : ℕ) → OpensSection token → MarkIn hand chars token → continues pending b ≡ true → (length token == 8) ≡ true → (b == slice_index (codes "<![CDATA[") (length token)) ≡ true
    → SectionIn (hand ++ b ∷ []) (held_after pending b) chars false 0
section_opens hand pending chars token b opens h on eight e =
    let n = eqb-true (length token) 8 eight in
    let is : b ≡ 91 = eqb-true b (slice_index (codes "<![CDATA[") (length token)) e ∙ ap (slice_index (codes "<![CDATA[")) n in
    let none = (ascii_alone pending b (omega (arith, is)) on).1 in
    let token_is : token ++ b ∷ [] ≡ codes "<![CDATA[" = ap (λ l. l ++ b ∷ []) (opens.0 ∙ ap (λ m. take m (codes "<![CDATA[")) n) ∙ ap (λ d. take 8 (codes "<![CDATA[") ++ d ∷ []) is in
    let all : hand ++ b ∷ [] ≡ h.text ++ codes "<![CDATA[" = ap (λ l. l ++ b ∷ []) h.hand_is ∙ append_assoc h.text token (b ∷ []) ∙ ap (λ l. h.text ++ l) token_is in
    record {
      text = h.text;
      says = chars;
      text_returned = h.returned;
      text_brackets = h.brackets;
      seen = h.seen;
      inside = [];
      said = [];
      whole = [];
      whole_said = [];
      whole_is = refl;
      gathered = nothing_gathered;
      inside_says = refl;
      whole_says = refl;
      few = omega arith;
      chars_are = sym (append-nil chars);
      judged = subst (λ l. Judged l (held_after pending b)) (sym all) (subst (Judged (h.text ++ codes "<![CDATA[")) (sym none) (plain_judged h.text (codes "<![CDATA[") h.judged refl));
      hand_is = all ∙ ap (λ p. h.text ++ (codes "<![CDATA[" ++ p)) (sym none);
    }

-- ---- a byte of a CDATA section

pub section_waits : (hand pending chars : List ℕ) (r : Bool) (n b : ℕ) → SectionIn hand pending chars r n → continues pending b ≡ true → ends_character pending b ≡ false → SectionIn (hand ++ b ∷ []) (held_after pending b) chars r n
section_waits hand pending chars r n b h c e = record {
  text = h.text;
  says = h.says;
  text_returned = h.text_returned;
  text_brackets = h.text_brackets;
  seen = h.seen;
  inside = h.inside;
  said = h.said;
  whole = h.whole;
  whole_said = h.whole_said;
  whole_is = h.whole_is;
  gathered = h.gathered;
  inside_says = h.inside_says;
  whole_says = h.whole_says;
  few = h.few;
  chars_are = h.chars_are;
  judged = byte_judged hand pending b h.judged c (λ t. absurd (true≢false (sym t ∙ e)));
  hand_is = ap (λ l. l ++ b ∷ []) h.hand_is ∙ four-append h.text (codes "<![CDATA[") h.whole pending (b ∷ []) ∙ ap (λ p. h.text ++ (codes "<![CDATA[" ++ (h.whole ++ p))) (sym (grown_after pending b c e));
}

kept_more : (n : ℕ) → n < 2 → (kept_back n ++ 93 ∷ [] ≡ kept_back (brackets_after n 93)) × (brackets_after n 93 ≤ 2)
kept_more zero h = (refl, omega arith)
kept_more (suc zero) h = (refl, omega arith)
kept_more (suc (suc n)) h = absurd (omega (arith, h))

module _ (hand pending chars : List ℕ) (r : Bool) (n b : ℕ) (h : SectionIn hand pending chars r n) (c : continues pending b ≡ true) (e : ends_character pending b ≡ true) (free : ends_forbidden_character pending b ≡ false) where
  judged_on : Judged (hand ++ b ∷ []) (held_after pending b)
  judged_on = byte_judged hand pending b h.judged c (λ t. free)

  -- `]]>`
  pub section_ends : (n == 2 && b == 62) ≡ true → (in_run_returned : Bool) (in_run_brackets : ℕ) → TextIn (hand ++ b ∷ []) (held_after pending b) chars false in_run_returned in_run_brackets
  section_ends both x y =
      let p = and_parts (n == 2) (b == 62) both in
      let two = eqb-true n 2 p.0 in
      let is = eqb-true b 62 p.1 in
      let none = ascii_alone pending b (omega (arith, is)) c in
      let whole_is : h.whole ≡ h.inside ++ (93 ∷ 93 ∷ []) = h.whole_is ∙ ap (λ m. h.inside ++ kept_back m) two in
      let no_end = ends_parted h.inside (93 ∷ 93 ∷ []) (ap (ends_after 0) (sym whole_is) ∙ h.gathered.no_end) in
      let all : hand ++ b ∷ [] ≡ h.text ++ (codes "<![CDATA[" ++ (h.inside ++ codes "]]>")) =
      ap (λ l. l ++ b ∷ []) (h.hand_is ∙ ap (λ q. h.text ++ (codes "<![CDATA[" ++ (h.whole ++ q))) none.0 ∙ ap (λ w. h.text ++ (codes "<![CDATA[" ++ (w ++ []))) whole_is)
      ∙ ap (λ d. (h.text ++ (codes "<![CDATA[" ++ ((h.inside ++ (93 ∷ 93 ∷ [])) ++ []))) ++ d ∷ []) is ∙ simp (append_assoc) in
      let whole = h.text ++ (codes "<![CDATA[" ++ (h.inside ++ codes "]]>")) in
      record {
        whole = whole;
        hand_is = all ∙ sym (append-nil whole) ∙ ap (λ q. whole ++ q) (sym none.1);
        judged = judged_on;
        seen = subst (λ l. Seen whole l false 0) (sym h.chars_are) (front_seen whole (h.says ++ h.said) (section_front h.text h.says h.text_returned h.text_brackets h.seen h.inside h.said no_end h.inside_says));
      }

  abbrev next : List ℕ
  next = h.whole ++ (pending ++ b ∷ [])

  next_gathered : (n == 2 && b == 62) ≡ false → Gathered next (h.whole_said ++ said_after r pending b) (b == 13) (brackets_after n b)
  next_gathered open_end = character_gathered h.whole h.whole_said r n pending b h.gathered h.judged.begun e open_end

  next_hand : hand ++ b ∷ [] ≡ h.text ++ (codes "<![CDATA[" ++ (next ++ held_after pending b))
  next_hand = ap (λ l. l ++ b ∷ []) h.hand_is ∙ four-append h.text (codes "<![CDATA[") h.whole pending (b ∷ []) ∙ ap (λ q. h.text ++ (codes "<![CDATA[" ++ q)) (sym (append-nil next) ∙ ap (λ q. next ++ q) (sym (ended_after pending b e)))

  -- a byte other than `]`
  pub section_other : (n == 2 && b == 62) ≡ false → (b == 93) ≡ false → SectionIn (hand ++ b ∷ []) (held_after pending b) ((chars ++ kept_back n) ++ said_after r pending b) (b == 13) 0
  section_other open_end other =
      let none : brackets_after n b ≡ 0 = rw other refl in
      let g : Gathered next (h.whole_said ++ said_after r pending b) (b == 13) 0 = subst (Gathered next (h.whole_said ++ said_after r pending b) (b == 13)) none (next_gathered open_end) in
      let said = (h.said ++ kept_back n) ++ said_after r pending b in
      let same : h.whole_said ++ said_after r pending b ≡ said = ap (λ l. l ++ said_after r pending b) h.whole_says in
      record {
        text = h.text;
        says = h.says;
        text_returned = h.text_returned;
        text_brackets = h.text_brackets;
        seen = h.seen;
        inside = next;
        said = said;
        whole = next;
        whole_said = h.whole_said ++ said_after r pending b;
        whole_is = sym (append-nil next);
        gathered = g;
        inside_says = g.says ∙ same;
        whole_says = same ∙ sym (append-nil said);
        few = omega arith;
        chars_are = ap (λ l. (l ++ kept_back n) ++ said_after r pending b) h.chars_are ∙ simp (append_assoc);
        judged = judged_on;
        hand_is = next_hand;
      }

  module _ (bracket : (b == 93) ≡ true) where
    alone : pending ≡ []
    alone = let is = eqb-true b 93 bracket in (ascii_alone pending b (omega (arith, is)) c).0

    says_bracket : said_after r pending b ≡ 93 ∷ []
    unfolding utf8_next
    says_bracket = ap (λ q. said_after r q b) alone ∙ ap (said_after r []) (eqb-true b 93 bracket) ∙ one r
      where
        one : (r : Bool) → said_after r [] 93 ≡ 93 ∷ []
        one true = refl
        one false = refl

    next_is : next ≡ h.inside ++ (kept_back n ++ 93 ∷ [])
    next_is = ap (λ w. w ++ (pending ++ b ∷ [])) h.whole_is ∙ ap (λ q. (h.inside ++ kept_back n) ++ (q ++ b ∷ [])) alone ∙ ap (λ d. (h.inside ++ kept_back n) ++ d ∷ []) (eqb-true b 93 bracket) ∙ append_assoc h.inside (kept_back n) (93 ∷ [])

    no_end : (n == 2 && b == 62) ≡ false
    no_end = and_right (n == 2) (b == 62) (ap (λ d. d == 62) (eqb-true b 93 bracket))

    bracket_gathered : Gathered next (h.whole_said ++ 93 ∷ []) false (brackets_after n 93)
    bracket_gathered =
        let is = eqb-true b 93 bracket in
        let g = next_gathered no_end in
        record {
          no_end = g.no_end;
          returned_is = g.returned_is ∙ ap (λ d. d == 13) is;
          brackets_are = g.brackets_are ∙ ap (brackets_after n) is;
          says = g.says ∙ ap (λ l. h.whole_said ++ l) says_bracket;
        }

    -- a third `]` in a row
    pub section_third : (n == 2) ≡ true → SectionIn (hand ++ b ∷ []) (held_after pending b) (chars ++ 93 ∷ []) false n
    section_third third =
        let two = eqb-true n 2 third in
        let counted : brackets_after n 93 ≡ n = ap (λ m. brackets_after m 93) two ∙ sym two in
        let shifted : kept_back n ++ 93 ∷ [] ≡ (93 ∷ []) ++ kept_back n = ap (λ m. kept_back m ++ 93 ∷ []) two ∙ ap (λ m. (93 ∷ []) ++ kept_back m) (sym two) in
        record {
          text = h.text;
          says = h.says;
          text_returned = h.text_returned;
          text_brackets = h.text_brackets;
          seen = h.seen;
          inside = h.inside ++ 93 ∷ [];
          said = h.said ++ 93 ∷ [];
          whole = next;
          whole_said = h.whole_said ++ 93 ∷ [];
          whole_is = next_is ∙ ap (λ l. h.inside ++ l) shifted ∙ sym (append_assoc h.inside (93 ∷ []) (kept_back n));
          gathered = subst (Gathered next (h.whole_said ++ 93 ∷ []) false) counted bracket_gathered;
          inside_says = line_ends_bracket h.inside ∙ ap (λ l. l ++ 93 ∷ []) h.inside_says;
          whole_says = ap (λ l. l ++ 93 ∷ []) h.whole_says ∙ append_assoc h.said (kept_back n) (93 ∷ []) ∙ ap (λ l. h.said ++ l) shifted ∙ sym (append_assoc h.said (93 ∷ []) (kept_back n));
          few = h.few;
          chars_are = ap (λ l. l ++ 93 ∷ []) h.chars_are ∙ append_assoc h.says h.said (93 ∷ []);
          judged = judged_on;
          hand_is = next_hand;
        }

    -- the first or the second
    pub section_bracket : (n == 2) ≡ false → SectionIn (hand ++ b ∷ []) (held_after pending b) chars false (brackets_after n 93)
    section_bracket short =
        let counted = kept_more n (let l = h.few in let other = eqb-false n 2 short in omega (arith, l, other)) in
        record {
          text = h.text;
          says = h.says;
          text_returned = h.text_returned;
          text_brackets = h.text_brackets;
          seen = h.seen;
          inside = h.inside;
          said = h.said;
          whole = next;
          whole_said = h.whole_said ++ 93 ∷ [];
          whole_is = next_is ∙ ap (λ l. h.inside ++ l) counted.0;
          gathered = bracket_gathered;
          inside_says = h.inside_says;
          whole_says = ap (λ l. l ++ 93 ∷ []) h.whole_says ∙ append_assoc h.said (kept_back n) (93 ∷ []) ∙ ap (λ l. h.said ++ l) counted.0;
          few = counted.1;
          chars_are = h.chars_are;
          judged = judged_on;
          hand_is = next_hand;
        }
