-- A byte belongs to one token: bytes are whole tokens and a token in hand in one way.
use Rattle.std.proofs.Common.{◌≡◌, ◌≢◌, ℕ, ◌⊎◌, inl, inr, ⊎_elim, true, false, not, ◌&&◌, ◌==◌, List, [], ◌∷◌, ◌++◌, Option, Some, None, codes, refl, sym, ap, subst, ◌∙◌, drop, length, append_assoc, append-nil, arith}
use Rattle.std.proofs.lemmas.Bool.{and_parts, false≢true, or_parts, true≢false}
use Rattle.std.specs.List.{list_all}
use Rattle.std.specs.Option.{is_some}
use Rattle.xml_tokens.specs.Tags.{quote_behind}
use Rattle.xml_framer.specs.ManyBytes.{quote_after}
use Rattle.law_xml.proofs.OneText.{one_section}
use Rattle.law_xml.specs.Offsets.{AreBefore, AreTokens, IsAtToken, IsOpen, IsRun, IsToken, IsWhole, a_markup, a_reference, a_text, begins_declaration_end, character_left, has_declaration_end, is_no_end, is_no_markup, is_open_tag, leads_tag, no_token, one_more, open_declaration, open_section, open_tag, opening_declaration, opening_section, whole_declaration, whole_reference, whole_section, whole_tag}
use Rattle.law_xml.specs.Streams.{position_of}
use Rattle.law_xml.specs.Texts.{has_section_end}
use Rattle.law_xml.proofs.OffsetMarks.{some_none, tails}

pub heads : (x y : ℕ) (xs ys : List ℕ) → x ∷ xs ≡ y ∷ ys → x ≡ y
heads x y xs ys e = cc

-- ---- a tag has one first `>` outside quotes

abbrev IsClosed : Option ℕ → List ℕ → Type 0
IsClosed q more = (is_open_tag q more ≡ true) × (quote_after q more ≡ None)

-- it isn't among the bytes of a tag that hasn't ended
no_greater : (q : Option ℕ) (more : List ℕ) → q ≡ None → is_open_tag q (62 ∷ more) ≡ true → ⊥
no_greater None more is h = false≢true h
no_greater (Some x) more is h = let e : None ≡ Some x = sym is in cc

one_tag : (q : Option ℕ) (a c x y : List ℕ) → IsClosed q a → IsClosed q c → a ++ 62 ∷ x ≡ c ++ 62 ∷ y → (a ≡ c) × (x ≡ y)
one_tag q [] [] x y h k e = (refl, tails 62 62 x y e)
one_tag q [] (d ∷ ds) x y h k e = absurd (no_greater q ds h.1 (subst (λ z. is_open_tag q (z ∷ ds) ≡ true) (sym (heads 62 d x (ds ++ 62 ∷ y) e)) k.0))
one_tag q (c ∷ cs) [] x y h k e = absurd (no_greater q cs k.1 (subst (λ z. is_open_tag q (z ∷ cs) ≡ true) (heads c 62 (cs ++ 62 ∷ x) y e) h.0))
one_tag q (c ∷ cs) (d ∷ ds) x y h k e =
    let same = heads c d (cs ++ 62 ∷ x) (ds ++ 62 ∷ y) e in
    let p = (and_parts (not (c == 62 && not (is_some q))) (is_open_tag (quote_behind q c) cs) h.0).1 in
    let r = (and_parts (not (d == 62 && not (is_some q))) (is_open_tag (quote_behind q d) ds) k.0).1 in
    let next : IsClosed (quote_behind q c) ds = subst (λ z. IsClosed (quote_behind q z) ds) (sym same) (r, k.1) in
    let more = one_tag (quote_behind q c) cs ds x y (p, h.1) next (tails c d (cs ++ 62 ∷ x) (ds ++ 62 ∷ y) e) in
    ((λ i. same i ∷ more.0 i), more.1)

tag_ended : (q : Option ℕ) (a x c : List ℕ) → IsClosed q a → is_open_tag q c ≡ true → a ++ 62 ∷ x ≡ c → ⊥
tag_ended q [] x c h k e = no_greater q x h.1 (subst (λ l. is_open_tag q l ≡ true) (sym e) k)
tag_ended q (b ∷ bs) x c h k e =
    let p = (and_parts (not (b == 62 && not (is_some q))) (is_open_tag (quote_behind q b) bs) h.0).1 in
    let r = (and_parts (not (b == 62 && not (is_some q))) (is_open_tag (quote_behind q b) (bs ++ 62 ∷ x)) (subst (λ l. is_open_tag q l ≡ true) (sym e) k)).1 in
    tag_ended (quote_behind q b) bs x (bs ++ 62 ∷ x) (p, h.1) r refl

-- ---- a reference has one first `;`

one_name : (a c x y : List ℕ) → list_all is_no_end a ≡ true → list_all is_no_end c ≡ true → a ++ 59 ∷ x ≡ c ++ 59 ∷ y → (a ≡ c) × (x ≡ y)
one_name [] [] x y h k e = (refl, tails 59 59 x y e)
one_name [] (d ∷ ds) x y h k e = absurd (false≢true (subst (λ z. is_no_end z ≡ true) (sym (heads 59 d x (ds ++ 59 ∷ y) e)) (and_parts (is_no_end d) (list_all is_no_end ds) k).0))
one_name (c ∷ cs) [] x y h k e = absurd (false≢true (subst (λ z. is_no_end z ≡ true) (heads c 59 (cs ++ 59 ∷ x) y e) (and_parts (is_no_end c) (list_all is_no_end cs) h).0))
one_name (c ∷ cs) (d ∷ ds) x y h k e =
    let more = one_name cs ds x y (and_parts (is_no_end c) (list_all is_no_end cs) h).1 (and_parts (is_no_end d) (list_all is_no_end ds) k).1 (tails c d (cs ++ 59 ∷ x) (ds ++ 59 ∷ y) e) in
    let same = heads c d (cs ++ 59 ∷ x) (ds ++ 59 ∷ y) e in
    ((λ i. same i ∷ more.0 i), more.1)

name_ended : (a x c : List ℕ) → list_all is_no_end c ≡ true → a ++ 59 ∷ x ≡ c → ⊥
name_ended a x c k e = ended a (subst (λ l. list_all is_no_end l ≡ true) (sym e) k)
  where
    ended : (a : List ℕ) → list_all is_no_end (a ++ 59 ∷ x) ≡ true → ⊥
    ended [] h = false≢true h
    ended (b ∷ bs) h = ended bs (and_parts (is_no_end b) (list_all is_no_end (bs ++ 59 ∷ x)) h).1

-- ---- a declaration has one first `?>`

no_asked : (d : ℕ) (ds x y : List ℕ) → has_declaration_end (d ∷ ds) ≡ false → 63 ∷ 62 ∷ x ≡ (d ∷ ds) ++ (63 ∷ 62 ∷ y) → ⊥
no_asked d [] x y h e = let second : ◌≡◌ {A = ℕ} 62 63 = cc in omega (arith, second)
no_asked d (c ∷ cs) x y h e =
    let first : 63 ≡ d = cc in
    let second : 62 ≡ c = cc in
    let here = (or_parts (begins_declaration_end (d ∷ c ∷ cs)) (has_declaration_end (c ∷ cs)) h).0 in
    true≢false (subst (λ z. begins_declaration_end (63 ∷ z ∷ cs) ≡ false) (sym second) (subst (λ z. begins_declaration_end (z ∷ c ∷ cs) ≡ false) (sym first) here))

one_declaration : (a c x y : List ℕ) → has_declaration_end a ≡ false → has_declaration_end c ≡ false → a ++ (63 ∷ 62 ∷ x) ≡ c ++ (63 ∷ 62 ∷ y) → (a ≡ c) × (x ≡ y)
one_declaration [] [] x y p q e = (refl, tails 62 62 x y (tails 63 63 (62 ∷ x) (62 ∷ y) e))
one_declaration [] (d ∷ ds) x y p q e = absurd (no_asked d ds x y q e)
one_declaration (c ∷ cs) [] x y p q e = absurd (no_asked c cs y x p (sym e))
one_declaration (c ∷ cs) (d ∷ ds) x y p q e =
    let more = one_declaration cs ds x y (or_parts (begins_declaration_end (c ∷ cs)) (has_declaration_end cs) p).1 (or_parts (begins_declaration_end (d ∷ ds)) (has_declaration_end ds) q).1
    (tails c d (cs ++ (63 ∷ 62 ∷ x)) (ds ++ (63 ∷ 62 ∷ y)) e) in
    let same = heads c d (cs ++ (63 ∷ 62 ∷ x)) (ds ++ (63 ∷ 62 ∷ y)) e in
    ((λ i. same i ∷ more.0 i), more.1)

declaration_ended : (a x c : List ℕ) → has_declaration_end c ≡ false → a ++ (63 ∷ 62 ∷ x) ≡ c → ⊥
declaration_ended a x c k e = ended a (subst (λ l. has_declaration_end l ≡ false) (sym e) k)
  where
    ended : (a : List ℕ) → has_declaration_end (a ++ (63 ∷ 62 ∷ x)) ≡ false → ⊥
    ended [] h = true≢false h
    ended (b ∷ bs) h = ended bs (or_parts (begins_declaration_end (b ∷ (bs ++ (63 ∷ 62 ∷ x)))) (has_declaration_end (bs ++ (63 ∷ 62 ∷ x))) h).1

section_ended : (a x c : List ℕ) → has_section_end c ≡ false → a ++ (93 ∷ 93 ∷ 62 ∷ x) ≡ c → ⊥
section_ended a x c k e = ended a (subst (λ l. has_section_end l ≡ false) (sym e) k)
  where
    ended : (a : List ℕ) → has_section_end (a ++ (93 ∷ 93 ∷ 62 ∷ x)) ≡ false → ⊥
    ended [] h = true≢false h
    ended (b ∷ bs) h = ended bs (or_parts _ (has_section_end (bs ++ (93 ∷ 93 ∷ 62 ∷ x))) h).1

-- ---- no whole token begins another token

-- what stands after the `<` of a tag
no_special : (k : ℕ) (more x rest : List ℕ) → leads_tag more ≡ true → more ++ 62 ∷ x ≡ k ∷ rest → (k ≡ 33) ⊎ (k ≡ 63) → ⊥
no_special k [] x rest h e special =
    let first : 62 ≡ k = heads 62 k x rest e in ⊎_elim (λ (is : k ≡ 33). omega (arith, first, is)) (λ (is : k ≡ 63). omega (arith, first, is)) special
no_special k (m ∷ ms) x rest h e special =
    let first = heads m k (ms ++ 62 ∷ x) rest e in
    ⊎_elim (λ (is : k ≡ 33). false≢true (subst (λ z. leads_tag (z ∷ ms) ≡ true) (first ∙ is) h)) (λ (is : k ≡ 63). false≢true (subst (λ z. leads_tag (z ∷ ms) ≡ true) (first ∙ is) h)) special

apart : (x y : ℕ) (xs ys : List ℕ) → x ≢ y → x ∷ xs ≡ y ∷ ys → ⊥
apart x y xs ys other e = other (heads x y xs ys e)

less_amp : ◌≢◌ {A = ℕ} 60 38
less_amp e = omega (arith, e)

amp_less : ◌≢◌ {A = ℕ} 38 60
amp_less e = omega (arith, e)

bang_question : ◌≢◌ {A = ℕ} 33 63
bang_question e = omega (arith, e)

question_bang : ◌≢◌ {A = ℕ} 63 33
question_bang e = omega (arith, e)

-- whole tokens with bytes after them
tag_then : (a m x : List ℕ) → a ≡ 60 ∷ (m ++ 62 ∷ []) → a ++ x ≡ 60 ∷ (m ++ 62 ∷ x)
tag_then a m x is = ap (λ l. l ++ x) is ∙ ap (λ l. 60 ∷ l) (append_assoc m (62 ∷ []) x)

reference_then : (a n x : List ℕ) → a ≡ 38 ∷ (n ++ 59 ∷ []) → a ++ x ≡ 38 ∷ (n ++ 59 ∷ x)
reference_then a n x is = ap (λ l. l ++ x) is ∙ ap (λ l. 38 ∷ l) (append_assoc n (59 ∷ []) x)

section_then : (a i x : List ℕ) → a ≡ codes "<![CDATA[" ++ (i ++ codes "]]>") → a ++ x ≡ codes "<![CDATA[" ++ (i ++ (93 ∷ 93 ∷ 62 ∷ x))
section_then a i x is = ap (λ l. l ++ x) is ∙ ap (λ l. codes "<![CDATA[" ++ l) (append_assoc i (codes "]]>") x)

declaration_then : (a i x : List ℕ) (space : ℕ) → a ≡ codes "<?xml" ++ space ∷ (i ++ codes "?>") → a ++ x ≡ codes "<?xml" ++ space ∷ (i ++ (63 ∷ 62 ∷ x))
declaration_then a i x space is = ap (λ l. l ++ x) is ∙ ap (λ l. codes "<?xml" ++ space ∷ l) (append_assoc i (codes "?>") x)

one_whole : (a c x y : List ℕ) → IsWhole a → IsWhole c → a ++ x ≡ c ++ y → (a ≡ c) × (x ≡ y)
one_whole a c x y (whole_tag _ m is leads opens quote) (whole_tag _ n are leads_too opens_too quote_too) e =
    let all = sym (tag_then a m x is) ∙ e ∙ tag_then c n y are in
    let r = one_tag None m n x y (opens, quote) (opens_too, quote_too) (tails 60 60 (m ++ 62 ∷ x) (n ++ 62 ∷ y) all) in
    (is ∙ ap (λ l. 60 ∷ (l ++ 62 ∷ [])) r.0 ∙ sym are, r.1)
one_whole a c x y (whole_tag _ m is leads opens quote) (whole_reference _ n are named) e = absurd (apart 60 38 _ _ less_amp (sym (tag_then a m x is) ∙ e ∙ reference_then c n y are))
one_whole a c x y (whole_tag _ m is leads opens quote) (whole_section _ i are none) e =
    absurd (no_special 33 m x _ leads (tails 60 60 _ _ (sym (tag_then a m x is) ∙ e ∙ section_then c i y are)) (inl refl))
one_whole a c x y (whole_tag _ m is leads opens quote) (whole_declaration _ i space are white none) e =
    absurd (no_special 63 m x _ leads (tails 60 60 _ _ (sym (tag_then a m x is) ∙ e ∙ declaration_then c i y space are)) (inr refl))
one_whole a c x y (whole_reference _ n is named) (whole_tag _ m are leads opens quote) e = absurd (apart 38 60 _ _ amp_less (sym (reference_then a n x is) ∙ e ∙ tag_then c m y are))
one_whole a c x y (whole_reference _ n is named) (whole_reference _ k are named_too) e =
    let r = one_name n k x y named named_too (tails 38 38 (n ++ 59 ∷ x) (k ++ 59 ∷ y) (sym (reference_then a n x is) ∙ e ∙ reference_then c k y are)) in
    (is ∙ ap (λ l. 38 ∷ (l ++ 59 ∷ [])) r.0 ∙ sym are, r.1)
one_whole a c x y (whole_reference _ n is named) (whole_section _ i are none) e = absurd (apart 38 60 _ _ amp_less (sym (reference_then a n x is) ∙ e ∙ section_then c i y are))
one_whole a c x y (whole_reference _ n is named) (whole_declaration _ i space are white none) e = absurd (apart 38 60 _ _ amp_less (sym (reference_then a n x is) ∙ e ∙ declaration_then c i y space are))
one_whole a c x y (whole_section _ i is none) (whole_tag _ m are leads opens quote) e =
    absurd (no_special 33 m y _ leads (tails 60 60 _ _ (sym (tag_then c m y are) ∙ sym e ∙ section_then a i x is)) (inl refl))
one_whole a c x y (whole_section _ i is none) (whole_reference _ n are named) e = absurd (apart 60 38 _ _ less_amp (sym (section_then a i x is) ∙ e ∙ reference_then c n y are))
one_whole a c x y (whole_section _ i is none) (whole_section _ j are none_too) e =
    let r = one_section i j x y none none_too (ap (drop 9) (sym (section_then a i x is) ∙ e ∙ section_then c j y are)) in
    (is ∙ ap (λ l. codes "<![CDATA[" ++ (l ++ codes "]]>")) r.0 ∙ sym are, r.1)
one_whole a c x y (whole_section _ i is none) (whole_declaration _ j space are white none_too) e =
    absurd (apart 33 63 _ _ bang_question (tails 60 60 _ _ (sym (section_then a i x is) ∙ e ∙ declaration_then c j y space are)))
one_whole a c x y (whole_declaration _ i space is white none) (whole_tag _ m are leads opens quote) e =
    absurd (no_special 63 m y _ leads (tails 60 60 _ _ (sym (tag_then c m y are) ∙ sym e ∙ declaration_then a i x space is)) (inr refl))
one_whole a c x y (whole_declaration _ i space is white none) (whole_reference _ n are named) e = absurd (apart 60 38 _ _ less_amp (sym (declaration_then a i x space is) ∙ e ∙ reference_then c n y are))
one_whole a c x y (whole_declaration _ i space is white none) (whole_section _ j are none_too) e =
    absurd (apart 63 33 _ _ question_bang (tails 60 60 _ _ (sym (declaration_then a i x space is) ∙ e ∙ section_then c j y are)))
one_whole a c x y (whole_declaration _ i space is white none) (whole_declaration _ j other are white_too none_too) e =
    let all = ap (drop 5) (sym (declaration_then a i x space is) ∙ e ∙ declaration_then c j y other are) in
    let first = heads space other (i ++ (63 ∷ 62 ∷ x)) (j ++ (63 ∷ 62 ∷ y)) all in
    let r = one_declaration i j x y none none_too (tails space other (i ++ (63 ∷ 62 ∷ x)) (j ++ (63 ∷ 62 ∷ y)) all) in
    (is ∙ ap (λ l. codes "<?xml" ++ space ∷ (l ++ codes "?>")) r.0 ∙ ap (λ k. codes "<?xml" ++ k ∷ (j ++ codes "?>")) first ∙ sym are, r.1)

not_empty : (i : List ℕ) (k : ℕ) (x rest : List ℕ) → [] ≡ (i ++ k ∷ x) ++ rest → ⊥
not_empty [] k x rest e = some_none k (x ++ rest) (sym e)
not_empty (b ∷ bs) k x rest e = some_none b ((bs ++ k ∷ x) ++ rest) (sym e)

-- open markup doesn't begin with a whole token
open_markup : (a x more : List ℕ) → IsWhole a → IsOpen more → a ++ x ≡ 60 ∷ more → ⊥
open_markup a x more (whole_tag _ m is leads opens quote) k e = tag_first (tails 60 60 (m ++ 62 ∷ x) more (sym (tag_then a m x is) ∙ e)) k
  where
    tag_first : m ++ 62 ∷ x ≡ more → IsOpen more → ⊥
    tag_first f (open_tag _ leads_too opens_too) = tag_ended None m x more (opens, quote) opens_too f
    tag_first f (opening_section _ rest due) = no_special 33 m (x ++ rest) _ leads (sym (append_assoc m (62 ∷ x) rest) ∙ ap (λ l. l ++ rest) f ∙ sym due) (inl refl)
    tag_first f (open_section _ inside due none) = no_special 33 m x _ leads (f ∙ due) (inl refl)
    tag_first f (opening_declaration _ rest due) = no_special 63 m (x ++ rest) _ leads (sym (append_assoc m (62 ∷ x) rest) ∙ ap (λ l. l ++ rest) f ∙ sym due) (inr refl)
    tag_first f (open_declaration _ inside space due white none) = no_special 63 m x _ leads (f ∙ due) (inr refl)
open_markup a x more (whole_reference _ n is named) k e = apart 38 60 _ _ amp_less (sym (reference_then a n x is) ∙ e)
open_markup a x more (whole_section _ i is none) k e = section_first (tails 60 60 (codes "![CDATA[" ++ (i ++ (93 ∷ 93 ∷ 62 ∷ x))) more (sym (section_then a i x is) ∙ e)) k
  where
    section_first : codes "![CDATA[" ++ (i ++ (93 ∷ 93 ∷ 62 ∷ x)) ≡ more → IsOpen more → ⊥
    section_first f (open_tag _ leads opens) = false≢true (subst (λ l. leads_tag l ≡ true) (sym f) leads)
    section_first f (opening_section _ rest due) = not_empty i 93 (93 ∷ 62 ∷ x) rest (ap (drop 8) (due ∙ ap (λ l. l ++ rest) (sym f)))
    section_first f (open_section _ inside due none_too) = section_ended i x inside none_too (ap (drop 8) (f ∙ due))
    section_first f (opening_declaration _ rest due) = apart 63 33 _ _ question_bang (due ∙ ap (λ l. l ++ rest) (sym f))
    section_first f (open_declaration _ inside space due white none_too) = apart 33 63 _ _ bang_question (f ∙ due)
open_markup a x more (whole_declaration _ i space is white none) k e = declaration_first (tails 60 60 (codes "?xml" ++ space ∷ (i ++ (63 ∷ 62 ∷ x))) more (sym (declaration_then a i x space is) ∙ e)) k
  where
    declaration_first : codes "?xml" ++ space ∷ (i ++ (63 ∷ 62 ∷ x)) ≡ more → IsOpen more → ⊥
    declaration_first f (open_tag _ leads opens) = false≢true (subst (λ l. leads_tag l ≡ true) (sym f) leads)
    declaration_first f (opening_section _ rest due) = apart 33 63 _ _ bang_question (due ∙ ap (λ l. l ++ rest) (sym f))
    declaration_first f (open_section _ inside due none_too) = apart 63 33 _ _ question_bang (f ∙ due)
    declaration_first f (opening_declaration _ rest due) = some_none space ((i ++ (63 ∷ 62 ∷ x)) ++ rest) (sym (ap (drop 4) (due ∙ ap (λ l. l ++ rest) (sym f))))
    declaration_first f (open_declaration _ inside other due white_too none_too) =
        declaration_ended i x inside none_too (tails space other (i ++ (63 ∷ 62 ∷ x)) inside (ap (drop 4) (f ∙ due)))

-- nor does an open reference
open_reference : (a x name : List ℕ) → IsWhole a → list_all is_no_end name ≡ true → a ++ x ≡ 38 ∷ name → ⊥
open_reference a x name (whole_tag _ m is leads opens quote) k e = apart 60 38 _ _ less_amp (sym (tag_then a m x is) ∙ e)
open_reference a x name (whole_reference _ n is named) k e = name_ended n x name k (tails 38 38 (n ++ 59 ∷ x) name (sym (reference_then a n x is) ∙ e))
open_reference a x name (whole_section _ i is none) k e = apart 60 38 _ _ less_amp (sym (section_then a i x is) ∙ e)
open_reference a x name (whole_declaration _ i space is white none) k e = apart 60 38 _ _ less_amp (sym (declaration_then a i x space is) ∙ e)

-- ---- texts run up to the first `<` or `&`

-- nothing, or `<` or `&` first
abbrev pub BeginsMarked : List ℕ → Type 0
BeginsMarked [] = Unit {0}
BeginsMarked (b ∷ bs) = is_no_markup b ≡ false

whole_marked : (a x : List ℕ) → IsWhole a → BeginsMarked (a ++ x)
whole_marked a x (whole_tag _ m is leads opens quote) = subst BeginsMarked (sym (tag_then a m x is)) refl
whole_marked a x (whole_reference _ n is named) = subst BeginsMarked (sym (reference_then a n x is)) refl
whole_marked a x (whole_section _ i is none) = subst BeginsMarked (sym (section_then a i x is)) refl
whole_marked a x (whole_declaration _ i space is white none) = subst BeginsMarked (sym (declaration_then a i x space is)) refl

pub one_run : (t k x y : List ℕ) → IsRun t → IsRun k → BeginsMarked x → BeginsMarked y → t ++ x ≡ k ++ y → (t ≡ k) × (x ≡ y)
one_run [] [] x y h j p q e = (refl, e)
one_run [] (d ∷ ds) x y h j p q e =
    let first : is_no_markup d ≡ false = subst BeginsMarked e p in absurd (true≢false (sym (and_parts (is_no_markup d) (list_all is_no_markup ds) j).0 ∙ first))
one_run (c ∷ cs) [] x y h j p q e =
    let first : is_no_markup c ≡ false = subst BeginsMarked (sym e) q in absurd (true≢false (sym (and_parts (is_no_markup c) (list_all is_no_markup cs) h).0 ∙ first))
one_run (c ∷ cs) (d ∷ ds) x y h j p q e =
    let more = one_run cs ds x y (and_parts (is_no_markup c) (list_all is_no_markup cs) h).1 (and_parts (is_no_markup d) (list_all is_no_markup ds) j).1 p q (tails c d (cs ++ x) (ds ++ y) e) in
    let same = heads c d (cs ++ x) (ds ++ y) e in
    ((λ i. same i ∷ more.0 i), more.1)

-- ---- tokens from the first on

pub data FromFirst : List ℕ → Type 0 where
  none_left : (bytes : List ℕ) → bytes ≡ [] → FromFirst bytes
  first_then : (bytes text token rest : List ℕ) → IsRun text → IsWhole token → FromFirst rest → bytes ≡ text ++ (token ++ rest) → FromFirst bytes

with_last : (bytes text token : List ℕ) → FromFirst bytes → IsRun text → IsWhole token → FromFirst (bytes ++ (text ++ token))
with_last bytes text token (none_left _ is) run whole =
    first_then _ text token [] run whole (none_left [] refl) (ap (λ l. l ++ (text ++ token)) is ∙ ap (λ l. text ++ l) (sym (append-nil token)))
with_last bytes text token (first_then _ t k rest t_run k_whole more is) run whole =
    first_then _ t k (rest ++ (text ++ token)) t_run k_whole (with_last rest text token more run whole)
    (ap (λ l. l ++ (text ++ token)) is ∙ append_assoc t (k ++ rest) (text ++ token) ∙ ap (λ l. t ++ l) (append_assoc k rest (text ++ token)))

pub from_first : (bytes : List ℕ) → AreTokens bytes → FromFirst bytes
from_first bytes (no_token _ is) = none_left bytes is
from_first bytes (one_more _ before text token tokens run whole is) = subst FromFirst (sym is) (with_last before text token (from_first before tokens) run whole)

-- a token in hand, or nothing
pub data Hand : List ℕ → Type 0 where
  nothing_in_hand : (hand : List ℕ) → hand ≡ [] → Hand hand
  markup_in_hand : (hand more : List ℕ) → hand ≡ 60 ∷ more → IsOpen more → Hand hand
  reference_in_hand : (hand name : List ℕ) → hand ≡ 38 ∷ name → list_all is_no_end name ≡ true → Hand hand

pub hand_marked : (hand : List ℕ) → Hand hand → BeginsMarked hand
hand_marked hand (nothing_in_hand _ is) = subst BeginsMarked (sym is) tt
hand_marked hand (markup_in_hand _ more is opens) = subst BeginsMarked (sym is) refl
hand_marked hand (reference_in_hand _ name is named) = subst BeginsMarked (sym is) refl

whole_some : (a x : List ℕ) → IsWhole a → a ++ x ≡ [] → ⊥
whole_some a x (whole_tag _ m is leads opens quote) e = some_none 60 _ (sym (tag_then a m x is) ∙ e)
whole_some a x (whole_reference _ n is named) e = some_none 38 _ (sym (reference_then a n x is) ∙ e)
whole_some a x (whole_section _ i is none) e = some_none 60 _ (sym (section_then a i x is) ∙ e)
whole_some a x (whole_declaration _ i space is white none) e = some_none 60 _ (sym (declaration_then a i x space is) ∙ e)

no_whole : (a x hand : List ℕ) → IsWhole a → Hand hand → a ++ x ≡ hand → ⊥
no_whole a x hand whole (nothing_in_hand _ is) e = whole_some a x whole (e ∙ is)
no_whole a x hand whole (markup_in_hand _ more is opens) e = open_markup a x more whole opens (e ∙ is)
no_whole a x hand whole (reference_in_hand _ name is named) e = open_reference a x name whole named (e ∙ is)

-- a text and a token in hand after whole tokens
pub record Rest (bytes : List ℕ) : Type 0 where
  pub text : List ℕ
  pub hand : List ℕ
  pub run : IsRun text
  pub held : Hand hand
  pub is : bytes ≡ text ++ hand

no_more : (t k rest z y : List ℕ) → IsRun t → IsWhole k → Rest z → z ≡ (t ++ (k ++ rest)) ++ y → ⊥
no_more t k rest z y run whole r e =
    let all : r.text ++ r.hand ≡ t ++ (k ++ (rest ++ y)) = sym r.is ∙ e ∙ append_assoc t (k ++ rest) y ∙ ap (λ l. t ++ l) (append_assoc k rest y) in
    let split = one_run r.text t r.hand (k ++ (rest ++ y)) r.run run (hand_marked r.hand r.held) (whole_marked k (rest ++ y) whole) all in
    no_whole k (rest ++ y) r.hand whole r.held (sym split.1)

pub one_front : (a c z y : List ℕ) → FromFirst a → FromFirst c → Rest z → Rest y → a ++ z ≡ c ++ y → (a ≡ c) × (z ≡ y)
one_front a c z y (none_left _ is) (none_left _ are) r s e = (is ∙ sym are, sym (ap (λ l. l ++ z) is) ∙ e ∙ ap (λ l. l ++ y) are)
one_front a c z y (none_left _ is) (first_then _ t k rest run whole more are) r s e = absurd (no_more t k rest z y run whole r (sym (ap (λ l. l ++ z) is) ∙ e ∙ ap (λ l. l ++ y) are))
one_front a c z y (first_then _ t k rest run whole more is) (none_left _ are) r s e = absurd (no_more t k rest y z run whole s (sym (ap (λ l. l ++ y) are) ∙ sym e ∙ ap (λ l. l ++ z) is))
one_front a c z y (first_then _ t k rest run whole more is) (first_then _ u l last run_too whole_too more_too are) r s e =
    let left : a ++ z ≡ t ++ (k ++ (rest ++ z)) = ap (λ v. v ++ z) is ∙ append_assoc t (k ++ rest) z ∙ ap (λ v. t ++ v) (append_assoc k rest z) in
    let right : c ++ y ≡ u ++ (l ++ (last ++ y)) = ap (λ v. v ++ y) are ∙ append_assoc u (l ++ last) y ∙ ap (λ v. u ++ v) (append_assoc l last y) in
    let texts = one_run t u (k ++ (rest ++ z)) (l ++ (last ++ y)) run run_too (whole_marked k (rest ++ z) whole) (whole_marked l (last ++ y) whole_too) (sym left ∙ e ∙ right) in
    let tokens = one_whole k l (rest ++ z) (last ++ y) whole whole_too texts.1 in
    let n = one_front rest last z y more more_too r s tokens.1 in
    let inner : k ++ rest ≡ l ++ last = ap (λ v. v ++ rest) tokens.0 ∙ ap (λ v. l ++ v) n.0 in
    (is ∙ ap (λ v. v ++ (k ++ rest)) texts.0 ∙ ap (λ v. u ++ v) inner ∙ sym are, n.1)

-- ---- one offset

-- what a byte's token is, as whole tokens, a text and a token in hand
data Belongs : List ℕ → ℕ → ℕ → Type 0 where
  to_hand : (bytes : List ℕ) (b n : ℕ) (front text hand : List ℕ) (x : ℕ) (xs : List ℕ) → AreTokens front → IsRun text → Hand hand → hand ≡ x ∷ xs → bytes ≡ front ++ (text ++ hand) → n ≡ length (front ++ text) → Belongs bytes b n
  to_amp : (bytes : List ℕ) (b n : ℕ) (front text : List ℕ) → AreTokens front → IsRun text → character_left [] text ≡ [] → bytes ≡ front ++ text → b ≡ 38 → n ≡ length bytes → Belongs bytes b n
  to_text : (bytes : List ℕ) (b n : ℕ) (front text : List ℕ) → AreTokens front → IsRun text → (is_no_markup b ≡ true) ⊎ (character_left [] text ≢ []) → bytes ≡ front ++ text → n ≡ length front → Belongs bytes b n

pub before_hand : (bytes before token : List ℕ) (h : AreBefore before) → bytes ≡ before ++ token → bytes ≡ h.front ++ (h.text ++ token)
before_hand bytes before token h is = is ∙ ap (λ l. l ++ token) h.before_is ∙ append_assoc h.front h.text token

belongs : (bytes : List ℕ) (b : ℕ) (before token : List ℕ) → bytes ≡ before ++ token → IsToken before token b → Belongs bytes b (length before)
belongs bytes b before token is (a_markup _ _ _ more h first opens) =
    to_hand bytes b (length before) h.front h.text token 60 more h.tokens h.is_run (markup_in_hand token more first opens) first (before_hand bytes before token h is) (ap length h.before_is)
belongs bytes b before [] is (a_reference _ _ _ more h first named) =
    to_amp bytes b (length before) h.front h.text h.tokens h.is_run h.whole (is ∙ append-nil before ∙ h.before_is) (heads b 38 [] more first) (ap length (sym (is ∙ append-nil before)))
belongs bytes b before (x ∷ xs) is (a_reference _ _ _ more h first named) =
    let amp = heads x 38 (xs ++ b ∷ []) more first in
    to_hand bytes b (length before) h.front h.text (x ∷ xs) x xs h.tokens h.is_run
    (reference_in_hand (x ∷ xs) xs (ap (λ d. d ∷ xs) amp) (and_parts (is_no_end x) (list_all is_no_end xs) named).1) refl (before_hand bytes before (x ∷ xs) h is) (ap length h.before_is)
belongs bytes b before token is (a_text _ _ _ tokens run other) = to_text bytes b (length before) before token tokens run other is refl

pub hand_rest : (text hand : List ℕ) → IsRun text → Hand hand → Rest (text ++ hand)
hand_rest text hand run held = record { text = text; hand = hand; run = run; held = held; is = refl }

pub text_rest : (text : List ℕ) → IsRun text → Rest text
text_rest text run = record { text = text; hand = []; run = run; held = nothing_in_hand [] refl; is = sym (append-nil text) }

-- a token in hand isn't none
pub hand_no_text : (front other text hand run : List ℕ) (x : ℕ) (xs : List ℕ) → AreTokens front → AreTokens other → IsRun text → Hand hand → hand ≡ x ∷ xs → IsRun run → front ++ (text ++ hand) ≡ other ++ run → ⊥
hand_no_text front other text hand run x xs tokens tokens_too is_run held some plain e =
    let r = one_front front other (text ++ hand) run (from_first front tokens) (from_first other tokens_too) (hand_rest text hand is_run held) (text_rest run plain) e in
    let split = one_run text run hand [] is_run plain (hand_marked hand held) tt (r.1 ∙ sym (append-nil run)) in
    some_none x xs (sym some ∙ split.1)

-- an `&` outside elements belongs to no text of whole characters
amp_no_text : (b : ℕ) (front other text run : List ℕ) → AreTokens front → AreTokens other → IsRun text → IsRun run → character_left [] text ≡ [] → b ≡ 38
    → (is_no_markup b ≡ true) ⊎ (character_left [] run ≢ []) → front ++ text ≡ other ++ run → ⊥
amp_no_text b front other text run tokens tokens_too is_run plain whole amp why e =
    let r = one_front front other text run (from_first front tokens) (from_first other tokens_too) (text_rest text is_run) (text_rest run plain) e in
    ⊎_elim (λ (none : is_no_markup b ≡ true). false≢true (ap is_no_markup (sym amp) ∙ none)) (λ (some : character_left [] run ≢ []). some (ap (character_left []) (sym r.1) ∙ whole)) why

one_position : (bytes : List ℕ) (b n m : ℕ) → Belongs bytes b n → Belongs bytes b m → n ≡ m
one_position bytes b n m (to_hand _ _ _ front text hand x xs tokens run held some is n_is) (to_hand _ _ _ other plain token y ys tokens_too run_too held_too some_too are m_is) =
    let r = one_front front other (text ++ hand) (plain ++ token) (from_first front tokens) (from_first other tokens_too) (hand_rest text hand run held) (hand_rest plain token run_too held_too) (sym is ∙ are) in
    let split = one_run text plain hand token run run_too (hand_marked hand held) (hand_marked token held_too) r.1 in
    n_is ∙ ap (λ l. length (l ++ text)) r.0 ∙ ap (λ l. length (other ++ l)) split.0 ∙ sym m_is
one_position bytes b n m (to_hand _ _ _ front text hand x xs tokens run held some is n_is) (to_amp _ _ _ other plain tokens_too run_too whole are amp m_is) =
    absurd (hand_no_text front other text hand plain x xs tokens tokens_too run held some run_too (sym is ∙ are))
one_position bytes b n m (to_hand _ _ _ front text hand x xs tokens run held some is n_is) (to_text _ _ _ other plain tokens_too run_too why are m_is) =
    absurd (hand_no_text front other text hand plain x xs tokens tokens_too run held some run_too (sym is ∙ are))
one_position bytes b n m (to_amp _ _ _ front text tokens run whole is amp n_is) (to_hand _ _ _ other plain hand x xs tokens_too run_too held some are m_is) =
    absurd (hand_no_text other front plain hand text x xs tokens_too tokens run_too held some run (sym are ∙ is))
one_position bytes b n m (to_amp _ _ _ front text tokens run whole is amp n_is) (to_amp _ _ _ other plain tokens_too run_too whole_too are amp_too m_is) = n_is ∙ sym m_is
one_position bytes b n m (to_amp _ _ _ front text tokens run whole is amp n_is) (to_text _ _ _ other plain tokens_too run_too why are m_is) =
    absurd (amp_no_text b front other text plain tokens tokens_too run run_too whole amp why (sym is ∙ are))
one_position bytes b n m (to_text _ _ _ front text tokens run why is n_is) (to_hand _ _ _ other plain hand x xs tokens_too run_too held some are m_is) =
    absurd (hand_no_text other front plain hand text x xs tokens_too tokens run_too held some run (sym are ∙ is))
one_position bytes b n m (to_text _ _ _ front text tokens run why is n_is) (to_amp _ _ _ other plain tokens_too run_too whole are amp m_is) =
    absurd (amp_no_text b other front plain text tokens_too tokens run_too run whole amp why (sym are ∙ is))
one_position bytes b n m (to_text _ _ _ front text tokens run why is n_is) (to_text _ _ _ other plain tokens_too run_too why_too are m_is) =
    let r = one_front front other text plain (from_first front tokens) (from_first other tokens_too) (text_rest text run) (text_rest plain run_too) (sym is ∙ are) in n_is ∙ ap length r.0 ∙ sym m_is

pub one_offset : (bytes : List ℕ) (b n m : ℕ) → IsAtToken bytes b n → IsAtToken bytes b m → n ≡ m
one_offset bytes b n m h k =
    let same = one_position bytes b (length h.before) (length k.before) (belongs bytes b h.before h.token h.bytes_are h.is_token) (belongs bytes b k.before k.token k.bytes_are k.is_token) in
    h.at_is ∙ ap position_of same ∙ sym k.at_is
