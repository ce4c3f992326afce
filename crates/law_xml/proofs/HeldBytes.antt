-- Bytes of a text one at a time, without the machine: the character in hand (RFC 3629, section 4), what is none of XML's
-- characters (XML 1.0, section 2.2), and `]]>` (2.4).
use Rattle.std.proofs.Common.{◌≡◌, ◌≢◌, ℕ, ◌<◌, ◌≤◌, Bool, true, false, eqb, ltb, ◌&&◌, ◌||◌, List, [], ◌∷◌, ◌++◌, Some, None, refl, sym, ap, subst, ◌∙◌, ⊎_elim}
use Rattle.std.proofs.lemmas.Bool.{cases_Bool, cases_lt, lt-ltb, eqb-true, and_parts, or_parts, or_from, not-true}
use Rattle.xml_tokens.specs.Characters.{is_control, ends_forbidden, are_characters_after}
use Rattle.xml_tokens.specs.Utf8.{is_lead, is_second, is_tail, utf8_next, utf8_run, ends_forbidden_character}
use Rattle.law_xml.proofs.SpelledTexts.{alone, leads, none_some, one_some}
use Rattle.xml_framer.specs.TextSteps.{brackets_after}
use Rattle.law_xml.specs.Texts.{begins_section_end, has_section_end}

-- ---- the character in hand

-- what goes on a character that has begun is no byte of ASCII
pub high : (held next : List ℕ) (b : ℕ) → held ≢ [] → utf8_next held b ≡ Some next → 128 ≤ b
high held next b begun e = ⊎_elim (λ low. absurd (begun (alone b low held next e).0)) (λ above. above) (cases_lt b 128)

nil_cons : (x : ℕ) (xs : List ℕ) → [] ≡ x ∷ xs → ⊥
nil_cons x xs e = cc

-- a byte that doesn't end its character is added to it
pub grown : (held : List ℕ) (b x : ℕ) (xs : List ℕ) → utf8_next held b ≡ Some (x ∷ xs) → x ∷ xs ≡ held ++ b ∷ []
unfolding utf8_next
grown [] b x xs e =
    ⊎_elim (λ (small : ltb b 128 ≡ true). let n : utf8_next [] b ≡ Some [] = rw small refl in absurd (nil_cons x xs (one_some [] (x ∷ xs) (sym n ∙ e))))
    (λ (large : ltb b 128 ≡ false). ⊎_elim (λ (lead : is_lead b ≡ true). let n : utf8_next [] b ≡ Some (b ∷ []) = rw (large, lead) refl in sym (one_some (b ∷ []) (x ∷ xs) (sym n ∙ e)))
    (λ (other : is_lead b ≡ false). let n : utf8_next [] b ≡ None = rw (large, other) refl in absurd (none_some (x ∷ xs) (sym n ∙ e))) (cases_Bool (is_lead b)))
    (cases_Bool (ltb b 128))
grown (u ∷ []) b x xs e =
    ⊎_elim (λ (goes : is_second u b ≡ true).
    ⊎_elim (λ (less : ltb u 224 ≡ true). let n : utf8_next (u ∷ []) b ≡ Some [] = rw (goes, less) refl in absurd (nil_cons x xs (one_some [] (x ∷ xs) (sym n ∙ e))))
    (λ (more : ltb u 224 ≡ false). let n : utf8_next (u ∷ []) b ≡ Some (u ∷ b ∷ []) = rw (goes, more) refl in sym (one_some (u ∷ b ∷ []) (x ∷ xs) (sym n ∙ e))) (cases_Bool (ltb u 224)))
    (λ (other : is_second u b ≡ false). let n : utf8_next (u ∷ []) b ≡ None = rw other refl in absurd (none_some (x ∷ xs) (sym n ∙ e))) (cases_Bool (is_second u b))
grown (u ∷ v ∷ []) b x xs e =
    ⊎_elim (λ (goes : is_tail b ≡ true).
    ⊎_elim (λ (less : ltb u 240 ≡ true). let n : utf8_next (u ∷ v ∷ []) b ≡ Some [] = rw (goes, less) refl in absurd (nil_cons x xs (one_some [] (x ∷ xs) (sym n ∙ e))))
    (λ (more : ltb u 240 ≡ false). let n : utf8_next (u ∷ v ∷ []) b ≡ Some (u ∷ v ∷ b ∷ []) = rw (goes, more) refl in sym (one_some (u ∷ v ∷ b ∷ []) (x ∷ xs) (sym n ∙ e))) (cases_Bool (ltb u 240)))
    (λ (other : is_tail b ≡ false). let n : utf8_next (u ∷ v ∷ []) b ≡ None = rw other refl in absurd (none_some (x ∷ xs) (sym n ∙ e))) (cases_Bool (is_tail b))
grown (u ∷ v ∷ w ∷ more) b x xs e =
    ⊎_elim (λ (goes : is_tail b ≡ true). let n : utf8_next (u ∷ v ∷ w ∷ more) b ≡ Some [] = rw goes refl in absurd (nil_cons x xs (one_some [] (x ∷ xs) (sym n ∙ e))))
    (λ (other : is_tail b ≡ false). let n : utf8_next (u ∷ v ∷ w ∷ more) b ≡ None = rw other refl in absurd (none_some (x ∷ xs) (sym n ∙ e))) (cases_Bool (is_tail b))

-- a byte that doesn't end its character is no byte of ASCII
pub grown_high : (held : List ℕ) (b x : ℕ) (xs : List ℕ) → utf8_next held b ≡ Some (x ∷ xs) → 128 ≤ b
grown_high held b x xs e = ⊎_elim (λ low. absurd (nil_cons x xs (sym (alone b low held (x ∷ xs) e).1))) (λ above. above) (cases_lt b 128)

-- a byte of ASCII is a character
pub low_next : (b : ℕ) → b < 128 → utf8_next [] b ≡ Some []
unfolding utf8_next
low_next b low = rw (lt-ltb b 128 low) refl

-- a text with a byte of ASCII in it is a text, the byte, and a text
pub cut : (held xs : List ℕ) (b : ℕ) (ys : List ℕ) → b < 128 → utf8_run held (xs ++ b ∷ ys) ≡ Some [] → (utf8_run held xs ≡ Some []) × (utf8_run [] ys ≡ Some [])
cut held [] b ys low e =
    let l = leads (utf8_next held b) (λ next. utf8_run next ys) e in
    let a = alone b low held l.next l.is in
    (ap Some a.0, ap (λ s. utf8_run s ys) (sym a.1) ∙ l.goes)
cut held (x ∷ xs) b ys low e =
    let l = leads (utf8_next held x) (λ next. utf8_run next (xs ++ b ∷ ys)) e in
    let ih = cut l.next xs b ys low l.goes in
    (rw l.is ih.0, ih.1)

-- ---- characters of XML

-- the last bytes of the character in hand are the last that were seen
abbrev pub Follows : ℕ → ℕ → List ℕ → Type 0
Follows a c [] = Unit {0}
Follows a c (x ∷ []) = c ≡ x
Follows a c (x ∷ y ∷ []) = (a ≡ x) × (c ≡ y)
Follows a c (x ∷ y ∷ z ∷ more) = Unit {0}

pub follows_more : (a c : ℕ) (held : List ℕ) (b : ℕ) → Follows a c held → Follows c b (held ++ b ∷ [])
follows_more a c [] b h = refl
follows_more a c (x ∷ []) b h = (h, refl)
follows_more a c (x ∷ y ∷ []) b h = tt
follows_more a c (x ∷ y ∷ z ∷ more) b h = tt

no_control : (a c b : ℕ) → ends_forbidden a c b ≡ false → ends_forbidden 0 0 b ≡ false
no_control a c b e = or_from (is_control b) _ (or_parts (is_control b) _ e).0 refl

pub allowed : (a c : ℕ) (held : List ℕ) (b : ℕ) → Follows a c held → ends_forbidden a c b ≡ false → ends_forbidden_character held b ≡ false
allowed a c [] b h e = no_control a c b e
allowed a c (x ∷ []) b h e = no_control a c b e
allowed a c (x ∷ y ∷ []) b h e = ap (λ u. ends_forbidden u y b) (sym h.0) ∙ ap (λ u. ends_forbidden a u b) (sym h.1) ∙ e
allowed a c (x ∷ y ∷ z ∷ more) b h e = no_control a c b e

pub first_allowed : (a c b : ℕ) (bs : List ℕ) → are_characters_after a c (b ∷ bs) ≡ true → (ends_forbidden a c b ≡ false) × (are_characters_after c b bs ≡ true)
first_allowed a c b bs e = let p = and_parts _ (are_characters_after c b bs) e in (not-true (ends_forbidden a c b) p.0, p.1)

-- characters in two parts
pub record Parted (a c : ℕ) (xs ys : List ℕ) : Type 0 where
  pub first : are_characters_after a c xs ≡ true
  pub before : ℕ
  pub last : ℕ
  pub second : are_characters_after before last ys ≡ true

pub parted : (a c : ℕ) (xs ys : List ℕ) → are_characters_after a c (xs ++ ys) ≡ true → Parted a c xs ys
parted a c [] ys e = record { first = refl; before = a; last = c; second = e }
parted a c (x ∷ xs) ys e =
    let f = first_allowed a c x (xs ++ ys) e in
    let p = parted c x xs ys f.1 in
    record { first = rw f.0 p.first; before = p.before; last = p.last; second = p.second }

-- ---- `]]>`

-- behind a number of `]`, `]]>` ends somewhere
abbrev pub ends_within : ℕ → List ℕ → Bool
ends_within n [] = false
ends_within n (b ∷ bs) = (eqb n 2 && eqb b 62) || ends_within (brackets_after n b) bs

record NoneWithin (bs : List ℕ) : Type 0 where
  none : has_section_end bs ≡ false → ends_within 0 bs ≡ false
  after_one : has_section_end (93 ∷ bs) ≡ false → ends_within 1 bs ≡ false
  after_two : has_section_end (93 ∷ 93 ∷ bs) ≡ false → ends_within 2 bs ≡ false

later : (b : ℕ) (bs : List ℕ) → has_section_end (b ∷ bs) ≡ false → has_section_end bs ≡ false
later b bs h = (or_parts (begins_section_end (b ∷ bs)) (has_section_end bs) h).1

none_anywhere : (bs : List ℕ) → NoneWithin bs
none_anywhere [] = record { none = λ h. refl; after_one = λ h. refl; after_two = λ h. refl }
none_anywhere (b ∷ bs) =
    let ih = none_anywhere bs in
    record {
      none = λ h. ⊎_elim
          (λ (bracket : eqb b 93 ≡ true). rw bracket (ih.after_one (subst (λ x. has_section_end (x ∷ bs) ≡ false) (eqb-true b 93 bracket) h)))
          (λ (other : eqb b 93 ≡ false). rw other (ih.none (later b bs h)))
          (cases_Bool (eqb b 93));
      after_one = λ h. ⊎_elim
          (λ (bracket : eqb b 93 ≡ true). rw bracket (ih.after_two (subst (λ x. has_section_end (93 ∷ x ∷ bs) ≡ false) (eqb-true b 93 bracket) h)))
          (λ (other : eqb b 93 ≡ false). rw other (ih.none (later b bs (later 93 (b ∷ bs) h))))
          (cases_Bool (eqb b 93));
      after_two = λ h.
          let p = or_parts (eqb b 62) (has_section_end (93 ∷ b ∷ bs)) h in
          ⊎_elim
          (λ (bracket : eqb b 93 ≡ true). rw (p.0, bracket) (ih.after_two (subst (λ x. has_section_end (93 ∷ x ∷ bs) ≡ false) (eqb-true b 93 bracket) p.1)))
          (λ (other : eqb b 93 ≡ false). rw (p.0, other) (ih.none (later b bs (later 93 (b ∷ bs) p.1))))
          (cases_Bool (eqb b 93));
    }

pub none_within : (bs : List ℕ) → has_section_end bs ≡ false → ends_within 0 bs ≡ false
none_within bs h = (none_anywhere bs).none h
