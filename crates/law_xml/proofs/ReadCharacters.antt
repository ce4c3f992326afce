-- A text grows by a character: what its bytes come to, as UTF-8, as XML's characters, and as character data.
use Rattle.std.proofs.Common.{◌≡◌, ℕ, ◌<◌, ◌≤◌, ◌⊎◌, inl, inr, ⊎_elim, Bool, true, false, eqb, ltb, leb, not, ◌&&◌, ◌||◌, List, [], ◌∷◌, ◌++◌, Option, Some, None, unwrap_or, refl, sym, ap, subst, ◌∙◌, arith, append_assoc, append-nil}
use Rattle.std.proofs.lemmas.Bool.{cases_Bool, and_parts, or_cases, cond-false, eqb-true, false_from_ne_true, true≢false, false≢true, lt-ltb}
use Rattle.std.proofs.lemmas.Bool.Decides.{nat_tests}
use Rattle.std.proofs.lemmas.List.Folds.{list_all-append}
use Rattle.std.specs.List.{list_all}
use Rattle.std.specs.Option.{is_some, option_and_then}
use Rattle.xml_tokens.proofs.Utf8Runs.{after_IsPending, nothing_is, runs_are_text}
use Rattle.xml_tokens.specs.Characters.{are_characters, are_characters_after, ends_forbidden, is_control}
use Rattle.xml_tokens.specs.Utf8.{IsPending, continues, ends_character, ends_forbidden_character, held_after, is_lead, is_second, is_tail, utf8_next, utf8_run}
use Rattle.xml_tokens.specs.Lines.{IsCharacters}
use Rattle.law_xml.proofs.SpelledTexts.{none_some, one_some}

-- ---- UTF-8, a byte at a time

pub second_high : (x b : ℕ) → is_second x b ≡ true → (128 ≤ b) × (b < 192)
second_high x b h = (grind (arith, nat_tests), grind (arith, nat_tests))

pub tail_high : (b : ℕ) → is_tail b ≡ true → (128 ≤ b) × (b < 192)
tail_high b h = (grind (arith, nat_tests), grind (arith, nat_tests))

no_second : (x b : ℕ) → (b < 128) ⊎ (192 ≤ b) → is_second x b ≡ false
no_second x b h = false_from_ne_true (is_second x b) (λ e. let high = second_high x b e in ⊎_elim (λ low. omega (arith, low, high)) (λ top. omega (arith, top, high)) h)

no_tail : (b : ℕ) → (b < 128) ⊎ (192 ≤ b) → is_tail b ≡ false
no_tail b h = false_from_ne_true (is_tail b) (λ e. let high = tail_high b e in ⊎_elim (λ low. omega (arith, low, high)) (λ top. omega (arith, top, high)) h)

-- a byte that is no tail begins a character
begins : (b : ℕ) → (b < 128) ⊎ (192 ≤ b) → (held next : List ℕ) → utf8_next held b ≡ Some next → held ≡ []
unfolding utf8_next
begins b h [] next e = refl
begins b h (x ∷ []) next e = absurd (none_some next (sym (cond-false (is_second x b) _ None (no_second x b h)) ∙ e))
begins b h (x ∷ y ∷ []) next e = absurd (none_some next (sym (cond-false (is_tail b) _ None (no_tail b h)) ∙ e))
begins b h (x ∷ y ∷ z ∷ more) next e = absurd (none_some next (sym (cond-false (is_tail b) _ None (no_tail b h)) ∙ e))

-- the next character in hand is known where the byte continues
pub next_is : (held : List ℕ) (b : ℕ) → continues held b ≡ true → utf8_next held b ≡ Some (held_after held b)
next_is held b h = some_of (utf8_next held b) h
  where
    some_of : (o : Option (List ℕ)) → is_some o ≡ true → o ≡ Some (unwrap_or o held)
    some_of None e = absurd (false≢true e)
    some_of (Some x) e = refl

ascii_after : (b : ℕ) → b < 128 → held_after [] b ≡ []
unfolding utf8_next
ascii_after b low = rw (lt-ltb b 128 low) refl

pub ascii_continues : (b : ℕ) → b < 128 → continues [] b ≡ true
unfolding utf8_next
ascii_continues b low = rw (lt-ltb b 128 low) refl

-- an ASCII byte is a character of its own
pub ascii_alone : (held : List ℕ) (b : ℕ) → b < 128 → continues held b ≡ true → (held ≡ []) × (held_after held b ≡ [])
ascii_alone held b low h =
    let none = begins b (inl low) held (held_after held b) (next_is held b h) in (none, ap (λ p. held_after p b) none ∙ ascii_after b low)

pub ascii_ends : (b : ℕ) → b < 128 → ends_character [] b ≡ true
unfolding utf8_next
ascii_ends b low = rw (lt-ltb b 128 low) refl

-- where a character ends, none is in hand
pub ended_after : (held : List ℕ) (b : ℕ) → ends_character held b ≡ true → held_after held b ≡ []
ended_after held b h = ap (λ o. unwrap_or o held) (nothing_is (utf8_next held b) h)

-- where none ends, the byte is in hand
pub grown_after : (held : List ℕ) (b : ℕ) → continues held b ≡ true → ends_character held b ≡ false → held_after held b ≡ held ++ b ∷ []
unfolding utf8_next
grown_after [] b h e =
    ⊎_elim (λ (small : ltb b 128 ≡ true). let n : ends_character [] b ≡ true = rw small refl in absurd (true≢false (sym n ∙ e)))
    (λ (large : ltb b 128 ≡ false). ⊎_elim (λ (lead : is_lead b ≡ true). rw (large, lead) refl)
    (λ (other : is_lead b ≡ false). let n : continues [] b ≡ false = rw (large, other) refl in absurd (true≢false (sym h ∙ n))) (cases_Bool (is_lead b))) (cases_Bool (ltb b 128))
grown_after (x ∷ []) b h e =
    ⊎_elim (λ (second : is_second x b ≡ true). ⊎_elim (λ (small : ltb x 224 ≡ true). let n : ends_character (x ∷ []) b ≡ true = rw (second, small) refl in absurd (true≢false (sym n ∙ e)))
    (λ (large : ltb x 224 ≡ false). rw (second, large) refl) (cases_Bool (ltb x 224)))
    (λ (other : is_second x b ≡ false). let n : continues (x ∷ []) b ≡ false = rw other refl in absurd (true≢false (sym h ∙ n))) (cases_Bool (is_second x b))
grown_after (x ∷ y ∷ []) b h e =
    ⊎_elim (λ (tail : is_tail b ≡ true). ⊎_elim (λ (small : ltb x 240 ≡ true). let n : ends_character (x ∷ y ∷ []) b ≡ true = rw (tail, small) refl in absurd (true≢false (sym n ∙ e)))
    (λ (large : ltb x 240 ≡ false). rw (tail, large) refl) (cases_Bool (ltb x 240)))
    (λ (other : is_tail b ≡ false). let n : continues (x ∷ y ∷ []) b ≡ false = rw other refl in absurd (true≢false (sym h ∙ n))) (cases_Bool (is_tail b))
grown_after (x ∷ y ∷ z ∷ more) b h e =
    ⊎_elim (λ (tail : is_tail b ≡ true). let n : ends_character (x ∷ y ∷ z ∷ more) b ≡ true = rw tail refl in absurd (true≢false (sym n ∙ e)))
    (λ (other : is_tail b ≡ false). let n : continues (x ∷ y ∷ z ∷ more) b ≡ false = rw other refl in absurd (true≢false (sym h ∙ n))) (cases_Bool (is_tail b))

-- ---- characters so far

-- the last two bytes, and the character in hand behind them
pub record EndsIn (x y : ℕ) (pending : List ℕ) : Type 0 where
  pub one : y ≡ 239 → pending ≡ 239 ∷ []
  pub two : x ≡ 239 → y ≡ 191 → pending ≡ 239 ∷ 191 ∷ []

-- bytes of whole characters of XML, and of one that has begun
pub record Judged (text pending : List ℕ) : Type 0 where
  pub x : ℕ
  pub y : ℕ
  pub ends : EndsIn x y pending
  pub runs : (rest : List ℕ) → utf8_run [] (text ++ rest) ≡ utf8_run pending rest
  pub characters : (rest : List ℕ) → are_characters_after 0 0 (text ++ rest) ≡ are_characters_after x y rest
  pub begun : IsPending pending

pub nothing_judged : Judged [] []
nothing_judged = record { x = 0; y = 0; ends = record { one = λ e. absurd (omega (arith, e)); two = λ e f. absurd (omega (arith, e)) }; runs = λ rest. refl; characters = λ rest. refl; begun = tt }

first_lead : (next : List ℕ) → utf8_next [] 239 ≡ Some next → next ≡ 239 ∷ []
unfolding utf8_next
first_lead next e = one_some next (239 ∷ []) (sym e)

lead_in_hand : (held next : List ℕ) → utf8_next held 239 ≡ Some next → next ≡ 239 ∷ []
lead_in_hand held next e = let none = begins 239 (inr (omega arith)) held next e in first_lead next (ap (λ p. utf8_next p 239) (sym none) ∙ e)

second_in_hand : (next : List ℕ) → utf8_next (239 ∷ []) 191 ≡ Some next → next ≡ 239 ∷ 191 ∷ []
unfolding utf8_next
second_in_hand next e = one_some next (239 ∷ 191 ∷ []) (sym e)

ends_after : (x y b : ℕ) (held next : List ℕ) → EndsIn x y held → utf8_next held b ≡ Some next → EndsIn y b next
ends_after x y b held next h e = record {
  one = λ is. lead_in_hand held next (ap (utf8_next held) (sym is) ∙ e);
  two = λ first is. second_in_hand next (ap (λ p. utf8_next p 191) (sym (h.one first)) ∙ (ap (utf8_next held) (sym is) ∙ e));
}

third_ends : (b : ℕ) → is_tail b ≡ true → ends_character (239 ∷ 191 ∷ []) b ≡ true
unfolding utf8_next
third_ends b e = rw e refl

-- a forbidden character ends where the machine asks for one
allowed : (x y b : ℕ) (held : List ℕ) → EndsIn x y held → continues held b ≡ true → (ends_character held b ≡ true → ends_forbidden_character held b ≡ false) → ends_forbidden x y b ≡ false
allowed x y b held h c asked = false_from_ne_true (ends_forbidden x y b) (λ e. ⊎_elim control (λ both. last (and_parts (eqb x 239 && eqb y 191) (eqb b 190 || eqb b 191) both)) (or_cases (is_control b) _ e))
  where
    control_low : (b : ℕ) → is_control b ≡ true → b < 128
    control_low b e = grind (arith, nat_tests)

    control : is_control b ≡ true → ⊥
    control e =
        let alone = ascii_alone held b (control_low b e) c in
        let told : ends_character [] b ≡ true → ends_forbidden_character [] b ≡ false = subst (λ p. ends_character p b ≡ true → ends_forbidden_character p b ≡ false) alone.0 asked in
        let bad : ends_forbidden_character [] b ≡ true = rw e refl in
        true≢false (sym bad ∙ told (ascii_ends b (control_low b e)))

    third_tail : (b : ℕ) → (eqb b 190 || eqb b 191) ≡ true → is_tail b ≡ true
    third_tail b e = grind (arith, nat_tests)

    bad_third : (b : ℕ) → (eqb b 190 || eqb b 191) ≡ true → ends_forbidden 239 191 b ≡ true
    bad_third b e = grind (arith, nat_tests)

    last : ((eqb x 239 && eqb y 191) ≡ true) × ((eqb b 190 || eqb b 191) ≡ true) → ⊥
    last p =
        let q = and_parts (eqb x 239) (eqb y 191) p.0 in
        let is = h.two (eqb-true x 239 q.0) (eqb-true y 191 q.1) in
        let told : ends_character (239 ∷ 191 ∷ []) b ≡ true → ends_forbidden_character (239 ∷ 191 ∷ []) b ≡ false = subst (λ p. ends_character p b ≡ true → ends_forbidden_character p b ≡ false) is asked in
        true≢false (sym (bad_third b p.1) ∙ told (third_ends b (third_tail b p.1)))

pub byte_judged : (text held : List ℕ) (b : ℕ) → Judged text held → continues held b ≡ true → (ends_character held b ≡ true → ends_forbidden_character held b ≡ false) → Judged (text ++ b ∷ []) (held_after held b)
byte_judged text held b h c asked =
    let next = next_is held b c in
    record {
      x = h.y;
      y = b;
      ends = ends_after h.x h.y b held (held_after held b) h.ends next;
      runs = λ rest. ap (utf8_run []) (append_assoc text (b ∷ []) rest) ∙ (h.runs (b ∷ rest) ∙ ap (option_and_then (λ p. utf8_run p rest)) next);
      characters = λ rest. ap (are_characters_after 0 0) (append_assoc text (b ∷ []) rest) ∙ (h.characters (b ∷ rest) ∙ ap (λ t. not t && are_characters_after h.y b rest) (allowed h.x h.y b held h.ends c asked));
      begun = after_IsPending held b h.begun;
    }

-- bytes of ASCII that are no control characters
abbrev pub are_plain : List ℕ → Bool
are_plain bs = list_all (λ b. leb 32 b && ltb b 128) bs

pub plain-append : (xs ys : List ℕ) → are_plain (xs ++ ys) ≡ (are_plain xs && are_plain ys)
plain-append xs ys = list_all-append (λ b. leb 32 b && ltb b 128) xs ys

plain_low : (b : ℕ) → (leb 32 b && ltb b 128) ≡ true → (b < 128) × (is_control b ≡ false)
plain_low b e = (grind (arith, nat_tests), grind (arith, nat_tests))

pub plain_judged : (text bs : List ℕ) → Judged text [] → are_plain bs ≡ true → Judged (text ++ bs) []
plain_judged text [] h e = subst (λ t. Judged t []) (sym (append-nil text)) h
plain_judged text (b ∷ bs) h e =
    let p = and_parts (leb 32 b && ltb b 128) (are_plain bs) e in
    let low = plain_low b p.0 in
    let on = ascii_continues b low.0 in
    let one = byte_judged text [] b h on (λ t. rw (low.1) refl) in
    let two = subst (Judged (text ++ b ∷ [])) (ascii_alone [] b low.0 on).1 one in
    subst (λ t. Judged t []) (append_assoc text (b ∷ []) bs) (plain_judged (text ++ b ∷ []) bs two p.1)

pub judged_characters : (text : List ℕ) → Judged text [] → IsCharacters text
unfolding are_characters
judged_characters text h = record {
  utf8 = runs_are_text [] text tt (ap (utf8_run []) (sym (append-nil text)) ∙ h.runs []);
  characters = ap (are_characters_after 0 0) (sym (append-nil text)) ∙ h.characters [];
}
