-- What a byte of a CDATA section changes, before the `]]>` that ends it (XML 1.0, sections 2.7 and 2.11).
use Rattle.std.proofs.Common.{◌≡◌, ℕ, ◌<◌, ◌≤◌, ⊎_elim, Bool, true, false, cond, eqb, ◌&&◌, List, [], ◌∷◌, ◌++◌, Option, Some, unwrap_or, refl, sym, ap, subst, ◌∙◌, arith, append_assoc, append-nil}
use Rattle.std.proofs.lemmas.Bool.{cases_Bool, cases_lt, cond-true, cond-false, eqb-true}
use Rattle.xml_tokens.specs.Utf8.{ends_character, utf8_next}
use Rattle.law_xml.proofs.ByteSteps.{Kept, kept_one, one_more_low}
use Rattle.law_xml.proofs.SpelledTexts.{alone}
use Rattle.law_xml.proofs.TextBytes.{Reads, brackets_same, says}
use Rattle.xml_framer.specs.Machine.{passed}
use Rattle.xml_framer.specs.States.{OpenElement, State, counted, token_ended, token_fails}
use Rattle.xml_framer.specs.TextSteps.{bracket_taken, brackets_after, ends_section, in_section, is_forbidden, judged_section, kept_back, other_taken, section_taken}
use Rattle.xml_framer.specs.declared.fault.Why.TheVariants.{NotWellFormed}
use Rattle.xml_framer.specs.declared.states.Mode.TheVariants as mode

-- the section's text so far, with the `]` that are kept back
abbrev pub so_far : State → List ℕ
so_far s = s.chars ++ kept_back s.lexical.brackets

-- behind a byte that ends a character
pub record SectionByte (s u : State) (o : OpenElement) (c n b : ℕ) : Type 0 where
  pub reads : Reads u mode.Section o c b (brackets_after n b) (eqb b 13)
  pub kept : Kept s u 1
  pub few : u.lexical.brackets ≤ 2
  pub counts : u.lexical.brackets ≡ brackets_after s.lexical.brackets b
  pub text : so_far u ≡ so_far s ++ says s.lexical.returned s.pending b
  pub held : u.pending ≡ []

few_after : (m b : ℕ) → brackets_after m b ≤ 2
few_after m b =
    ⊎_elim (λ (bracket : eqb b 93 ≡ true). ⊎_elim (λ (none : eqb m 0 ≡ true). rw (bracket, none) (omega arith)) (λ (some : eqb m 0 ≡ false). rw (bracket, some) (omega arith)) (cases_Bool (eqb m 0)))
    (λ (other : eqb b 93 ≡ false). rw other (omega arith)) (cases_Bool (eqb b 93))

kept_more : (m : ℕ) → m ≤ 2 → eqb m 2 ≡ false → kept_back (brackets_after m 93) ≡ kept_back m ++ 93 ∷ []
kept_more m few other =
    ⊎_elim (λ (none : m < 1). let is : m ≡ 0 = omega arith in subst (λ k. kept_back (brackets_after k 93) ≡ kept_back k ++ 93 ∷ []) (sym is) refl)
    (λ (some : 1 ≤ m). ⊎_elim (λ (one : m < 2). let is : m ≡ 1 = omega arith in subst (λ k. kept_back (brackets_after k 93) ≡ kept_back k ++ 93 ∷ []) (sym is) refl)
    (λ (two : 2 ≤ m). let is : m ≡ 2 = omega arith in absurd (two_differs (sym (ap (λ k. eqb k 2) is) ∙ other))) (cases_lt m 2))
    (cases_lt m 1)
  where
    two_differs : true ≡ false → ⊥
    two_differs e = cc

pub bracket_says : (q : Bool) → says q [] 93 ≡ 93 ∷ []
unfolding utf8_next
bracket_says true = refl
bracket_says false = refl

-- a third `]`: the first of them is text
abbrev third : State → State
third s = record s { chars = s.chars ++ 93 ∷ []; lexical = record s.lexical { returned = false } }

abbrev second : State → State
second s = record s { lexical = record s.lexical { returned = false; brackets = brackets_after s.lexical.brackets 93 } }

module _ (s : State) (o : OpenElement) (a c n : ℕ) (r : Bool) (h : Reads s mode.Section o a c n r) (few : s.lexical.brackets ≤ 2) where
  held_none : (b : ℕ) → utf8_next s.pending b ≡ Some [] → unwrap_or (utf8_next s.pending b) s.pending ≡ []
  held_none b e = ap (λ (l : Option (List ℕ)). unwrap_or l s.pending) e

  says_bracket : utf8_next s.pending 93 ≡ Some [] → says s.lexical.returned s.pending 93 ≡ 93 ∷ []
  says_bracket e = ap (λ l. says s.lexical.returned l 93) (alone 93 (omega arith) s.pending [] e).0 ∙ bracket_says s.lexical.returned

  third_is : eqb s.lexical.brackets 2 ≡ true → utf8_next s.pending 93 ≡ Some [] → SectionByte s (passed (third (counted s)) 93) o c n 93
  third_is two e =
      let is : s.lexical.brackets ≡ 2 = eqb-true s.lexical.brackets 2 two in
      let same : s.lexical.brackets ≡ brackets_after s.lexical.brackets 93 = is ∙ sym (ap (λ m. brackets_after m 93) is) in
      let more : kept_back s.lexical.brackets ≡ 93 ∷ 93 ∷ [] = ap kept_back is in
      record {
        reads = record {
          no_fault = h.no_fault;
          mode_is = h.mode_is;
          here = h.here;
          no_token = h.no_token;
          no_quote = h.no_quote;
          not_spoiled = h.not_spoiled;
          counted = one_more_low s.positions.used;
          follows = rw e tt;
          brackets = λ none. same ∙ brackets_same s.pending [] 93 s.lexical.brackets n e h.brackets;
          returned = λ none. refl;
        };
        kept = kept_one s (passed (third (counted s)) 93) (record { limits = refl; here = refl; below = refl; scopes = refl; name = refl; phase = refl; spent = refl }) refl refl;
        few = few;
        counts = same;
        text = append_assoc s.chars (93 ∷ []) (kept_back s.lexical.brackets) ∙ ap (λ l. s.chars ++ (93 ∷ l)) more ∙ sym (append_assoc s.chars (93 ∷ 93 ∷ []) (93 ∷ []))
            ∙ ap (λ l. (s.chars ++ l) ++ 93 ∷ []) (sym more) ∙ ap (λ l. so_far s ++ l) (sym (says_bracket e));
        held = held_none 93 e;
      }

  second_is : eqb s.lexical.brackets 2 ≡ false → utf8_next s.pending 93 ≡ Some [] → SectionByte s (passed (second (counted s)) 93) o c n 93
  second_is other e =
      record {
        reads = record {
          no_fault = h.no_fault;
          mode_is = h.mode_is;
          here = h.here;
          no_token = h.no_token;
          no_quote = h.no_quote;
          not_spoiled = h.not_spoiled;
          counted = one_more_low s.positions.used;
          follows = rw e tt;
          brackets = λ none. brackets_same s.pending [] 93 s.lexical.brackets n e h.brackets;
          returned = λ none. refl;
        };
        kept = kept_one s (passed (second (counted s)) 93) (record { limits = refl; here = refl; below = refl; scopes = refl; name = refl; phase = refl; spent = refl }) refl refl;
        few = few_after s.lexical.brackets 93;
        counts = refl;
        text = ap (λ l. s.chars ++ l) (kept_more s.lexical.brackets few other) ∙ sym (append_assoc s.chars (kept_back s.lexical.brackets) (93 ∷ [])) ∙ ap (λ l. so_far s ++ l) (sym (says_bracket e));
        held = held_none 93 e;
      }

  other_is : (b : ℕ) → eqb b 93 ≡ false → utf8_next s.pending b ≡ Some [] → SectionByte s (passed (other_taken (counted s) b) b) o c n b
  other_is b other e =
      let none_kept : 0 ≡ brackets_after s.lexical.brackets b = rw other refl in
      record {
        reads = record {
          no_fault = h.no_fault;
          mode_is = h.mode_is;
          here = h.here;
          no_token = h.no_token;
          no_quote = h.no_quote;
          not_spoiled = h.not_spoiled;
          counted = one_more_low s.positions.used;
          follows = rw e tt;
          brackets = λ none. none_kept ∙ brackets_same s.pending [] b s.lexical.brackets n e h.brackets;
          returned = λ none. refl;
        };
        kept = kept_one s (passed (other_taken (counted s) b) b) (record { limits = refl; here = refl; below = refl; scopes = refl; name = refl; phase = refl; spent = refl }) refl refl;
        few = omega arith;
        counts = none_kept;
        text = append-nil (so_far s ++ says s.lexical.returned s.pending b);
        held = held_none b e;
      }

third_taken : (s : State) → eqb s.lexical.brackets 2 ≡ true → section_taken s 93 ≡ third s
third_taken s two = cond-true (eqb s.lexical.brackets 2) (third s) (second s) two

second_taken : (s : State) → eqb s.lexical.brackets 2 ≡ false → section_taken s 93 ≡ second s
second_taken s other = cond-false (eqb s.lexical.brackets 2) (third s) (second s) other

-- what a byte leads to
pub section_byte : (s : State) (o : OpenElement) (a c n b : ℕ) (r : Bool) → Reads s mode.Section o a c n r → s.lexical.brackets ≤ 2 → utf8_next s.pending b ≡ Some [] → SectionByte s (passed (section_taken (counted s) b) b) o c n b
section_byte s o a c n b r h few e =
    ⊎_elim
    (λ (bracket : eqb b 93 ≡ true). let is : 93 ≡ b = sym (eqb-true b 93 bracket) in
    subst (λ x. SectionByte s (passed (section_taken (counted s) x) x) o c n x) is (at_bracket (subst (λ x. utf8_next s.pending x ≡ Some []) (sym is) e)))
    (λ (other : eqb b 93 ≡ false). subst (λ u. SectionByte s (passed u b) o c n b) (sym (cond-false (eqb b 93) (bracket_taken (counted s)) (other_taken (counted s) b) other)) (other_is s o a c n r h few b other e))
    (cases_Bool (eqb b 93))
  where
    at_bracket : utf8_next s.pending 93 ≡ Some [] → SectionByte s (passed (section_taken (counted s) 93) 93) o c n 93
    at_bracket e =
        ⊎_elim
        (λ (two : eqb s.lexical.brackets 2 ≡ true). subst (λ u. SectionByte s (passed u 93) o c n 93) (sym (third_taken (counted s) two)) (third_is s o a c n r h few two e))
        (λ (other : eqb s.lexical.brackets 2 ≡ false). subst (λ u. SectionByte s (passed u 93) o c n 93) (sym (second_taken (counted s) other)) (second_is s o a c n r h few other e))
        (cases_Bool (eqb s.lexical.brackets 2))

pub section_takes : (s : State) (b : ℕ) → ends_character s.pending b ≡ true → is_forbidden s b ≡ false → ends_section s b ≡ false → in_section s b ≡ section_taken s b
unfolding in_section judged_section
section_takes s b ended allowed none =
    cond-true (ends_character s.pending b) (judged_section s b) s ended
    ∙ cond-false (is_forbidden s b) (token_fails s NotWellFormed) (cond (ends_section s b) (token_ended s) (section_taken s b)) allowed
    ∙ cond-false (ends_section s b) (token_ended s) (section_taken s b) none

pub section_waits : (s : State) (b : ℕ) → ends_character s.pending b ≡ false → in_section s b ≡ s
unfolding in_section
section_waits s b ended = cond-false (ends_character s.pending b) (judged_section s b) s ended

pub section_ends : (s : State) → ends_character s.pending 62 ≡ true → is_forbidden s 62 ≡ false → s.lexical.brackets ≡ 2 → in_section s 62 ≡ token_ended s
unfolding in_section judged_section
section_ends s ended allowed two =
    cond-true (ends_character s.pending 62) (judged_section s 62) s ended
    ∙ cond-false (is_forbidden s 62) (token_fails s NotWellFormed) (cond (ends_section s 62) (token_ended s) (section_taken s 62)) allowed
    ∙ cond-true (ends_section s 62) (token_ended s) (section_taken s 62) (ap (λ m. eqb m 2 && eqb 62 62) two)
