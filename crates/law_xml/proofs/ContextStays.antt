-- The context stays what it was before the token in hand.
use Rattle.std.proofs.Common.{◌≡◌, ℕ, ◌⊎◌, inl, inr, ⊎_elim, true, false, List, [], ◌∷◌, ◌++◌, Option, None, codes, refl, sym, ap, subst, ◌∙◌, append_assoc, append-nil}
use Rattle.std.proofs.lemmas.Bool.{and_from, and_parts, or_from, or_parts}
use Rattle.std.proofs.lemmas.List.Folds.{list_all-append}
use Rattle.xml_tokens.specs.Tags.{quote_behind}
use Rattle.xml_framer.proofs.Pieces.{run_append}
use Rattle.xml_framer.specs.Machine.{run, step}
use Rattle.xml_framer.specs.Readings.{framed}
use Rattle.xml_framer.specs.States.{Turn, from_start, is_text, turn}
use Rattle.xml_framer.specs.declared.limits.Limits.{Limits}
use Rattle.law_xml.proofs.ContextsTold.{context_of}
use Rattle.law_xml.proofs.OneHand.{markup_held, text_read}
use Rattle.law_xml.proofs.OneOffset.{heads}
use Rattle.law_xml.proofs.RunPositions.{no_fault_before}
use Rattle.law_xml.proofs.TokenStays.{Same, text_keeps, token_keeps}
use Rattle.law_xml.specs.Offsets.{AreBefore, AreTokens, IsOpen, IsRun, has_declaration_end, is_no_markup, is_open_tag, leads_tag, open_declaration, open_section, open_tag, opening_declaration, opening_section}
use Rattle.law_xml.specs.Texts.{has_section_end}
use Rattle.law_xml.proofs.OffsetMarks.{declaration_front, tails}

-- ---- the first bytes of what is open are open

leads_front : (p q : List ℕ) → leads_tag (p ++ q) ≡ true → leads_tag p ≡ true
leads_front [] q h = refl
leads_front (x ∷ xs) q h = h

tag_front : (quote : Option ℕ) (p q : List ℕ) → is_open_tag quote (p ++ q) ≡ true → is_open_tag quote p ≡ true
tag_front quote [] q h = refl
tag_front quote (x ∷ xs) q h = let r = and_parts _ _ h in and_from _ _ r.0 (tag_front (quote_behind quote x) xs q r.1)

section_front : (p q : List ℕ) → has_section_end (p ++ q) ≡ false → has_section_end p ≡ false
section_front [] q h = refl
section_front (a ∷ []) q h = refl
section_front (a ∷ b ∷ []) q h = refl
section_front (a ∷ b ∷ c ∷ cs) q h = let r = or_parts _ _ h in or_from _ _ r.0 (section_front (b ∷ c ∷ cs) q r.1)

-- the front of a list that begins with a word
abbrev Parts : List ℕ → List ℕ → List ℕ → List ℕ → Type 0
Parts word p q inside = ((r : List ℕ) × (word ≡ p ++ r)) ⊎ ((i : List ℕ) × (p ≡ word ++ i) × (inside ≡ i ++ q))

parts : (word p q inside : List ℕ) → p ++ q ≡ word ++ inside → Parts word p q inside
parts [] p q inside e = inr (p, refl, sym e)
parts (x ∷ xs) [] q inside e = inl (x ∷ xs, refl)
parts (x ∷ xs) (y ∷ ys) q inside e = more (parts xs ys q inside (tails y x (ys ++ q) (xs ++ inside) e))
  where
    same : y ≡ x
    same = heads y x (ys ++ q) (xs ++ inside) e

    more : Parts xs ys q inside → Parts (x ∷ xs) (y ∷ ys) q inside
    more (inl (r, is)) = inl (r, λ i. sym same i ∷ is i)
    more (inr (r, is, rest)) = inr (r, (λ i. same i ∷ is i), rest)

pub open_front : (p q : List ℕ) → IsOpen (p ++ q) → IsOpen p
open_front p q (open_tag _ leads none) = open_tag p (leads_front p q leads) (tag_front None p q none)
open_front p q (opening_section _ rest due) = opening_section p (q ++ rest) (due ∙ append_assoc p q rest)
open_front p q (open_section _ inside is none) =
    ⊎_elim (λ (h : (r : List ℕ) × (codes "![CDATA[" ≡ p ++ r)). opening_section p h.0 h.1)
    (λ (h : (i : List ℕ) × (p ≡ codes "![CDATA[" ++ i) × (inside ≡ i ++ q)). open_section p h.0 h.1 (section_front h.0 q (ap has_section_end (sym h.2) ∙ none)))
    (parts (codes "![CDATA[") p q inside is)
open_front p q (opening_declaration _ rest due) = opening_declaration p (q ++ rest) (due ∙ append_assoc p q rest)
open_front p q (open_declaration _ inside space is white none) =
    ⊎_elim (λ (h : (r : List ℕ) × (codes "?xml" ≡ p ++ r)). opening_declaration p h.0 h.1)
    (λ (h : (i : List ℕ) × (p ≡ codes "?xml" ++ i) × (space ∷ inside ≡ i ++ q)). spaced h.0 h.1 h.2) (parts (codes "?xml") p q (space ∷ inside) is)
  where
    spaced : (i : List ℕ) → p ≡ codes "?xml" ++ i → space ∷ inside ≡ i ++ q → IsOpen p
    spaced [] e f = opening_declaration p [] (sym (append-nil (codes "?xml")) ∙ sym e ∙ sym (append-nil p))
    spaced (x ∷ xs) e f =
        let first : space ≡ x = heads space x inside (xs ++ q) f in
        open_declaration p xs space (e ∙ ap (λ d. codes "?xml" ++ d ∷ xs) (sym first)) white (declaration_front xs q (ap has_declaration_end (sym (tails space x inside (xs ++ q) f)) ∙ none))

-- ---- along a token

abbrev pub at : Limits → List ℕ → Turn
at limits bytes = run (turn (from_start limits) []) bytes

pub held_at : (limits : Limits) (before more : List ℕ) → (at limits (before ++ 60 ∷ more)).state.fault ≡ None → AreBefore before → IsOpen more → is_text (at limits (before ++ 60 ∷ more)).state.lexical.mode ≡ false
unfolding framed
held_at limits before more none ahead opens = (markup_held limits (before ++ 60 ∷ more) before more none ahead opens refl).no_text

text_at : (limits : Limits) (before text : List ℕ) → (at limits (before ++ text)).state.fault ≡ None → AreTokens before → IsRun text → is_text (at limits (before ++ text)).state.lexical.mode ≡ true
unfolding framed
text_at limits before text none tokens plain = (text_read limits (before ++ text) before text none tokens plain refl).text_mode

-- one byte more
pub at_more : (limits : Limits) (bytes : List ℕ) (b : ℕ) → at limits (bytes ++ b ∷ []) ≡ step (at limits bytes) b
at_more limits bytes b = run_append (turn (from_start limits) []) bytes (b ∷ [])

pub none_before : (limits : Limits) (front rest : List ℕ) → (at limits (front ++ rest)).state.fault ≡ None → (at limits front).state.fault ≡ None
none_before limits front rest none = no_fault_before (at limits front) rest (ap (λ (u : Turn). u.state.fault) (sym (run_append (turn (from_start limits) []) front rest)) ∙ none)

abbrev pub NoFault : Limits → List ℕ → Type 0
NoFault limits bytes = (at limits bytes).state.fault ≡ None

abbrev pub SameAt : Limits → List ℕ → List ℕ → Type 0
SameAt limits a b = Same (at limits a).state (at limits b).state

module _ (limits : Limits) (before : List ℕ) where
  -- what each byte of a token that goes on keeps
  pub markup_along : (P : List ℕ → Turn → Type 0) → ((p : List ℕ) (b : ℕ) (t : Turn) → P p t → (step t b).state.fault ≡ None → is_text (step t b).state.lexical.mode ≡ false → P (p ++ b ∷ []) (step t b))
      → AreBefore before → (p q : List ℕ) → NoFault limits (before ++ 60 ∷ (p ++ q)) → IsOpen (p ++ q) → P p (at limits (before ++ 60 ∷ p)) → P (p ++ q) (at limits (before ++ 60 ∷ (p ++ q)))
  markup_along P on ahead p [] none opens h = subst (λ l. P l (at limits (before ++ 60 ∷ l))) (sym (append-nil p)) h
  markup_along P on ahead p (b ∷ q) none opens h =
      let grown : p ++ b ∷ q ≡ (p ++ b ∷ []) ++ q = sym (append_assoc p (b ∷ []) q) in
      let whole : NoFault limits (before ++ 60 ∷ ((p ++ b ∷ []) ++ q)) = subst (λ l. NoFault limits (before ++ 60 ∷ l)) grown none in
      let all : IsOpen ((p ++ b ∷ []) ++ q) = subst IsOpen grown opens in
      let next : NoFault limits (before ++ 60 ∷ (p ++ b ∷ [])) =
      none_before limits (before ++ 60 ∷ (p ++ b ∷ [])) q (subst (NoFault limits) (sym (append_assoc before (60 ∷ (p ++ b ∷ [])) q)) whole) in
      let is : at limits (before ++ 60 ∷ (p ++ b ∷ [])) ≡ step (at limits (before ++ 60 ∷ p)) b = ap (at limits) (sym (append_assoc before (60 ∷ p) (b ∷ []))) ∙ at_more limits (before ++ 60 ∷ p) b in
      let goes_on = held_at limits before (p ++ b ∷ []) next ahead (open_front (p ++ b ∷ []) q all) in
      let one = on p b (at limits (before ++ 60 ∷ p)) h (ap (λ (u : Turn). u.state.fault) (sym is) ∙ next) (ap (λ (u : Turn). is_text u.state.lexical.mode) (sym is) ∙ goes_on) in
      subst (λ l. P l (at limits (before ++ 60 ∷ l))) (sym grown) (markup_along P on ahead (p ++ b ∷ []) q whole all (subst (P (p ++ b ∷ [])) (sym is) one))

  text_along : AreTokens before → (p q : List ℕ) → NoFault limits (before ++ (p ++ q)) → IsRun (p ++ q) → SameAt limits (before ++ p) (before ++ (p ++ q))
  text_along tokens p [] none plain = ap (λ l. context_of (at limits (before ++ l)).state) (append-nil p)
  text_along tokens p (b ∷ q) none plain =
      let grown : p ++ b ∷ q ≡ (p ++ b ∷ []) ++ q = sym (append_assoc p (b ∷ []) q) in
      let whole : NoFault limits (before ++ ((p ++ b ∷ []) ++ q)) = subst (λ l. NoFault limits (before ++ l)) grown none in
      let all : IsRun ((p ++ b ∷ []) ++ q) = subst IsRun grown plain in
      let next : NoFault limits (before ++ (p ++ b ∷ [])) = none_before limits (before ++ (p ++ b ∷ [])) q (subst (NoFault limits) (sym (append_assoc before (p ++ b ∷ []) q)) whole) in
      let first : NoFault limits (before ++ p) = none_before limits (before ++ p) (b ∷ q) (subst (NoFault limits) (sym (append_assoc before p (b ∷ q))) none) in
      let is : at limits (before ++ (p ++ b ∷ [])) ≡ step (at limits (before ++ p)) b = ap (at limits) (sym (append_assoc before p (b ∷ []))) ∙ at_more limits (before ++ p) b in
      let front : IsRun p = (and_parts _ _ (sym (list_all-append is_no_markup p (b ∷ q)) ∙ plain)).0 in
      let one = text_keeps (at limits (before ++ p)) b (ap (λ (u : Turn). u.state.fault) (sym is) ∙ next) (text_at limits before p first tokens front) in
      ap (λ l. context_of (at limits (before ++ l)).state) grown ∙ text_along tokens (p ++ b ∷ []) q whole all ∙ ap (λ (u : Turn). context_of u.state) is ∙ one

  -- what stands before markup is a text, or tokens
  before_is_text : NoFault limits before → AreBefore before → is_text (at limits before).state.lexical.mode ≡ true
  before_is_text none ahead =
      subst (λ l. is_text (at limits l).state.lexical.mode ≡ true) (sym ahead.before_is) (text_at limits ahead.front ahead.text (subst (NoFault limits) ahead.before_is none) ahead.tokens ahead.is_run)

  pub markup_same : (more : List ℕ) → NoFault limits (before ++ 60 ∷ more) → AreBefore before → IsOpen more → SameAt limits before (before ++ 60 ∷ more)
  markup_same more none ahead opens =
      let first : NoFault limits (before ++ 60 ∷ []) = none_before limits (before ++ 60 ∷ []) more (subst (NoFault limits) (sym (append_assoc before (60 ∷ []) more)) none) in
      let start : NoFault limits before = none_before limits before (60 ∷ more) none in
      let is = at_more limits before 60 in
      let one = text_keeps (at limits before) 60 (ap (λ (u : Turn). u.state.fault) (sym is) ∙ first) (before_is_text start ahead) in
      markup_along (λ p t. Same (at limits before).state t.state) (λ p b t h bounded goes_on. token_keeps t b bounded goes_on ∙ h) ahead [] more none opens (ap (λ (u : Turn). context_of u.state) is ∙ one)

  pub text_same : (text : List ℕ) → NoFault limits (before ++ text) → AreTokens before → IsRun text → SameAt limits before (before ++ text)
  text_same text none tokens plain = text_along tokens [] text none plain ∙ ap (λ l. context_of (at limits l).state) (append-nil before)
