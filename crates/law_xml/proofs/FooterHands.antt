-- What is kept of an end tag outside elements: its bytes, but for white space behind the name.
use Rattle.std.proofs.Common.{◌≡◌, ℕ, ◌+◌, ◌<◌, ◌≤◌, ◌⊎◌, inl, inr, ⊎_elim, Bool, true, false, not, ◌&&◌, ◌||◌, ◌==◌, if◌then◌else◌, List, [], ◌∷◌, ◌++◌, None, length, refl, sym, ap, subst, ◌∙◌, arith, append_assoc, append-nil}
use Rattle.std.proofs.lemmas.Bool.{and_from, cond_both, false≢true, ltb-false, ltb-true, true≢false}
use Rattle.std.proofs.lemmas.List.Folds.{list_all-append}
use Rattle.std.specs.Option.{is_some}
use Rattle.std.specs.Prelude.{nat_lt}
use Rattle.xml_tokens.specs.Characters.{is_white}
use Rattle.xml_tokens.specs.Tags.{are_white, is_quote}
use Rattle.xml_framer.specs.Machine.{step}
use Rattle.xml_framer.specs.States.{State, Turn, counted, gathered, is_text, moved}
use Rattle.xml_framer.specs.TagSteps.{footer_closes, footer_gathered, in_footer, in_opening, in_tag, unlimited}
use Rattle.xml_framer.specs.States.{gathered_in}
use Rattle.xml_framer.specs.declared.states.Mode.TheVariants as mode
use Rattle.law_xml.proofs.CountLaws.{takes}
use Rattle.law_xml.proofs.FaultLaws.{goes}
use Rattle.law_xml.proofs.OffsetTags.{footer_close}
use Rattle.law_xml.specs.FaultRows.{Takes}

-- the bytes in hand, as a state has them
pub record FooterHand (token name hand : List ℕ) : Type 0 where
  pub white : List ℕ
  pub hand_is : hand ≡ token ++ white
  pub is_white : are_white white ≡ true
  pub whole : (white ≡ []) ⊎ (length name + 2 ≤ length token)

-- an end tag outside elements is in hand
abbrev pub IsFooter : State → List ℕ → Type 0
IsFooter s hand = (s.lexical.mode ≡ mode.Footer) × (s.lexical.spoiled ≡ false → FooterHand s.token s.name hand)

token_more : (token name hand : List ℕ) (b : ℕ) → FooterHand token name hand → length token < length name + 2 → FooterHand (token ++ b ∷ []) name (hand ++ b ∷ [])
token_more token name hand b h short =
    let none : h.white ≡ [] = ⊎_elim (λ e. e) (λ long. absurd (omega (arith, short, long))) h.whole in
    record {
      white = [];
      hand_is = ap (λ l. l ++ b ∷ []) (h.hand_is ∙ ap (λ w. token ++ w) none ∙ append-nil token) ∙ sym (append-nil (token ++ b ∷ []));
      is_white = refl;
      whole = inl refl;
    }

white_more : (token name hand : List ℕ) (b : ℕ) → FooterHand token name hand → length name + 2 ≤ length token → is_white b ≡ true → FooterHand token name (hand ++ b ∷ [])
white_more token name hand b h long w = record {
  white = h.white ++ b ∷ [];
  hand_is = ap (λ l. l ++ b ∷ []) h.hand_is ∙ append_assoc token h.white (b ∷ []);
  is_white = list_all-append is_white h.white (b ∷ []) ∙ and_from _ _ h.is_white (and_from _ _ w refl);
  whole = inr long;
}

gathers : (s : State) (b : ℕ) (hand : List ℕ) → IsFooter s hand → IsFooter (footer_gathered s b) (hand ++ b ∷ [])
gathers s b hand (is, h) =
    cond_both (is_some s.lexical.quote || is_quote b) _ (if nat_lt (length s.token) (length s.name + 2) then gathered s b else (if is_white b then s else record s { lexical = record s.lexical { spoiled = true } }))
    (λ u. IsFooter u (hand ++ b ∷ [])) (λ e. (is, λ f. absurd (true≢false f)))
    (λ e. cond_both (nat_lt (length s.token) (length s.name + 2)) (gathered s b) (if is_white b then s else record s { lexical = record s.lexical { spoiled = true } }) (λ u. IsFooter u (hand ++ b ∷ []))
    (λ f. (is, λ g. token_more s.token s.name hand b (h g) (ltb-true (length s.token) (length s.name + 2) f)))
    (λ f. cond_both (is_white b) s (record s { lexical = record s.lexical { spoiled = true } }) (λ u. IsFooter u (hand ++ b ∷ []))
    (λ w. (is, λ g. white_more s.token s.name hand b (h g) (ltb-false (length s.token) (length s.name + 2) f) w))
    (λ w. (is, λ g. absurd (true≢false g)))))

-- a byte more
footer_byte : (t : Turn) (b : ℕ) (hand : List ℕ) → IsFooter t.state hand → (in_footer t b).state.fault ≡ None → is_text (in_footer t b).state.lexical.mode ≡ false → IsFooter (in_footer t b).state (hand ++ b ∷ [])
unfolding in_footer
footer_byte t b hand h =
    let whole = moved t (gathered t.state b) in
    cond_both (b == 62 && not (is_some t.state.lexical.quote)) (footer_closes whole) (moved t (footer_gathered t.state b))
    (λ (u : Turn). u.state.fault ≡ None → is_text u.state.lexical.mode ≡ false → IsFooter u.state (hand ++ b ∷ []))
    (λ e none goes_on. absurd (false≢true (sym goes_on ∙ (footer_close whole none).0))) (λ e none goes_on. gathers t.state b hand h)

pub footer_more : (t : Turn) (b : ℕ) (hand : List ℕ) → IsFooter t.state hand → (step t b).state.fault ≡ None → is_text (step t b).state.lexical.mode ≡ false → IsFooter (step t b).state (hand ++ b ∷ [])
footer_more t b hand h none goes_on =
    let k = takes t b none in
    let there : Takes t.state mode.Footer b = record { no_fault = k.no_fault; mode_is = h.0; short = k.short; is_text = k.is_text } in
    let is = goes t mode.Footer b there in
    let u = moved t (counted t.state) in
    let on = footer_byte u b hand h (ap (λ (v : Turn). v.state.fault) (sym is) ∙ none) (ap (λ (v : Turn). is_text v.state.lexical.mode) (sym is) ∙ goes_on) in
    subst (λ (v : Turn). IsFooter v.state (hand ++ b ∷ [])) (sym is) on

-- `</` outside elements
slash_byte : (t : Turn) → is_some t.state.here ≡ false → t.state.token ≡ 60 ∷ [] → IsFooter (in_opening t 47).state (60 ∷ 47 ∷ [])
unfolding in_opening
slash_byte t outer alone =
    let s = t.state in
    subst (λ o. IsFooter (if 47 == 47 && not o then moved t (gathered_in (unlimited s) mode.Footer 47) else in_tag t 47).state (60 ∷ 47 ∷ [])) (sym outer) (begun (is_some s.here) outer)
  where
    token_is : t.state.token ++ 47 ∷ [] ≡ 60 ∷ 47 ∷ []
    token_is = ap (λ l. l ++ 47 ∷ []) alone

    hand : (u : State) → u.token ≡ 60 ∷ 47 ∷ [] → u.lexical.mode ≡ mode.Footer → IsFooter u (60 ∷ 47 ∷ [])
    hand u e is = (is, λ f. record { white = []; hand_is = sym e ∙ sym (append-nil u.token); is_white = refl; whole = inl refl })

    begun : (o : Bool) → o ≡ false → IsFooter (gathered_in (if o then t.state else record t.state { positions = record t.state.positions { used = 0 } }) mode.Footer 47) (60 ∷ 47 ∷ [])
    begun true e = absurd (true≢false e)
    begun false e = hand (gathered_in (record t.state { positions = record t.state.positions { used = 0 } }) mode.Footer 47) token_is refl

pub footer_begins : (t : Turn) → t.state.lexical.mode ≡ mode.Opening → is_some t.state.here ≡ false → t.state.token ≡ 60 ∷ [] → (step t 47).state.fault ≡ None → IsFooter (step t 47).state (60 ∷ 47 ∷ [])
footer_begins t opening outer alone none =
    let k = takes t 47 none in
    let there : Takes t.state mode.Opening 47 = record { no_fault = k.no_fault; mode_is = opening; short = k.short; is_text = k.is_text } in
    let is = goes t mode.Opening 47 there in
    subst (λ (v : Turn). IsFooter v.state (60 ∷ 47 ∷ [])) (sym is) (slash_byte (moved t (counted t.state)) outer alone)
