-- Bytes of a tag from inside a quote on, of ASCII and without `>` and the other quote: only this quote changes what is open.
use Rattle.std.proofs.Common.{◌≡◌, ℕ, zero, suc, ◌≤◌, ltb, Bool, true, false, not, ◌&&◌, ◌==◌, if◌then◌else◌, List, [], ◌∷◌, Option, Some, None, length, drop, take, take_all, le_refl, refl, sym, ap, ◌∙◌, arith, ⊎_elim}
use Rattle.std.proofs.lemmas.Bool.{and_parts, and_from, cases_Bool, eqb-true, not-true}
use Rattle.std.proofs.lemmas.Bool.Decides.{nat_tests}
use Rattle.std.specs.List.{list_all}
use Rattle.xml_tokens.specs.Tags.{is_quote, quote_behind}
use Rattle.xml_framer.specs.ManyBytes.{GoesOnTo, go_on_in, goes_on_in, quote_after}

-- the quote that isn't this one
abbrev pub other_of : ℕ → ℕ
other_of q = if q == 34 then 39 else 34

abbrev pub is_calm : ℕ → ℕ → Bool
is_calm other b = ltb b 128 && (not (b == 62) && not (b == other))

abbrev pub open_in : ℕ → Bool → Option ℕ
open_in q inside = if inside then Some q else None

abbrev pub next_inside : ℕ → Bool → ℕ → Bool
next_inside q inside b = if b == q then not inside else inside

-- whether the quote is open behind bytes
abbrev pub inside_after : ℕ → Bool → List ℕ → Bool
inside_after q inside [] = inside
inside_after q inside (b ∷ bs) = inside_after q (next_inside q inside b) bs

not_quote : (q b : ℕ) → is_quote q ≡ true → (b == q) ≡ false → (b == other_of q) ≡ false → is_quote b ≡ false
not_quote q b h differs other = ⊎_elim
    (λ (t : (q == 34) ≡ true). let o : (b == 39) ≡ false = ap (λ c. b == (if c then 39 else 34)) (sym t) ∙ other in grind (arith, nat_tests))
    (λ (f : (q == 34) ≡ false). let o : (b == 34) ≡ false = ap (λ c. b == (if c then 39 else 34)) (sym f) ∙ other in grind (arith, nat_tests))
    (cases_Bool (q == 34))

record Step (q : ℕ) (inside : Bool) (b : ℕ) : Type 0 where
  on : goes_on_in (open_in q inside) b ≡ true
  following : quote_behind (open_in q inside) b ≡ open_in q (next_inside q inside b)

step : (q b : ℕ) (inside : Bool) → is_quote q ≡ true → is_calm (other_of q) b ≡ true → Step q inside b
step q b true h calm =
    let low = and_parts (ltb b 128) _ calm in
    let greater = not-true _ (and_parts (not (b == 62)) _ low.1).0 in
    record {
      on = rw (low.0, greater) refl;
      following = ⊎_elim (λ (t : (b == q) ≡ true). rw t refl) (λ (f : (b == q) ≡ false). rw f refl) (cases_Bool (b == q));
    }
step q b false h calm =
    let low = and_parts (ltb b 128) _ calm in
    let rest = and_parts (not (b == 62)) _ low.1 in
    let greater = not-true _ rest.0 in
    record {
      on = rw (low.0, greater) refl;
      following = ⊎_elim
          (λ (t : (b == q) ≡ true). let same = eqb-true b q t in rw (ap is_quote same ∙ h, t) (ap (λ x. Some x) same))
          (λ (f : (b == q) ≡ false). rw (not_quote q b h f (not-true _ rest.1), f) refl)
          (cases_Bool (b == q));
    }

record Goes (q : ℕ) (inside : Bool) (bs : List ℕ) : Type 0 where
  on : go_on_in (open_in q inside) bs ≡ true
  following : quote_after (open_in q inside) bs ≡ open_in q (inside_after q inside bs)

goes : (q : ℕ) (inside : Bool) (bs : List ℕ) → is_quote q ≡ true → list_all (is_calm (other_of q)) bs ≡ true → Goes q inside bs
goes q inside [] h calm = record { on = refl; following = refl }
goes q inside (b ∷ bs) h calm =
    let parts = and_parts (is_calm (other_of q) b) (list_all (is_calm (other_of q)) bs) calm in
    let here = step q b inside h parts.0 in
    let more = goes q (next_inside q inside b) bs h parts.1 in
    record {
      on = and_from _ _ here.on (ap (λ o. go_on_in o bs) here.following ∙ more.on);
      following = ap (λ o. quote_after o bs) here.following ∙ more.following;
    }

whole : (bs : List ℕ) → take (length bs) bs ≡ bs
whole bs = take_all _ _ (le_refl (length bs))

calm_front : (q other : ℕ) (bs : List ℕ) (calm inside : Bool) → is_quote q ≡ true → other ≡ other_of q → calm ≡ list_all (is_calm other) bs → calm ≡ true → inside ≡ inside_after q true bs
    → GoesOnTo (Some q) bs (length bs) (open_in q inside)
calm_front q other bs calm inside h other_is calm_is all inside_is =
    let g = goes q true bs h (ap (λ o. list_all (is_calm o) bs) (sym other_is) ∙ (sym calm_is ∙ all)) in
    record {
      bound = le_refl (length bs);
      inside = ap (go_on_in (Some q)) (whole bs) ∙ g.on;
      after_is = ap (open_in q) inside_is ∙ (sym g.following ∙ ap (quote_after (Some q)) (sym (whole bs)));
    }

nothing_left : (i : ℕ) (bs : List ℕ) → length bs ≤ i → drop i bs ≡ []
nothing_left zero [] h = refl
nothing_left zero (b ∷ bs) h = absurd (omega (arith, h))
nothing_left (suc i) [] h = refl
nothing_left (suc i) (b ∷ bs) h = nothing_left i bs (omega (arith, h))

last_and : (x : Bool) → x ≡ (x && true)
last_and true = refl
last_and false = refl

pub calm_at_end : (q other i : ℕ) (bs : List ℕ) (calm inside : Bool) → is_quote q ≡ true → other ≡ other_of q → length bs ≤ i
    → (calm && list_all (is_calm other) (drop i bs)) ≡ list_all (is_calm other) bs → inside_after q inside (drop i bs) ≡ inside_after q true bs → calm ≡ true
    → GoesOnTo (Some q) bs (length bs) (open_in q inside)
calm_at_end q other i bs calm inside h other_is end calm_is inside_is all =
    let none = nothing_left i bs end in
    calm_front q other bs calm inside h other_is
    (last_and calm ∙ (ap (λ l. calm && list_all (is_calm other) l) (sym none) ∙ calm_is)) all
    (ap (inside_after q inside) (sym none) ∙ inside_is)

-- what holds of a front holds of the bytes that it begins
pub front_goes : (quote following : Option ℕ) (near bytes : List ℕ) → near ≡ take (length near) bytes → length near ≤ length bytes → GoesOnTo quote near (length near) following → GoesOnTo quote bytes (length near) following
front_goes quote following near bytes is_front bound h =
    let same : take (length near) bytes ≡ take (length near) near = sym is_front ∙ sym (whole near) in
    record { bound = bound; inside = ap (go_on_in quote) same ∙ h.inside; after_is = h.after_is ∙ ap (quote_after quote) (sym same) }
