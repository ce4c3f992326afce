-- The attribute that bytes begin with: what is read is spelled so, and the other way round.
use Rattle.std.proofs.Common.{◌≡◌, ◌≢◌, ℕ, suc, ◌+◌, ◌<◌, Bool, true, false, cond, eqb, not, List, [], ◌∷◌, ◌++◌, Option, Some, None, length, refl, sym, ap, subst, ◌∙◌, arith, length-append}
use Rattle.std.proofs.lemmas.Bool.{eqb-true, false≢true, not-false}
use Rattle.std.specs.List.{list_all}
use Rattle.base_lemmas.proofs.Conditions.{guard_tells}
use Rattle.xml_tokens.specs.Characters.{is_white}
use Rattle.xml_tokens.specs.Fronts.{front, following}
use Rattle.xml_tokens.specs.Tags.{is_quote, is_qualified, are_white, IsSpelled, Spelled, closed, quoted, assigned, is_empty, is_qualified_byte, spelled_at}
use Rattle.xml_tokens.proofs.Splits.{joined, front_passes, after_stops}

abbrev spelled : List ℕ → List ℕ → List ℕ → Spelled
spelled n r s = record { name = n; raw = r; rest = s }

-- ---- what is read is spelled so

record Closes (name raw end : List ℕ) (s : Spelled) : Type 0 where
  last : ℕ
  end_is : end ≡ last ∷ s.rest
  name_is : s.name ≡ name
  raw_is : s.raw ≡ raw

closed_tells : (name raw end : List ℕ) (s : Spelled) → closed name raw end ≡ Some s → Closes name raw end s
closed_tells name raw [] s e = absurd cc
closed_tells name raw (q ∷ rest) s e =
    let same : spelled name raw rest ≡ s = cc in
    record { last = q; end_is = ap (λ (t : Spelled). q ∷ t.rest) same; name_is = sym (ap (λ (t : Spelled). t.name) same); raw_is = sym (ap (λ (t : Spelled). t.raw) same) }

record Quotes (name bytes : List ℕ) (s : Spelled) : Type 0 where
  quote : ℕ
  quote_is : is_quote quote ≡ true
  bytes_are : bytes ≡ quote ∷ (s.raw ++ (quote ∷ s.rest))
  raw_inside : list_all (λ b. not (eqb b quote)) s.raw ≡ true
  name_is : s.name ≡ name

quoted_tells : (name bytes : List ℕ) (s : Spelled) → quoted name bytes ≡ Some s → Quotes name bytes s
quoted_tells name [] s e = absurd cc
quoted_tells name (q ∷ bs) s e =
    let g = guard_tells (is_quote q) _ s e in
    let c = closed_tells name (front (λ b. not (eqb b q)) bs) (following (λ b. not (eqb b q)) bs) s g.1 in
    let last_is : c.last ≡ q = eqb-true c.last q (not-false _ (after_stops (λ b. not (eqb b q)) bs c.last s.rest c.end_is)) in
    let whole : front (λ b. not (eqb b q)) bs ++ following (λ b. not (eqb b q)) bs ≡ bs = joined (λ b. not (eqb b q)) bs in
    record {
      quote = q;
      quote_is = g.0;
      bytes_are = ap (λ l. q ∷ l) (sym whole ∙ ap (λ l. l ++ following (λ b. not (eqb b q)) bs) (sym c.raw_is) ∙ ap (λ l. s.raw ++ l) (c.end_is ∙ ap (λ b. b ∷ s.rest) last_is));
      raw_inside = subst (λ l. list_all (λ b. not (eqb b q)) l ≡ true) (sym c.raw_is) (front_passes (λ b. not (eqb b q)) bs);
      name_is = c.name_is;
    }

record Assigns (name bytes : List ℕ) (s : Spelled) : Type 0 where
  after : List ℕ
  left : List ℕ
  after_white : are_white after ≡ true
  bytes_are : bytes ≡ 61 ∷ (after ++ left)
  quotes : Quotes name left s

assigned_tells : (name bytes : List ℕ) (s : Spelled) → assigned name bytes ≡ Some s → Assigns name bytes s
assigned_tells name [] s e = absurd cc
assigned_tells name (b ∷ bs) s e =
    let g = guard_tells (eqb b 61) _ s e in
    record {
      after = front is_white bs;
      left = following is_white bs;
      after_white = front_passes is_white bs;
      bytes_are = ap (λ x. x ∷ bs) (eqb-true b 61 g.0) ∙ ap (λ l. 61 ∷ l) (sym (joined is_white bs));
      quotes = quoted_tells name (following is_white bs) s g.1;
    }

pub some-from_is_empty : (bs : List ℕ) → is_empty bs ≡ false → bs ≢ []
some-from_is_empty [] e same = false≢true (sym e)
some-from_is_empty (b ∷ bs) e same = cc

pub none-from_is_empty : (bs : List ℕ) → is_empty bs ≡ true → bs ≡ []
none-from_is_empty [] e = refl
none-from_is_empty (b ∷ bs) e = absurd (false≢true e)

guard_not : {X : Type 0} (b : Bool) (x : Option X) (y : X) → cond b None x ≡ Some y → (b ≡ false) × (x ≡ Some y)
guard_not false x y e = (refl, e)
guard_not true x y e = absurd cc

pub is_spelled : (bs : List ℕ) (s : Spelled) → spelled_at bs ≡ Some s → IsSpelled bs s.name s.raw s.rest
unfolding spelled_at
is_spelled bs s e =
    let g = guard_not (is_empty (front is_white bs)) _ s e in
    let inner = following is_white bs in
    let n = front is_qualified_byte inner in
    let m = following is_qualified_byte inner in
    let h = guard_tells (is_qualified n) _ s g.1 in
    let a = assigned_tells n (following is_white m) s h.1 in
    let q = a.quotes in
    let name_same : n ≡ s.name = sym q.name_is in
    let ending : following is_white m ≡ 61 ∷ (a.after ++ (q.quote ∷ (s.raw ++ (q.quote ∷ s.rest)))) = a.bytes_are ∙ ap (λ l. 61 ∷ (a.after ++ l)) q.bytes_are in
    let middle : m ≡ front is_white m ++ (61 ∷ (a.after ++ (q.quote ∷ (s.raw ++ (q.quote ∷ s.rest))))) = sym (joined is_white m) ∙ ap (λ l. front is_white m ++ l) ending in
    let tail : inner ≡ s.name ++ (front is_white m ++ (61 ∷ (a.after ++ (q.quote ∷ (s.raw ++ (q.quote ∷ s.rest)))))) = sym (joined is_qualified_byte inner) ∙ ap (λ l. l ++ m) name_same ∙ ap (λ l. s.name ++ l) middle in
    record {
      space = front is_white bs;
      before = front is_white m;
      after = a.after;
      quote = q.quote;
      bytes_are = sym (joined is_white bs) ∙ ap (λ l. front is_white bs ++ l) tail;
      some_space = some-from_is_empty (front is_white bs) g.0;
      space_white = front_passes is_white bs;
      name_is = subst (λ l. is_qualified l ≡ true) name_same h.0;
      before_white = front_passes is_white m;
      after_white = a.after_white;
      quote_is = q.quote_is;
      raw_inside = q.raw_inside;
    }

some_length : (bs : List ℕ) → bs ≢ [] → 0 < length bs
some_length [] other = absurd (other refl)
some_length (b ∷ bs) other = omega arith

pub spelled_shorter : (bs : List ℕ) (s : Spelled) → spelled_at bs ≡ Some s → length s.rest < length bs
spelled_shorter bs s e =
    let i = is_spelled bs s e in
    let len : length bs ≡ length i.space + (length s.name + (length i.before + suc (length i.after + suc (length s.raw + suc (length s.rest))))) =
    ap length i.bytes_are ∙ simp length-append in
    omega arith
