-- Outputs that are joined into parcels, one longer.
use Rattle.std.proofs.Common.{◌≡◌, ◌⊎◌, ⊎_elim, inl, inr, ℕ, zero, ◌+◌, ◌≤◌, List, [], ◌∷◌, ◌++◌, length, length-append, append-nil, append_assoc, ap, arith, refl, subst, sym, ◌∙◌}
use Rattle.std.specs.List.{AllByRecursion}
use Rattle.base_io.specs.Listed.{Listed}
use Rattle.net_writers.specs.Parcels.{AreWithin, IsOf, joined}
use Rattle.net_writers.specs.declared.parcels.Parcels.{Parcels}
use Rattle.net_writers.specs.declared.parcels.TheConstants.{MOST_BYTES_JOINED}

pub no_bytes : (b : Listed ℕ) → length b.items ≡ 0 → b.items ≡ []
no_bytes b none = none_of b.items none
  where
    none_of : (xs : List ℕ) → length xs ≡ zero → xs ≡ []
    none_of [] e = refl
    none_of (x ∷ xs) e = absurd (omega (arith, e))

joined-append : (xs ys : List (Listed ℕ)) → joined (xs ++ ys) ≡ joined xs ++ joined ys
joined-append [] ys = refl
joined-append (x ∷ xs) ys = ap (λ l. x.items ++ l) (joined-append xs ys) ∙ sym (append_assoc x.items (joined xs) (joined ys))

joined-one : (xs : List (Listed ℕ)) (x : Listed ℕ) → joined (xs ++ x ∷ []) ≡ joined xs ++ x.items
joined-one xs x = joined-append xs (x ∷ []) ∙ ap (λ l. joined xs ++ l) (append-nil x.items)

pub no_parcels : (p : Parcels) → p.whole.items ≡ [] → p.last.items ≡ [] → IsOf [] 0 p
no_parcels p whole last = record { bytes_are = sym (ap (λ l. joined l ++ p.last.items) whole ∙ last); whole = let l = ap length whole in omega (arith, l); all = inl last }

pub none_within : (p : Parcels) → p.whole.items ≡ [] → p.last.items ≡ [] → (most : ℕ) → AreWithin most p
none_within p whole last most = record { whole = subst (λ l. AllByRecursion (λ (x : Listed ℕ). length x.items ≤ most) l) (sym whole) tt; last = let l = ap length last in omega (arith, l) }

-- the first
pub first_added : (old new : Parcels) (bytes : List ℕ) → old.last.items ≡ [] → new.whole.items ≡ old.whole.items → new.last.items ≡ bytes
    → (before : List ℕ) (count : ℕ) → IsOf before count old → IsOf (before ++ bytes) (count + 1) new
first_added old new bytes none whole last before count h = let many = h.whole in let same = ap length whole in record {
  bytes_are = ap (λ l. l ++ bytes) (h.bytes_are ∙ ap (λ l. joined old.whole.items ++ l) none ∙ append-nil (joined old.whole.items)) ∙ ap (λ l. joined l ++ bytes) (sym whole) ∙ ap (λ l. joined new.whole.items ++ l) (sym last);
  whole = omega (arith, many, same);
  all = inr (omega (arith, many, same));
}

pub first_within : (old new : Parcels) (bytes : List ℕ) → new.whole.items ≡ old.whole.items → new.last.items ≡ bytes → (most : ℕ) → length bytes ≤ most → AreWithin most old → AreWithin most new
first_within old new bytes whole last most short h = record {
  whole = subst (λ l. AllByRecursion (λ (x : Listed ℕ). length x.items ≤ most) l) (sym whole) h.whole;
  last = subst (λ l. length l ≤ most) (sym last) short;
}

-- one that is joined to the last
pub added_to_last : (old new : Parcels) (bytes : List ℕ) → new.whole.items ≡ old.whole.items → new.last.items ≡ old.last.items ++ bytes → (before : List ℕ) (count : ℕ) → IsOf before count old → IsOf (before ++ bytes) (count + 1) new
added_to_last old new bytes whole last before count h = let many = h.whole in let same = ap length whole in record {
  bytes_are = ap (λ l. l ++ bytes) h.bytes_are ∙ append_assoc (joined old.whole.items) old.last.items bytes ∙ ap (λ l. joined l ++ (old.last.items ++ bytes)) (sym whole) ∙ ap (λ l. joined new.whole.items ++ l) (sym last);
  whole = omega (arith, many, same);
  all = inr (omega (arith, many, same));
}

pub last_within : (old new : Parcels) (bytes : List ℕ) → new.whole.items ≡ old.whole.items → new.last.items ≡ old.last.items ++ bytes → (most : ℕ) → MOST_BYTES_JOINED ≤ most → length old.last.items + length bytes ≤ MOST_BYTES_JOINED
    → AreWithin most old → AreWithin most new
last_within old new bytes whole last most room short h = let size = ap length last ∙ length-append old.last.items bytes in record {
  whole = subst (λ l. AllByRecursion (λ (x : Listed ℕ). length x.items ≤ most) l) (sym whole) h.whole;
  last = omega (arith, room, short, size);
}

all_one : (P : Listed ℕ → Type 0) (xs : List (Listed ℕ)) (x : Listed ℕ) → AllByRecursion P xs → P x → AllByRecursion P (xs ++ x ∷ [])
all_one P [] x all p = (p, tt)
all_one P (y ∷ ys) x all p = (all.0, all_one P ys x all.1 p)

-- one that is the next
pub next_added : (old new : Parcels) (bytes : List ℕ) → new.whole.items ≡ old.whole.items ++ old.last ∷ [] → new.last.items ≡ bytes → 1 ≤ length old.last.items
    → (before : List ℕ) (count : ℕ) → IsOf before count old → IsOf (before ++ bytes) (count + 1) new
next_added old new bytes whole last some before count h =
    let size = ap length whole ∙ length-append old.whole.items (old.last ∷ []) in
    let many : length old.whole.items + 1 ≤ count = ⊎_elim (λ (e : old.last.items ≡ []). absurd (let none = ap length e in omega (arith, some, none))) (λ (e : length old.whole.items + 1 ≤ count). e) h.all in record {
      bytes_are = ap (λ l. l ++ bytes) (h.bytes_are ∙ sym (joined-one old.whole.items old.last) ∙ ap joined (sym whole)) ∙ ap (λ l. joined new.whole.items ++ l) (sym last);
      whole = omega (arith, many, size);
      all = inr (omega (arith, many, size));
    }

pub next_within : (old new : Parcels) (bytes : List ℕ) → new.whole.items ≡ old.whole.items ++ old.last ∷ [] → new.last.items ≡ bytes → (most : ℕ) → length bytes ≤ most → AreWithin most old → AreWithin most new
next_within old new bytes whole last most short h = record {
  whole = subst (λ l. AllByRecursion (λ (x : Listed ℕ). length x.items ≤ most) l) (sym whole) (all_one (λ x. length x.items ≤ most) old.whole.items old.last h.whole h.last);
  last = subst (λ l. length l ≤ most) (sym last) short;
}
