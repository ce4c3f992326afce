-- What holds of each element of a list.
use Rattle.std.proofs.Common.{◌≡◌, ℕ, zero, suc, Bool, List, [], ◌∷◌, ◌++◌, Option, Some, None, IfSome, cond, drop, map, subst, inl, inr}
use Rattle.std.proofs.lemmas.Bool.{cases_Bool}
use Rattle.std.proofs.lemmas.Option.{same_Some}
use Rattle.std.specs.List.{AllByRecursion, filter, find}
use Rattle.std.specs.Map.{lookup, remove_entry, set_value}
use Rattle.std.specs.Prelude.{slice_get, slice_set}

module _ {X : Type 0} (P : X → Type 0) where
  pub each_append : (xs ys : List X) → AllByRecursion P xs → AllByRecursion P ys → AllByRecursion P (xs ++ ys)
  each_append [] ys h k = k
  each_append (x ∷ xs) ys h k = (h.0, each_append xs ys h.1 k)

  pub each_filter : (p : X → Bool) (xs : List X) → AllByRecursion P xs → AllByRecursion P (filter p xs)
  each_filter p [] h = tt
  each_filter p (x ∷ xs) h = elim (cases_Bool (p x)) [ inl e ↦ rw e (h.0, each_filter p xs h.1) | inr e ↦ rw e (each_filter p xs h.1) ]

  pub each_drop : (n : ℕ) (xs : List X) → AllByRecursion P xs → AllByRecursion P (drop n xs)
  each_drop zero xs h = h
  each_drop (suc n) [] h = tt
  each_drop (suc n) (x ∷ xs) h = each_drop n xs h.1

  pub each_found : (p : X → Bool) (xs : List X) → AllByRecursion P xs → IfSome (find p xs) P
  each_found p [] h = tt
  each_found p (x ∷ xs) h = elim (cases_Bool (p x)) [ inl e ↦ rw e h.0 | inr e ↦ rw e (each_found p xs h.1) ]

  pub each_got : (xs : List X) (i : ℕ) → AllByRecursion P xs → IfSome (slice_get xs i) P
  each_got [] i h = tt
  each_got (x ∷ xs) zero h = h.0
  each_got (x ∷ xs) (suc i) h = each_got xs i h.1

  pub each_set : (xs : List X) (i : ℕ) (y : X) → AllByRecursion P xs → P y → AllByRecursion P (slice_set xs i y)
  each_set [] i y h k = tt
  each_set (x ∷ xs) zero y h k = (k, h.1)
  each_set (x ∷ xs) (suc i) y h k = (h.0, each_set xs i y h.1 k)

  -- some are changed
  pub each_changed : (p : X → Bool) (f : X → X) (xs : List X) → ((x : X) → P x → P (f x)) → AllByRecursion P xs → AllByRecursion P (map (λ x. cond (p x) (f x) x) xs)
  each_changed p f [] keeps h = tt
  each_changed p f (x ∷ xs) keeps h = elim (cases_Bool (p x)) [ inl e ↦ rw e (keeps x h.0, each_changed p f xs keeps h.1) | inr e ↦ rw e (h.0, each_changed p f xs keeps h.1) ]

-- ---- entries under numbers

module _ {X : Type 0} (P : X → Type 0) where
  abbrev pub Values : List (ℕ × X) → Type 0
  Values es = AllByRecursion (λ (e : ℕ × X). P e.1) es

  pub value_found : (p : ℕ → Bool) (es : List (ℕ × X)) → Values es → IfSome (lookup p es) P
  value_found p [] h = tt
  value_found p (e ∷ es) h = elim (cases_Bool (p e.0)) [ inl b ↦ rw b h.0 | inr b ↦ rw b (value_found p es h.1) ]

  pub values_left : (p : ℕ → Bool) (es : List (ℕ × X)) → Values es → Values (remove_entry p es)
  values_left p [] h = tt
  values_left p (e ∷ es) h = elim (cases_Bool (p e.0)) [ inl b ↦ rw b h.1 | inr b ↦ rw b (h.0, values_left p es h.1) ]

  pub values_set : (p : ℕ → Bool) (es : List (ℕ × X)) (x : X) → Values es → P x → Values (set_value p es x)
  values_set p [] x h k = tt
  values_set p (e ∷ es) x h k = elim (cases_Bool (p e.0)) [ inl b ↦ rw b (k, h.1) | inr b ↦ rw b (h.0, values_set p es x h.1 k) ]

-- where there is one
pub there : {X : Type 0} (P : X → Type 0) (o : Option X) (x : X) → o ≡ Some x → IfSome o P → P x
there P None x is h = absurd cc
there P (Some y) x is h = subst P (same_Some y x is) h
