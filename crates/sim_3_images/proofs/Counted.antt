-- How many of a server's connections pass a test, where connections come, go and change.
use Rattle.std.proofs.Common.{◌≡◌, ◌≢◌, ℕ, ◌+◌, ◌<◌, ◌≤◌, ◌==◌, Bool, true, false, cond, List, [], ◌∷◌, Some, length, refl, sym, ap, ◌∙◌, inl, inr, arith}
use Rattle.std.proofs.lemmas.Bool.{cases_Bool, cases_lt, eq-eqb, false≢true, lt-ltb, le-ltb}
use Rattle.std.proofs.lemmas.Map.{keys-set_value}
use Rattle.std.specs.BTreeMap.{insert_entry}
use Rattle.std.specs.List.{AllByRecursion, filter}
use Rattle.std.specs.List.Sorted.{IsStrictlySortedBy}
use Rattle.std.specs.Map.{keys_of, lookup, remove_entry, set_value}
use Rattle.std.specs.Ordering.{match_ordering, nat_cmp}
use Rattle.std.specs.declared.cmp.Ordering.{Ordering}
use Rattle.std.specs.declared.cmp.Ordering.TheVariants.{Equal, Greater, Less}
use Rattle.srv_state.specs.State.{is_number}
use Rattle.sim_3_images.proofs.Lookups.{number_is}

-- ---- numbers

less_is : (a b : ℕ) → nat_cmp a b ≡ Less → a < b
less_is a b is = elim (cases_lt a b) [
  | inl low ↦ low
  | inr high ↦ absurd (let no = le-ltb a b high in not_less (a == b) (rw no at is))
]
  where
    not_less : (c : Bool) → cond c Equal Greater ≡ Less → ⊥
    not_less true e = cc
    not_less false e = cc

is_less : (a b : ℕ) → a < b → nat_cmp a b ≡ Less
is_less a b low = (let l = lt-ltb a b low in rw l refl)

greater_is : (a b : ℕ) → nat_cmp a b ≡ Greater → b < a
greater_is a b is = elim (cases_lt a b) [
  | inl low ↦ absurd (let l = lt-ltb a b low in let e : Less ≡ Greater = rw l at is in cc e)
  | inr high ↦ elim (cases_Bool (a == b)) [
    | inl same ↦ absurd (let l = le-ltb a b high in let e : Equal ≡ Greater = rw (l, same) at is in cc e)
    | inr apart ↦ let other : a ≢ b = λ e. false≢true (sym apart ∙ eq-eqb a b e) in omega (arith, high, other)
  ]
]

all_above : (k m : ℕ) (ks : List ℕ) → k < m → AllByRecursion (λ y. nat_cmp m y ≡ Less) ks → AllByRecursion (λ y. nat_cmp k y ≡ Less) ks
all_above k m [] low all = tt
all_above k m (y ∷ ks) low all = (let above = less_is m y all.0 in is_less k y (omega (arith, low, above)), all_above k m ks low all.1)

-- ---- of a list of numbers

abbrev pub passing : (ℕ → Bool) → List ℕ → ℕ
passing p ks = length (filter p ks)

pub fewer_pass : (p q : ℕ → Bool) (ks : List ℕ) → AllByRecursion (λ k. p k ≡ true → q k ≡ true) ks → passing p ks ≤ passing q ks
fewer_pass p q [] all = omega arith
fewer_pass p q (k ∷ ks) all =
    let rest = fewer_pass p q ks all.1 in
    elim (cases_Bool (p k)) [
      | inl here ↦ let there = all.0 here in rw (here, there) (omega (arith, rest))
      | inr other ↦ elim (cases_Bool (q k)) [ inl there ↦ rw (other, there) (omega (arith, rest)) | inr neither ↦ rw (other, neither) rest ]
    ]

pub every : (P : ℕ → Type 0) (ks : List ℕ) → ((k : ℕ) → P k) → AllByRecursion P ks
every P [] each = tt
every P (k ∷ ks) each = (each k, every P ks each)

more_pass : (q : ℕ → Bool) (k : ℕ) (ks : List ℕ) → passing q ks ≤ passing q (k ∷ ks)
more_pass q k ks = elim (cases_Bool (q k)) [ inl here ↦ rw here (omega arith) | inr other ↦ rw other (omega arith) ]

one_more : (q : ℕ → Bool) (k : ℕ) (ks : List ℕ) → passing q (k ∷ ks) ≤ passing q ks + 1
one_more q k ks = elim (cases_Bool (q k)) [ inl here ↦ rw here (omega arith) | inr other ↦ rw other (omega arith) ]

both_pass : (p q : ℕ → Bool) (k : ℕ) (ks js : List ℕ) → (p k ≡ true → q k ≡ true) → passing p ks ≤ passing q js → passing p (k ∷ ks) ≤ passing q (k ∷ js)
both_pass p q k ks js implies rest =
    elim (cases_Bool (p k)) [
      | inl here ↦ let there = implies here in rw (here, there) (omega (arith, rest))
      | inr other ↦ let more = more_pass q k js in rw other (omega (arith, rest, more))
    ]

-- ---- of connections

abbrev pub Ascend : {X : Type 0} → List (ℕ × X) → Type 0
Ascend es = IsStrictlySortedBy nat_cmp (keys_of es)

module _ {X : Type 0} where
  pub key_set : (k : ℕ) (es : List (ℕ × X)) (c : X) → keys_of (set_value (is_number k) es c) ≡ keys_of es
  key_set k es c = keys-set_value (is_number k) es c

  pub all_removed : (P : ℕ → Type 0) (test : ℕ → Bool) (es : List (ℕ × X)) → AllByRecursion P (keys_of es) → AllByRecursion P (keys_of (remove_entry test es))
  all_removed P test [] all = all
  all_removed P test (e ∷ es) all = elim (cases_Bool (test e.0)) [ inl gone ↦ rw gone all.1 | inr stays ↦ rw stays (all.0, all_removed P test es all.1) ]

  pub removed_ascend : (test : ℕ → Bool) (es : List (ℕ × X)) → Ascend es → Ascend (remove_entry test es)
  unfolding IsStrictlySortedBy
  removed_ascend test [] sorted = sorted
  removed_ascend test (e ∷ es) sorted =
      elim (cases_Bool (test e.0)) [
        | inl gone ↦ rw gone sorted.1
        | inr stays ↦ rw stays (all_removed (λ y. nat_cmp e.0 y ≡ Less) test es sorted.0, removed_ascend test es sorted.1)
      ]

  all_inserted : (P : ℕ → Type 0) (k : ℕ) (c : X) (es : List (ℕ × X)) → P k → AllByRecursion P (keys_of es) → AllByRecursion P (keys_of (insert_entry nat_cmp es k c))
  all_inserted P k c [] it all = (it, tt)
  all_inserted P k c (e ∷ es) it all = by (nat_cmp k e.0) (all_inserted P k c es it all.1)
    where
      by : (o : Ordering) → AllByRecursion P (keys_of (insert_entry nat_cmp es k c)) → AllByRecursion P (keys_of (match_ordering o ((k, c) ∷ e ∷ es) ((e.0, c) ∷ es) (e ∷ insert_entry nat_cmp es k c)))
      by Less rest = (it, all)
      by Equal rest = all
      by Greater rest = (all.0, rest)

  pub inserted_ascend : (k : ℕ) (c : X) (es : List (ℕ × X)) → Ascend es → Ascend (insert_entry nat_cmp es k c)
  unfolding IsStrictlySortedBy
  inserted_ascend k c [] sorted = (tt, tt)
  inserted_ascend k c (e ∷ es) sorted = by (nat_cmp k e.0) refl (inserted_ascend k c es sorted.1)
    where
      by : (o : Ordering) → nat_cmp k e.0 ≡ o → Ascend (insert_entry nat_cmp es k c) → Ascend (match_ordering o ((k, c) ∷ e ∷ es) ((e.0, c) ∷ es) (e ∷ insert_entry nat_cmp es k c))
      by Less is rest = ((is, all_above k e.0 (keys_of es) (less_is k e.0 is) sorted.0), sorted)
      by Equal is rest = sorted
      by Greater is rest = (all_inserted (λ y. nat_cmp e.0 y ≡ Less) k c es (is_less e.0 k (greater_is k e.0 is)) sorted.0, rest)

  -- one that comes may pass
  pub inserted_pass : (p : ℕ → Bool) (k : ℕ) (c : X) (es : List (ℕ × X)) → passing p (keys_of (insert_entry nat_cmp es k c)) ≤ passing p (keys_of es) + 1
  inserted_pass p k c [] = one_more p k []
  inserted_pass p k c (e ∷ es) = by (nat_cmp k e.0) (inserted_pass p k c es)
    where
      by : (o : Ordering) → passing p (keys_of (insert_entry nat_cmp es k c)) ≤ passing p (keys_of es) + 1
          → passing p (keys_of (match_ordering o ((k, c) ∷ e ∷ es) ((e.0, c) ∷ es) (e ∷ insert_entry nat_cmp es k c))) ≤ passing p (keys_of (e ∷ es)) + 1
      by Less rest = one_more p k (keys_of (e ∷ es))
      by Equal rest = omega arith
      by Greater rest = elim (cases_Bool (p e.0)) [ inl here ↦ rw here (omega (arith, rest)) | inr other ↦ rw other rest ]

  -- one that goes is not looked at
  pub removed_pass : (f : ℕ) (p q : ℕ → Bool) (es : List (ℕ × X)) → Ascend es → ((k : ℕ) → k ≢ f → p k ≡ true → q k ≡ true) → passing p (keys_of (remove_entry (is_number f) es)) ≤ passing q (keys_of es)
  unfolding IsStrictlySortedBy
  removed_pass f p q [] sorted implies = omega arith
  removed_pass f p q (e ∷ es) sorted implies =
      elim (cases_Bool (is_number f e.0)) [
        | inl here ↦
            let less = fewer_pass p q (keys_of es) (following (keys_of es) (number_is f e.0 here) sorted.0) in
            let more = more_pass q e.0 (keys_of es) in
            rw here (omega (arith, less, more))
        | inr other ↦
            let apart : e.0 ≢ f = λ same. false≢true (sym other ∙ ap (is_number f) same ∙ itself) in
            rw other (both_pass p q e.0 (keys_of (remove_entry (is_number f) es)) (keys_of es) (implies e.0 apart) (removed_pass f p q es sorted.1 implies))
      ]
    where
      itself : is_number f f ≡ true
      itself = let low = le-ltb f f (omega arith) in let same = eq-eqb f f refl in rw (low, same) refl

      following : (ks : List ℕ) → f ≡ e.0 → AllByRecursion (λ y. nat_cmp e.0 y ≡ Less) ks → AllByRecursion (λ k. p k ≡ true → q k ≡ true) ks
      following [] same all = tt
      following (k ∷ ks) same all = (let above = less_is e.0 k all.0 in implies k (λ e'. omega (arith, above, same, e')), following ks same all.1)

  -- one that passed, and does no more
  pub one_fewer : (k : ℕ) (p q : ℕ → Bool) (es : List (ℕ × X)) (c : X) → lookup (is_number k) es ≡ Some c → q k ≡ true → p k ≡ false → ((j : ℕ) → p j ≡ true → q j ≡ true) → passing p (keys_of es) + 1 ≤ passing q (keys_of es)
  one_fewer k p q [] c is was isnt implies = absurd (let no_way : ⊥ = cc in no_way)
  one_fewer k p q (e ∷ es) c is was isnt implies =
      elim (cases_Bool (is_number k e.0)) [
        | inl here ↦
            let same : k ≡ e.0 = number_is k e.0 here in
            let old : q e.0 ≡ true = ap q (sym same) ∙ was in
            let new : p e.0 ≡ false = ap p (sym same) ∙ isnt in
            let rest = fewer_pass p q (keys_of es) (every (λ j. p j ≡ true → q j ≡ true) (keys_of es) implies) in
            rw (old, new) (omega (arith, rest))
        | inr other ↦
            let rest = one_fewer k p q es c (rw other at is) was isnt implies in
            elim (cases_Bool (p e.0)) [
              | inl here ↦ let there = implies e.0 here in rw (here, there) (omega (arith, rest))
              | inr apart ↦ let more = more_pass q e.0 (keys_of es) in rw apart (omega (arith, rest, more))
            ]
      ]
