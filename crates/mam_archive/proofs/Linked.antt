-- What is true of the links of entries: of the numbers beside their peers, and of chains under an append and a drop.
use Rattle.std.proofs.Common.{◌≡◌, ℕ, zero, suc, ◌+◌, ◌-◌, ◌<◌, ◌≤◌, inl, inr, Bool, true, false, ◌||◌, true≢false, List, [], ◌∷◌, ◌++◌, Some, length, set, slice_get, refl, sym, ap, ◌∙◌, arith}
use Rattle.std.proofs.lemmas.Bool.{false≢true, cases_Bool}
use Rattle.std.specs.List.{list_any}
use Rattle.std.specs.Str.{bytes_eq}
use Rattle.mam_archive.proofs.Keys.{same_text}
use Rattle.std.proofs.Math.Bool.{or-false, or-true, or_assoc}
use Rattle.mam_archive.specs.Chained.{least_with_peer, is_text_of, greatest_with_peer, next_numbers}
use Rattle.base_lemmas.proofs.Bytes.{bytes_eq-from_same}

-- the number m stands beside this peer
pub record IsBeside (p : List ℕ) (m n : ℕ) (ps : List (List ℕ)) : Type 0 where
  pub low : n ≤ m
  pub high : m < n + length ps
  pub there : slice_get ps (m - n) ≡ Some p

beside_head : (p q : List ℕ) (n : ℕ) (qs : List (List ℕ)) → q ≡ p → IsBeside p n n (q ∷ qs)
beside_head p q n qs same =
    let none : n - n ≡ zero = omega arith in
    record { low = omega arith; high = omega arith; there = rw none (ap Some same) }

beside_tail : (p q : List ℕ) (m n : ℕ) (qs : List (List ℕ)) → IsBeside p m (suc n) qs → IsBeside p m n (q ∷ qs)
beside_tail p q m n qs beside =
    let position : m - n ≡ suc (m - suc n) = omega (arith, beside.low) in
    record { low = omega (arith, beside.low); high = omega (arith, beside.high); there = rw position beside.there }

pub first_beside : (p : List ℕ) (n : ℕ) (ps : List (List ℕ)) → is_text_of p ps ≡ true → IsBeside p (least_with_peer p n ps) n ps
first_beside p n [] has = absurd (false≢true has)
first_beside p n (q ∷ qs) has = elim (same_text q p) [
  | inl same ↦ rw (bytes_eq-from_same q p same) (beside_head p q n qs same)
  | inr other ↦ rw other (beside_tail p q (least_with_peer p (suc n) qs) n qs (first_beside p (suc n) qs (rw other at has)))
]

pub last_beside : (p : List ℕ) (n : ℕ) (ps : List (List ℕ)) → is_text_of p ps ≡ true → IsBeside p (greatest_with_peer p n ps) n ps
last_beside p n [] has = absurd (false≢true has)
last_beside p n (q ∷ qs) has = elim (cases_Bool (is_text_of p qs)) [
  | inl later ↦ rw later (beside_tail p q (greatest_with_peer p (suc n) qs) n qs (last_beside p (suc n) qs later))
  | inr none ↦ elim (same_text q p) [
    | inl same ↦ rw (none, bytes_eq-from_same q p same) (beside_head p q n qs same)
    | inr other ↦ absurd (false≢true (sym none ∙ rw other at has))
  ]
]

pub first_none : (p : List ℕ) (n : ℕ) (ps : List (List ℕ)) → is_text_of p ps ≡ false → least_with_peer p n ps ≡ 0
first_none p n [] none = refl
first_none p n (q ∷ qs) none = elim (same_text q p) [
  | inl same ↦ absurd (true≢false (rw (bytes_eq-from_same q p same) at none))
  | inr other ↦ rw other (first_none p (suc n) qs (rw other at none))
]

pub length-next_numbers : (n : ℕ) (ps : List (List ℕ)) → length (next_numbers n ps) ≡ length ps
length-next_numbers n [] = refl
length-next_numbers n (p ∷ ps) = ap suc (length-next_numbers (suc n) ps)

other_way : (q p : List ℕ) → bytes_eq q p ≡ false → bytes_eq p q ≡ false
other_way q p other = elim (same_text p q) [
  | inl same ↦ absurd (true≢false (sym (bytes_eq-from_same q p (sym same)) ∙ other))
  | inr unlike ↦ unlike
]

-- an entry more
pub text-push : (p q : List ℕ) (ps : List (List ℕ)) → is_text_of q (ps ++ p ∷ []) ≡ (is_text_of q ps || bytes_eq p q)
text-push p q ps = list_any_push (λ t. bytes_eq t q) ps p
  where
    list_any_push : (test : List ℕ → Bool) (xs : List (List ℕ)) (x : List ℕ) → list_any test (xs ++ x ∷ []) ≡ (list_any test xs || test x)
    list_any_push test [] x = or-false (test x)
    list_any_push test (y ∷ ys) x = ap (λ b. test y || b) (list_any_push test ys x) ∙ sym (or_assoc (test y) (list_any test ys) (test x))

pub first-push_other : (p q : List ℕ) (n : ℕ) (ps : List (List ℕ)) → bytes_eq p q ≡ false → least_with_peer q n (ps ++ p ∷ []) ≡ least_with_peer q n ps
first-push_other p q n [] other = rw other refl
first-push_other p q n (r ∷ rs) other = elim (cases_Bool (bytes_eq r q)) [
  | inl same ↦ rw same refl
  | inr unlike ↦ rw unlike (first-push_other p q (suc n) rs other)
]

pub first-push_old : (p q : List ℕ) (n : ℕ) (ps : List (List ℕ)) → is_text_of q ps ≡ true → least_with_peer q n (ps ++ p ∷ []) ≡ least_with_peer q n ps
first-push_old p q n [] has = absurd (false≢true has)
first-push_old p q n (r ∷ rs) has = elim (cases_Bool (bytes_eq r q)) [
  | inl same ↦ rw same refl
  | inr unlike ↦ rw unlike (first-push_old p q (suc n) rs (rw unlike at has))
]

pub first-push_new : (p : List ℕ) (n : ℕ) (ps : List (List ℕ)) → is_text_of p ps ≡ false → least_with_peer p n (ps ++ p ∷ []) ≡ n + length ps
first-push_new p n [] none = rw (bytes_eq-from_same p p refl) (omega arith)
first-push_new p n (r ∷ rs) none = elim (cases_Bool (bytes_eq r p)) [
  | inl same ↦ absurd (true≢false (rw same at none))
  | inr unlike ↦ rw unlike (first-push_new p (suc n) rs (rw unlike at none) ∙ omega arith)
]

pub last-push_other : (p q : List ℕ) (n : ℕ) (ps : List (List ℕ)) → bytes_eq p q ≡ false → greatest_with_peer q n (ps ++ p ∷ []) ≡ greatest_with_peer q n ps
last-push_other p q n [] other = rw other refl
last-push_other p q n (r ∷ rs) other =
    let same : is_text_of q (rs ++ p ∷ []) ≡ is_text_of q rs = text-push p q rs ∙ rw other (or-false (is_text_of q rs)) in
    rw (same, last-push_other p q (suc n) rs other) refl

pub last-push : (p : List ℕ) (n : ℕ) (ps : List (List ℕ)) → greatest_with_peer p n (ps ++ p ∷ []) ≡ n + length ps
last-push p n [] = rw (bytes_eq-from_same p p refl) (omega arith)
last-push p n (r ∷ rs) =
    let later : is_text_of p (rs ++ p ∷ []) ≡ true = text-push p p rs ∙ rw (bytes_eq-from_same p p refl) (or-true (is_text_of p rs)) in
    rw later (last-push p (suc n) rs ∙ omega arith)

pub nexts-push_new : (p : List ℕ) (n : ℕ) (ps : List (List ℕ)) → is_text_of p ps ≡ false → next_numbers n (ps ++ p ∷ []) ≡ next_numbers n ps ++ 0 ∷ []
nexts-push_new p n [] none = refl
nexts-push_new p n (r ∷ rs) none = elim (cases_Bool (bytes_eq r p)) [
  | inl same ↦ absurd (true≢false (rw same at none))
  | inr unlike ↦
      let other : bytes_eq p r ≡ false = other_way r p unlike in
      rw (first-push_other p r (suc n) rs other, nexts-push_new p (suc n) rs (rw unlike at none)) refl
]

pub nexts-push_old : (p : List ℕ) (n : ℕ) (ps : List (List ℕ)) → is_text_of p ps ≡ true →
    next_numbers n (ps ++ p ∷ []) ≡ set (next_numbers n ps) (greatest_with_peer p n ps - n) (n + length ps) ++ 0 ∷ []
nexts-push_old p n [] has = absurd (false≢true has)
nexts-push_old p n (r ∷ rs) has = elim (cases_Bool (is_text_of p rs)) [
  | inl later ↦
      let beside : IsBeside p (greatest_with_peer p (suc n) rs) (suc n) rs = last_beside p (suc n) rs later in
      let position : greatest_with_peer p (suc n) rs - n ≡ suc (greatest_with_peer p (suc n) rs - suc n) = omega (arith, beside.low) in
      let number : n + suc (length rs) ≡ suc n + length rs = omega arith in
      let head : least_with_peer r (suc n) (rs ++ p ∷ []) ≡ least_with_peer r (suc n) rs = elim (same_text r p) [
        | inl same ↦ first-push_old p r (suc n) rs (rw same later)
        | inr unlike ↦ first-push_other p r (suc n) rs (other_way r p unlike)
      ] in
      rw (later, position, number, head, nexts-push_old p (suc n) rs later) refl
  | inr none ↦ elim (same_text r p) [
    | inl same ↦
        let position : n - n ≡ zero = omega arith in
        let number : n + suc (length rs) ≡ suc n + length rs = omega arith in
        let head : least_with_peer r (suc n) (rs ++ p ∷ []) ≡ suc n + length rs = rw same (first-push_new p (suc n) rs none) in
        rw (none, bytes_eq-from_same r p same, position, number, head, nexts-push_new p (suc n) rs none) refl
    | inr other ↦ absurd (false≢true (sym none ∙ rw other at has))
  ]
]
