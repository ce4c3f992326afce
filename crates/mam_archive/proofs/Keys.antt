-- What is true of texts in order, each once: where one stands, and what an edit does to them.
use Rattle.std.proofs.Common.{◌≡◌, ◌≢◌, ℕ, zero, suc, ◌<◌, ◌⊎◌, inl, inr, Bool, true, false, ◌||◌, List, [], ◌∷◌, Some, Equal, Greater, map, set, slice_get, refl, sym, ap, subst, ◌∙◌, arith}
use Rattle.std.proofs.lemmas.Bool.{false≢true, cases_Bool, cases_lt}
use Rattle.std.proofs.lemmas.Cmp.{nat_list_cmp_total}
use Rattle.std.proofs.lemmas.Map.Text.{is_eq-slice_cmp}
use Rattle.std.proofs.lemmas.Option.{none-some, same_Some}
use Rattle.std.proofs.lemmas.Slice.Eq.{bytes_eq-Decides}
use Rattle.std.specs.Cmp.Lexicographic.{slice_cmp}
use Rattle.std.specs.List.{AllByRecursion, insert, remove}
use Rattle.std.specs.Ordering.{nat_cmp, is_eq, ordering_reverse}
use Rattle.std.specs.Str.{bytes_eq}
use Rattle.base_lemmas.proofs.Bytes.{bytes_eq-from_same}
use Rattle.mam_archive.specs.Chained.{Ascend, IsBelow, IsGap, is_text_of}

pub same_text : (q p : List ℕ) → (q ≡ p) ⊎ (bytes_eq q p ≡ false)
same_text q p = elim (cases_Bool (bytes_eq q p)) [
  | inl same ↦ inl ((bytes_eq-Decides q p).0 same)
  | inr other ↦ inr other
]

pub below-trans : (p q r : List ℕ) → IsBelow p q → IsBelow q r → IsBelow p r
below-trans p q r low high = nat_list_cmp_total.trans p q r low high

below_itself : (p : List ℕ) → IsBelow p p → ⊥
below_itself p low =
    let test : is_eq (slice_cmp nat_cmp p p) ≡ bytes_eq p p = is_eq-slice_cmp p p in
    false≢true (rw low at test ∙ bytes_eq-from_same p p refl)

pub below_from_greater : (p q : List ℕ) → slice_cmp nat_cmp p q ≡ Greater → IsBelow q p
below_from_greater p q greater = nat_list_cmp_total.antisymm q p ∙ ap ordering_reverse greater

pub same_from_equal : (p q : List ℕ) → slice_cmp nat_cmp p q ≡ Equal → p ≡ q
same_from_equal p q equal =
    let test : is_eq (slice_cmp nat_cmp p q) ≡ bytes_eq p q = is_eq-slice_cmp p q in
    (bytes_eq-Decides p q).0 (sym (rw equal at test))

-- a text at a place is one of them
pub at_is_text : (keys : List (List ℕ)) (i : ℕ) (k : List ℕ) → slice_get keys i ≡ Some k → is_text_of k keys ≡ true
at_is_text [] i k is = absurd (none-some k is)
at_is_text (q ∷ qs) zero k is = rw (bytes_eq-from_same q k (same_Some q k is)) refl
at_is_text (q ∷ qs) (suc i) k is = elim (cases_Bool (bytes_eq q k)) [
  | inl same ↦ rw same refl
  | inr other ↦ rw other (at_is_text qs i k is)
]

-- a text that differs from each is none of them
pub not_text : (keys : List (List ℕ)) (p : List ℕ) → ((i : ℕ) (q : List ℕ) → slice_get keys i ≡ Some q → bytes_eq q p ≡ false) → is_text_of p keys ≡ false
not_text [] p none = refl
not_text (q ∷ qs) p none = rw (none zero q refl) (not_text qs p (λ i r is. none (suc i) r is))

pub gap_absent : (keys : List (List ℕ)) (p : List ℕ) (at : ℕ) → IsGap keys p at → is_text_of p keys ≡ false
gap_absent keys p at gap = not_text keys p differs
  where
    differs : (i : ℕ) (q : List ℕ) → slice_get keys i ≡ Some q → bytes_eq q p ≡ false
    differs i q is = elim (same_text q p) [
      | inl same ↦ elim (cases_lt i at) [
        | inl front ↦ absurd (below_itself p (subst (λ t. IsBelow t p) same (gap.below i q front is)))
        | inr back ↦ absurd (below_itself p (subst (λ t. IsBelow p t) same (gap.above i q back is)))
      ]
      | inr other ↦ other
    ]

-- texts in order
all_at : (P : List ℕ → Type 0) (keys : List (List ℕ)) (i : ℕ) (q : List ℕ) → AllByRecursion P keys → slice_get keys i ≡ Some q → P q
all_at P [] i q all is = absurd (none-some q is)
all_at P (k ∷ ks) zero q all is = subst P (same_Some k q is) all.0
all_at P (k ∷ ks) (suc i) q all is = all_at P ks i q all.1 is

pub ascend_at : (keys : List (List ℕ)) (i j : ℕ) (p q : List ℕ) → Ascend keys → i < j → slice_get keys i ≡ Some p → slice_get keys j ≡ Some q → IsBelow p q
ascend_at [] i j p q up order first second = absurd (none-some p first)
ascend_at (k ∷ ks) i zero p q up order first second = absurd (omega arith)
ascend_at (k ∷ ks) zero (suc j) p q up order first second =
    subst (λ t. IsBelow t q) (same_Some k p first) (all_at (IsBelow k) ks j q up.0 second)
ascend_at (k ∷ ks) (suc i) (suc j) p q up order first second = ascend_at ks i j p q up.1 (omega arith) first second

pub differ_at : (keys : List (List ℕ)) (i j : ℕ) (p q : List ℕ) → Ascend keys → i ≢ j → slice_get keys i ≡ Some p → slice_get keys j ≡ Some q → bytes_eq p q ≡ false
differ_at keys i j p q up other first second = elim (same_text p q) [
  | inl same ↦ elim (cases_lt i j) [
    | inl front ↦ absurd (below_itself q (subst (λ t. IsBelow t q) same (ascend_at keys i j p q up front first second)))
    | inr back ↦ absurd (below_itself q (subst (λ t. IsBelow q t) same (ascend_at keys j i q p up (omega arith) second first)))
  ]
  | inr unlike ↦ unlike
]

-- a text put into its gap
all-insert : (P : List ℕ → Type 0) (keys : List (List ℕ)) (at : ℕ) (p : List ℕ) → P p → AllByRecursion P keys → AllByRecursion P (insert keys at p)
all-insert P [] zero p new all = (new, all)
all-insert P [] (suc at) p new all = (new, all)
all-insert P (k ∷ ks) zero p new all = (new, all)
all-insert P (k ∷ ks) (suc at) p new all = (all.0, all-insert P ks at p new all.1)

all_above : (keys : List (List ℕ)) (p : List ℕ) → ((i : ℕ) (q : List ℕ) → slice_get keys i ≡ Some q → IsBelow p q) → AllByRecursion (IsBelow p) keys
all_above [] p above = tt
all_above (k ∷ ks) p above = (above zero k refl, all_above ks p (λ i q is. above (suc i) q is))

pub ascend-insert : (keys : List (List ℕ)) (p : List ℕ) (at : ℕ) → IsGap keys p at → Ascend keys → Ascend (insert keys at p)
ascend-insert [] p zero gap up = (tt, tt)
ascend-insert [] p (suc at) gap up = absurd (omega (arith, gap.bound))
ascend-insert (k ∷ ks) p zero gap up = (all_above (k ∷ ks) p (λ i q is. gap.above i q (omega arith) is), up)
ascend-insert (k ∷ ks) p (suc at) gap up = (
  all-insert (IsBelow k) ks at p (gap.below zero k (omega arith) refl) up.0,
  ascend-insert ks p at (record {
    bound = omega (arith, gap.bound);
    below = λ i q order is. gap.below (suc i) q (omega arith) is;
    above = λ i q order is. gap.above (suc i) q (omega arith) is;
  }) up.1,
)

or_swap : (a b c : Bool) → (a || (b || c)) ≡ (b || (a || c))
or_swap true true c = refl
or_swap true false c = refl
or_swap false true c = refl
or_swap false false c = refl

pub text-insert : (keys : List (List ℕ)) (p : List ℕ) (at : ℕ) (q : List ℕ) → is_text_of q (insert keys at p) ≡ (bytes_eq p q || is_text_of q keys)
text-insert [] p zero q = refl
text-insert [] p (suc at) q = refl
text-insert (k ∷ ks) p zero q = refl
text-insert (k ∷ ks) p (suc at) q =
    ap (λ b. bytes_eq k q || b) (text-insert ks p at q) ∙ or_swap (bytes_eq k q) (bytes_eq p q) (is_text_of q ks)

-- a text taken out
all-remove : (P : List ℕ → Type 0) (keys : List (List ℕ)) (at : ℕ) → AllByRecursion P keys → AllByRecursion P (remove keys at)
all-remove P [] zero all = tt
all-remove P [] (suc at) all = tt
all-remove P (k ∷ ks) zero all = all.1
all-remove P (k ∷ ks) (suc at) all = (all.0, all-remove P ks at all.1)

pub ascend-remove : (keys : List (List ℕ)) (at : ℕ) → Ascend keys → Ascend (remove keys at)
ascend-remove [] zero up = tt
ascend-remove [] (suc at) up = tt
ascend-remove (k ∷ ks) zero up = up.1
ascend-remove (k ∷ ks) (suc at) up = (all-remove (IsBelow k) ks at up.0, ascend-remove ks at up.1)

pub text-remove_other : (keys : List (List ℕ)) (at : ℕ) (p q : List ℕ) → slice_get keys at ≡ Some p → bytes_eq p q ≡ false → is_text_of q (remove keys at) ≡ is_text_of q keys
text-remove_other [] at p q is other = absurd (none-some p is)
text-remove_other (k ∷ ks) zero p q is other =
    let head : bytes_eq k q ≡ false = ap (λ t. bytes_eq t q) (same_Some k p is) ∙ other in
    rw head refl
text-remove_other (k ∷ ks) (suc at) p q is other = ap (λ b. bytes_eq k q || b) (text-remove_other ks at p q is other)

all_other : (keys : List (List ℕ)) (p : List ℕ) → AllByRecursion (IsBelow p) keys → is_text_of p keys ≡ false
all_other keys p all = not_text keys p (λ i q is. elim (same_text q p) [
  | inl same ↦ absurd (below_itself p (subst (λ t. IsBelow p t) same (all_at (IsBelow p) keys i q all is)))
  | inr other ↦ other
])

pub text-remove : (keys : List (List ℕ)) (at : ℕ) (p : List ℕ) → Ascend keys → slice_get keys at ≡ Some p → is_text_of p (remove keys at) ≡ false
text-remove [] at p up is = absurd (none-some p is)
text-remove (k ∷ ks) zero p up is = all_other ks p (subst (λ t. AllByRecursion (IsBelow t) ks) (same_Some k p is) up.0)
text-remove (k ∷ ks) (suc at) p up is =
    let head : bytes_eq k p ≡ false = differ_at (k ∷ ks) zero (suc at) k p up (λ same. omega arith) refl is in
    rw head (text-remove ks at p up.1 is)

-- encodings of keys under an edit of one
pub map-insert : {A B : Type 0} (f : A → B) (xs : List A) (at : ℕ) (x : A) → map f (insert xs at x) ≡ insert (map f xs) at (f x)
map-insert f [] zero x = refl
map-insert f [] (suc at) x = refl
map-insert f (y ∷ ys) zero x = refl
map-insert f (y ∷ ys) (suc at) x = ap (λ t. f y ∷ t) (map-insert f ys at x)

pub map_same : {A B : Type 0} (f g : A → B) (xs : List A) → ((i : ℕ) (x : A) → slice_get xs i ≡ Some x → g x ≡ f x) → map g xs ≡ map f xs
map_same f g [] same = refl
map_same f g (x ∷ xs) same = rw (same zero x refl, map_same f g xs (λ i y is. same (suc i) y is)) refl

pub map-set : {A B : Type 0} (f g : A → B) (xs : List A) (at : ℕ) (x : A) → slice_get xs at ≡ Some x →
    ((i : ℕ) (y : A) → i ≢ at → slice_get xs i ≡ Some y → g y ≡ f y) → map g xs ≡ set (map f xs) at (g x)
map-set f g [] at x is same = absurd (none-some x is)
map-set f g (y ∷ ys) zero x is same =
    rw (same_Some y x is) (ap (λ t. g x ∷ t) (map_same f g ys (λ i z is. same (suc i) z (λ e. omega arith) is)))
map-set f g (y ∷ ys) (suc at) x is same =
    rw (same zero y (λ e. omega arith) refl) (ap (λ t. f y ∷ t) (map-set f g ys at x is (λ i z other is. same (suc i) z (λ e. other (omega arith)) is)))

pub map-remove : {A B : Type 0} (f g : A → B) (xs : List A) (at : ℕ) (x : A) → slice_get xs at ≡ Some x →
    ((i : ℕ) (y : A) → i ≢ at → slice_get xs i ≡ Some y → g y ≡ f y) → map g (remove xs at) ≡ remove (map f xs) at
map-remove f g [] at x is same = absurd (none-some x is)
map-remove f g (y ∷ ys) zero x is same = map_same f g ys (λ i z is. same (suc i) z (λ e. omega arith) is)
map-remove f g (y ∷ ys) (suc at) x is same =
    rw (same zero y (λ e. omega arith) refl) (ap (λ t. f y ∷ t) (map-remove f g ys at x is (λ i z other is. same (suc i) z (λ e. other (omega arith)) is)))
