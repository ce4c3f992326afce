-- Tables by numbers, and entries that are changed.
use Rattle.std.proofs.Common.{◌≡◌, ◌≢◌, ℕ, true, false, refl, sym, ap, ◌∙◌, subst, inl, inr, Option, None, Some, nat_eq}
use Rattle.std.proofs.lemmas.Bool.{cases_Bool, cases_eq, eq-eqb, eqb-true}
use Rattle.sim_2_links.specs.Views.{Table, with_at, alter, changed, has}

pub same_number : (a : ℕ) → nat_eq a a ≡ true
same_number a = eq-eqb a a refl

pub other_number : (a b : ℕ) → a ≢ b → nat_eq a b ≡ false
other_number a b ne = elim (cases_Bool (nat_eq a b)) [ inl e ↦ absurd (ne (eqb-true a b e)) | inr e ↦ e ]

pub at_same : {A : Type 0} (k : ℕ) (a : A) (t : Table A) → with_at k a t k ≡ Some a
at_same k a t = rw same_number refl

pub at_other : {A : Type 0} (k : ℕ) (a : A) (t : Table A) (n : ℕ) → k ≢ n → with_at k a t n ≡ t n
at_other k a t n ne = let e = other_number k n ne in rw e refl

-- an entry of the new table is the new one, or was there
pub data Entry {A : Type 0} (k : ℕ) (a : A) (t : Table A) (n : ℕ) (b : A) : Type 0 where
  New : k ≡ n → a ≡ b → Entry k a t n b
  Old : k ≢ n → t n ≡ Some b → Entry k a t n b

pub entry : {A : Type 0} (k : ℕ) (a : A) (t : Table A) (n : ℕ) (b : A) → with_at k a t n ≡ Some b → Entry k a t n b
entry k a t n b e =
    elim (cases_eq k n) [
      | inl same ↦
          let now : with_at k a t n ≡ Some a = subst (λ x. with_at k a t x ≡ Some a) same (at_same k a t) in
          New same (let out : a ≡ b = cc in out)
      | inr ne ↦ Old ne (sym (at_other k a t n ne) ∙ e)
    ]

-- an entry of a changed table was there, and is changed
pub was : {A : Type 0} (f : ℕ → A → A) (t : Table A) (n : ℕ) (b : A) → alter f t n ≡ Some b → (a : A) × (t n ≡ Some a) × (f n a ≡ b)
was {A = A} f t n b e = go (t n) refl e
  where
    go : (o : Option A) → t n ≡ o → changed (f n) o ≡ Some b → (a : A) × (t n ≡ Some a) × (f n a ≡ b)
    go None is none = absurd (let no_way : ⊥ = cc in no_way)
    go (Some a) is some = (a, is, (let out : f n a ≡ b = cc in out))

pub altered : {A : Type 0} (f : ℕ → A → A) (t : Table A) (n : ℕ) (a : A) → t n ≡ Some a → alter f t n ≡ Some (f n a)
altered f t n a e = ap (changed (f n)) e

pub has_same : (p : ℕ) → has (Some p) p ≡ true
has_same p = same_number p

pub has_is : (o : Option ℕ) (n : ℕ) → has o n ≡ true → o ≡ Some n
has_is None n e = absurd (let no_way : ⊥ = cc in no_way)
has_is (Some m) n e = ap Some (eqb-true m n e)

pub is_has : (o : Option ℕ) (n : ℕ) → o ≡ Some n → has o n ≡ true
is_has o n e = subst (λ x. has x n ≡ true) (sym e) (same_number n)

pub has_not : (o : Option ℕ) (n : ℕ) → o ≢ Some n → has o n ≡ false
has_not o n ne = elim (cases_Bool (has o n)) [ inl e ↦ absurd (ne (has_is o n e)) | inr e ↦ e ]
