-- Where a text is cut, when it is known how it was put together.
use Rattle.std.proofs.Common.{◌≡◌, ℕ, ◌+◌, Bool, true, false, nat_lt, List, [], ◌∷◌, ◌++◌, length, drop, Some, None, refl, ap, arith, length-append, suc, inl, inr}
use Rattle.std.specs.List.{list_any, position_or_len, before_first}
use Rattle.std.proofs.lemmas.Bool.{cases_Bool, or_parts, or_from}
use Rattle.std.proofs.lemmas.Bool.Decides.{nat_tests}
use Rattle.std.proofs.Math.Seq.{take-append_seam, take-length, drop-append-add}
use Rattle.im_jid.specs.Cuts.{is_slash, is_at, bare_len, bare_of, resource_of, domain_start, local_of_bare, domain_of_bare}

position_none : (p : ℕ → Bool) (xs : List ℕ) → list_any p xs ≡ false → position_or_len p xs ≡ length xs
position_none p [] none = refl
position_none p (x ∷ xs) none =
    let parts = or_parts (p x) (list_any p xs) none in rw (parts.0, position_none p xs parts.1) (omega arith)

position_here : (p : ℕ → Bool) (xs : List ℕ) (y : ℕ) (ys : List ℕ) → list_any p xs ≡ false → p y ≡ true → position_or_len p (xs ++ y ∷ ys) ≡ length xs
position_here p [] y ys none here = rw here refl
position_here p (x ∷ xs) y ys none here =
    let parts = or_parts (p x) (list_any p xs) none in rw (parts.0, position_here p xs y ys parts.1 here) (omega arith)

pub before_first_uncut : (p : ℕ → Bool) (xs : List ℕ) → list_any p (before_first p xs) ≡ false
before_first_uncut p [] = refl
before_first_uncut p (x ∷ xs) =
    elim (cases_Bool (p x)) [
      | inl here ↦ rw here refl
      | inr none ↦
          let next : 1 + position_or_len p xs ≡ suc (position_or_len p xs) = omega arith in
          rw (none, next) (or_from _ _ none (before_first_uncut p xs))
    ]

drop_after : (xs : List ℕ) (y : ℕ) (ys : List ℕ) → drop (length xs + 1) (xs ++ y ∷ ys) ≡ ys
drop_after xs y ys = drop-append-add xs (y ∷ ys) 1

within : (xs : List ℕ) (y : ℕ) (ys : List ℕ) → nat_lt (length xs) (length (xs ++ y ∷ ys)) ≡ true
within xs y ys = let size = length-append xs (y ∷ ys) in grind (arith, nat_tests)

not_within : (n : ℕ) → nat_lt n n ≡ false
not_within n = grind (arith, nat_tests)

-- a text without `/`, and one with a resource
pub record IsCutFull (bare resource : List ℕ) : Type 0 where
  pub len : bare_len (bare ++ 47 ∷ resource) ≡ length bare
  pub front : bare_of (bare ++ 47 ∷ resource) ≡ bare
  pub back : resource_of (bare ++ 47 ∷ resource) ≡ Some resource

pub record IsCutBare (bare : List ℕ) : Type 0 where
  pub len : bare_len bare ≡ length bare
  pub front : bare_of bare ≡ bare
  pub back : resource_of bare ≡ None

pub cut_full : (bare resource : List ℕ) → list_any is_slash bare ≡ false → IsCutFull bare resource
cut_full bare resource none =
    let here = position_here is_slash bare 47 resource none refl in
    record {
      len = here;
      front = rw here (take-append_seam bare (47 ∷ resource));
      back = rw (here, within bare 47 resource) (ap Some (drop_after bare 47 resource));
    }

pub cut_bare : (bare : List ℕ) → list_any is_slash bare ≡ false → IsCutBare bare
cut_bare bare none =
    let all = position_none is_slash bare none in
    record { len = all; front = rw all (take-length bare); back = rw (all, not_within (length bare)) refl }

-- a bare text with a local part, and a domain alone
pub record IsCutLocal (local domain : List ℕ) : Type 0 where
  pub start : domain_start (local ++ 64 ∷ domain) ≡ length local + 1
  pub front : local_of_bare (local ++ 64 ∷ domain) ≡ Some local
  pub back : domain_of_bare (local ++ 64 ∷ domain) ≡ domain

pub record IsCutDomain (domain : List ℕ) : Type 0 where
  pub start : domain_start domain ≡ 0
  pub front : local_of_bare domain ≡ None
  pub back : domain_of_bare domain ≡ domain

pub cut_local : (local domain : List ℕ) → list_any is_at local ≡ false → IsCutLocal local domain
cut_local local domain none =
    let here = position_here is_at local 64 domain none refl in
    record {
      start = rw (here, within local 64 domain) refl;
      front = rw (here, within local 64 domain) (ap Some (take-append_seam local (64 ∷ domain)));
      back = rw (here, within local 64 domain) (drop_after local 64 domain);
    }

pub cut_domain : (domain : List ℕ) → list_any is_at domain ≡ false → IsCutDomain domain
cut_domain domain none =
    let all = position_none is_at domain none in
    record {
      start = rw (all, not_within (length domain)) refl;
      front = rw (all, not_within (length domain)) refl;
      back = rw (all, not_within (length domain)) refl;
    }
