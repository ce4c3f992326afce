-- Origin ids: which numbers they are of.
use Rattle.std.proofs.Common.{◌≡◌, ◌≢◌, ℕ, zero, suc, ◌^◌, ◌<◌, List, [], ◌∷◌, ◌++◌, length, get_or, refl, append_assoc, sym, ap, ap₂, subst, ◌∙◌, arith, decimal, Option, Some, None, IfNone, Result, Ok, Err, Bor}
use Rattle.std.proofs.lemmas.Fmt.{decimal_injective, decimal_is_IsNumeral}
use Rattle.std.proofs.lemmas.List.{append_cancel_left}
use Rattle.std.proofs.lemmas.Str.Pattern.{IsSplitOnceResult, split_after}
use Rattle.std.specs.Char.{digit_value}
use Rattle.std.specs.Option.{MatchOption}
use Rattle.std.specs.Str.Parse.{AllDigits}
use Rattle.sm_outbox.specs.Submissions.{origin_of}

-- no digit is a dot
undotted : (ds : List ℕ) → AllDigits 10 ds → (i : ℕ) → i < length ds → get_or ds i 0 ≢ 46
undotted [] all i below = absurd (omega arith)
undotted (c ∷ cs) all zero below = λ dot. (let bad : digit_value 46 < 10 = subst (λ x. digit_value x < 10) dot all.0 in absurd (omega arith))
undotted (c ∷ cs) all (suc i) below = undotted cs all.1 i (omega arith)

pub decimal_undotted : (n : ℕ) → n < 2 ^ 64 → (i : ℕ) → i < length (decimal n) → get_or (decimal n) i 0 ≢ 46
decimal_undotted n small = undotted (decimal n) (decimal_is_IsNumeral n small).0.1

-- two texts that are cut at their first dot
same_cut : (xs ys us vs : List ℕ) → ((i : ℕ) → i < length xs → get_or xs i 0 ≢ 46) → ((i : ℕ) → i < length us → get_or us i 0 ≢ 46) → xs ++ 46 ∷ ys ≡ us ++ 46 ∷ vs → (xs ≡ us) × (ys ≡ vs)
same_cut [] ys [] vs plain clear same = (refl, ap rest_of same)
  where
    rest_of : List ℕ → List ℕ
    rest_of [] = []
    rest_of (b ∷ bs) = bs
same_cut [] ys (u ∷ us) vs plain clear same = absurd (clear 0 (omega arith) (sym (ap first_of same)))
  where
    first_of : List ℕ → ℕ
    first_of [] = 0
    first_of (b ∷ bs) = b
same_cut (x ∷ xs) ys [] vs plain clear same = absurd (plain 0 (omega arith) (ap first_of same))
  where
    first_of : List ℕ → ℕ
    first_of [] = 0
    first_of (b ∷ bs) = b
same_cut (x ∷ xs) ys (u ∷ us) vs plain clear same =
    let tails = same_cut xs ys us vs (λ i below. plain (suc i) (omega arith)) (λ i below. clear (suc i) (omega arith)) (ap rest_of same) in
    (ap₂ (λ b bs. b ∷ bs) (ap first_of same) tails.0, tails.1)
  where
    first_of : List ℕ → ℕ
    first_of [] = 0
    first_of (b ∷ bs) = b

    rest_of : List ℕ → List ℕ
    rest_of [] = []
    rest_of (b ∷ bs) = bs

-- what stands behind the resource
origin_cut : (resource : List ℕ) (epoch n : ℕ) → origin_of resource epoch n ≡ resource ++ (46 ∷ decimal epoch ++ 46 ∷ decimal n)
origin_cut resource epoch n = append_assoc resource (46 ∷ decimal epoch) (46 ∷ decimal n)

pub after_resource : (resource id dotted : List ℕ) (epoch n : ℕ) → id ≡ resource ++ dotted → id ≡ origin_of resource epoch n → dotted ≡ 46 ∷ decimal epoch ++ 46 ∷ decimal n
after_resource resource id dotted epoch n cut is = append_cancel_left resource dotted (46 ∷ decimal epoch ++ 46 ∷ decimal n) (sym cut ∙ is ∙ origin_cut resource epoch n)

pub after_dot : (resource id dotted numbers : List ℕ) (epoch n : ℕ) → id ≡ resource ++ dotted → dotted ≡ 46 ∷ numbers → id ≡ origin_of resource epoch n → numbers ≡ decimal epoch ++ 46 ∷ decimal n
after_dot resource id dotted numbers epoch n cut dot is = ap rest_of (sym dot ∙ after_resource resource id dotted epoch n cut is)
  where
    rest_of : List ℕ → List ℕ
    rest_of [] = []
    rest_of (b ∷ bs) = bs

pub origin_injective : (resource : List ℕ) (d m e n : ℕ) → d < 2 ^ 64 → m < 2 ^ 64 → e < 2 ^ 64 → n < 2 ^ 64 → origin_of resource d m ≡ origin_of resource e n → (d ≡ e) × (m ≡ n)
origin_injective resource d m e n small_d small_m small_e small_n same =
    let after : decimal d ++ 46 ∷ decimal m ≡ decimal e ++ 46 ∷ decimal n = after_dot resource (origin_of resource d m) (46 ∷ decimal d ++ 46 ∷ decimal m) (decimal d ++ 46 ∷ decimal m) e n (origin_cut resource d m) refl same in
    let parts = same_cut (decimal d) (decimal m) (decimal e) (decimal n) (decimal_undotted d small_d) (decimal_undotted e small_e) after in
    (decimal_injective d e small_d small_e parts.0, decimal_injective m n small_m small_n parts.1)

-- what `split_once` finds in two numbers with a dot between
pub numbers_split : (text : List ℕ) (r : Option (Bor (List ℕ) × Bor (List ℕ))) (e n : ℕ) → IsSplitOnceResult 46 text r → e < 2 ^ 64 → text ≡ decimal e ++ 46 ∷ decimal n → MatchOption r ⊥ (λ x. (x.0.now ≡ decimal e) × (x.1.now ≡ decimal n))
numbers_split text r e n split small same = split_after 46 text (decimal e) (decimal n) r split (omega arith) same (decimal_undotted e small)

abbrev value : {E : Type 0} → Result ℕ E → ℕ
value (Ok n) = n
value (Err e) = 0

pub same_value : {E : Type 0} (r : Result ℕ E) (m n : ℕ) → r ≡ Ok m → r ≡ Ok n → m ≡ n
same_value r m n first last = ap value (sym first ∙ last)

-- where no numbers were found, the id is no origin id
pub no_numbers : {T : Type 0} (resource id dotted numbers : List ℕ) (r : Option T) → id ≡ resource ++ dotted → dotted ≡ 46 ∷ numbers
    → IfNone r ((epoch n : ℕ) → epoch < 2 ^ 64 → n < 2 ^ 64 → numbers ≢ decimal epoch ++ 46 ∷ decimal n)
    → IfNone r ((epoch n : ℕ) → epoch < 2 ^ 64 → n < 2 ^ 64 → id ≢ origin_of resource epoch n)
no_numbers resource id dotted numbers (Some x) cut dot none = tt
no_numbers resource id dotted numbers None cut dot none = λ epoch n small fits is. none epoch n small fits (after_dot resource id dotted numbers epoch n cut dot is)
