-- A5: how an account's archive grows, and the numbers of what it keeps.
use Rattle.std.proofs.Common.{◌≡◌, ℕ, suc, zero, ◌+◌, ◌-◌, ◌≤◌, List, [], ◌∷◌, ◌++◌, length, map, drop, refl, ap, ◌∙◌, arith}
use Rattle.std.specs.List.{filter}
use Rattle.std.proofs.lemmas.List.Elements.{filter-append}
use Rattle.sim_1_applications.specs.Devices.{Take, concerns, first_of, last_of}
use Rattle.sim_1_applications.specs.Answers.{following}
use Rattle.sim_1_applications.specs.Archives.{Entry, numbered_from, archive_of, kept_of}

numbered_append : (n : ℕ) (xs ys : List Take) → numbered_from n (xs ++ ys) ≡ numbered_from n xs ++ numbered_from (n + length xs) ys
numbered_append n [] ys = (let e : n ≡ n + 0 = omega arith in ap (λ m. numbered_from m ys) e)
numbered_append n (x ∷ xs) ys =
    ap (λ es. record { number = n; take = x } ∷ es)
    (numbered_append (n + 1) xs ys ∙ (let e : n + 1 + length xs ≡ n + suc (length xs) = omega arith in ap (λ m. numbered_from (n + 1) xs ++ numbered_from m ys) e))

numbered_length : (n : ℕ) (xs : List Take) → length (numbered_from n xs) ≡ length xs
numbered_length n [] = refl
numbered_length n (x ∷ xs) = ap suc (numbered_length (n + 1) xs)

numbers_are : (n : ℕ) (xs : List Take) → map (λ (e : Entry). e.number) (numbered_from (n + 1) xs) ≡ following n (length xs)
numbers_are n [] = refl
numbers_are n (x ∷ xs) =
    (let e : n + 1 ≡ suc n = omega arith in ap (λ m. m ∷ map (λ (d : Entry). d.number) (numbered_from (n + 1 + 1) xs)) e)
    ∙ ap (λ ns. suc n ∷ ns) ((let e : n + 1 + 1 ≡ suc n + 1 = omega arith in ap (λ m. map (λ (d : Entry). d.number) (numbered_from m xs)) e) ∙ numbers_are (suc n) xs)

-- new takes go behind it, with the next numbers
pub archive_grows : (account : List ℕ) (takes new : List Take) →
    archive_of account (takes ++ new) ≡ archive_of account takes ++ numbered_from (1 + last_of takes account) (filter (concerns account) new)
unfolding archive_of last_of
archive_grows account takes new =
    ap (numbered_from 1) (filter-append (concerns account) takes new) ∙ numbered_append 1 (filter (concerns account) takes) (filter (concerns account) new)

pub archive_last : (account : List ℕ) (takes : List Take) → length (archive_of account takes) ≡ last_of takes account
unfolding archive_of last_of
archive_last account takes = numbered_length 1 (filter (concerns account) takes)

pub archive_numbers : (account : List ℕ) (takes : List Take) → map (λ (e : Entry). e.number) (archive_of account takes) ≡ following 0 (last_of takes account)
unfolding archive_of last_of
archive_numbers account takes = (let e : 1 ≡ 0 + 1 = omega arith in ap (λ m. map (λ (d : Entry). d.number) (numbered_from m (filter (concerns account) takes))) e) ∙ numbers_are 0 (filter (concerns account) takes)

drop_after : {A : Type 0} (number : A → ℕ) (j n k : ℕ) (es : List A) → map number es ≡ following n k → map number (drop j es) ≡ following (n + j) (k - j)
drop_after number zero n k es are = are ∙ (let e : n ≡ n + 0 = omega arith in ap (λ m. following m k) e) ∙ (let e : k ≡ k - 0 = omega arith in ap (following (n + 0)) e)
drop_after number (suc j) n zero [] are = (let e : zero ≡ zero - suc j = omega arith in ap (following (n + suc j)) e)
drop_after number (suc j) n (suc k) [] are = absurd (let bad : ⊥ = cc in bad)
drop_after number (suc j) n zero (x ∷ es) are = absurd (let bad : ⊥ = cc in bad)
drop_after number (suc j) n (suc k) (x ∷ es) are =
    drop_after number j (suc n) k es (let others : map number es ≡ following (suc n) k = cc in others)
    ∙ (let e : suc n + j ≡ n + suc j = omega arith in ap (λ m. following m (k - j)) e)
    ∙ (let e : k - j ≡ suc k - suc j = omega arith in ap (following (n + suc j)) e)

-- what is kept has the numbers first, first + 1, .., last
pub kept_numbers : (keep : ℕ) (account : List ℕ) (takes : List Take) → 1 ≤ keep →
    map (λ (e : Entry). e.number) (kept_of keep (archive_of account takes))
    ≡ following (first_of keep (last_of takes account) - 1) (last_of takes account + 1 - first_of keep (last_of takes account))
kept_numbers keep account takes some =
    let last = archive_last account takes in
    let j : ℕ = length (archive_of account takes) - keep in
    drop_after (λ (e : Entry). e.number) j 0 (last_of takes account) (archive_of account takes) (archive_numbers account takes)
    ∙ (let e : 0 + j ≡ first_of keep (last_of takes account) - 1 = omega arith in ap (λ m. following m (last_of takes account - j)) e)
    ∙ (let e : last_of takes account - j ≡ last_of takes account + 1 - first_of keep (last_of takes account) = omega arith in
    ap (following (first_of keep (last_of takes account) - 1)) e)
