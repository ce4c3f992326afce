-- The front and what is behind it.
use Rattle.std.proofs.Common.{◌≡◌, ℕ, zero, suc, ◌+◌, ◌-◌, ◌<◌, ◌≤◌, Bool, true, false, cond, eqb, bit_or, not, ◌&&◌, List, [], ◌∷◌, ◌++◌, length, take, drop, get_or, length-drop, refl, sym, ap, ◌∙◌, arith, ⊎_elim}
use Rattle.std.proofs.lemmas.Bool.{cases_Bool, and_parts, and_from, not-true}
use Rattle.std.proofs.lemmas.Bool.Decides.{nat_tests}
use Rattle.std.proofs.lemmas.List.{drop-drop, drop_more}
use Rattle.std.proofs.lemmas.Nat.{le_or_l}
use Rattle.std.specs.List.{prefix_len, list_all}
use Rattle.xml_tokens.specs.Fronts.{front, following}
use Rattle.xml_tokens.specs.Tags.{is_empty}

pub take_prefix : {X : Type 0} (p : X → Bool) (xs : List X) → take (prefix_len p xs) xs ≡ front p xs
take_prefix p [] = refl
take_prefix p (x ∷ xs) =
    ⊎_elim
    (λ (t : p x ≡ true). let n : 1 + prefix_len p xs ≡ suc (prefix_len p xs) = omega arith in rw (t, n) (ap (λ l. x ∷ l) (take_prefix p xs)))
    (λ (f : p x ≡ false). rw f refl)
    (cases_Bool (p x))

pub drop_prefix : {X : Type 0} (p : X → Bool) (xs : List X) → drop (prefix_len p xs) xs ≡ following p xs
drop_prefix p [] = refl
drop_prefix p (x ∷ xs) =
    ⊎_elim
    (λ (t : p x ≡ true). let n : 1 + prefix_len p xs ≡ suc (prefix_len p xs) = omega arith in rw (t, n) (drop_prefix p xs))
    (λ (f : p x ≡ false). rw f refl)
    (cases_Bool (p x))

pub prefix_within : {X : Type 0} (p : X → Bool) (xs : List X) → prefix_len p xs ≤ length xs
prefix_within p [] = omega arith
prefix_within p (x ∷ xs) =
    ⊎_elim (λ (t : p x ≡ true). let ih = prefix_within p xs in rw t (omega arith)) (λ (f : p x ≡ false). rw f (omega arith)) (cases_Bool (p x))

prefix_after : {X : Type 0} (p : X → Bool) (n : ℕ) (xs : List X) → n ≤ length xs → list_all p (take n xs) ≡ true → n + prefix_len p (drop n xs) ≡ prefix_len p xs
prefix_after p zero xs within h = omega arith
prefix_after p (suc n) [] within h = omega arith
prefix_after p (suc n) (x ∷ xs) within h =
    let q = and_parts (p x) _ h in
    let less : n ≤ length xs = omega arith in
    let ih = prefix_after p n xs less q.1 in
    rw q.0 (omega arith)

-- what passes one test and then the other, where the other is wider
pub prefix_in_two : (p q : ℕ → Bool) → ((x : ℕ) → p x ≡ true → q x ≡ true) → (xs : List ℕ) → prefix_len p xs + prefix_len q (drop (prefix_len p xs) xs) ≡ prefix_len q xs
prefix_in_two p q wider [] = refl
prefix_in_two p q wider (x ∷ xs) =
    ⊎_elim
    (λ (t : p x ≡ true).
    let n : 1 + prefix_len p xs ≡ suc (prefix_len p xs) = omega arith in
    let ih = prefix_in_two p q wider xs in
    rw (t, wider x t, n) (omega (arith, ih)))
    (λ (f : p x ≡ false). rw f (omega arith))
    (cases_Bool (p x))

-- what passes behind a place where all have passed
pub prefix_further : (p : ℕ → Bool) (done to : ℕ) (xs : List ℕ) → done ≤ to → to ≤ length xs → list_all p (take (to - done) (drop done xs)) ≡ true
    → to - done + prefix_len p (drop to xs) ≡ prefix_len p (drop done xs)
prefix_further p done to xs further within h =
    let left : to - done ≤ length (drop done xs) = omega (arith, length-drop done xs) in
    let e : to ≡ done + (to - done) = omega arith in
    ap (λ l. to - done + prefix_len p l) (ap (λ k. drop k xs) e ∙ sym (drop-drop (to - done) done xs)) ∙ prefix_after p (to - done) (drop done xs) left h

-- where all pass
pub prefix_of_all : (p : ℕ → Bool) (xs : List ℕ) → list_all p xs ≡ true → length xs ≡ prefix_len p xs
prefix_of_all p [] h = refl
prefix_of_all p (x ∷ xs) h =
    let q = and_parts (p x) _ h in
    let ih = prefix_of_all p xs q.1 in
    rw q.0 (omega arith)

-- all pass where those before a place do and those from there on
pub all_in_parts : (p : ℕ → Bool) (n : ℕ) (xs : List ℕ) → (list_all p (take n xs) && list_all p (drop n xs)) ≡ list_all p xs
all_in_parts p zero xs = refl
all_in_parts p (suc n) [] = refl
all_in_parts p (suc n) (x ∷ xs) =
    ⊎_elim (λ (t : p x ≡ true). rw t (all_in_parts p n xs)) (λ (f : p x ≡ false). rw f refl) (cases_Bool (p x))

pub all_after : (p : ℕ → Bool) (n : ℕ) (xs before after : List ℕ) → before ≡ take n xs → after ≡ drop n xs → list_all p before ≡ true → list_all p after ≡ list_all p xs
all_after p n xs before after first last h =
    let all : list_all p (take n xs) ≡ true = ap (list_all p) (sym first) ∙ h in
    ap (list_all p) last ∙ (sym (ap (λ t. t && list_all p (drop n xs)) all) ∙ all_in_parts p n xs)

-- both together are the list
pub joined : {X : Type 0} (p : X → Bool) (xs : List X) → front p xs ++ following p xs ≡ xs
joined p [] = refl
joined p (x ∷ xs) =
    ⊎_elim (λ (t : p x ≡ true). rw t (ap (λ l. x ∷ l) (joined p xs))) (λ (f : p x ≡ false). rw f refl) (cases_Bool (p x))

pub front_passes : {X : Type 0} (p : X → Bool) (xs : List X) → list_all p (front p xs) ≡ true
front_passes p [] = refl
front_passes p (x ∷ xs) =
    ⊎_elim (λ (t : p x ≡ true). rw t (and_from _ _ t (front_passes p xs))) (λ (f : p x ≡ false). rw f refl) (cases_Bool (p x))

-- no item passes at the front
abbrev pub stops : {X : Type 0} → (X → Bool) → List X → Bool
stops p [] = true
stops p (x ∷ xs) = not (p x)

pub front-append : {X : Type 0} (p : X → Bool) (xs ys : List X) → list_all p xs ≡ true → stops p ys ≡ true → front p (xs ++ ys) ≡ xs
front-append p [] [] h s = refl
front-append p [] (y ∷ ys) h s = rw (not-true (p y) s) refl
front-append p (x ∷ xs) ys h s = let q = and_parts (p x) (list_all p xs) h in rw q.0 (ap (λ l. x ∷ l) (front-append p xs ys q.1 s))

pub following-append : {X : Type 0} (p : X → Bool) (xs ys : List X) → list_all p xs ≡ true → stops p ys ≡ true → following p (xs ++ ys) ≡ ys
following-append p [] [] h s = refl
following-append p [] (y ∷ ys) h s = rw (not-true (p y) s) refl
following-append p (x ∷ xs) ys h s = let q = and_parts (p x) (list_all p xs) h in rw q.0 (following-append p xs ys q.1 s)

pub length-joined : {X : Type 0} (p : X → Bool) (xs : List X) → length (front p xs) + length (following p xs) ≡ length xs
length-joined p [] = refl
length-joined p (x ∷ xs) =
    ⊎_elim (λ (t : p x ≡ true). let ih = length-joined p xs in rw t (omega arith)) (λ (f : p x ≡ false). rw f (omega arith)) (cases_Bool (p x))

pub after_stops : {X : Type 0} (p : X → Bool) (xs : List X) (y : X) (ys : List X) → following p xs ≡ y ∷ ys → p y ≡ false
after_stops p [] y ys e = absurd cc
after_stops p (x ∷ xs) y ys e =
    ⊎_elim
    (λ (t : p x ≡ true). after_stops p xs y ys (sym (drop_first (p x) (following p xs) (x ∷ xs) t) ∙ e))
    (λ (f : p x ≡ false). let same : x ∷ xs ≡ y ∷ ys = sym (keep_all (p x) (following p xs) (x ∷ xs) f) ∙ e in let first : x ≡ y = cc in rw (← first) f)
    (cases_Bool (p x))
  where
    drop_first : {Y : Type 0} (b : Bool) (u v : Y) → b ≡ true → cond b u v ≡ u
    drop_first b u v t = rw t refl

    keep_all : {Y : Type 0} (b : Bool) (u v : Y) → b ≡ false → cond b u v ≡ v
    keep_all b u v f = rw f refl

pub none_in_front : (p : ℕ → Bool) (b : ℕ) (bs : List ℕ) → not (p b) ≡ is_empty (front p (b ∷ bs))
none_in_front p b bs = ⊎_elim (λ (t : p b ≡ true). rw t refl) (λ (f : p b ≡ false). rw f refl) (cases_Bool (p b))

pub stops_where_none : (p : ℕ → Bool) (bs : List ℕ) → is_empty (front p bs) ≡ true → stops p bs ≡ true
stops_where_none p [] h = refl
stops_where_none p (b ∷ bs) h = none_in_front p b bs ∙ h

-- two marks are nothing where both are
joined_marks : (a b : ℕ) → eqb (bit_or a b) 0 ≡ (eqb a 0 && eqb b 0)
joined_marks zero b = refl
joined_marks (suc a) b = something (suc a) (bit_or (suc a) b) (omega arith) (le_or_l (suc a) b) ∙ ap (λ t. t && eqb b 0) (sym (something (suc a) (suc a) (omega arith) (omega arith)))
  where
    something : (a c : ℕ) → 1 ≤ a → a ≤ c → eqb c 0 ≡ false
    something a c least more = grind (arith, nat_tests)

-- the mark of the next item is joined
pub next_mark : (p : ℕ → Bool) (a m i d : ℕ) (xs : List ℕ) → i < length xs → eqb m 0 ≡ p (get_or xs i d)
    → (eqb (bit_or a m) 0 && list_all p (drop (i + 1) xs)) ≡ (eqb a 0 && list_all p (drop i xs))
next_mark p a m i d xs h is =
    let left = list_all p (drop (i + 1) xs) in
    ap (λ t. t && left) (joined_marks a m) ∙ (ap (λ t. (eqb a 0 && t) && left) is ∙ (regrouped (eqb a 0) (p (get_or xs i d)) left ∙ ap (λ l. eqb a 0 && list_all p l) (sym (drop_more xs i d h))))
  where
    regrouped : (x y z : Bool) → ((x && y) && z) ≡ (x && (y && z))
    regrouped true y z = refl
    regrouped false y z = refl
