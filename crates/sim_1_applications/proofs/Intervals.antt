-- Numbers in a row, and an answer's stanzas one after the other.
use Rattle.std.proofs.Common.{◌≡◌, ℕ, suc, zero, ◌+◌, ◌<◌, ◌≤◌, ◌≢◌, ◌==◌, Bool, true, false, cond, List, [], ◌∷◌, ◌++◌, Option, Some, length, map, take, refl, sym, ap, ◌∙◌, arith, inl, inr, ◌⊎◌}
use Rattle.std.specs.Prelude.{◌&&◌, ◌||◌, not}
use Rattle.std.proofs.lemmas.Bool.{or_from, ne_eqb}
use Rattle.sim_1_applications.specs.Stanzas.{Request, Down, answers}
use Rattle.sim_1_applications.specs.Stanzas.Down.{Accepted, Bounced, Live, Res, Fin, NotFound}
use Rattle.sim_1_applications.specs.Answers.{following, last_in, size, edge, is_position, page_from, page_answer_of}
use Rattle.sim_1_applications.specs.Events.{is_number_among, are_new}

pub length_after : (n k : ℕ) → length (following n k) ≡ k
length_after n zero = refl
length_after n (suc k) = ap suc (length_after (suc n) k)

pub after_append : (n j k : ℕ) → following n (j + k) ≡ following n j ++ following (n + j) k
after_append n zero k = (let e : zero + k ≡ k = omega arith in ap (following n) e) ∙ (let e : n ≡ n + zero = omega arith in ap (λ m. following m k) e)
after_append n (suc j) k =
    (let e : suc j + k ≡ suc (j + k) = omega arith in ap (following n) e)
    ∙ ap (λ l. suc n ∷ l) (after_append (suc n) j k ∙ (let e : suc n + j ≡ n + suc j = omega arith in ap (λ m. following (suc n) j ++ following m k) e))

pub last_after : (n k : ℕ) → last_in (following n (suc k)) ≡ Some (n + suc k)
last_after n zero = (let e : suc n ≡ n + suc zero = omega arith in ap Some e)
last_after n (suc k) = last_after (suc n) k ∙ (let e : suc n + suc k ≡ n + suc (suc k) = omega arith in ap Some e)

-- above a list of numbers, or below
pub none_among : (m n k : ℕ) → (m ≤ n) ⊎ (n + k < m) → is_number_among m (following n k) ≡ false
none_among m n zero apart = refl
none_among m n (suc k) (inl low) = or_from (m == suc n) _ (ne_eqb m (suc n) (λ e. omega arith)) (none_among m (suc n) k (inl (omega arith)))
none_among m n (suc k) (inr high) = or_from (m == suc n) _ (ne_eqb m (suc n) (λ e. omega arith)) (none_among m (suc n) k (inr (omega arith)))

pub among_append : (m : ℕ) (a b : List ℕ) → is_number_among m a ≡ false → is_number_among m b ≡ false → is_number_among m (a ++ b) ≡ false
among_append m [] b first second = second
among_append m (n ∷ a) b first second = first_of (m == n) first (among_append m a b)
  where
    first_of : (c : Bool) → (c || is_number_among m a) ≡ false → (is_number_among m a ≡ false → is_number_among m b ≡ false → is_number_among m (a ++ b) ≡ false) →
        (c || is_number_among m (a ++ b)) ≡ false
    first_of true wrong others = absurd (let none : ⊥ = cc in none)
    first_of false known others = others known second

-- numbers above all of the log are new to it
pub new_after : (log : List ℕ) (n k : ℕ) → ((m : ℕ) → n < m → is_number_among m log ≡ false) → are_new log (following n k) ≡ true
new_after log n zero above = refl
new_after log n (suc k) above =
    both (is_number_among (suc n) log) _ (above (suc n) (omega arith))
    (new_after (suc n ∷ log) (suc n) k (λ m high. or_from (m == suc n) _ (ne_eqb m (suc n) (λ e. omega arith)) (above m (omega arith))))
  where
    both : (c e : Bool) → c ≡ false → e ≡ true → (not c && e) ≡ true
    both true e wrong known = absurd (let none : ⊥ = cc in none)
    both false e is known = known

-- the stanzas of an answer are all of answers
end_taken : (k : ℕ) (q : ℕ) (c : Bool) (l : Option ℕ) (t : ℕ) → answers (take k (Fin q c l t ∷ [])) ≡ take k (Fin q c l t ∷ [])
end_taken zero q c l t = refl
end_taken (suc zero) q c l t = refl
end_taken (suc (suc k)) q c l t = refl

page_taken : (k p : ℕ) (ns : List ℕ) (q : ℕ) (c : Bool) (l : Option ℕ) (t : ℕ) → answers (take k (map (Res p) ns ++ Fin q c l t ∷ [])) ≡ take k (map (Res p) ns ++ Fin q c l t ∷ [])
page_taken k p [] q c l t = end_taken k q c l t
page_taken zero p (n ∷ ns) q c l t = refl
page_taken (suc k) p (n ∷ ns) q c l t = ap (λ zs. Res p n ∷ zs) (page_taken k p ns q c l t)

not_found_taken : (k q : ℕ) → answers (take k (NotFound q ∷ [])) ≡ take k (NotFound q ∷ [])
not_found_taken zero q = refl
not_found_taken (suc zero) q = refl
not_found_taken (suc (suc k)) q = refl

pub answer_taken : (k first last : ℕ) (r : Request) → answers (take k (page_answer_of first last r)) ≡ take k (page_answer_of first last r)
answer_taken k first last r = chosen (is_position first last r.after)
  where
    chosen : (b : Bool) → (let zs : List Down = cond b (page_from (edge first r.after) first last r) (NotFound r.number ∷ []) in answers (take k zs) ≡ take k zs)
    chosen true = page_taken k r.number _ r.number _ _ _
    chosen false = not_found_taken k r.number

-- a front of stanzas that are no answers has none
pub none_taken : (k : ℕ) (zs : List Down) → answers zs ≡ [] → answers (take k zs) ≡ []
none_taken k [] none = take_nil k
  where
    take_nil : (n : ℕ) → answers (take n []) ≡ []
    take_nil zero = refl
    take_nil (suc n) = refl
none_taken zero (z ∷ zs) none = refl
none_taken (suc k) (Accepted ∷ zs) none = none_taken k zs none
none_taken (suc k) (Bounced e n ∷ zs) none = none_taken k zs none
none_taken (suc k) (Live n ∷ zs) none = none_taken k zs none
none_taken (suc k) (Res q n ∷ zs) none = absurd (let wrong : Res q n ∷ answers zs ≡ [] = none in let bad : ⊥ = cc in bad)
none_taken (suc k) (Fin q c l t ∷ zs) none = absurd (let wrong : Fin q c l t ∷ answers zs ≡ [] = none in let bad : ⊥ = cc in bad)
none_taken (suc k) (NotFound q ∷ zs) none = absurd (let wrong : NotFound q ∷ answers zs ≡ [] = none in let bad : ⊥ = cc in bad)

pub some_left : (xs : List Down) (z : Down) → xs ++ z ∷ [] ≢ []
some_left [] z e = let bad : ⊥ = cc in bad
some_left (x ∷ xs) z e = let bad : ⊥ = cc in bad

pub answer_some : (first last : ℕ) (r : Request) → page_answer_of first last r ≢ []
answer_some first last r = chosen (is_position first last r.after)
  where
    chosen : (b : Bool) → cond b (page_from (edge first r.after) first last r) (NotFound r.number ∷ []) ≢ []
    chosen true = some_left (map (Res r.number) (following (edge first r.after) (size (edge first r.after) last r.max))) (Fin r.number _ _ _)
    chosen false = λ e. let none : ⊥ = cc in none

-- what stands next in an answer: a result and more, or the end
pub next_of_page : (q : ℕ) (xs ns : List ℕ) (z end : Down) (rest : List Down) → ((n : ℕ) → end ≢ Res q n) → map (Res q) xs ++ z ∷ rest ≡ map (Res q) ns ++ end ∷ [] →
    ((n : ℕ) × (more : List ℕ) × (z ≡ Res q n) × (ns ≡ xs ++ n ∷ more) × (rest ≡ map (Res q) more ++ end ∷ []))
    ⊎ ((z ≡ end) × (xs ≡ ns) × (rest ≡ []))
next_of_page q [] [] z end rest is_end same = inr (let e : z ≡ end = cc in e, refl, let e : rest ≡ [] = cc in e)
next_of_page q [] (n ∷ ns) z end rest is_end same = inl (n, ns, (let e : z ≡ Res q n = cc in e), refl, let e : rest ≡ map (Res q) ns ++ end ∷ [] = cc in e)
next_of_page q (x ∷ []) [] z end rest is_end same = absurd (is_end x (let e : end ≡ Res q x = cc in e))
next_of_page q (x ∷ y ∷ xs) [] z end rest is_end same = absurd (is_end x (let e : end ≡ Res q x = cc in e))
next_of_page q (x ∷ xs) (n ∷ ns) z end rest is_end same =
    let head : x ≡ n = cc in
    elim (next_of_page q xs ns z end rest is_end (let e : map (Res q) xs ++ z ∷ rest ≡ map (Res q) ns ++ end ∷ [] = cc in e)) [
      | inl more ↦ inl (more.0, more.1, more.2, (ap (λ l. n ∷ l) more.3 ∙ ap (λ m. m ∷ (xs ++ more.0 ∷ more.1)) (sym head)), more.4)
      | inr over ↦ inr (over.0, (ap (λ l. x ∷ l) over.1 ∙ ap (λ m. m ∷ ns) head), over.2)
    ]

pub not_found_next : (q p : ℕ) (xs : List ℕ) (z : Down) (rest : List Down) → map (Res q) xs ++ z ∷ rest ≡ NotFound p ∷ [] → (xs ≡ []) × (z ≡ NotFound p) × (rest ≡ [])
not_found_next q p [] z rest same = (refl, (let e : z ≡ NotFound p = cc in e), let e : rest ≡ [] = cc in e)
not_found_next q p (x ∷ xs) z rest same = absurd (let wrong : Res q x ≡ NotFound p = cc in let none : ⊥ = cc in none)
