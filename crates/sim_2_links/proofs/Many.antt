-- How many stanzas are such, and how the words under way keep that ends and requests come in time.
use Rattle.std.proofs.Common.{◌≡◌, ℕ, zero, suc, ◌+◌, ◌≤◌, Bool, true, false, List, [], ◌∷◌, ◌++◌, length, take, drop, map, refl, sym, ap, ◌∙◌, subst, arith, take-append-drop}
use Rattle.sim_2_links.specs.Words.{St, Req, Ack, down_stanzas, UpWord, Up, DownWord, Head, Feat, Chal, Succ, Failed, Resumed, Bound, Enabled, Down, Err, End}
use Rattle.sim_2_links.specs.SessionMoves.{again}
use Rattle.sim_2_links.specs.Paging.{Paging, one_if, many, covered_at, ended_at, IsReadInTime, AreReadInTime, covered, covered_up, asked_at, IsTakenInTime, AreTakenInTime, all_asked, covered_in}

pub one_at_most : (b : Bool) → one_if b ≤ 1
one_at_most true = omega arith
one_at_most false = omega arith

pub one_where : (b : Bool) → b ≡ true → one_if b ≡ 1
one_where b e = ap one_if e

pub none_where : (b : Bool) → b ≡ false → one_if b ≡ 0
none_where b e = ap one_if e

-- lists

pub many_append : {A : Type 0} (test : A → Bool) (xs ys : List A) → many test (xs ++ ys) ≡ many test xs + many test ys
many_append test [] ys = omega arith
many_append test (x ∷ xs) ys = let e = many_append test xs ys in omega arith

pub many_push : {A : Type 0} (test : A → Bool) (xs : List A) (z : A) → many test (xs ++ z ∷ []) ≡ many test xs + one_if (test z)
many_push test xs z = let e = many_append test xs (z ∷ []) in omega arith

pub many_split : {A : Type 0} (test : A → Bool) (n : ℕ) (xs : List A) → many test (take n xs) + many test (drop n xs) ≡ many test xs
many_split test n xs = sym (many_append test (take n xs) (drop n xs)) ∙ ap (many test) (take-append-drop n xs)

pub many_rises : {A : Type 0} (test : A → Bool) (n h : ℕ) (xs : List A) → n ≤ h → many test (take n xs) ≤ many test (take h xs)
many_rises test zero h xs low = omega arith
many_rises test (suc n) zero xs low = absurd (omega arith)
many_rises test (suc n) (suc h) [] low = omega arith
many_rises test (suc n) (suc h) (x ∷ xs) low = let less : n ≤ h = omega arith in let e = many_rises test n h xs less in omega arith

pub many_later : {A : Type 0} (test : A → Bool) (n : ℕ) (xs ys : List A) → many test (take n xs) ≤ many test (take n (xs ++ ys))
many_later test zero xs ys = omega arith
many_later test (suc n) [] ys = omega arith
many_later test (suc n) (x ∷ xs) ys = let e = many_later test n xs ys in omega arith

-- a front that was taken from a longer list
pub many_front : {A : Type 0} (test : A → Bool) (xs ys : List A) → many test (take (length xs) (xs ++ ys)) ≡ many test xs
many_front test [] ys = refl
many_front test (x ∷ xs) ys = ap (λ n. one_if (test x) + n) (many_front test xs ys)

pub dropped : {A : Type 0} (test : A → Bool) (most n : ℕ) (xs : List A) → length xs ≤ most + many test xs → length (drop n xs) ≤ most + many test (drop n xs)
dropped test most zero xs low = low
dropped test most (suc n) [] low = low
dropped test most (suc n) (x ∷ xs) low = dropped test most n xs (let one = one_at_most (test x) in let less : length xs ≤ most + many test xs = omega arith in less)

-- words that the client reads

abbrev pub all_ended : {A : Type 0} → Paging A → List (DownWord A) → ℕ
all_ended p [] = 0
all_ended p (w ∷ ws) = ended_at p w + all_ended p ws

pub ended_stanzas : {A : Type 0} (p : Paging A) (ws : List (DownWord A)) → all_ended p ws ≡ many p.ends (down_stanzas ws)
ended_stanzas p [] = refl
ended_stanzas p (Down (St z) ∷ ws) = ap (λ n. one_if (p.ends z) + n) (ended_stanzas p ws)
ended_stanzas p (Down Req ∷ ws) = let e = ended_stanzas p ws in omega arith
ended_stanzas p (Down (Ack h) ∷ ws) = let e = ended_stanzas p ws in omega arith
ended_stanzas p (Head ∷ ws) = let e = ended_stanzas p ws in omega arith
ended_stanzas p (Feat ∷ ws) = let e = ended_stanzas p ws in omega arith
ended_stanzas p (Chal ∷ ws) = let e = ended_stanzas p ws in omega arith
ended_stanzas p (Succ ∷ ws) = let e = ended_stanzas p ws in omega arith
ended_stanzas p (Failed ∷ ws) = let e = ended_stanzas p ws in omega arith
ended_stanzas p (Resumed q h ∷ ws) = let e = ended_stanzas p ws in omega arith
ended_stanzas p (Bound m ∷ ws) = let e = ended_stanzas p ws in omega arith
ended_stanzas p (Enabled m ∷ ws) = let e = ended_stanzas p ws in omega arith
ended_stanzas p (Err c ∷ ws) = let e = ended_stanzas p ws in omega arith
ended_stanzas p (End ∷ ws) = let e = ended_stanzas p ws in omega arith

pub read_more : {A : Type 0} (p : Paging A) (put : List A) (m e f : ℕ) (ws more : List (DownWord A)) → e + all_ended p ws ≡ f → AreReadInTime p put m e ws → AreReadInTime p put (covered p put m ws) f more → AreReadInTime p put m e (ws ++ more)
read_more p put m e f [] more sum a b = subst (λ n. AreReadInTime p put m n more) (let same : f ≡ e = omega arith in same) b
read_more p put m e f (w ∷ ws) more sum a b = (a.0, read_more p put (covered_at p put m w) (e + ended_at p w) f ws more (let same : e + ended_at p w + all_ended p ws ≡ f = omega arith in same) a.1 b)

pub covered_more : {A : Type 0} (p : Paging A) (put : List A) (m : ℕ) (ws more : List (DownWord A)) → covered p put m (ws ++ more) ≡ covered p put (covered p put m ws) more
covered_more p put m [] more = refl
covered_more p put m (w ∷ ws) more = covered_more p put (covered_at p put m w) ws more

pub read_front : {A : Type 0} (p : Paging A) (put : List A) (m e j : ℕ) (ws : List (DownWord A)) → AreReadInTime p put m e ws → AreReadInTime p put m e (take j ws)
read_front p put m e zero ws a = tt
read_front p put m e (suc j) [] a = tt
read_front p put m e (suc j) (w ∷ ws) a = (a.0, read_front p put (covered_at p put m w) (e + ended_at p w) j ws a.1)

read_low : {A : Type 0} (p : Paging A) (m n e : ℕ) (w : DownWord A) → m ≤ n → IsReadInTime p m e w → IsReadInTime p n e w
read_low p m n e (Down (St z)) low a = λ it. let b = a it in omega arith
read_low p m n e (Down Req) low a = tt
read_low p m n e (Down (Ack h)) low a = tt
read_low p m n e _ low a = tt

covered_low : {A : Type 0} (p : Paging A) (put : List A) (z : A) (m n : ℕ) (w : DownWord A) → m ≤ n → covered_at p put m w ≤ covered_at p (put ++ z ∷ []) n w
covered_low p put z m n (Down (St y)) low = low
covered_low p put z m n (Down Req) low = low
covered_low p put z m n (Down (Ack h)) low = many_later p.asks h put (z ∷ [])
covered_low p put z m n (Resumed q h) low = many_later p.asks h put (z ∷ [])
covered_low p put z m n _ low = low

-- the client puts one more stanza
pub read_later : {A : Type 0} (p : Paging A) (put : List A) (z : A) (m n e : ℕ) (ws : List (DownWord A)) → m ≤ n → AreReadInTime p put m e ws → AreReadInTime p (put ++ z ∷ []) n e ws
read_later p put z m n e [] low a = tt
read_later p put z m n e (w ∷ ws) low a = (read_low p m n e w low a.0, read_later p put z (covered_at p put m w) (covered_at p (put ++ z ∷ []) n w) (e + ended_at p w) ws (covered_low p put z m n w low) a.1)

pub covered_later : {A : Type 0} (p : Paging A) (put : List A) (z : A) (m n : ℕ) (ws : List (DownWord A)) → m ≤ n → covered p put m ws ≤ covered p (put ++ z ∷ []) n ws
covered_later p put z m n [] low = low
covered_later p put z m n (w ∷ ws) low = covered_later p put z (covered_at p put m w) (covered_at p (put ++ z ∷ []) n w) ws (covered_low p put z m n w low)

-- all ends among stanzas of which so many pages ended before
pub ends_sent : {A : Type 0} (p : Paging A) (put : List A) (m e : ℕ) (zs : List A) → e + many p.ends zs ≤ m → AreReadInTime p put m e (map Down (map St zs))
ends_sent p put m e [] low = tt
ends_sent p put m e (z ∷ zs) low = (λ it. let less : e ≤ m = omega arith in less, ends_sent p put m (e + one_if (p.ends z)) zs (let less : e + one_if (p.ends z) + many p.ends zs ≤ m = omega arith in less))

pub covered_sent : {A : Type 0} (p : Paging A) (put : List A) (m : ℕ) (zs : List A) → covered p put m (map Down (map St zs)) ≡ m
covered_sent p put m [] = refl
covered_sent p put m (z ∷ zs) = covered_sent p put m zs

-- words that the server takes

up_low : {A : Type 0} (m n h : ℕ) (w : UpWord A) → m ≤ n → covered_up m h w ≤ covered_up n h w
up_low m n h (Up Req) low = omega arith
up_low m n h (Up (St z)) low = low
up_low m n h (Up (Ack i)) low = low
up_low m n h _ low = low

taken_low : {A : Type 0} (p : Paging A) (m n h : ℕ) (w : UpWord A) → m ≤ n → IsTakenInTime p m h w → IsTakenInTime p n h w
taken_low p m n h (Up (St z)) low a = λ it. let b = a it in omega arith
taken_low p m n h (Up Req) low a = tt
taken_low p m n h (Up (Ack i)) low a = tt
taken_low p m n h _ low a = tt

pub taken_higher : {A : Type 0} (p : Paging A) (m n h : ℕ) (ws : List (UpWord A)) → m ≤ n → AreTakenInTime p m h ws → AreTakenInTime p n h ws
taken_higher p m n h [] low a = tt
taken_higher p m n h (w ∷ ws) low a = (taken_low p m n h w low a.0, taken_higher p (covered_up m h w) (covered_up n h w) (h + asked_at p w) ws (up_low m n h w low) a.1)

pub covered_higher : {A : Type 0} (p : Paging A) (m n h : ℕ) (ws : List (UpWord A)) → m ≤ n → covered_in p m h ws ≤ covered_in p n h ws
covered_higher p m n h [] low = low
covered_higher p m n h (w ∷ ws) low = covered_higher p (covered_up m h w) (covered_up n h w) (h + asked_at p w) ws (up_low m n h w low)

pub taken_more : {A : Type 0} (p : Paging A) (m h f : ℕ) (ws more : List (UpWord A)) → h + all_asked p ws ≡ f → AreTakenInTime p m h ws → AreTakenInTime p (covered_in p m h ws) f more → AreTakenInTime p m h (ws ++ more)
taken_more p m h f [] more sum a b = subst (λ n. AreTakenInTime p m n more) (let same : f ≡ h = omega arith in same) b
taken_more p m h f (w ∷ ws) more sum a b = (a.0, taken_more p (covered_up m h w) (h + asked_at p w) f ws more (let same : h + asked_at p w + all_asked p ws ≡ f = omega arith in same) a.1 b)

pub covered_in_more : {A : Type 0} (p : Paging A) (m h f : ℕ) (ws more : List (UpWord A)) → h + all_asked p ws ≡ f → covered_in p m h (ws ++ more) ≡ covered_in p (covered_in p m h ws) f more
covered_in_more p m h f [] more sum = ap (λ n. covered_in p m n more) (let same : h ≡ f = omega arith in same)
covered_in_more p m h f (w ∷ ws) more sum = covered_in_more p (covered_up m h w) (h + asked_at p w) f ws more (let same : h + asked_at p w + all_asked p ws ≡ f = omega arith in same)

pub asked_more : {A : Type 0} (p : Paging A) (ws more : List (UpWord A)) → all_asked p (ws ++ more) ≡ all_asked p ws + all_asked p more
asked_more p [] more = omega arith
asked_more p (w ∷ ws) more = let e = asked_more p ws more in omega arith

-- at most one request is sent again
pub asks_sent : {A : Type 0} (p : Paging A) (m h : ℕ) (zs : List A) → h + many p.asks zs ≤ m + 1 → AreTakenInTime p m h (map Up (map St zs))
asks_sent p m h [] low = tt
asks_sent p m h (z ∷ zs) low = (
  λ it. let one = one_where (p.asks z) it in let less : h ≤ m = omega arith in less,
  asks_sent p m (h + one_if (p.asks z)) zs (let less : h + one_if (p.asks z) + many p.asks zs ≤ m + 1 = omega arith in less),
)

pub asked_sent : {A : Type 0} (p : Paging A) (zs : List A) → all_asked p (map Up (map St zs)) ≡ many p.asks zs
asked_sent p [] = refl
asked_sent p (z ∷ zs) = ap (λ n. one_if (p.asks z) + n) (asked_sent p zs)

pub again_taken : {A : Type 0} (p : Paging A) (m h : ℕ) (zs : List A) → h + many p.asks zs ≤ m + 1 → AreTakenInTime p m h (again zs)
again_taken p m h [] low = tt
again_taken p m h (z ∷ zs) low = taken_more p m h (h + all_asked p (map Up (map St (z ∷ zs)))) (map Up (map St (z ∷ zs))) (Up Req ∷ []) refl (asks_sent p m h (z ∷ zs) low) (tt, tt)

pub again_last : {A : Type 0} (p : Paging A) (m h : ℕ) (zs : List A) → h ≤ m → h + all_asked p (again zs) ≤ covered_in p m h (again zs)
again_last p m h [] low = omega arith
again_last p m h (z ∷ zs) low =
    let e = covered_in_more p m h (h + all_asked p (map Up (map St (z ∷ zs)))) (map Up (map St (z ∷ zs))) (Up Req ∷ []) refl in
    let f = asked_more p (map Up (map St (z ∷ zs))) (Up Req ∷ []) in
    omega arith
