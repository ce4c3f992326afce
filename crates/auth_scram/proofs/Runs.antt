-- Parts that are read byte by byte.
use Rattle.std.proofs.Common.{◌≡◌, ℕ, ◌<◌, ◌⊎◌, Bool, true, false, List, [], ◌∷◌, ◌++◌, length, drop, Option, Some, None, Result, Ok, Err, refl, sym, ap, ◌∙◌, arith, inl, inr}
use Rattle.std.proofs.lemmas.List.{drop_more}
use Rattle.std.specs.Option.{option_and_then}
use Rattle.base_lemmas.proofs.Options.{option_cases}
use Rattle.auth_scram.specs.Parts.{Cut, with_first, ended, run, literal}

-- the bytes end inside a word
pub literal_missing : (word rest : List ℕ) (i : ℕ) → i < length word → length rest ≡ 0 → literal (drop i word) rest ≡ Err rest
literal_missing word [] i lt none = rw (drop_more word i 0 lt) refl
literal_missing word (b ∷ rest) i lt none = absurd (omega arith)

-- two lists with the same first byte, or none
abbrev pub Alike : List ℕ → List ℕ → Type 0
Alike [] [] = Unit {0}
Alike [] (c ∷ cs) = ⊥
Alike (b ∷ bs) [] = ⊥
Alike (b ∷ bs) (c ∷ cs) = b ≡ c

pub result_cases : {A E : Type 0} (r : Result A E) → ((x : A) × (r ≡ Ok x)) ⊎ ((e : E) × (r ≡ Err e))
result_cases (Ok x) = inl (x, refl)
result_cases (Err e) = inr (e, refl)

module _ {S : Type 0} (goes_on : S → ℕ → Option S) (may_end : S → Bool) where
  -- the state behind bytes
  abbrev pub following : S → List ℕ → Option S
  following s [] = Some s
  following s (b ∷ bs) = option_and_then (λ t. following t bs) (goes_on s b)

  pub after_step : (s t : S) (b : ℕ) (bs : List ℕ) → goes_on s b ≡ Some t → following s (b ∷ bs) ≡ following t bs
  after_step s t b bs h = rw h refl

  pub after_first : (s t : S) (b : ℕ) (bs : List ℕ) → following s (b ∷ bs) ≡ Some t → (u : S) × (goes_on s b ≡ Some u) × (following u bs ≡ Some t)
  after_first s t b bs h =
      elim (option_cases (goes_on s b)) [
        | inl none ↦ cc (rw none at h)
        | inr some ↦ (some.0, some.1, rw some.1 at h)
      ]

  pub after_more : (s t : S) (xs ys : List ℕ) → following s xs ≡ Some t → following s (xs ++ ys) ≡ following t ys
  after_more s t [] ys h = let same : s ≡ t = cc in rw same refl
  after_more s t (b ∷ bs) ys h =
      let first = after_first s t b bs h in
      rw first.1 (after_more first.0 t bs ys first.2)

  -- a part that may end goes on with no byte of the rest
  abbrev pub Stops : S → List ℕ → Type 0
  Stops t [] = Unit {0}
  Stops t (c ∷ rest) = goes_on t c ≡ None

  -- what was read is a part, whatever follows with the same first byte
  pub record Took (s : S) (bytes : List ℕ) (cut : Cut) : Type 0 where
    pub state : S
    pub following : following s cut.0 ≡ Some state
    pub ends : may_end state ≡ true
    pub whole : bytes ≡ cut.0 ++ cut.1
    pub again : (rest : List ℕ) → Alike cut.1 rest → run goes_on may_end s (cut.0 ++ rest) ≡ Ok (cut.0, rest)

  -- the part leaves off, whatever follows with the same first byte
  pub record Left (s : S) (bytes rest : List ℕ) : Type 0 where
    pub front : List ℕ
    pub state : S
    pub following : following s front ≡ Some state
    pub whole : bytes ≡ front ++ rest
    pub again : (other : List ℕ) → Alike rest other → run goes_on may_end s (front ++ other) ≡ Err other

  ended_ok : (b : Bool) (rest : List ℕ) (cut : Cut) → ended b rest ≡ Ok cut → (b ≡ true) × (cut ≡ ([], rest))
  ended_ok true rest cut h = (refl, cc h)
  ended_ok false rest cut h = cc h

  ended_err : (b : Bool) (rest left : List ℕ) → ended b rest ≡ Err left → (b ≡ false) × (left ≡ rest)
  ended_err true rest left h = cc h
  ended_err false rest left h = (refl, cc h)

  -- where a part may end, nothing but the rest's first byte counts
  stopped : (s : S) (b : ℕ) (bs rest : List ℕ) → goes_on s b ≡ None → Alike (b ∷ bs) rest → run goes_on may_end s rest ≡ ended (may_end s) rest
  stopped s b bs [] none h = absurd h
  stopped s b bs (c ∷ cs) none h = let same : goes_on s c ≡ None = rw (← h) none in rw same refl

  run_takes_at : (s t : S) (b : ℕ) (bs : List ℕ) → goes_on s b ≡ Some t → run goes_on may_end s (b ∷ bs) ≡ with_first b (run goes_on may_end t bs)
  run_takes_at s t b bs h = rw h refl

  run_stops_at : (s : S) (b : ℕ) (bs : List ℕ) → goes_on s b ≡ None → run goes_on may_end s (b ∷ bs) ≡ ended (may_end s) (b ∷ bs)
  run_stops_at s b bs h = rw h refl

  with_first_ok : (b : ℕ) (read : Result Cut (List ℕ)) (cut : Cut) → with_first b read ≡ Ok cut → (c : Cut) × (read ≡ Ok c) × (cut ≡ (b ∷ c.0, c.1))
  with_first_ok b (Ok c) cut h = (c, refl, cc h)
  with_first_ok b (Err e) cut h = cc h

  with_first_err : (b : ℕ) (read : Result Cut (List ℕ)) (rest : List ℕ) → with_first b read ≡ Err rest → read ≡ Err rest
  with_first_err b (Ok c) rest h = cc h
  with_first_err b (Err e) rest h = cc h

  pub run_took : (s : S) (bytes : List ℕ) (cut : Cut) → run goes_on may_end s bytes ≡ Ok cut → Took s bytes cut
  run_took s [] cut h =
      let e = ended_ok (may_end s) [] cut h in
      rw e.1 (record {
        state = s;
        following = refl;
        ends = e.0;
        whole = refl;
        again = λ rest alike. empty_again rest alike e.0;
      })
    where
      empty_again : (rest : List ℕ) → Alike [] rest → may_end s ≡ true → run goes_on may_end s rest ≡ Ok ([], rest)
      empty_again [] alike ends = rw ends refl
      empty_again (c ∷ cs) alike ends = absurd alike
  run_took s (b ∷ bs) cut h =
      elim (option_cases (goes_on s b)) [
        | inl none ↦
            let e = ended_ok (may_end s) (b ∷ bs) cut (sym (run_stops_at s b bs none) ∙ h) in
            rw e.1 (record {
              state = s;
              following = refl;
              ends = e.0;
              whole = refl;
              again = λ rest alike. stopped s b bs rest none alike ∙ rw e.0 refl;
            })
        | inr some ↦
            let t = some.0 in
            let inner = with_first_ok b (run goes_on may_end t bs) cut (sym (run_takes_at s t b bs some.1) ∙ h) in
            let took = run_took t bs inner.0 inner.1 in
            rw inner.2 (record {
              state = took.state;
              following = after_step s t b inner.0.0 some.1 ∙ took.following;
              ends = took.ends;
              whole = ap (λ (x : List ℕ). b ∷ x) took.whole;
              again = λ rest alike. run_takes_at s t b (inner.0.0 ++ rest) some.1 ∙ rw (took.again rest alike) refl;
            })
      ]

  pub run_left : (s : S) (bytes rest : List ℕ) → run goes_on may_end s bytes ≡ Err rest → Left s bytes rest
  run_left s [] rest h =
      let e = ended_err (may_end s) [] rest h in
      rw e.1 (record { front = []; state = s; following = refl; whole = refl; again = λ other alike. nothing_left other alike e.0 })
    where
      nothing_left : (other : List ℕ) → Alike [] other → may_end s ≡ false → run goes_on may_end s other ≡ Err other
      nothing_left [] alike ends = rw ends refl
      nothing_left (c ∷ cs) alike ends = absurd alike
  run_left s (b ∷ bs) rest h =
      elim (option_cases (goes_on s b)) [
        | inl none ↦
            let e = ended_err (may_end s) (b ∷ bs) rest (sym (run_stops_at s b bs none) ∙ h) in
            rw e.1 (record { front = []; state = s; following = refl; whole = refl; again = λ other alike. stopped s b bs other none alike ∙ rw e.0 refl })
        | inr some ↦
            let t = some.0 in
            let left = run_left t bs rest (with_first_err b (run goes_on may_end t bs) rest (sym (run_takes_at s t b bs some.1) ∙ h)) in
            record {
              front = b ∷ left.front;
              state = left.state;
              following = after_step s t b left.front some.1 ∙ left.following;
              whole = ap (λ (x : List ℕ). b ∷ x) left.whole;
              again = λ other alike. run_takes_at s t b (left.front ++ other) some.1 ∙ rw (left.again other alike) refl;
            }
      ]

  -- a part is read where what follows doesn't go on with it
  pub run_takes : (s t : S) (part rest : List ℕ) → following s part ≡ Some t → may_end t ≡ true → Stops t rest → run goes_on may_end s (part ++ rest) ≡ Ok (part, rest)
  run_takes s t [] [] h ends stops = let same : s ≡ t = cc in rw (same, ends) refl
  run_takes s t [] (c ∷ rest) h ends stops = let same : s ≡ t = cc in rw (same, stops, ends) refl
  run_takes s t (b ∷ bs) rest h ends stops =
      let first = after_first s t b bs h in
      run_takes_at s first.0 b (bs ++ rest) first.1 ∙ rw (run_takes first.0 t bs rest first.2 ends stops) refl
