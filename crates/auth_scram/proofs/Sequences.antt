-- A message as a sequence of parts: what holds of a part, and of what follows it, holds of both.
use Rattle.std.proofs.Common.{◌≡◌, ℕ, ◌⊎◌, ◌==◌, Bool, true, false, List, [], ◌∷◌, ◌++◌, Option, Some, Result, Ok, Err, refl, sym, ap, ◌∙◌, append_assoc, inl, inr, eq-eqb}
use Rattle.std.proofs.lemmas.Bool.{cases_Bool, eqb-true}
use Rattle.auth_scram.specs.Parts.{Cut, ◌>>=◌, run, literal, ends_here}
use Rattle.auth_scram.proofs.Runs.{Alike, following, after_more, Stops, run_took, run_left, run_takes}

-- A part: what it takes is in its language, and whatever follows with the same first byte; what is in its language is
-- taken where the rest stops it; where it leaves off, some word of its language began.
pub record IsPart {A : Type 0} (read : List ℕ → Result (A × List ℕ) (List ℕ)) (Spells : A → List ℕ → Type 0) (Closes : List ℕ → Type 0) : Type 0 where
  pub took : (bytes : List ℕ) (a : A) (rest : List ℕ) → read bytes ≡ Ok (a, rest)
      → (part : List ℕ) × (bytes ≡ part ++ rest) × Spells a part × ((other : List ℕ) → Alike rest other → read (part ++ other) ≡ Ok (a, other))
  pub takes : (a : A) (part rest : List ℕ) → Spells a part → Closes rest → read (part ++ rest) ≡ Ok (a, rest)
  pub leaves : (bytes rest : List ℕ) → read bytes ≡ Err rest
      → (front : List ℕ) × (bytes ≡ front ++ rest) × ((a : A) × (more : List ℕ) × Spells a (front ++ more)) × ((other : List ℕ) → Alike rest other → read (front ++ other) ≡ Err other)

-- where all of the bytes are read: they leave the language at the rest
pub record Leaves {V : Type 0} (read : List ℕ → Result V (List ℕ)) (Spells : V → List ℕ → Type 0) (bytes rest : List ℕ) : Type 0 where
  pub front : List ℕ
  pub whole : bytes ≡ front ++ rest
  pub word : (v : V) × (more : List ℕ) × Spells v (front ++ more)
  pub again : (other : List ℕ) → Alike rest other → read (front ++ other) ≡ Err other

pub record Reads {V : Type 0} (read : List ℕ → Result V (List ℕ)) (Spells : V → List ℕ → Type 0) : Type 0 where
  pub found : (bytes : List ℕ) (v : V) → read bytes ≡ Ok v → Spells v bytes
  pub only : (v : V) (bytes : List ℕ) → Spells v bytes → read bytes ≡ Ok v
  pub leaves : (bytes rest : List ℕ) → read bytes ≡ Err rest → Leaves read Spells bytes rest

pub bind_ok : {A B : Type 0} (r : Result A (List ℕ)) (f : A → Result B (List ℕ)) (v : B) → (r >>= f) ≡ Ok v → (a : A) × (r ≡ Ok a) × (f a ≡ Ok v)
bind_ok (Ok a) f v h = (a, refl, h)
bind_ok (Err e) f v h = cc h

pub bind_err : {A B : Type 0} (r : Result A (List ℕ)) (f : A → Result B (List ℕ)) (rest : List ℕ) → (r >>= f) ≡ Err rest
    → (r ≡ Err rest) ⊎ ((a : A) × (r ≡ Ok a) × (f a ≡ Err rest))
bind_err (Ok a) f rest h = inr (a, refl, h)
bind_err (Err e) f rest h = inl (cc h)

pub bound_ok : {A B : Type 0} (r : Result A (List ℕ)) (f : A → Result B (List ℕ)) (a : A) → r ≡ Ok a → (r >>= f) ≡ f a
bound_ok r f a h = rw h refl

pub bound_err : {A B : Type 0} (r : Result A (List ℕ)) (f : A → Result B (List ℕ)) (e : List ℕ) → r ≡ Err e → (r >>= f) ≡ Err e
bound_err r f e h = rw h refl

pub alike_after : (front rest other : List ℕ) → Alike rest other → Alike (front ++ rest) (front ++ other)
alike_after [] rest other h = h
alike_after (b ∷ front) rest other h = refl

pub alike_itself : (bytes : List ℕ) → Alike bytes bytes
alike_itself [] = tt
alike_itself (b ∷ bytes) = refl

-- a part, and what follows it
abbrev pub Then : {A V : Type 0} → (A → List ℕ → Type 0) → (A → V → List ℕ → Type 0) → V → List ℕ → Type 0
Then {A} {V} P K v bytes = (a : A) × (part : List ℕ) × (rest : List ℕ) × (bytes ≡ part ++ rest) × P a part × K a v rest

module _ {A V : Type 0} (p : List ℕ → Result (A × List ℕ) (List ℕ)) (k : A → List ℕ → Result V (List ℕ)) (P : A → List ℕ → Type 0) (K : A → V → List ℕ → Type 0) (Closes : List ℕ → Type 0)
    (part : IsPart p P Closes) (rests : (a : A) → Reads (k a) (K a)) (closed : (a : A) (v : V) (rest : List ℕ) → K a v rest → Closes rest)
    (some : (a : A) → (v : V) × (rest : List ℕ) × K a v rest) where
  abbrev both : List ℕ → Result V (List ℕ)
  both bytes = p bytes >>= λ x. k x.0 x.1

  both_ok : (bytes : List ℕ) (a : A) (rest : List ℕ) → p bytes ≡ Ok (a, rest) → both bytes ≡ k a rest
  both_ok bytes a rest h = bound_ok (p bytes) (λ x. k x.0 x.1) (a, rest) h

  sequence_found : (bytes : List ℕ) (v : V) → both bytes ≡ Ok v → Then P K v bytes
  sequence_found bytes v h =
      let first = bind_ok (p bytes) (λ x. k x.0 x.1) v h in
      let took = part.took bytes first.0.0 first.0.1 first.1 in
      (first.0.0, took.0, first.0.1, took.1, took.2, (rests first.0.0).found first.0.1 v first.2)

  sequence_only : (v : V) (bytes : List ℕ) → Then P K v bytes → both bytes ≡ Ok v
  sequence_only v bytes w =
      let a = w.0 in
      let x = w.1 in
      let y = w.2 in
      ap both w.3 ∙ both_ok (x ++ y) a y (part.takes a x y w.4 (closed a v y w.5)) ∙ (rests a).only v y w.5

  leaves_first : (bytes rest : List ℕ) → p bytes ≡ Err rest → Leaves both (Then P K) bytes rest
  leaves_first bytes rest h =
      let left = part.leaves bytes rest h in
      let a = left.2.0 in
      let more = left.2.1 in
      let next = some a in
      record {
        front = left.0;
        whole = left.1;
        word = (next.0, more ++ next.1, (a, left.0 ++ more, next.1, sym (append_assoc left.0 more next.1), left.2.2, next.2));
        again = λ other alike. bound_err (p (left.0 ++ other)) (λ x. k x.0 x.1) other (left.3 other alike);
      }

  later_again : (a : A) (x front middle rest other : List ℕ) → ((r : List ℕ) → Alike middle r → p (x ++ r) ≡ Ok (a, r)) → middle ≡ front ++ rest → Alike rest other
      → k a (front ++ other) ≡ Err other → both ((x ++ front) ++ other) ≡ Err other
  later_again a x front middle rest other again whole alike left =
      let alike' : Alike middle (front ++ other) = rw whole (alike_after front rest other alike) in
      ap both (append_assoc x front other) ∙ both_ok (x ++ (front ++ other)) a (front ++ other) (again (front ++ other) alike') ∙ left

  leaves_later : (bytes : List ℕ) (a : A) (middle rest : List ℕ) → p bytes ≡ Ok (a, middle) → k a middle ≡ Err rest → Leaves both (Then P K) bytes rest
  leaves_later bytes a middle rest h e =
      let took = part.took bytes a middle h in
      let left = (rests a).leaves middle rest e in
      let x = took.0 in
      record {
        front = x ++ left.front;
        whole = took.1 ∙ ap (λ (y : List ℕ). x ++ y) left.whole ∙ sym (append_assoc x left.front rest);
        word = (left.word.0, left.word.1, (a, x, left.front ++ left.word.1, append_assoc x left.front left.word.1, took.2, left.word.2));
        again = λ other alike. later_again a x left.front middle rest other took.3 left.whole alike (left.again other alike);
      }

  pub sequence : Reads both (Then P K)
  sequence = record { found = sequence_found; only = sequence_only; leaves = λ bytes rest h. sequence_leaves bytes rest h }
    where
      sequence_leaves : (bytes rest : List ℕ) → both bytes ≡ Err rest → Leaves both (Then P K) bytes rest
      sequence_leaves bytes rest h =
          elim (bind_err (p bytes) (λ x. k x.0 x.1) rest h) [
            | inl first ↦ leaves_first bytes rest first
            | inr later ↦ leaves_later bytes later.0.0 later.0.1 rest later.1 later.2
          ]

-- readers that answer alike have the same language
pub same_reads : {V : Type 0} (m n : List ℕ → Result V (List ℕ)) (M : V → List ℕ → Type 0) → ((bytes : List ℕ) → n bytes ≡ m bytes) → Reads m M → Reads n M
same_reads {V} m n M same reads = record {
  found = λ bytes v h. reads.found bytes v (sym (same bytes) ∙ h);
  only = λ v bytes w. same bytes ∙ reads.only v bytes w;
  leaves = λ bytes rest h. (let left = reads.leaves bytes rest (sym (same bytes) ∙ h) in
      record { front = left.front; whole = left.whole; word = left.word; again = λ other alike. same (left.front ++ other) ∙ left.again other alike });
}

-- a language may be said otherwise
pub said : {V : Type 0} (m : List ℕ → Result V (List ℕ)) (M N : V → List ℕ → Type 0) → ((v : V) (bytes : List ℕ) → M v bytes → N v bytes) → ((v : V) (bytes : List ℕ) → N v bytes → M v bytes)
    → Reads m M → Reads m N
said {V} m M N to from reads = record {
  found = λ bytes v h. to v bytes (reads.found bytes v h);
  only = λ v bytes w. reads.only v bytes (from v bytes w);
  leaves = λ bytes rest h. (let left = reads.leaves bytes rest h in
      record { front = left.front; whole = left.whole; word = (left.word.0, left.word.1, to left.word.0 (left.front ++ left.word.1) left.word.2); again = left.again });
}

-- ---- these bytes, and then the rest

pub literal_ok : (word bytes rest : List ℕ) → literal word bytes ≡ Ok rest → bytes ≡ word ++ rest
literal_ok [] bytes rest h = cc h
literal_ok (w ∷ word) [] rest h = cc h
literal_ok (w ∷ word) (b ∷ bytes) rest h =
    elim (cases_Bool (b == w)) [
      | inl e ↦
          let inner : literal word bytes ≡ Ok rest = rw e at h in
          rw (eqb-true b w e) (ap (λ (x : List ℕ). w ∷ x) (literal_ok word bytes rest inner))
      | inr e ↦ cc (rw e at h)
    ]

pub literal_takes : (word rest : List ℕ) → literal word (word ++ rest) ≡ Ok rest
literal_takes [] rest = refl
literal_takes (w ∷ word) rest = rw (eq-eqb w w refl) (literal_takes word rest)

literal_stays : (w b : ℕ) (word bytes other : List ℕ) → (b == w) ≡ false → Alike (b ∷ bytes) other → literal (w ∷ word) other ≡ Err other
literal_stays w b word bytes [] e alike = absurd alike
literal_stays w b word bytes (c ∷ other) e alike = let differs : (c == w) ≡ false = rw (← alike) e in rw differs refl

nothing_stays : (w : ℕ) (word other : List ℕ) → Alike [] other → literal (w ∷ word) other ≡ Err other
nothing_stays w word [] alike = refl
nothing_stays w word (c ∷ other) alike = absurd alike

literal_on : (w b : ℕ) (word bytes : List ℕ) → (b == w) ≡ true → literal (w ∷ word) (b ∷ bytes) ≡ literal word bytes
literal_on w b word bytes e = rw e refl

cons_same : (b w : ℕ) (x word : List ℕ) → b ≡ w → x ≡ word → b ∷ x ≡ w ∷ word
cons_same b w x word same e = rw (same, e) refl

pub literal_left : (word bytes rest : List ℕ) → literal word bytes ≡ Err rest
    → (front : List ℕ) × (bytes ≡ front ++ rest) × ((more : List ℕ) × (front ++ more ≡ word)) × ((other : List ℕ) → Alike rest other → literal word (front ++ other) ≡ Err other)
literal_left [] bytes rest h = cc h
literal_left (w ∷ word) [] rest h =
    let none : rest ≡ [] = cc h in
    rw none ([], refl, (w ∷ word, refl), nothing_stays w word)
literal_left (w ∷ word) (b ∷ bytes) rest h =
    elim (cases_Bool (b == w)) [
      | inl e ↦
          let left = literal_left word bytes rest (sym (literal_on w b word bytes e) ∙ h) in
          let same : b ≡ w = eqb-true b w e in (
            b ∷ left.0,
            ap (λ (x : List ℕ). b ∷ x) left.1,
            (left.2.0, cons_same b w (left.0 ++ left.2.0) word same left.2.1),
            λ other alike. literal_on w b word (left.0 ++ other) e ∙ left.3 other alike,
          )
      | inr e ↦
          let here : rest ≡ b ∷ bytes = cc (rw e at h) in
          rw here ([], refl, (w ∷ word, refl), λ other alike. literal_stays w b word bytes other e alike)
    ]

abbrev pub anything : List ℕ → Type 0
anything rest = Unit {0}

abbrev and_rest : List ℕ → Result (Bool × List ℕ) (List ℕ)
and_rest rest = Ok (true, rest)

abbrev told : List ℕ → List ℕ → Result (Bool × List ℕ) (List ℕ)
told word bytes = literal word bytes >>= and_rest

abbrev is_word : List ℕ → Bool → List ℕ → Type 0
is_word word b part = (b ≡ true) × (part ≡ word)

told_ok : (a : Bool) (r : Result (List ℕ) (List ℕ)) (rest : List ℕ) → (r >>= and_rest) ≡ Ok (a, rest) → (r ≡ Ok rest) × (a ≡ true)
told_ok a (Ok x) rest h =
    let e : (true, x) ≡ (a, rest) = cc h in
    (ap (λ (p : Bool × List ℕ). let r : Result (List ℕ) (List ℕ) = Ok p.1 in r) e, sym (ap (λ (p : Bool × List ℕ). p.0) e))
told_ok a (Err e) rest h = cc h

told_err : (r : Result (List ℕ) (List ℕ)) (rest : List ℕ) → (r >>= and_rest) ≡ Err rest → r ≡ Err rest
told_err (Ok x) rest h = cc h
told_err (Err e) rest h = cc h

told_takes : (word rest : List ℕ) → told word (word ++ rest) ≡ Ok (true, rest)
told_takes word rest = rw (literal_takes word rest) refl

literal_part : (word : List ℕ) → IsPart (told word) (is_word word) anything
literal_part word = record {
  took = λ bytes a rest h. (let ok = told_ok a (literal word bytes) rest h in
      (word, literal_ok word bytes rest ok.0, (ok.1, refl), λ other alike. rw ok.1 (told_takes word other)));
  takes = λ a part rest is closes. rw (is.1, is.0) (told_takes word rest);
  leaves = λ bytes rest h. (let left = literal_left word bytes rest (told_err (literal word bytes) rest h) in
      (left.0, left.1, (true, left.2.0, (refl, left.2.1)), λ other alike. rw (left.3 other alike) refl));
}

-- bytes, and what follows them
abbrev pub After : {V : Type 0} → List ℕ → (V → List ℕ → Type 0) → V → List ℕ → Type 0
After word M v bytes = (rest : List ℕ) × (bytes ≡ word ++ rest) × M v rest

told_as : {V : Type 0} (r : Result (List ℕ) (List ℕ)) (m : List ℕ → Result V (List ℕ)) → (r >>= m) ≡ ((r >>= and_rest) >>= λ x. m x.1)
told_as (Ok x) m = refl
told_as (Err e) m = refl

pub after_word : {V : Type 0} (word : List ℕ) (m : List ℕ → Result V (List ℕ)) (M : V → List ℕ → Type 0) → Reads m M → (v : V) × (rest : List ℕ) × M v rest
    → Reads (λ bytes. literal word bytes >>= m) (After word M)
after_word {V} word m M reads some =
    let both = sequence (told word) (λ a. m) (is_word word) (λ a. M) anything (literal_part word) (λ a. reads) (λ a v rest w. tt) (λ a. some) in
    let worded = said (λ bytes. told word bytes >>= λ x. m x.1) (Then (is_word word) (λ a. M)) (After word M)
    (λ v bytes w. (w.2, w.3 ∙ ap (λ (x : List ℕ). x ++ w.2) w.4.1, w.5))
    (λ v bytes w. (true, word, w.0, w.1, (refl, refl), w.2)) both in
    same_reads (λ bytes. told word bytes >>= λ x. m x.1) (λ bytes. literal word bytes >>= m) (After word M) (λ bytes. told_as (literal word bytes) m) worded

-- ---- the end

abbrev pub IsEnd : {V : Type 0} → V → V → List ℕ → Type 0
IsEnd v w bytes = (w ≡ v) × (bytes ≡ [])

module _ {V : Type 0} (v : V) where
  abbrev read_end : List ℕ → Result V (List ℕ)
  read_end bytes = ends_here bytes >>= λ end. Ok v

  end_found : (bytes : List ℕ) (w : V) → read_end bytes ≡ Ok w → IsEnd v w bytes
  end_found [] w h = (cc h, refl)
  end_found (b ∷ bytes) w h = cc h

  end_only : (w : V) (bytes : List ℕ) → IsEnd v w bytes → read_end bytes ≡ Ok w
  end_only w bytes is = rw (is.1, is.0) refl

  end_again : (b : ℕ) (bytes other : List ℕ) → Alike (b ∷ bytes) other → read_end other ≡ Err other
  end_again b bytes [] alike = absurd alike
  end_again b bytes (c ∷ other) alike = refl

  end_leaves : (bytes rest : List ℕ) → read_end bytes ≡ Err rest → Leaves read_end (IsEnd v) bytes rest
  end_leaves [] rest h = cc h
  end_leaves (b ∷ bytes) rest h =
      let same : rest ≡ b ∷ bytes = cc h in
      rw same (record { front = []; whole = refl; word = (v, [], (refl, refl)); again = end_again b bytes })

  pub at_end : Reads read_end (IsEnd v)
  at_end = record { found = end_found; only = end_only; leaves = end_leaves }

-- a value that the bytes themselves make
pub with_bytes : {U V : Type 0} (m : List ℕ → Result U (List ℕ)) (M : U → List ℕ → Type 0) (f : List ℕ → U → V) → Reads m M
    → Reads (λ bytes. m bytes >>= λ u. Ok (f bytes u)) (λ v bytes. (u : U) × M u bytes × (v ≡ f bytes u))
with_bytes {U} {V} m M f reads = record {
  found = λ bytes v h. (let ok = bind_ok (m bytes) (λ u. Ok (f bytes u)) v h in (ok.0, reads.found bytes ok.0 ok.1, cc ok.2));
  only = λ v bytes w. bound_ok (m bytes) (λ u. Ok (f bytes u)) w.0 (reads.only w.0 bytes w.1) ∙ ap (λ (x : V). let r : Result V (List ℕ) = Ok x in r) (sym w.2);
  leaves = λ bytes rest h. (let left = reads.leaves bytes rest (only_err bytes rest h) in
      record {
        front = left.front;
        whole = left.whole;
        word = (f (left.front ++ left.word.1) left.word.0, left.word.1, (left.word.0, left.word.2, refl));
        again = λ other alike. bound_err (m (left.front ++ other)) (λ u. Ok (f (left.front ++ other) u)) other (left.again other alike);
      });
}
  where
    only_err : (bytes rest : List ℕ) → (m bytes >>= λ u. Ok (f bytes u)) ≡ Err rest → m bytes ≡ Err rest
    only_err bytes rest h =
        elim (bind_err (m bytes) (λ u. Ok (f bytes u)) rest h) [
          | inl first ↦ first
          | inr later ↦ cc later.2
        ]

-- ---- the longest run of bytes that may follow each other

module _ {S : Type 0} (goes_on : S → ℕ → Option S) (may_end : S → Bool) (start : S) (L : List ℕ → Type 0) (Closes : List ℕ → Type 0)
    (found : (part : List ℕ) (t : S) → following goes_on may_end start part ≡ Some t → may_end t ≡ true → L part)
    (only : (part : List ℕ) → L part
    → (t : S) × (following goes_on may_end start part ≡ Some t) × (may_end t ≡ true) × ((rest : List ℕ) → Closes rest → Stops goes_on may_end t rest))
    (goes : (t : S) → (more : List ℕ) × (u : S) × (following goes_on may_end t more ≡ Some u) × (may_end u ≡ true)) where
  abbrev Taken : List ℕ → List ℕ → Type 0
  Taken text part = (text ≡ part) × L part

  pub stopped_part : IsPart (run goes_on may_end start) Taken Closes
  stopped_part = record {
    took = λ bytes text rest h. (let took = run_took goes_on may_end start bytes (text, rest) h in
        (text, took.whole, (refl, found text took.state took.following took.ends), took.again));
    takes = λ text part rest is closes. (let way = only part is.1 in
        run_takes goes_on may_end start way.0 part rest way.1 way.2 (way.3 rest closes) ∙ ap (λ (x : List ℕ). let r : Result Cut (List ℕ) = Ok (x, rest) in r) (sym is.0));
    leaves = λ bytes rest h. (let left = run_left goes_on may_end start bytes rest h in
        let way = goes left.state in (
          left.front,
          left.whole,
          (
            left.front ++ way.0,
            way.0,
            (refl, found (left.front ++ way.0) way.1 (after_more goes_on may_end start left.state left.front way.0 left.following ∙ way.2) way.3),
          ),
          left.again,
        ));
  }

-- the same where it stops wherever it may end
module _ {S : Type 0} (goes_on : S → ℕ → Option S) (may_end : S → Bool) (start : S) (L : List ℕ → Type 0) (Closes : List ℕ → Type 0)
    (found : (part : List ℕ) (t : S) → following goes_on may_end start part ≡ Some t → may_end t ≡ true → L part)
    (only : (part : List ℕ) → L part → (t : S) × (following goes_on may_end start part ≡ Some t) × (may_end t ≡ true))
    (goes : (t : S) → (more : List ℕ) × (u : S) × (following goes_on may_end t more ≡ Some u) × (may_end u ≡ true))
    (stops : (t : S) (rest : List ℕ) → may_end t ≡ true → Closes rest → Stops goes_on may_end t rest) where
  pub run_part : IsPart (run goes_on may_end start) (λ text part. (text ≡ part) × L part) Closes
  run_part =
      stopped_part goes_on may_end start L Closes found
      (λ part l. (let way = only part l in (way.0, way.1, way.2, λ rest closes. stops way.0 rest way.2 closes)))
      goes
