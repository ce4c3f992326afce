-- Parts and messages that are told apart by their first bytes.
use Rattle.std.proofs.Common.{◌≡◌, ℕ, ◌⊎◌, ◌==◌, false, List, [], ◌∷◌, ◌++◌, Result, Ok, Err, refl, sym, ap, ◌∙◌, append_assoc, inl, inr, cond, eq-eqb}
use Rattle.std.proofs.lemmas.Bool.{cases_Bool, eqb-true}
use Rattle.auth_scram.specs.Parts.{◌>>=◌, literal}
use Rattle.auth_scram.proofs.Runs.{Alike}
use Rattle.auth_scram.proofs.Sequences.{IsPart, Reads, alike_after, anything, bind_err, bind_ok, bound_err, bound_ok, literal_left, literal_ok, literal_takes}

-- readers that answer alike have the same language
pub same_part : {A : Type 0} (p q : List ℕ → Result (A × List ℕ) (List ℕ)) (P : A → List ℕ → Type 0) (Closes : List ℕ → Type 0) → ((bytes : List ℕ) → q bytes ≡ p bytes) → IsPart p P Closes
    → IsPart q P Closes
same_part {A} p q P Closes same part = record {
  took = λ bytes a rest h. (let took = part.took bytes a rest (sym (same bytes) ∙ h) in (took.0, took.1, took.2, λ other alike. same (took.0 ++ other) ∙ took.3 other alike));
  takes = λ a x rest spelled closes. same (x ++ rest) ∙ part.takes a x rest spelled closes;
  leaves = λ bytes rest h. (let left = part.leaves bytes rest (sym (same bytes) ∙ h) in (left.0, left.1, left.2, λ other alike. same (left.0 ++ other) ∙ left.3 other alike));
}

pub said_part : {A : Type 0} (p : List ℕ → Result (A × List ℕ) (List ℕ)) (P Q : A → List ℕ → Type 0) (Closes : List ℕ → Type 0) → ((a : A) (x : List ℕ) → P a x → Q a x)
    → ((a : A) (x : List ℕ) → Q a x → P a x) → IsPart p P Closes → IsPart p Q Closes
said_part {A} p P Q Closes to from part = record {
  took = λ bytes a rest h. (let took = part.took bytes a rest h in (took.0, took.1, to a took.0 took.2, took.3));
  takes = λ a x rest spelled closes. part.takes a x rest (from a x spelled) closes;
  leaves = λ bytes rest h. (let left = part.leaves bytes rest h in (left.0, left.1, (left.2.0, left.2.1, to left.2.0 (left.0 ++ left.2.1) left.2.2), left.3));
}

-- no bytes, and a value
abbrev pub IsGiven : {A : Type 0} → A → A → List ℕ → Type 0
IsGiven v a part = (a ≡ v) × (part ≡ [])

module _ {A : Type 0} (v : A) where
  abbrev pub read_given : List ℕ → Result (A × List ℕ) (List ℕ)
  read_given bytes = Ok (v, bytes)

  first_is : (bytes : List ℕ) (a : A) (rest : List ℕ) → read_given bytes ≡ Ok (a, rest) → a ≡ v
  first_is bytes a rest h = let e : (v, bytes) ≡ (a, rest) = cc h in sym (ap (λ (x : A × List ℕ). x.0) e)

  rest_is : (bytes : List ℕ) (a : A) (rest : List ℕ) → read_given bytes ≡ Ok (a, rest) → bytes ≡ rest
  rest_is bytes a rest h = let e : (v, bytes) ≡ (a, rest) = cc h in ap (λ (x : A × List ℕ). x.1) e

  given_again : (a : A) (other : List ℕ) → a ≡ v → read_given other ≡ Ok (a, other)
  given_again a other e = rw e refl

  pub given_part : IsPart read_given (IsGiven v) anything
  given_part = record {
    took = λ bytes a rest h. ([], rest_is bytes a rest h, (first_is bytes a rest h, refl), λ other alike. given_again a other (first_is bytes a rest h));
    takes = λ a part rest is closes. rw (is.1, is.0) refl;
    leaves = λ bytes rest h. cc h;
  }

-- bytes, and then a part whose value is seen otherwise
module _ {A B : Type 0} (word : List ℕ) (p : List ℕ → Result (A × List ℕ) (List ℕ)) (P : A → List ℕ → Type 0) (Closes : List ℕ → Type 0) (f : A → B) (part : IsPart p P Closes)
    (some : (a : A) × (x : List ℕ) × P a x) where
  abbrev seen : A × List ℕ → Result (B × List ℕ) (List ℕ)
  seen x = Ok (f x.0, x.1)

  abbrev after_word : List ℕ → Result (B × List ℕ) (List ℕ)
  after_word bytes = literal word bytes >>= λ rest. p rest >>= seen

  abbrev Behind : B → List ℕ → Type 0
  Behind b bytes = (a : A) × (x : List ℕ) × (bytes ≡ word ++ x) × P a x × (b ≡ f a)

  on_word : (bytes : List ℕ) (rest : List ℕ) → bytes ≡ word ++ rest → after_word bytes ≡ (p rest >>= seen)
  on_word bytes rest e = ap after_word e ∙ bound_ok (literal word (word ++ rest)) (λ rest. p rest >>= seen) rest (literal_takes word rest)

  on_part : (bytes x rest : List ℕ) (a : A) → bytes ≡ word ++ (x ++ rest) → p (x ++ rest) ≡ Ok (a, rest) → after_word bytes ≡ Ok (f a, rest)
  on_part bytes x rest a e h = on_word bytes (x ++ rest) e ∙ bound_ok (p (x ++ rest)) seen (a, rest) h

  value_is : (a : A) (r : List ℕ) (b : B) (rest : List ℕ) → seen (a, r) ≡ Ok (b, rest) → (b ≡ f a) × (r ≡ rest)
  value_is a r b rest h =
      let e : (f a, r) ≡ (b, rest) = cc h in
      (sym (ap (λ (x : B × List ℕ). x.0) e), ap (λ (x : B × List ℕ). x.1) e)

  after_again : (a : A) (b : B) (x r rest other : List ℕ) → ((o : List ℕ) → Alike r o → p (x ++ o) ≡ Ok (a, o)) → r ≡ rest → b ≡ f a → Alike rest other
      → after_word ((word ++ x) ++ other) ≡ Ok (b, other)
  after_again a b x r rest other again e is alike =
      let alike' : Alike r other = rw e alike in
      on_part ((word ++ x) ++ other) x other a (append_assoc word x other) (again other alike') ∙ ap (λ (v : B). let y : Result (B × List ℕ) (List ℕ) = Ok (v, other) in y) (sym is)

  left_again : (front rest other : List ℕ) → p (front ++ other) ≡ Err other → after_word ((word ++ front) ++ other) ≡ Err other
  left_again front rest other h =
      on_word ((word ++ front) ++ other) (front ++ other) (append_assoc word front other) ∙ bound_err (p (front ++ other)) seen other h

  only_err : (rest r : List ℕ) → (p rest >>= seen) ≡ Err r → p rest ≡ Err r
  only_err rest r h = elim (bind_err (p rest) seen r h) [ inl first ↦ first | inr later ↦ cc later.2 ]

  pub after_part : IsPart after_word Behind Closes
  after_part = record {
    took = λ bytes b rest h. (let first = bind_ok (literal word bytes) (λ rest. p rest >>= seen) (b, rest) h in
        let second = bind_ok (p first.0) seen (b, rest) first.2 in
        let is = value_is second.0.0 second.0.1 b rest second.2 in
        let took = part.took first.0 second.0.0 second.0.1 second.1 in (
          word ++ took.0,
          literal_ok word bytes first.0 first.1 ∙ ap (λ (x : List ℕ). word ++ x) (took.1 ∙ ap (λ (x : List ℕ). took.0 ++ x) is.1) ∙ sym (append_assoc word took.0 rest),
          (second.0.0, took.0, refl, took.2, is.0),
          λ other alike. after_again second.0.0 b took.0 second.0.1 rest other took.3 is.1 is.0 alike,
        ));
    takes = λ b x rest is closes. (
        on_part (x ++ rest) is.1 rest is.0 (ap (λ (y : List ℕ). y ++ rest) is.2 ∙ append_assoc word is.1 rest) (part.takes is.0 is.1 rest is.3 closes)
        ∙ ap (λ (v : B). let y : Result (B × List ℕ) (List ℕ) = Ok (v, rest) in y) (sym is.4)
        );
    leaves = λ bytes rest h. (elim (bind_err (literal word bytes) (λ rest. p rest >>= seen) rest h) [
      | inl first ↦
          let left = literal_left word bytes rest first in (
            left.0,
            left.1,
            (f some.0, left.2.0 ++ some.1, (some.0, some.1, sym (append_assoc left.0 left.2.0 some.1) ∙ ap (λ (x : List ℕ). x ++ some.1) left.2.1, some.2, refl)),
            λ other alike. bound_err (literal word (left.0 ++ other)) (λ rest. p rest >>= seen) other (left.3 other alike),
          )
      | inr later ↦
          let left = part.leaves later.0 rest (only_err later.0 rest later.2) in (
            word ++ left.0,
            literal_ok word bytes later.0 later.1 ∙ ap (λ (x : List ℕ). word ++ x) left.1 ∙ sym (append_assoc word left.0 rest),
            (f left.2.0, left.2.1, (left.2.0, left.0 ++ left.2.1, append_assoc word left.0 left.2.1, left.2.2, refl)),
            λ other alike. left_again left.0 rest other (left.3 other alike),
          )
    ]);
  }

-- the bytes begin with another byte, or there are none
abbrev pub Lacks : ℕ → List ℕ → Type 0
Lacks c [] = Unit {0}
Lacks c (b ∷ bytes) = (b == c) ≡ false

lacks_alike : (c : ℕ) (bytes other : List ℕ) → Alike bytes other → Lacks c bytes → Lacks c other
lacks_alike c [] [] alike lacks = tt
lacks_alike c [] (b ∷ other) alike lacks = absurd alike
lacks_alike c (b ∷ bytes) [] alike lacks = absurd alike
lacks_alike c (b ∷ bytes) (d ∷ other) alike lacks = rw (← alike) lacks

-- one reader behind a byte, another where the bytes don't begin with it
abbrev pub chosen_by : {V : Type 0} → ℕ → (List ℕ → Result V (List ℕ)) → (List ℕ → Result V (List ℕ)) → List ℕ → Result V (List ℕ)
chosen_by c q p [] = p []
chosen_by c q p (b ∷ bytes) = cond (b == c) (q bytes) (p (b ∷ bytes))

chosen_first : {V : Type 0} (c : ℕ) (q p : List ℕ → Result V (List ℕ)) (bytes : List ℕ) → chosen_by c q p (c ∷ bytes) ≡ q bytes
chosen_first c q p bytes = rw (eq-eqb c c refl) refl

chosen_other : {V : Type 0} (c : ℕ) (q p : List ℕ → Result V (List ℕ)) (bytes : List ℕ) → Lacks c bytes → chosen_by c q p bytes ≡ p bytes
chosen_other c q p [] lacks = refl
chosen_other c q p (b ∷ bytes) lacks = rw lacks refl

-- which way it went
choice : {V : Type 0} (c : ℕ) (q p : List ℕ → Result V (List ℕ)) (bytes : List ℕ) → ((more : List ℕ) × (bytes ≡ c ∷ more)) ⊎ Lacks c bytes
choice c q p [] = inr tt
choice c q p (b ∷ bytes) =
    elim (cases_Bool (b == c)) [
      | inl e ↦ inl (bytes, ap (λ (x : ℕ). x ∷ bytes) (eqb-true b c e))
      | inr e ↦ inr e
    ]

module _ {A : Type 0} (c : ℕ) (q p : List ℕ → Result (A × List ℕ) (List ℕ)) (Q P : A → List ℕ → Type 0) (Closes : List ℕ → Type 0)
    (first : IsPart q Q Closes) (other : IsPart p P Closes) (apart : (a : A) (x rest : List ℕ) → P a x → Closes rest → Lacks c (x ++ rest)) where
  abbrev Either : A → List ℕ → Type 0
  Either a x = ((more : List ℕ) × (x ≡ c ∷ more) × Q a more) ⊎ P a x

  abbrev read : List ℕ → Result (A × List ℕ) (List ℕ)
  read = chosen_by c q p

  takes_either : (a : A) (x rest : List ℕ) → Either a x → Closes rest → read (x ++ rest) ≡ Ok (a, rest)
  takes_either a x rest (inl w) closes =
      ap (λ (y : List ℕ). read (y ++ rest)) w.1 ∙ chosen_first c q p (w.0 ++ rest) ∙ first.takes a w.0 rest w.2 closes
  takes_either a x rest (inr w) closes = chosen_other c q p (x ++ rest) (apart a x rest w closes) ∙ other.takes a x rest w closes

  pub chosen_part : IsPart read Either Closes
  chosen_part = record {
    took = λ bytes a rest h. (elim (choice c q p bytes) [
      | inl w ↦
          let took = first.took w.0 a rest (sym (ap read w.1 ∙ chosen_first c q p w.0) ∙ h) in (
            c ∷ took.0,
            w.1 ∙ ap (λ (x : List ℕ). c ∷ x) took.1,
            inl (took.0, refl, took.2),
            λ next alike. chosen_first c q p (took.0 ++ next) ∙ took.3 next alike,
          )
      | inr lacks ↦
          let took = other.took bytes a rest (sym (chosen_other c q p bytes lacks) ∙ h) in (
            took.0,
            took.1,
            inr took.2,
            λ next alike. stays bytes took.0 rest next took.1 alike lacks ∙ took.3 next alike,
          )
    ]);
    takes = takes_either;
    leaves = λ bytes rest h. (elim (choice c q p bytes) [
      | inl w ↦
          let left = first.leaves w.0 rest (sym (ap read w.1 ∙ chosen_first c q p w.0) ∙ h) in (
            c ∷ left.0,
            w.1 ∙ ap (λ (x : List ℕ). c ∷ x) left.1,
            (left.2.0, left.2.1, inl (left.0 ++ left.2.1, refl, left.2.2)),
            λ next alike. chosen_first c q p (left.0 ++ next) ∙ left.3 next alike,
          )
      | inr lacks ↦
          let left = other.leaves bytes rest (sym (chosen_other c q p bytes lacks) ∙ h) in (
            left.0,
            left.1,
            (left.2.0, left.2.1, inr left.2.2),
            λ next alike. stays bytes left.0 rest next left.1 alike lacks ∙ left.3 next alike,
          )
    ]);
  }
    where
      stays : (bytes front rest next : List ℕ) → bytes ≡ front ++ rest → Alike rest next → Lacks c bytes → read (front ++ next) ≡ p (front ++ next)
      stays bytes front rest next e alike lacks =
          let whole : Lacks c (front ++ rest) = rw (← e) lacks in
          chosen_other c q p (front ++ next) (lacks_alike c (front ++ rest) (front ++ next) (alike_after front rest next alike) whole)

-- the same of whole messages
module _ {V : Type 0} (c : ℕ) (m n : List ℕ → Result V (List ℕ)) (M N : V → List ℕ → Type 0) (first : Reads m M) (other : Reads n N)
    (apart : (v : V) (bytes : List ℕ) → N v bytes → Lacks c bytes) where
  abbrev EitherOf : V → List ℕ → Type 0
  EitherOf v bytes = ((more : List ℕ) × (bytes ≡ c ∷ more) × M v more) ⊎ N v bytes

  abbrev read_either : List ℕ → Result V (List ℕ)
  read_either = chosen_by c m n

  only_either : (v : V) (bytes : List ℕ) → EitherOf v bytes → read_either bytes ≡ Ok v
  only_either v bytes (inl w) = ap read_either w.1 ∙ chosen_first c m n w.0 ∙ first.only v w.0 w.2
  only_either v bytes (inr w) = chosen_other c m n bytes (apart v bytes w) ∙ other.only v bytes w

  stays_other : (bytes front rest next : List ℕ) → bytes ≡ front ++ rest → Alike rest next → Lacks c bytes → read_either (front ++ next) ≡ n (front ++ next)
  stays_other bytes front rest next e alike lacks =
      let whole : Lacks c (front ++ rest) = rw (← e) lacks in
      chosen_other c m n (front ++ next) (lacks_alike c (front ++ rest) (front ++ next) (alike_after front rest next alike) whole)

  pub chosen_reads : Reads read_either EitherOf
  chosen_reads = record {
    found = λ bytes v h. (elim (choice c m n bytes) [
      | inl w ↦ inl (w.0, w.1, first.found w.0 v (sym (ap read_either w.1 ∙ chosen_first c m n w.0) ∙ h))
      | inr lacks ↦ inr (other.found bytes v (sym (chosen_other c m n bytes lacks) ∙ h))
    ]);
    only = only_either;
    leaves = λ bytes rest h. (elim (choice c m n bytes) [
      | inl w ↦
          let left = first.leaves w.0 rest (sym (ap read_either w.1 ∙ chosen_first c m n w.0) ∙ h) in
          record {
            front = c ∷ left.front;
            whole = w.1 ∙ ap (λ (x : List ℕ). c ∷ x) left.whole;
            word = (left.word.0, left.word.1, inl (left.front ++ left.word.1, refl, left.word.2));
            again = λ next alike. chosen_first c m n (left.front ++ next) ∙ left.again next alike;
          }
      | inr lacks ↦
          let left = other.leaves bytes rest (sym (chosen_other c m n bytes lacks) ∙ h) in
          record {
            front = left.front;
            whole = left.whole;
            word = (left.word.0, left.word.1, inr left.word.2);
            again = λ next alike. stays_other bytes left.front rest next left.whole alike lacks ∙ left.again next alike;
          }
    ]);
  }
