-- The rule of the sessions that live stays where some are left out, one is changed or one comes.
use Rattle.std.proofs.Common.{◌≡◌, ℕ, ◌+◌, ◌<◌, ◌≤◌, ◌^◌, ◌==◌, Bool, true, false, cond, List, [], ◌∷◌, ◌++◌, Option, Some, None, length, map, refl, sym, ap, subst, ◌∙◌, ◌⊎◌, inl, inr, arith}
use Rattle.std.proofs.lemmas.Bool.{cases_Bool, eq-eqb, eqb-true}
use Rattle.std.proofs.lemmas.Option.{same_Some}
use Rattle.std.proofs.lemmas.Slice.Eq.{bytes_eq-Decides}
use Rattle.std.specs.List.{filter, find}
use Rattle.std.specs.Option.{option_map}
use Rattle.sm_acks.specs.declared.end.TheConstants.{MOST_UNACKNOWLEDGED}
use Rattle.base_lemmas.proofs.Bytes.{bytes_eq-self}
use Rattle.sm_live.specs.Rule.{IsRule, RisesTo}
use Rattle.sm_live.specs.Sessions.{Session, fresh, is_at, is_named, is_numbered, session_at, session_named, session_of, with_session}
use Rattle.sm_resumption.specs.Rows.{is_some_number}
use Rattle.srv_route.proofs.Rising.{rises_filter}
pub use Rattle.sm_resumption.proofs.RowFacts.{option_map_some as was_found}
pub use Rattle.law_server.proofs.Reached.{found_passes as found_is}

-- ---- what is found

-- something is found where something fits
pub found_some : {A : Type 0} (p q : A → Bool) (ss : List A) (s : A) → find p ss ≡ Some s → q s ≡ true → (t : A) × (find q ss ≡ Some t)
found_some p q [] s is fits = absurd (let no_way : ⊥ = cc in no_way)
found_some p q (x ∷ ss) s is fits =
    elim (cases_Bool (q x)) [
      | inl here ↦ (x, rw here refl)
      | inr other ↦
          elim (cases_Bool (p x)) [
            | inl first ↦
                let same : x ≡ s = same_Some x s (rw first at is) in
                let fits_it : q x ≡ true = subst (λ y. q y ≡ true) (sym same) fits in
                absurd (let no_way : ⊥ = cc in no_way)
            | inr later ↦ let rest = found_some p q ss s (rw later at is) fits in (rest.0, rw other rest.1)
          ]
    ]

pub found_none : {A : Type 0} (p : A → Bool) (ss : List A) → ((s : A) → find p ss ≡ Some s → ⊥) → find p ss ≡ None
found_none {A = A} p ss no_one = go (find p ss) refl
  where
    go : (o : Option A) → find p ss ≡ o → find p ss ≡ None
    go None is = is
    go (Some s) is = absurd (no_one s is)

-- what is left is found, where it was
pub left_found : {A : Type 0} (p q : A → Bool) (ss : List A) (s : A) → find p ss ≡ Some s → q s ≡ true → find p (filter q ss) ≡ Some s
left_found p q [] s is stays = is
left_found p q (x ∷ ss) s is stays =
    elim (cases_Bool (p x)) [
      | inl here ↦
          let same : x ≡ s = same_Some x s (rw here at is) in
          let left : q x ≡ true = ap q same ∙ stays in
          rw (left, here) (ap Some same)
      | inr other ↦
          let rest = left_found p q ss s (rw other at is) stays in
          elim (cases_Bool (q x)) [ inl left ↦ rw (left, other) rest | inr gone ↦ rw gone rest ]
    ]

pub none_left : {A : Type 0} (p q : A → Bool) (ss : List A) → find p ss ≡ None → find p (filter q ss) ≡ None
none_left p q [] none = refl
none_left p q (x ∷ ss) none =
    elim (cases_Bool (p x)) [
      | inl here ↦ let found : Some x ≡ None = rw here at none in absurd (let no_way : ⊥ = cc in no_way)
      | inr other ↦
          let rest = none_left p q ss (rw other at none) in
          elim (cases_Bool (q x)) [ inl left ↦ rw (left, other) rest | inr gone ↦ rw gone rest ]
    ]

-- what is found in a list with one behind it was found before, or is that one
pub found_pushed : {A : Type 0} (p : A → Bool) (ss : List A) (f s : A) → find p (ss ++ f ∷ []) ≡ Some s → (find p ss ≡ Some s) ⊎ ((find p ss ≡ None) × (f ≡ s) × (p f ≡ true))
found_pushed p [] f s is = elim (cases_Bool (p f)) [ inl here ↦ inr (refl, same_Some f s (rw here at is), here) | inr other ↦ let none : None ≡ Some s = rw other at is in absurd (let no_way : ⊥ = cc in no_way) ]
found_pushed p (x ∷ ss) f s is =
    elim (cases_Bool (p x)) [
      | inl here ↦ let found : Some x ≡ Some s = rw here at is in inl (rw here found)
      | inr other ↦
          let rest : find p (ss ++ f ∷ []) ≡ Some s = rw other at is in
          elim (found_pushed p ss f s rest) [ inl before ↦ inl (rw other before) | inr last ↦ inr ((rw other last.0), last.1, last.2) ]
    ]

pub found_mapped : {A : Type 0} (p : A → Bool) (g : A → A) (ss : List A) → ((s : A) → p (g s) ≡ p s) → find p (map g ss) ≡ option_map g (find p ss)
found_mapped p g [] same = refl
found_mapped p g (s ∷ ss) same =
    elim (cases_Bool (p s)) [
      | inl here ↦ let there = same s ∙ here in rw (there, here) refl
      | inr other ↦ let apart = same s ∙ other in rw (apart, other) (found_mapped p g ss same)
    ]

pub either : {T : Type 0} (P : T → Type 0) (b : Bool) (x y : T) → P x → P y → P (cond b x y)
either P true x y first second = first
either P false x y first second = second

-- ---- connections of sessions

pub seat_is : (o : Option ℕ) (k : ℕ) → is_some_number k o ≡ true → o ≡ Some k
seat_is None k is = absurd (let no_way : ⊥ = cc in no_way)
seat_is (Some m) k is = ap Some (eqb-true m k is)

module _ {A : Type 0} where
  pub is_seat : (k : ℕ) (s : Session A) → s.shown.conn ≡ Some k → is_at k s ≡ true
  is_seat k s on = ap (is_some_number k) on ∙ eq-eqb k k refl

  pub on_seat : (k : ℕ) (ss : List (Session A)) (s : Session A) → session_at k ss ≡ Some s → s.shown.conn ≡ Some k
  on_seat k ss s is = seat_is s.shown.conn k (found_is (is_at k) ss s is)

  -- ---- numbers

  pub numbers_above : (next low n : ℕ) (ss : List (Session A)) (s : Session A) → RisesTo next low ss → session_of n ss ≡ Some s → low ≤ n
  numbers_above next low n [] s rises is = absurd (let no_way : ⊥ = cc in no_way)
  numbers_above next low n (x ∷ ss) s rises is =
      elim (cases_Bool (x.shown.number == n)) [
        | inl here ↦ let same : x.shown.number ≡ n = eqb-true x.shown.number n here in subst (λ m. low ≤ m) same rises.0
        | inr other ↦ let rest = numbers_above next (x.shown.number + 1) n ss s rises.1 (rw other at is) in let first = rises.0 in omega arith
      ]

  pub numbered_here : (p : Session A → Bool) (next low : ℕ) (ss : List (Session A)) (s : Session A) → RisesTo next low ss → find p ss ≡ Some s → session_of s.shown.number ss ≡ Some s
  numbered_here p next low [] s rises is = absurd (let no_way : ⊥ = cc in no_way)
  numbered_here p next low (x ∷ ss) s rises is =
      elim (cases_Bool (p x)) [
        | inl here ↦
            let same : x ≡ s = same_Some x s (rw here at is) in
            subst (λ y. session_of y.shown.number (x ∷ ss) ≡ Some y) same (let e = eq-eqb x.shown.number x.shown.number refl in rw e refl)
        | inr other ↦
            let rest = numbered_here p next (x.shown.number + 1) ss s rises.1 (rw other at is) in
            let above = numbers_above next (x.shown.number + 1) s.shown.number ss s rises.1 rest in
            elim (cases_Bool (x.shown.number == s.shown.number)) [
              | inl same ↦ let equal : x.shown.number ≡ s.shown.number = eqb-true x.shown.number s.shown.number same in absurd (let no_way : ⊥ = omega arith in no_way)
              | inr apart ↦ rw apart rest
            ]
      ]

  pub number_is : (n : ℕ) (ss : List (Session A)) (s : Session A) → session_of n ss ≡ Some s → s.shown.number ≡ n
  number_is n ss s is = eqb-true s.shown.number n (found_is (is_numbered n) ss s is)

  -- two that are found and have one number are one
  pub one_number : (p q : Session A → Bool) (next : ℕ) (ss : List (Session A)) (s t : Session A) → IsRule ss next → find p ss ≡ Some s → find q ss ≡ Some t → s.shown.number ≡ t.shown.number → s ≡ t
  one_number p q next ss s t rule at_s at_t same =
      same_Some s t (sym (numbered_here p next 1 ss s rule.ascending at_s) ∙ ap (λ n. session_of n ss) same ∙ numbered_here q next 1 ss t rule.ascending at_t)

  -- one on a connection is the one that is found there
  pub seat_of : (next k : ℕ) (ss : List (Session A)) (s : Session A) → IsRule ss next → session_of s.shown.number ss ≡ Some s → s.shown.conn ≡ Some k → session_at k ss ≡ Some s
  seat_of next k ss s rule there on =
      let some = found_some (is_numbered s.shown.number) (is_at k) ss s there (is_seat k s on) in
      let also = numbered_here (is_at k) next 1 ss some.0 rule.ascending some.1 in
      let number = rule.conns s.shown.number some.0.shown.number k s some.0 there also on (on_seat k ss some.0 some.1) in
      some.1 ∙ ap Some (sym (one_number (is_numbered s.shown.number) (is_at k) next ss s some.0 rule there some.1 number))

  -- ---- some are left out

  rises_above : (next low high : ℕ) (ss : List (Session A)) → low ≤ high → RisesTo next high ss → RisesTo next low ss
  rises_above next low high [] more rises = let r = rises in omega arith
  rises_above next low high (s ∷ ss) more rises = ((let r = rises.0 in omega arith), rises.1)

  -- what is found by its number is left, and was there
  pub of_left : (q : Session A → Bool) (next low n : ℕ) (ss : List (Session A)) (s : Session A) → RisesTo next low ss → session_of n (filter q ss) ≡ Some s → (session_of n ss ≡ Some s) × (q s ≡ true)
  of_left q next low n [] s rises is = absurd (let no_way : ⊥ = cc in no_way)
  of_left q next low n (x ∷ ss) s rises is =
      elim (cases_Bool (q x)) [
        | inl left ↦ kept left (λ found. of_left q next (x.shown.number + 1) n ss s rises.1 found) (rw left at is)
        | inr gone ↦
            let rest = of_left q next (x.shown.number + 1) n ss s rises.1 (rw gone at is) in
            let above = numbers_above next (x.shown.number + 1) n ss s rises.1 rest.0 in
            (past above rest.0, rest.1)
      ]
    where
      past : x.shown.number + 1 ≤ n → session_of n ss ≡ Some s → session_of n (x ∷ ss) ≡ Some s
      past above found =
          elim (cases_Bool (x.shown.number == n)) [
            | inl same ↦ let equal : x.shown.number ≡ n = eqb-true x.shown.number n same in absurd (let no_way : ⊥ = omega arith in no_way)
            | inr apart ↦ rw apart found
          ]

      kept : q x ≡ true → (session_of n (filter q ss) ≡ Some s → (session_of n ss ≡ Some s) × (q s ≡ true)) → session_of n (x ∷ filter q ss) ≡ Some s → (session_of n (x ∷ ss) ≡ Some s) × (q s ≡ true)
      kept left below found =
          elim (cases_Bool (x.shown.number == n)) [
            | inl here ↦ let same : x ≡ s = same_Some x s (rw here at found) in (rw here (ap Some same), subst (λ y. q y ≡ true) same left)
            | inr apart ↦ let rest = below (rw apart at found) in (rw apart rest.0, rest.1)
          ]

  pub rule_left : (q : Session A → Bool) (next : ℕ) (ss : List (Session A)) → IsRule ss next → IsRule (filter q ss) next
  rule_left q next ss rule = record {
    ascending = rises_filter q next 1 ss rule.ascending;
    fits = rule.fits;
    conns = λ m n conn s t at_m at_n. rule.conns m n conn s t (of_left q next 1 m ss s rule.ascending at_m).0 (of_left q next 1 n ss t rule.ascending at_n).0;
    names = λ m n s t at_m at_n. rule.names m n s t (of_left q next 1 m ss s rule.ascending at_m).0 (of_left q next 1 n ss t rule.ascending at_n).0;
    few = λ n s at_n. rule.few n s (of_left q next 1 n ss s rule.ascending at_n).0;
  }

  -- ---- one is changed

  abbrev pub changes_one : ℕ → (Session A → Session A) → Session A → Session A
  changes_one n f s = cond (s.shown.number == n) (f s) s

  -- what every change of a session leaves
  pub record Keeps (f : Session A → Session A) : Type 0 where
    pub number : (s : Session A) → (f s).shown.number ≡ s.shown.number
    pub account : (s : Session A) → (f s).shown.account ≡ s.shown.account
    pub resource : (s : Session A) → (f s).shown.resource ≡ s.shown.resource

  pub keeps_one : (n : ℕ) (f : Session A → Session A) → Keeps f → Keeps (changes_one n f)
  keeps_one n f kept = record {
    number = λ s. either (λ (t : Session A). t.shown.number ≡ s.shown.number) (s.shown.number == n) (f s) s (kept.number s) refl;
    account = λ s. either (λ (t : Session A). t.shown.account ≡ s.shown.account) (s.shown.number == n) (f s) s (kept.account s) refl;
    resource = λ s. either (λ (t : Session A). t.shown.resource ≡ s.shown.resource) (s.shown.number == n) (f s) s (kept.resource s) refl;
  }

  rises_mapped : (g : Session A → Session A) → ((s : Session A) → (g s).shown.number ≡ s.shown.number) → (next low : ℕ) (ss : List (Session A)) → RisesTo next low ss → RisesTo next low (map g ss)
  rises_mapped g same next low [] rises = rises
  rises_mapped g same next low (s ∷ ss) rises =
      (subst (λ n. low ≤ n) (sym (same s)) rises.0, subst (λ n. RisesTo next (n + 1) (map g ss)) (sym (same s)) (rises_mapped g same next (s.shown.number + 1) ss rises.1))

  pub of_was : (m n : ℕ) (f : Session A → Session A) (ss : List (Session A)) (s : Session A) → Keeps f → session_of m (with_session n f ss) ≡ Some s → (t : Session A) × (session_of m ss ≡ Some t) × (changes_one n f t ≡ s)
  of_was m n f ss s kept is =
      was_found (changes_one n f) (session_of m ss) s (sym (found_mapped (is_numbered m) (changes_one n f) ss (λ t. ap (λ k. k == m) ((keeps_one n f kept).number t))) ∙ is)

  pub named_one : (account : ℕ) (resource : List ℕ) (n : ℕ) (f : Session A → Session A) (s : Session A) → Keeps f → is_named account resource (changes_one n f s) ≡ is_named account resource s
  named_one account resource n f s kept = let all = keeps_one n f kept in let a = all.account s in let r = all.resource s in rw (a, r) refl

  -- where the named session isn't changed, it is found as before
  pub named_stays : (account : ℕ) (resource : List ℕ) (n : ℕ) (f : Session A → Session A) (ss : List (Session A)) → Keeps f
      → ((s : Session A) → session_named account resource ss ≡ Some s → changes_one n f s ≡ s) → session_named account resource (with_session n f ss) ≡ session_named account resource ss
  named_stays account resource n f ss kept same = found_mapped (is_named account resource) (changes_one n f) ss (λ s. named_one account resource n f s kept) ∙ by (session_named account resource ss) refl
    where
      by : (o : Option (Session A)) → session_named account resource ss ≡ o → option_map (changes_one n f) o ≡ o
      by None is = refl
      by (Some s) is = ap Some (same s is)

  pub named_changed : (account : ℕ) (resource : List ℕ) (n : ℕ) (f : Session A → Session A) (ss : List (Session A)) → Keeps f → session_named account resource (with_session n f ss) ≡ option_map (changes_one n f) (session_named account resource ss)
  named_changed account resource n f ss kept = found_mapped (is_named account resource) (changes_one n f) ss (λ s. named_one account resource n f s kept)

  -- where it has a connection, it had that before, or it comes to a free one, on which none was
  pub record Sits (Free : ℕ → Type 0) (ss : List (Session A)) (f : Session A → Session A) : Type 0 where
    pub conn : (s : Session A) (j : ℕ) → (f s).shown.conn ≡ Some j → Free j ⊎ (s.shown.conn ≡ Some j)
    pub nobody : (j : ℕ) → Free j → session_at j ss ≡ None

  pub stays : (ss : List (Session A)) (f : Session A → Session A) → ((s : Session A) (j : ℕ) → (f s).shown.conn ≡ Some j → s.shown.conn ≡ Some j) → Sits (λ j. ⊥) ss f
  stays ss f same = record { conn = λ s j on. inr (same s j on); nobody = λ j free. absurd free }

  pub comes : (k : ℕ) (ss : List (Session A)) (f : Session A → Session A) → session_at k ss ≡ None → ((s : Session A) → (f s).shown.conn ≡ Some k) → Sits (λ j. j ≡ k) ss f
  comes k ss f nobody on = record {
    conn = λ s j is. inl (sym (same_Some k j (sym (on s) ∙ is)));
    nobody = λ j same. subst (λ i. session_at i ss ≡ None) (sym same) nobody;
  }

  module _ (next n : ℕ) (Free : ℕ → Type 0) (f : Session A → Session A) (ss : List (Session A)) (rule : IsRule ss next) (kept : Keeps f) (sits : Sits Free ss f) where
    all : Keeps (changes_one n f)
    all = keeps_one n f kept

    -- it is on a free connection now, or where it was
    moved_on : (s : Session A) (j : ℕ) → (changes_one n f s).shown.conn ≡ Some j → ((s.shown.number ≡ n) × Free j) ⊎ (s.shown.conn ≡ Some j)
    moved_on s j =
        elim (cases_Bool (s.shown.number == n)) [
          | inl here ↦ rw here (λ is. elim (sits.conn s j is) [ inl free ↦ inl (eqb-true s.shown.number n here, free) | inr was ↦ inr was ])
          | inr apart ↦ rw apart (λ is. inr is)
        ]

    no_one : {B : Type 0} (m j : ℕ) (s : Session A) → session_of m ss ≡ Some s → Free j → s.shown.conn ≡ Some j → B
    no_one m j s there free on =
        let some = found_some (is_numbered m) (is_at j) ss s there (is_seat j s on) in
        let e = some.1 in
        let none = sits.nobody j free in
        absurd (let no_way : ⊥ = cc in no_way)

    one_seat : (i j conn : ℕ) (s t : Session A) → session_of i ss ≡ Some s → session_of j ss ≡ Some t → ((s.shown.number ≡ n) × Free conn) ⊎ (s.shown.conn ≡ Some conn) → ((t.shown.number ≡ n) × Free conn) ⊎ (t.shown.conn ≡ Some conn) → i ≡ j
    one_seat i j conn s t at_i at_j (inl a) (inl b) = sym (number_is i ss s at_i) ∙ a.0 ∙ sym b.0 ∙ number_is j ss t at_j
    one_seat i j conn s t at_i at_j (inl a) (inr b) = no_one j conn t at_j a.1 b
    one_seat i j conn s t at_i at_j (inr a) (inl b) = no_one i conn s at_i b.1 a
    one_seat i j conn s t at_i at_j (inr a) (inr b) = rule.conns i j conn s t at_i at_j a b

    few_of : ((s : Session A) → session_of n ss ≡ Some s → length (f s).waiting ≤ MOST_UNACKNOWLEDGED) → (m : ℕ) (s : Session A) → session_of m ss ≡ Some s → length (changes_one n f s).waiting ≤ MOST_UNACKNOWLEDGED
    few_of few m s is =
        elim (cases_Bool (s.shown.number == n)) [
          | inl here ↦
              let same : m ≡ n = sym (number_is m ss s is) ∙ eqb-true s.shown.number n here in
              rw here (few s (subst (λ i. session_of i ss ≡ Some s) same is))
          | inr other ↦ rw other (rule.few m s is)
        ]

    ascends : RisesTo next 1 (with_session n f ss)
    ascends = rises_mapped (changes_one n f) all.number next 1 ss rule.ascending

    -- the rule holds where one session is changed, of which few enough stanzas wait
    pub rule_changed : ((s : Session A) → session_of n ss ≡ Some s → length (f s).waiting ≤ MOST_UNACKNOWLEDGED) → IsRule (with_session n f ss) next
    rule_changed few = record {
      ascending = ascends;
      fits = rule.fits;
      conns = λ i j conn s t at_i at_j on_s on_t.
          let a = of_was i n f ss s kept at_i in
          let b = of_was j n f ss t kept at_j in
          one_seat i j conn a.0 b.0 a.1 b.1 (moved_on a.0 conn (ap (λ (u : Session A). u.shown.conn) a.2 ∙ on_s)) (moved_on b.0 conn (ap (λ (u : Session A). u.shown.conn) b.2 ∙ on_t));
      names = λ i j s t at_i at_j account resource.
          let a = of_was i n f ss s kept at_i in
          let b = of_was j n f ss t kept at_j in
          rule.names i j a.0 b.0 a.1 b.1
          (sym (all.account a.0) ∙ ap (λ (u : Session A). u.shown.account) a.2 ∙ account ∙ sym (ap (λ (u : Session A). u.shown.account) b.2) ∙ all.account b.0)
          (sym (all.resource a.0) ∙ ap (λ (u : Session A). u.shown.resource) a.2 ∙ resource ∙ sym (ap (λ (u : Session A). u.shown.resource) b.2) ∙ all.resource b.0);
      few = λ m s at_m. let a = of_was m n f ss s kept at_m in subst (λ (u : Session A). length u.waiting ≤ MOST_UNACKNOWLEDGED) a.2 (few_of few m a.0 a.1);
    }

    -- one on a connection was there, or the connection was free
    pub seat_was : (j : ℕ) (s : Session A) → session_at j (with_session n f ss) ≡ Some s
        → (t : Session A) × (session_of t.shown.number ss ≡ Some t) × (changes_one n f t ≡ s) × (((t.shown.number ≡ n) × Free j) ⊎ (session_at j ss ≡ Some t))
    seat_was j s at =
        let old = of_was s.shown.number n f ss s kept (numbered_here (is_at j) next 1 (with_session n f ss) s ascends at) in
        let same : s.shown.number ≡ old.0.shown.number = ap (λ (u : Session A). u.shown.number) (sym old.2) ∙ all.number old.0 in
        let there : session_of old.0.shown.number ss ≡ Some old.0 = subst (λ m. session_of m ss ≡ Some old.0) same old.1 in
        (old.0, there, old.2, seated old.0 there (moved_on old.0 j (ap (λ (u : Session A). u.shown.conn) old.2 ∙ on_seat j (with_session n f ss) s at)))
      where
        seated : (t : Session A) → session_of t.shown.number ss ≡ Some t → ((t.shown.number ≡ n) × Free j) ⊎ (t.shown.conn ≡ Some j) → ((t.shown.number ≡ n) × Free j) ⊎ (session_at j ss ≡ Some t)
        seated t there (inl new) = inl new
        seated t there (inr on) = inr (seat_of next j ss t rule there on)

  -- ---- one is bound behind those that are left

  pub named_as : (account : ℕ) (resource : List ℕ) (s : Session A) → is_named account resource s ≡ true → (s.shown.account ≡ account) × (s.shown.resource ≡ resource)
  named_as account resource s is =
      elim (cases_Bool (s.shown.account == account)) [
        | inl same ↦ (eqb-true s.shown.account account same, (bytes_eq-Decides s.shown.resource resource).0 (rw same at is))
        | inr apart ↦ let none : false ≡ true = rw apart at is in absurd (let no_way : ⊥ = cc in no_way)
      ]

  pub one_named : (account : ℕ) (resource : List ℕ) (next : ℕ) (ss : List (Session A)) (s t : Session A) → IsRule ss next → session_named account resource ss ≡ Some s → session_of t.shown.number ss ≡ Some t → is_named account resource t ≡ true → t ≡ s
  one_named account resource next ss s t rule found there named =
      let here = numbered_here (is_named account resource) next 1 ss s rule.ascending found in
      let a = named_as account resource s (found_is (is_named account resource) ss s found) in
      let b = named_as account resource t named in
      let number : t.shown.number ≡ s.shown.number = rule.names t.shown.number s.shown.number t s there here (b.0 ∙ sym a.0) (b.1 ∙ sym a.1) in
      same_Some t s (sym there ∙ ap (λ n. session_of n ss) number ∙ here)

  -- the one of a name is left out, and none with its name is left
  pub named_gone : (q : Session A → Bool) (account : ℕ) (resource : List ℕ) (next : ℕ) (ss : List (Session A)) (s : Session A) → IsRule ss next → session_named account resource ss ≡ Some s → q s ≡ false
      → session_named account resource (filter q ss) ≡ None
  named_gone q account resource next ss s rule found gone = found_none (is_named account resource) (filter q ss) no_one
    where
      no_one : (t : Session A) → session_named account resource (filter q ss) ≡ Some t → ⊥
      no_one t is =
          let there = of_left q next 1 t.shown.number ss t rule.ascending (numbered_here (is_named account resource) next 1 (filter q ss) t (rises_filter q next 1 ss rule.ascending) is) in
          let same : t ≡ s = one_named account resource next ss s t rule found there.0 (found_is (is_named account resource) (filter q ss) t is) in
          let left : q s ≡ true = subst (λ u. q u ≡ true) same there.1 in
          let no_way : ⊥ = cc in no_way

  rises_pushed : (next low : ℕ) (ss : List (Session A)) (f : Session A) → RisesTo next low ss → f.shown.number ≡ next → RisesTo (next + 1) low (ss ++ f ∷ [])
  rises_pushed next low [] f rises is = ((let r = rises in omega arith), (let e = is in omega arith))
  rises_pushed next low (s ∷ ss) f rises is = (rises.0, rises_pushed next (s.shown.number + 1) ss f rises.1 is)

  module _ (next account : ℕ) (resource : List ℕ) (k : ℕ) (ss : List (Session A)) (rule : IsRule ss next) (fits : next + 1 < 2 ^ 64) (seat : session_at k ss ≡ None) (name : session_named account resource ss ≡ None) where
    abbrev newest : Session A
    newest = fresh next account resource k

    -- one that was there is neither on the connection nor has the name
    not_there : {B : Type 0} (m : ℕ) (s : Session A) (p : Session A → Bool) → find p ss ≡ None → session_of m ss ≡ Some s → p s ≡ true → B
    not_there m s p none there fits_it = let some = found_some (is_numbered m) p ss s there fits_it in let e = some.1 in absurd (let no_way : ⊥ = cc in no_way)

    named_true : (s : Session A) → s.shown.account ≡ account → s.shown.resource ≡ resource → is_named account resource s ≡ true
    named_true s a r = let b = bytes_eq-self resource in let c = eq-eqb account account refl in rw (a, r, b, c) refl

    number_was : (m : ℕ) (f s : Session A) → f ≡ s → is_numbered m f ≡ true → m ≡ f.shown.number
    number_was m f s same is = sym (eqb-true f.shown.number m is)

    pub rule_pushed : IsRule (ss ++ newest ∷ []) (next + 1)
    rule_pushed = record {
      ascending = rises_pushed next 1 ss newest rule.ascending refl;
      fits = fits;
      conns = λ m n conn s t at_m at_n on_s on_t. conns m n conn s t on_s on_t (found_pushed (is_numbered m) ss newest s at_m) (found_pushed (is_numbered n) ss newest t at_n);
      names = λ m n s t at_m at_n a r. names m n s t a r (found_pushed (is_numbered m) ss newest s at_m) (found_pushed (is_numbered n) ss newest t at_n);
      few = λ n s at_n. few n s (found_pushed (is_numbered n) ss newest s at_n);
    }
      where
        Was : ℕ → Session A → Type 0
        Was m s = (session_of m ss ≡ Some s) ⊎ ((session_of m ss ≡ None) × (newest ≡ s) × (is_numbered m newest ≡ true))

        conns : (m n conn : ℕ) (s t : Session A) → s.shown.conn ≡ Some conn → t.shown.conn ≡ Some conn → Was m s → Was n t → m ≡ n
        conns m n conn s t on_s on_t (inl a) (inl b) = rule.conns m n conn s t a b on_s on_t
        conns m n conn s t on_s on_t (inl a) (inr b) =
            let same : Some k ≡ t.shown.conn = ap (λ (u : Session A). u.shown.conn) b.1 in
            not_there m s (is_at k) seat a (is_seat k s (on_s ∙ sym on_t ∙ sym same))
        conns m n conn s t on_s on_t (inr a) (inl b) =
            let same : Some k ≡ s.shown.conn = ap (λ (u : Session A). u.shown.conn) a.1 in
            not_there n t (is_at k) seat b (is_seat k t (on_t ∙ sym on_s ∙ sym same))
        conns m n conn s t on_s on_t (inr a) (inr b) = number_was m newest s a.1 a.2 ∙ sym (number_was n newest t b.1 b.2)

        names : (m n : ℕ) (s t : Session A) → s.shown.account ≡ t.shown.account → s.shown.resource ≡ t.shown.resource → Was m s → Was n t → m ≡ n
        names m n s t a r (inl x) (inl y) = rule.names m n s t x y a r
        names m n s t a r (inl x) (inr y) =
            not_there m s (is_named account resource) name x
            (named_true s (a ∙ sym (ap (λ (u : Session A). u.shown.account) y.1)) (r ∙ sym (ap (λ (u : Session A). u.shown.resource) y.1)))
        names m n s t a r (inr x) (inl y) =
            not_there n t (is_named account resource) name y
            (named_true t (sym a ∙ sym (ap (λ (u : Session A). u.shown.account) x.1)) (sym r ∙ sym (ap (λ (u : Session A). u.shown.resource) x.1)))
        names m n s t a r (inr x) (inr y) = number_was m newest s x.1 x.2 ∙ sym (number_was n newest t y.1 y.2)

        few : (n : ℕ) (s : Session A) → Was n s → length s.waiting ≤ MOST_UNACKNOWLEDGED
        few n s (inl a) = rule.few n s a
        few n s (inr a) = subst (λ (u : Session A). length u.waiting ≤ MOST_UNACKNOWLEDGED) a.1 (omega arith)
