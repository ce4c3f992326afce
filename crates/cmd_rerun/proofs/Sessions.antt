-- Which sessions are on a connection, behind each thing that happens to sessions.
use Rattle.std.proofs.Common.{◌≡◌, ◌==◌, ℕ, Bool, true, false, not, List, [], ◌∷◌, ◌++◌, Option, Some, None, IfSome, ap, cond, refl, sym, ◌∙◌, inl, inr}
use Rattle.std.proofs.lemmas.Bool.{cases_Bool, cond_both, eq-eqb, eqb-true, false≢true}
use Rattle.std.specs.List.{AllByRecursion, filter, find}
use Rattle.std.specs.Option.{option_map}
use Rattle.sm_live.specs.Sessions.{Session, after_resume, bound, fresh, info_of, is_at, is_too_high, less, lost, parked, resumes, session_at, session_named, told, with_session, without, without_at}
use Rattle.sm_resumption.specs.Rows.{is_some_number}
use Rattle.cmd_rerun.proofs.Entries.{apart_eqb, is_same}

-- what is so of each session's number and connection
abbrev pub EachIs : {A : Type 0} → (ℕ → Option ℕ → Type 0) → List (Session A) → Type 0
EachIs Q ss = AllByRecursion (λ s. Q s.shown.number s.shown.conn) ss

module _ {A : Type 0} (Q : ℕ → Option ℕ → Type 0) where
  pub each_filter : (test : Session A → Bool) (ss : List (Session A)) → EachIs Q ss → EachIs Q (filter test ss)
  each_filter test [] each = tt
  each_filter test (s ∷ ss) each =
      cond_both (test s) (s ∷ filter test ss) (filter test ss) (λ rest. EachIs Q rest) (λ e. (each.0, each_filter test ss each.1)) (λ e. each_filter test ss each.1)

  -- one is changed, which keeps it
  pub each_with : (n : ℕ) (f : Session A → Session A) (ss : List (Session A))
      → ((s : Session A) → (s.shown.number == n) ≡ true → Q s.shown.number s.shown.conn → Q (f s).shown.number (f s).shown.conn) → EachIs Q ss → EachIs Q (with_session n f ss)
  each_with n f [] keeps each = tt
  each_with n f (s ∷ ss) keeps each = (
    cond_both (s.shown.number == n) (f s) s (λ t. Q t.shown.number t.shown.conn) (λ e. keeps s e each.0) (λ e. each.0),
    each_with n f ss keeps each.1,
  )

  pub each_more : (ss : List (Session A)) (s : Session A) → EachIs Q ss → Q s.shown.number s.shown.conn → EachIs Q (ss ++ s ∷ [])
  each_more [] s each is = (is, tt)
  each_more (t ∷ ss) s each is = (each.0, each_more ss s each.1 is)

  pub each_found : (test : Session A → Bool) (ss : List (Session A)) → EachIs Q ss → IfSome (find test ss) (λ s. Q s.shown.number s.shown.conn)
  each_found test [] each = tt
  each_found test (s ∷ ss) each =
      cond_both (test s) (Some s) (find test ss) (λ o. IfSome o (λ t. Q t.shown.number t.shown.conn)) (λ e. each.0) (λ e. each_found test ss each.1)

  told_is : (o : Option (Session A)) → IfSome o (λ s. Q s.shown.number s.shown.conn) → IfSome (option_map told o) (λ t. Q t.number t.conn)
  told_is None is = tt
  told_is (Some s) is = is

  pub each_told : (n : ℕ) (ss : List (Session A)) → EachIs Q ss → IfSome (info_of n ss) (λ t. Q t.number t.conn)
  each_told n ss each = told_is (find (λ s. s.shown.number == n) ss) (each_found (λ s. s.shown.number == n) ss each)

  pub each_less : (o : Option (Session A)) (ss : List (Session A)) → EachIs Q ss → EachIs Q (less o ss)
  each_less None ss each = each
  each_less (Some s) ss each = each_filter (λ t. not (t.shown.number == s.shown.number)) ss each

  -- ---- a binding, a resumption, a loss

  pub each_bound : (number account : ℕ) (resource : List ℕ) (j : ℕ) (ss : List (Session A)) → Q number (Some j) → EachIs Q ss → EachIs Q (bound number account resource j ss)
  each_bound number account resource j ss is each =
      each_more (less (session_named account resource ss) ss) (fresh number account resource j) (each_less (session_named account resource ss) ss each) is

  pub each_resumed : (h j : ℕ) (o : Option (Session A)) (ss : List (Session A)) → ((n : ℕ) (c : Option ℕ) → IfSome o (λ s. s.shown.number ≡ n) → Q n c → Q n (Some j))
      → EachIs Q ss → EachIs Q (after_resume h j o ss)
  each_resumed h j None ss moves each = each
  each_resumed h j (Some s) ss moves each =
      cond_both (is_too_high h s) (without s.shown.number ss) (with_session s.shown.number (resumes h j) ss) (λ rest. EachIs Q rest)
      (λ e. each_filter (λ t. not (t.shown.number == s.shown.number)) ss each)
      (λ e. each_with s.shown.number (resumes h j) ss (λ t same is. moves t.shown.number t.shown.conn (sym (eqb-true t.shown.number s.shown.number same)) is) each)

  pub each_lost : (now : ℕ) (o : Option (Session A)) (ss : List (Session A)) → ((n : ℕ) (c : Option ℕ) → Q n c → Q n None) → EachIs Q ss → EachIs Q (lost now o ss)
  each_lost now None ss parks each = each
  each_lost now (Some s) ss parks each =
      cond_both s.shown.resumable (with_session s.shown.number (parked now) ss) (without s.shown.number ss) (λ rest. EachIs Q rest)
      (λ e. each_with s.shown.number (parked now) ss (λ t same is. parks t.shown.number t.shown.conn is) each)
      (λ e. each_filter (λ t. not (t.shown.number == s.shown.number)) ss each)

-- ---- no session on a connection, or those of one number

abbrev pub IsAway : ℕ → ℕ → Option ℕ → Type 0
IsAway k n c = is_some_number k c ≡ false

abbrev pub IsOne : ℕ → ℕ → ℕ → Option ℕ → Type 0
IsOne k m n c = is_some_number k c ≡ true → n ≡ m

abbrev pub NoneAt : {A : Type 0} → ℕ → List (Session A) → Type 0
NoneAt k ss = EachIs (IsAway k) ss

abbrev pub OneAt : {A : Type 0} → ℕ → List (Session A) → Type 0
OneAt k ss = (m : ℕ) × EachIs (IsOne k m) ss

module _ {A : Type 0} (k : ℕ) where
  one_from_none : (m : ℕ) (ss : List (Session A)) → NoneAt k ss → EachIs (IsOne k m) ss
  one_from_none m [] none = tt
  one_from_none m (s ∷ ss) none = (λ there. absurd (false≢true (sym none.0 ∙ there)), one_from_none m ss none.1)

  pub none_then_one : (ss : List (Session A)) → NoneAt k ss → OneAt k ss
  none_then_one ss none = (0, one_from_none 0 ss none)

  pub none_left : (ss : List (Session A)) → NoneAt k (without_at k ss)
  none_left [] = tt
  none_left (s ∷ ss) =
      cond_both (not (is_at k s)) (s ∷ without_at k ss) (without_at k ss) (λ rest. NoneAt k rest) (λ e. (no_longer (is_at k s) e, none_left ss)) (λ e. none_left ss)
    where
      no_longer : (b : Bool) → not b ≡ true → b ≡ false
      no_longer true is = sym is
      no_longer false is = refl

  pub none_found : (ss : List (Session A)) → find (is_at k) ss ≡ None → NoneAt k ss
  none_found [] is = tt
  none_found (s ∷ ss) is = elim (cases_Bool (is_at k s)) [
    | inl here ↦ absurd (some_none s (sym (ap (λ b. cond b (Some s) (find (is_at k) ss)) here) ∙ is))
    | inr other ↦ (other, none_found ss (sym (ap (λ b. cond b (Some s) (find (is_at k) ss)) other) ∙ is))
  ]
    where
      is_there : Option (Session A) → Bool
      is_there None = false
      is_there (Some t) = true

      some_none : (t : Session A) → Some t ≡ None → ⊥
      some_none t same = false≢true (sym (ap is_there same))

  found_there : (ss : List (Session A)) → IfSome (find (is_at k) ss) (λ s. is_at k s ≡ true)
  found_there [] = tt
  found_there (s ∷ ss) = cond_both (is_at k s) (Some s) (find (is_at k) ss) (λ o. IfSome o (λ t. is_at k t ≡ true)) (λ e. e) (λ e. found_there ss)

  -- who has another number is not on it
  other_away : (m n : ℕ) (s : Session A) → n ≡ m → (s.shown.number == n) ≡ false → IsOne k m s.shown.number s.shown.conn → IsAway k s.shown.number s.shown.conn
  other_away m n s same apart one = elim (cases_Bool (is_at k s)) [
    | inl there ↦ absurd (false≢true (sym apart ∙ eq-eqb s.shown.number n (one there ∙ sym same)))
    | inr away ↦ away
  ]

  parked_away : (now m n : ℕ) (ss : List (Session A)) → n ≡ m → EachIs (IsOne k m) ss → NoneAt k (with_session n (parked now) ss)
  parked_away now m n [] same one = tt
  parked_away now m n (s ∷ ss) same one = (
    cond_both (s.shown.number == n) (parked now s) s (λ t. IsAway k t.shown.number t.shown.conn) (λ e. refl) (λ e. other_away m n s same e one.0),
    parked_away now m n ss same one.1,
  )

  ended_away : (m n : ℕ) (ss : List (Session A)) → n ≡ m → EachIs (IsOne k m) ss → NoneAt k (without n ss)
  ended_away m n [] same one = tt
  ended_away m n (s ∷ ss) same one =
      cond_both (not (s.shown.number == n)) (s ∷ without n ss) (without n ss) (λ rest. NoneAt k rest)
      (λ e. (other_away m n s same (not_so (s.shown.number == n) e) one.0, ended_away m n ss same one.1)) (λ e. ended_away m n ss same one.1)
    where
      not_so : (b : Bool) → not b ≡ true → b ≡ false
      not_so true is = sym is
      not_so false is = refl

  lost_one : (now m : ℕ) (s : Session A) (ss : List (Session A)) → s.shown.number ≡ m → EachIs (IsOne k m) ss → NoneAt k (lost now (Some s) ss)
  lost_one now m s ss same one =
      cond_both s.shown.resumable (with_session s.shown.number (parked now) ss) (without s.shown.number ss) (λ rest. NoneAt k rest)
      (λ e. parked_away now m s.shown.number ss same one) (λ e. ended_away m s.shown.number ss same one)

  lost_by : (now m : ℕ) (o : Option (Session A)) (ss : List (Session A)) → find (is_at k) ss ≡ o → IfSome o (λ s. s.shown.number ≡ m) → EachIs (IsOne k m) ss → NoneAt k (lost now o ss)
  lost_by now m None ss is one each = none_found ss is
  lost_by now m (Some s) ss is one each = lost_one now m s ss one each

  number_there : (m : ℕ) (o : Option (Session A)) → IfSome o (λ s. is_at k s ≡ true) → IfSome o (λ s. IsOne k m s.shown.number s.shown.conn) → IfSome o (λ s. s.shown.number ≡ m)
  number_there m None there one = tt
  number_there m (Some s) there one = one there

  -- a connection is gone
  pub lost_away : (now : ℕ) (ss : List (Session A)) → OneAt k ss → NoneAt k (lost now (session_at k ss) ss)
  lost_away now ss one =
      lost_by now one.0 (session_at k ss) ss refl (number_there one.0 (session_at k ss) (found_there ss) (each_found (IsOne k one.0) (is_at k) ss one.1)) one.1

  -- ---- a session comes on a connection that has none

  pub bound_one : (number account : ℕ) (resource : List ℕ) (ss : List (Session A)) → NoneAt k ss → OneAt k (bound number account resource k ss)
  bound_one number account resource ss none = (number, each_bound (IsOne k number) number account resource k ss (λ there. refl) (one_from_none number ss none))

  resumed_by : (h m : ℕ) (s : Session A) (ss : List (Session A)) → s.shown.number ≡ m → NoneAt k ss → EachIs (IsOne k m) (after_resume h k (Some s) ss)
  resumed_by h m s ss same none =
      each_resumed (IsOne k m) h k (Some s) ss (λ n c is one there. sym is ∙ same) (one_from_none m ss none)

  pub resumed_one : (h : ℕ) (o : Option (Session A)) (ss : List (Session A)) → NoneAt k ss → OneAt k (after_resume h k o ss)
  resumed_one h None ss none = none_then_one ss none
  resumed_one h (Some s) ss none = (s.shown.number, resumed_by h s.shown.number s ss refl none)

-- ---- on another connection

module _ (k j : ℕ) (apart : is_same k j ≡ false) where
  away : (n : ℕ) → IsAway k n (Some j)
  away n = apart_eqb k j apart

  one : (m n : ℕ) → IsOne k m n (Some j)
  one m n there = absurd (false≢true (sym (away n) ∙ there))

  pub bound_none : {A : Type 0} (number account : ℕ) (resource : List ℕ) (ss : List (Session A)) → NoneAt k ss → NoneAt k (bound number account resource j ss)
  bound_none number account resource ss none = each_bound (IsAway k) number account resource j ss (away number) none

  pub bound_same : {A : Type 0} (number account : ℕ) (resource : List ℕ) (ss : List (Session A)) → OneAt k ss → OneAt k (bound number account resource j ss)
  bound_same number account resource ss ones = (ones.0, each_bound (IsOne k ones.0) number account resource j ss (one ones.0 number) ones.1)

  pub resumed_none : {A : Type 0} (h : ℕ) (o : Option (Session A)) (ss : List (Session A)) → NoneAt k ss → NoneAt k (after_resume h j o ss)
  resumed_none h o ss none = each_resumed (IsAway k) h j o ss (λ n c is a. away n) none

  pub resumed_same : {A : Type 0} (h : ℕ) (o : Option (Session A)) (ss : List (Session A)) → OneAt k ss → OneAt k (after_resume h j o ss)
  resumed_same h o ss ones = (ones.0, each_resumed (IsOne k ones.0) h j o ss (λ n c is a. one ones.0 n) ones.1)
