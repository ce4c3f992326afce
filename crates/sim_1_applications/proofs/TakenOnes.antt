-- Which submissions of a session were taken: of what was handled those to accounts that exist, and of the rest none.
use Rattle.std.proofs.Common.{◌≡◌, ℕ, suc, ◌+◌, ◌<◌, ◌≤◌, ◌==◌, Bool, true, false, cond, List, [], ◌∷◌, ◌++◌, length, map, refl, sym, ap, ◌∙◌, subst, arith, append_assoc}
use Rattle.std.proofs.lemmas.Bool.{and_left, and_right, eq-eqb, eqb-true, ne_eqb, or_right}
use Rattle.std.proofs.lemmas.List.{append-nil}
use Rattle.std.proofs.lemmas.List.Concat.{flat_map-append}
use Rattle.std.specs.List.{AllByRecursion, filter, flat_map, list_any}
use Rattle.std.specs.Prelude.{◌&&◌, ◌||◌}
use Rattle.sim_1_applications.specs.Devices.{Session, Sessions, Take}
use Rattle.sim_1_applications.specs.Events.{is_among}
use Rattle.sim_1_applications.specs.Kept.{AreNumbered, ArePast, IsNumbered, SessionsKept, accepted, handled, is_of, said_in}
use Rattle.sim_1_applications.specs.Stanzas.{Submission, messages}
use Rattle.sim_1_applications.proofs.Lists.{all_append, all_weaker}
use Rattle.sim_1_applications.proofs.Numbered.{messages_append, numbered_front, numbered_rest}
use Rattle.sim_1_applications.proofs.SessionSteps.{past_push}

abbrev pub has_key : Submission → Submission → Bool
has_key m k = k.epoch == m.epoch && k.n == m.n

-- a message with the same epoch and number is among these
abbrev pub is_in : Submission → List Submission → Bool
is_in m ms = list_any (has_key m) ms

abbrev pub is_take_of : ℕ → Submission → Take → Bool
is_take_of i m t = (t.device == i) && has_key m t.said

-- the message of this device was taken
abbrev pub is_taken_of : ℕ → Submission → List Take → Bool
is_taken_of i m takes = list_any (is_take_of i m) takes

pub taken_in : (i : ℕ) (m : Submission) (takes : List Take) → is_taken_of i m takes ≡ is_in m (map said_in (filter (is_of i) takes))
taken_in i m [] = refl
taken_in i m (t ∷ takes) = chosen (t.device == i) (taken_in i m takes)
  where
    chosen : (b : Bool) → is_taken_of i m takes ≡ is_in m (map said_in (filter (is_of i) takes)) →
        ((b && has_key m t.said) || is_taken_of i m takes) ≡ is_in m (map said_in (cond b (t ∷ filter (is_of i) takes) (filter (is_of i) takes)))
    chosen true same = ap (λ c. has_key m t.said || c) same
    chosen false same = same

in_first : (m : Submission) (xs ys : List Submission) → is_in m xs ≡ true → is_in m (xs ++ ys) ≡ true
in_first m [] ys known = absurd (let bad : ⊥ = cc in bad)
in_first m (x ∷ xs) ys known = either (has_key m x) (in_first m xs ys) known
  where
    either : (b : Bool) → (is_in m xs ≡ true → is_in m (xs ++ ys) ≡ true) → (b || is_in m xs) ≡ true → (b || is_in m (xs ++ ys)) ≡ true
    either true more k = refl
    either false more k = more k

in_second : (m : Submission) (xs ys : List Submission) → is_in m ys ≡ true → is_in m (xs ++ ys) ≡ true
in_second m [] ys known = known
in_second m (x ∷ xs) ys known = or_right (has_key m x) (is_in m (xs ++ ys)) (in_second m xs ys known)

itself : (m : Submission) → has_key m m ≡ true
itself m = let e = eq-eqb m.epoch m.epoch refl in let n = eq-eqb m.n m.n refl in ap (λ b. b && m.n == m.n) e ∙ n

-- each that passes is among those that pass
in_filtered : (p : Submission → Bool) (ms : List Submission) → AllByRecursion (λ m. p m ≡ true → is_in m (filter p ms) ≡ true) ms
in_filtered p [] = tt
in_filtered p (m ∷ ms) = (
  λ passes. ap (λ b. is_in m (cond b (m ∷ filter p ms) (filter p ms))) passes ∙ ap (λ b. b || is_in m (filter p ms)) (itself m),
  all_weaker (λ k. p k ≡ true → is_in k (filter p ms) ≡ true) (λ k. p k ≡ true → is_in k (filter p (m ∷ ms)) ≡ true) ms (λ k known passes. more k (p m) (known passes)) (in_filtered p ms),
)
  where
    more : (k : Submission) (b : Bool) → is_in k (filter p ms) ≡ true → is_in k (cond b (m ∷ filter p ms) (filter p ms)) ≡ true
    more k true known = or_right (has_key k m) (is_in k (filter p ms)) known
    more k false known = known

-- none has this key
not_in : (m : Submission) (ms : List Submission) → AllByRecursion (λ k. k.epoch ≡ m.epoch → k.n < m.n) ms → is_in m ms ≡ false
not_in m [] all = refl
not_in m (k ∷ ms) all = ap (λ b. b || is_in m ms) (differs (k.epoch == m.epoch) refl) ∙ not_in m ms all.1
  where
    differs : (b : Bool) → (k.epoch == m.epoch) ≡ b → has_key m k ≡ false
    differs true same = let e : k.epoch ≡ m.epoch = eqb-true k.epoch m.epoch same in let low = all.0 e in and_right (k.epoch == m.epoch) (k.n == m.n) (ne_eqb k.n m.n (λ is. omega arith))
    differs false other = and_left (k.epoch == m.epoch) (k.n == m.n) other

all_filtered : (P : Submission → Type 0) (p : Submission → Bool) (ms : List Submission) → AllByRecursion P ms → AllByRecursion P (filter p ms)
all_filtered P p [] all = tt
all_filtered P p (m ∷ ms) all = chosen (p m) (all_filtered P p ms all.1)
  where
    chosen : (b : Bool) → AllByRecursion P (filter p ms) → AllByRecursion P (cond b (m ∷ filter p ms) (filter p ms))
    chosen true others = (all.0, others)
    chosen false others = others

-- numbers in a row
numbers_within : (e n : ℕ) (ms : List Submission) → AreNumbered e n ms → AllByRecursion (λ m. (m.epoch ≡ e) × (n < m.n) × (m.n ≤ n + length ms)) ms
numbers_within e n [] known = tt
numbers_within e n (m ∷ ms) known =
    let is = known.1 in (
      (known.0, omega arith, omega arith),
      all_weaker (λ k. (k.epoch ≡ e) × (suc n < k.n) × (k.n ≤ suc n + length ms)) (λ k. (k.epoch ≡ e) × (n < k.n) × (k.n ≤ n + suc (length ms))) ms
          (λ k a. (a.0, let low = a.1 in omega arith, let high = a.2 in omega arith)) (numbers_within e (suc n) ms known.2),
    )

-- of a session: what was handled and what wasn't, beside all that was taken of the device
pub record IsKnown (accounts : List (List ℕ)) (all : List Submission) (s : Session) : Type 0 where
  pub got : AllByRecursion (λ m. is_among m.to accounts ≡ true → is_in m all ≡ true) (messages s.up_got)
  pub rest : AllByRecursion (λ m. is_in m all ≡ false) (messages s.up_rest)

session_known : (accounts : List (List ℕ)) (e : ℕ) (before after : List Submission) (s : Session) → IsNumbered e s → AllByRecursion (λ k. k.epoch < e) before → AllByRecursion (λ k. e < k.epoch) after →
    IsKnown accounts (before ++ (accepted accounts s ++ after)) s
session_known accounts e before after s known low high = record {
  got = all_weaker (λ m. is_among m.to accounts ≡ true → is_in m (accepted accounts s) ≡ true) (λ m. is_among m.to accounts ≡ true → is_in m (before ++ (accepted accounts s ++ after)) ≡ true) (messages s.up_got)
      (λ m is exists. in_second m before (accepted accounts s ++ after) (in_first m (accepted accounts s) after (is exists))) (in_filtered (λ m. is_among m.to accounts) (messages s.up_got));
  rest = all_weaker (λ m. (m.epoch ≡ e) × (length (messages s.up_got) < m.n) × (m.n ≤ length (messages s.up_got) + length (messages s.up_rest))) (λ m. is_in m (before ++ (accepted accounts s ++ after)) ≡ false) (messages s.up_rest)
      (λ m is. not_in m (before ++ (accepted accounts s ++ after))
      (all_append (λ k. k.epoch ≡ m.epoch → k.n < m.n) before (accepted accounts s ++ after)
      (all_weaker (λ k. k.epoch < e) (λ k. k.epoch ≡ m.epoch → k.n < m.n) before (λ k below same. absurd (let mine = is.0 in omega arith)) low)
      (all_append (λ k. k.epoch ≡ m.epoch → k.n < m.n) (accepted accounts s) after
      (all_filtered (λ k. k.epoch ≡ m.epoch → k.n < m.n) (λ k. is_among k.to accounts) (messages s.up_got)
      (all_weaker (λ k. (k.epoch ≡ e) × (0 < k.n) × (k.n ≤ 0 + length (messages s.up_got))) (λ k. k.epoch ≡ m.epoch → k.n < m.n) (messages s.up_got)
      (λ k few same. let above = is.1 in let top = few.2 in omega arith) (numbers_within e 0 (messages s.up_got) front)))
      (all_weaker (λ k. e < k.epoch) (λ k. k.epoch ≡ m.epoch → k.n < m.n) after (λ k above same. absurd (let mine = is.0 in omega arith)) high))))
      (numbers_within e (length (messages s.up_got)) (messages s.up_rest) back);
}
  where
    whole : AreNumbered e 0 (messages s.up_got ++ messages s.up_rest)
    whole = subst (AreNumbered e 0) (messages_append s.up_got s.up_rest) known.numbers

    front : AreNumbered e 0 (messages s.up_got)
    front = numbered_front e 0 (messages s.up_got) (messages s.up_rest) whole

    back : AreNumbered e (length (messages s.up_got)) (messages s.up_rest)
    back = subst (λ n. AreNumbered e n (messages s.up_rest)) (let z : 0 + length (messages s.up_got) ≡ length (messages s.up_got) = omega arith in z) (numbered_rest e 0 (messages s.up_got) (messages s.up_rest) whole)

-- what is accepted of sessions from an epoch on is of these epochs
accepted_from : (accounts : List (List ℕ)) (e : ℕ) (ss : List Session) → ArePast e ss → AllByRecursion (λ k. e ≤ k.epoch) (flat_map (accepted accounts) ss)
accepted_from accounts e [] known = tt
accepted_from accounts e (s ∷ ss) known =
    all_append (λ k. e ≤ k.epoch) (accepted accounts s) (flat_map (accepted accounts) ss) (all_weaker (λ k. k.epoch ≡ e) (λ k. e ≤ k.epoch) (accepted accounts s) (λ k is. omega arith) (accepted_of accounts e s known.0))
    (all_weaker (λ k. suc e ≤ k.epoch) (λ k. e ≤ k.epoch) (flat_map (accepted accounts) ss) (λ k is. omega arith) (accepted_from accounts (suc e) ss known.1))
  where
    accepted_of : (a : List (List ℕ)) (f : ℕ) (t : Session) → IsNumbered f t → AllByRecursion (λ k. k.epoch ≡ f) (accepted a t)
    accepted_of a f t one =
        all_filtered (λ k. k.epoch ≡ f) (λ m. is_among m.to a) (messages t.up_got)
        (all_weaker (λ k. (k.epoch ≡ f) × (0 < k.n) × (k.n ≤ 0 + length (messages t.up_got))) (λ k. k.epoch ≡ f) (messages t.up_got) (λ k is. is.0)
        (numbers_within f 0 (messages t.up_got) (numbered_front f 0 (messages t.up_got) (messages t.up_rest) (subst (AreNumbered f 0) (messages_append t.up_got t.up_rest) one.numbers))))

accepted_one : (accounts : List (List ℕ)) (e : ℕ) (s : Session) → IsNumbered e s → AllByRecursion (λ k. k.epoch < suc e) (accepted accounts s)
accepted_one accounts e s one =
    all_filtered (λ k. k.epoch < suc e) (λ m. is_among m.to accounts) (messages s.up_got)
    (all_weaker (λ k. (k.epoch ≡ e) × (0 < k.n) × (k.n ≤ 0 + length (messages s.up_got))) (λ k. k.epoch < suc e) (messages s.up_got) (λ k is. let same = is.0 in omega arith)
    (numbers_within e 0 (messages s.up_got) (numbered_front e 0 (messages s.up_got) (messages s.up_rest) (subst (AreNumbered e 0) (messages_append s.up_got s.up_rest) one.numbers))))

sessions_known : (accounts : List (List ℕ)) (e : ℕ) (before : List Submission) (ss : List Session) → ArePast e ss → AllByRecursion (λ k. k.epoch < e) before →
    AllByRecursion (IsKnown accounts (before ++ flat_map (accepted accounts) ss)) ss
sessions_known accounts e before [] known low = tt
sessions_known accounts e before (s ∷ ss) known low =
    let mine = accepted accounts s in
    let later = flat_map (accepted accounts) ss in (
      session_known accounts e before later s known.0 low (all_weaker (λ k. suc e ≤ k.epoch) (λ k. e < k.epoch) later (λ k is. omega arith) (accepted_from accounts (suc e) ss known.1)),
      subst (λ all. AllByRecursion (IsKnown accounts all) ss) (append_assoc before mine later)
          (sessions_known accounts (suc e) (before ++ mine) ss known.1
          (all_append (λ k. k.epoch < suc e) before mine (all_weaker (λ k. k.epoch < e) (λ k. k.epoch < suc e) before (λ k is. omega arith) low) (accepted_one accounts e s known.0))),
    )

-- all sessions of a device, the present one behind the others
abbrev pub all_sessions : Sessions → List Session
all_sessions s = s.past ++ s.now ∷ []

pub all_numbered : (s : Sessions) → SessionsKept s → ArePast 0 (all_sessions s)
all_numbered s kept = past_push 0 s.past s.now kept.past (subst (λ e. IsNumbered e s.now) (let z : length s.past ≡ 0 + length s.past = omega arith in z) kept.now)

-- of each session of a device: a message that was handled and went to an account that exists was taken, and what wasn't
-- handled wasn't taken
pub record IsSorted (accounts : List (List ℕ)) (takes : List Take) (i : ℕ) (s : Session) : Type 0 where
  pub got : AllByRecursion (λ m. is_among m.to accounts ≡ true → is_taken_of i m takes ≡ true) (messages s.up_got)
  pub rest : AllByRecursion (λ m. is_taken_of i m takes ≡ false) (messages s.up_rest)

pub sessions_sorted : (accounts : List (List ℕ)) (takes : List Take) (i : ℕ) (s : Sessions) → SessionsKept s → map said_in (filter (is_of i) takes) ≡ handled accounts s →
    AllByRecursion (IsSorted accounts takes i) (all_sessions s)
sessions_sorted accounts takes i s kept are =
    all_weaker (IsKnown accounts ([] ++ flat_map (accepted accounts) (all_sessions s))) (IsSorted accounts takes i) (all_sessions s)
    (λ t known. record {
      got = all_weaker (λ m. is_among m.to accounts ≡ true → is_in m (flat_map (accepted accounts) (all_sessions s)) ≡ true) (λ m. is_among m.to accounts ≡ true → is_taken_of i m takes ≡ true) (messages t.up_got)
          (λ m is exists. same m ∙ is exists) known.got;
      rest = all_weaker (λ m. is_in m (flat_map (accepted accounts) (all_sessions s)) ≡ false) (λ m. is_taken_of i m takes ≡ false) (messages t.up_rest) (λ m is. same m ∙ is) known.rest;
    })
    (sessions_known accounts 0 [] (all_sessions s) (all_numbered s kept) tt)
  where
    whole : handled accounts s ≡ flat_map (accepted accounts) (all_sessions s)
    whole = ap (λ ms. flat_map (accepted accounts) s.past ++ ms) (sym (append-nil (accepted accounts s.now))) ∙ sym (flat_map-append (accepted accounts) s.past (s.now ∷ []))

    same : (m : Submission) → is_taken_of i m takes ≡ is_in m (flat_map (accepted accounts) (all_sessions s))
    same m = taken_in i m takes ∙ ap (is_in m) (are ∙ whole)
