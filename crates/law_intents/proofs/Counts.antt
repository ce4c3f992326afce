-- How many takes there are of the tries of an intent.
use Rattle.std.proofs.Common.{◌≡◌, ℕ, zero, suc, ◌-◌, ◌≤◌, ◌<◌, ◌==◌, Bool, true, false, cond, List, [], ◌∷◌, ◌++◌, Option, Some, None, length, map, refl, sym, ap, ◌∙◌, subst, arith, inl, inr}
use Rattle.std.specs.List.{AllByRecursion, filter, list_any, slice_get}
use Rattle.std.specs.Option.{option_map_or}
use Rattle.std.specs.Prelude.{◌&&◌, ◌||◌, drop, take}
use Rattle.std.proofs.lemmas.Bool.{cases_Bool, eqb-true, or_right, and_parts, or_parts}
use Rattle.std.proofs.lemmas.List.{take-append-drop}
use Rattle.sim_1_applications.specs.Stanzas.{Submission, messages}
use Rattle.sim_1_applications.specs.Devices.{AppWorld, Device, Session, Take, concerns, log_of, up_put}
use Rattle.sim_1_applications.specs.Events.{is_among}
use Rattle.sim_1_applications.specs.Kept.{ArePast, IsNumbered, Taken, is_of, said_in}
use Rattle.sim_1_applications.specs.Laws.{EachPair, Precedes}
use Rattle.sim_1_applications.proofs.Follow.{front_taken}
use Rattle.sim_1_applications.proofs.Lists.{all_front, all_rest}
use Rattle.sim_1_applications.proofs.Numbered.{messages_append}
use Rattle.sim_1_applications.proofs.TakenOnes as ones
use Rattle.law_intents.specs.Intents.{Try, all_sessions, is_acknowledged, is_entry, is_logged, is_submission, is_taken, is_try, taken_of}
use Rattle.law_intents.proofs.Splits.{Found, any_filter, any_get, found}
use Rattle.std.proofs.Math.Bool.{or-false}

pub none_of_none : {A : Type 0} (p : A → Bool) (xs : List A) → list_any p xs ≡ false → filter p xs ≡ []
none_of_none p [] none = refl
none_of_none p (x ∷ xs) none =
    let parts = or_parts (p x) (list_any p xs) none in
    ap (λ b. cond b (x ∷ filter p xs) (filter p xs)) parts.0 ∙ none_of_none p xs parts.1

pub some_of_any : {A : Type 0} (p : A → Bool) (xs : List A) → list_any p xs ≡ true → 1 ≤ length (filter p xs)
some_of_any p [] any = absurd (let bad : ⊥ = cc in bad)
some_of_any p (x ∷ xs) any = chosen (p x) (some_of_any p xs) any
  where
    chosen : (b : Bool) → (list_any p xs ≡ true → 1 ≤ length (filter p xs)) → (b || list_any p xs) ≡ true → 1 ≤ length (cond b (x ∷ filter p xs) (filter p xs))
    chosen true more known = omega arith
    chosen false more known = more known

-- ---- one take of a try

-- later submissions are of no such try
later_ones : (i : ℕ) (t : Try) (m : Submission) (takes : List Take) → is_submission t m ≡ true → AllByRecursion (Precedes m) (map said_in (filter (is_of i) takes)) → list_any (is_try i t) takes ≡ false
later_ones i t m [] is all = refl
later_ones i t m (x ∷ takes) is all = chosen (x.device == i) (later_ones i t m takes is) all
  where
    differs : Precedes m x.said → is_submission t x.said ≡ false
    differs before = elim (cases_Bool (is_submission t x.said)) [
      | inr other ↦ other
      | inl same ↦
          let e : m.epoch ≡ t.epoch = eqb-true m.epoch t.epoch ((and_parts (m.epoch == t.epoch) (m.n == t.n) is).0) in
          let n : m.n ≡ t.n = eqb-true m.n t.n ((and_parts (m.epoch == t.epoch) (m.n == t.n) is).1) in
          let f : x.said.epoch ≡ t.epoch = eqb-true x.said.epoch t.epoch ((and_parts (x.said.epoch == t.epoch) (x.said.n == t.n) same).0) in
          let o : x.said.n ≡ t.n = eqb-true x.said.n t.n ((and_parts (x.said.epoch == t.epoch) (x.said.n == t.n) same).1) in
          absurd (elim before [ inl low ↦ never m.epoch x.said.epoch t.epoch e f low | inr both ↦ never m.n x.said.n t.n n o both.1 ])
    ]
      where
        never : (a b c : ℕ) → a ≡ c → b ≡ c → a < b → ⊥
        never a b c one two low = omega arith

    chosen : (b : Bool) → (AllByRecursion (Precedes m) (map said_in (filter (is_of i) takes)) → list_any (is_try i t) takes ≡ false)
        → AllByRecursion (Precedes m) (map said_in (cond b (x ∷ filter (is_of i) takes) (filter (is_of i) takes)))
        → ((b && is_submission t x.said) || list_any (is_try i t) takes) ≡ false
    chosen false others known = others known
    chosen true others known = ap (λ c. c || list_any (is_try i t) takes) (differs known.0) ∙ others known.1

-- where the takes of a device rise, one at most is of a try
pub once_of_try : (i : ℕ) (t : Try) (takes : List Take) → EachPair Precedes (map said_in (filter (is_of i) takes)) → length (filter (is_try i t) takes) ≤ 1
once_of_try i t [] rise = omega arith
once_of_try i t (x ∷ takes) rise = chosen (x.device == i) (once_of_try i t takes) rise
  where
    alone : {A : Type 0} (y : A) (l : List A) → l ≡ [] → length (y ∷ l) ≤ 1
    alone y l none = (let zero_more : length l ≡ 0 = ap length none in omega arith)

    by_said : (c : Bool) → is_submission t x.said ≡ c → AllByRecursion (Precedes x.said) (map said_in (filter (is_of i) takes)) → length (filter (is_try i t) takes) ≤ 1 →
        length (cond c (x ∷ filter (is_try i t) takes) (filter (is_try i t) takes)) ≤ 1
    by_said false other later few = few
    by_said true is later few = alone x (filter (is_try i t) takes) (none_of_none (is_try i t) takes (later_ones i t x.said takes is later))

    chosen : (b : Bool) → (EachPair Precedes (map said_in (filter (is_of i) takes)) → length (filter (is_try i t) takes) ≤ 1)
        → EachPair Precedes (map said_in (cond b (x ∷ filter (is_of i) takes) (filter (is_of i) takes)))
        → length (cond (b && is_submission t x.said) (x ∷ filter (is_try i t) takes) (filter (is_try i t) takes)) ≤ 1
    chosen false few known = few known
    chosen true few known = by_said (is_submission t x.said) refl known.0 (few known.1)

-- ---- all tries

heads : (i : ℕ) (x : Take) (takes : List Take) (tries : List Try) → AllByRecursion (λ u. is_taken i u (x ∷ takes) ≡ false) tries →
    (list_any (λ u. is_try i u x) tries ≡ false) × AllByRecursion (λ u. is_taken i u takes ≡ false) tries
heads i x takes [] all = (refl, tt)
heads i x takes (u ∷ tries) all =
    let parts = or_parts (is_try i u x) (is_taken i u takes) all.0 in
    let rest = heads i x takes tries all.1 in
    (ap (λ b. b || list_any (λ v. is_try i v x) tries) parts.0 ∙ rest.0, (parts.1, rest.1))

-- where none of the earlier ones was taken, what was taken of all is what was taken of the newest
pub taken_of_newest : (i : ℕ) (t : Try) (tries : List Try) (takes : List Take) → AllByRecursion (λ u. is_taken i u takes ≡ false) tries → taken_of i (t ∷ tries) takes ≡ filter (is_try i t) takes
taken_of_newest i t tries [] all = refl
taken_of_newest i t tries (x ∷ takes) all =
    let parts = heads i x takes tries all in
    let same : (is_try i t x || list_any (λ u. is_try i u x) tries) ≡ is_try i t x = ap (λ b. is_try i t x || b) parts.0 ∙ or-false (is_try i t x) in
    ap (λ b. cond b (x ∷ taken_of i (t ∷ tries) takes) (taken_of i (t ∷ tries) takes)) same
    ∙ ap (λ l. cond (is_try i t x) (x ∷ l) l) (taken_of_newest i t tries takes parts.1)

-- ---- what is logged, or acknowledged, was taken

any_dropped : {A : Type 0} (p : A → Bool) (k : ℕ) (xs : List A) → list_any p (drop k xs) ≡ true → list_any p xs ≡ true
any_dropped p zero xs is = is
any_dropped p (suc k) [] is = is
any_dropped p (suc k) (x ∷ xs) is = or_right (p x) (list_any p xs) (any_dropped p k xs is)

pub logged_is : (i : ℕ) (t : Try) (takes : List Take) (d : Device) → is_logged i t takes d ≡ true → is_taken i t takes ≡ true
logged_is i t takes d logged =
    let entry = is_entry i t d.account takes in
    let f : Found ℕ entry (log_of d.reading) = found entry (log_of d.reading) (any_dropped entry t.logged (log_of d.reading) logged) in
    of_entry (f.one - 1) (slice_get (filter (concerns d.account) takes) (f.one - 1)) refl f.is
  where
    of_entry : (k : ℕ) (o : Option Take) → slice_get (filter (concerns d.account) takes) k ≡ o → option_map_or (is_try i t) o false ≡ true → is_taken i t takes ≡ true
    of_entry k None at is = absurd (let bad : ⊥ = cc in bad)
    of_entry k (Some one) at is = any_filter (is_try i t) (concerns d.account) takes (any_get (is_try i t) (filter (concerns d.account) takes) k one at is)

-- one of the sessions, and what is known of it
each_one : {A : Type 0} (P : A → Type 0) (before : List A) (one : A) (after : List A) → AllByRecursion P (before ++ one ∷ after) → P one
each_one P before one after all = (all_rest P before (one ∷ after) all).0

numbered_one : (e : ℕ) (before : List Session) (one : Session) (after : List Session) → ArePast e (before ++ one ∷ after) → (k : ℕ) × IsNumbered k one
numbered_one e [] one after all = (e, all.0)
numbered_one e (s ∷ before) one after all = numbered_one (suc e) before one after all.1

pub acknowledged_is : (w : AppWorld) (i : ℕ) (d : Device) (t : Try) → Taken w → slice_get w.devices i ≡ Some d → is_acknowledged w.accounts t d ≡ true → is_taken i t w.takes ≡ true
acknowledged_is w i d t taken at is =
    let p = λ (m : Submission). is_submission t m && is_among m.to w.accounts in
    let q = λ (s : Session). list_any p (messages (take s.acked (up_put s))) in
    let f : Found Session q (all_sessions d.sessions) = found q (all_sessions d.sessions) is in
    let kept = taken.devices i d at in
    let sorted = each_one (ones.IsSorted w.accounts w.takes i) f.before f.one f.after
    (subst (AllByRecursion (ones.IsSorted w.accounts w.takes i)) f.are (ones.sessions_sorted w.accounts w.takes i d.sessions kept.sessions kept.takes.are)) in
    let numbered = numbered_one 0 f.before f.one f.after (subst (ArePast 0) f.are (ones.all_numbered d.sessions kept.sessions)) in
    let within = (front_taken w.accounts f.one numbered.1.is_session).acknowledged in
    let g : Found Submission p (messages (take f.one.acked f.one.up_got)) =
    found p (messages (take f.one.acked f.one.up_got)) (sym (ap (λ zs. list_any p (messages zs)) within) ∙ f.is) in
    let split : messages f.one.up_got ≡ messages (take f.one.acked f.one.up_got) ++ messages (drop f.one.acked f.one.up_got) =
    ap messages (sym (take-append-drop f.one.acked f.one.up_got)) ∙ messages_append (take f.one.acked f.one.up_got) (drop f.one.acked f.one.up_got) in
    let got = all_front (λ m. is_among m.to w.accounts ≡ true → ones.is_taken_of i m w.takes ≡ true) (messages (take f.one.acked f.one.up_got)) (messages (drop f.one.acked f.one.up_got))
    (subst (AllByRecursion (λ m. is_among m.to w.accounts ≡ true → ones.is_taken_of i m w.takes ≡ true)) split sorted.got) in
    let mine = each_one (λ m. is_among m.to w.accounts ≡ true → ones.is_taken_of i m w.takes ≡ true) g.before g.one g.after
    (subst (AllByRecursion (λ m. is_among m.to w.accounts ≡ true → ones.is_taken_of i m w.takes ≡ true)) g.are got) in
    same_key g.one ((and_parts (is_submission t g.one) (is_among g.one.to w.accounts) g.is).0) w.takes
    (mine ((and_parts (is_submission t g.one) (is_among g.one.to w.accounts) g.is).1))
  where
    same_key : (m : Submission) → is_submission t m ≡ true → (takes : List Take) → ones.is_taken_of i m takes ≡ true → is_taken i t takes ≡ true
    same_key m is takes known =
        let e : m.epoch ≡ t.epoch = eqb-true m.epoch t.epoch ((and_parts (m.epoch == t.epoch) (m.n == t.n) is).0) in
        let n : m.n ≡ t.n = eqb-true m.n t.n ((and_parts (m.epoch == t.epoch) (m.n == t.n) is).1) in
        ap (λ k. list_any (λ (x : Take). (x.device == i) && (x.said.epoch == k && x.said.n == t.n)) takes) (sym e)
        ∙ ap (λ k. list_any (λ (x : Take). (x.device == i) && (x.said.epoch == m.epoch && x.said.n == k)) takes) (sym n)
        ∙ known
