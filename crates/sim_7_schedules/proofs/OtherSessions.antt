-- Small steps that leave the sessions of all others but one name.
use Rattle.std.proofs.Common.{◌≡◌, ℕ, ◌==◌, ◌&&◌, not, Bool, true, false, List, [], ◌∷◌, ◌++◌, Option, Some, None, cond, map, filter, refl, sym, ap, subst, ◌∙◌, inl, inr}
use Rattle.std.proofs.lemmas.Bool.{cases_Bool, eq-eqb, eqb-true, false≢true}
use Rattle.std.proofs.lemmas.Option.{same_Some}
use Rattle.std.specs.List.{AllByRecursion}
use Rattle.std.specs.Str.{bytes_eq}
use Rattle.base_lemmas.proofs.Bytes.{bytes_eq-self}
use Rattle.srv_state.specs.State.{ServerState, Step}
use Rattle.srv_state.specs.Steps as steps
use Rattle.srv_state.specs.Steps.{Act, act, acted, put, shut}
use Rattle.srv_state.specs.Streams.{parting_where}
use Rattle.sim_3_items.specs.ItemWorlds.{itself}
use Rattle.sim_3_images.proofs.RuleKept.{seat_is, seat_of}
use Rattle.sm_live.specs.Rule.{IsRule}
use Rattle.sm_live.specs.Sessions.{Session, asks, fresh, is_at, is_named, session_at, session_of, with_session, without}
use Rattle.sim_5_moves.proofs.RepliesFlags.{all_are_found}
use Rattle.srv_handlers.specs.Resumptions.{asking, saying}
use Rattle.sim_7_schedules.specs.LateWords.{others_of}
use Rattle.xml_writer.specs.Items.{ItemOut}

-- ---- lists

module _ {A : Type 0} (p : A → Bool) where
  -- those that pass stay, where some are left out
  pub left_same : (q : A → Bool) (xs : List A) → AllByRecursion (λ x. q x ≡ true) (filter p xs) → filter p (filter q xs) ≡ filter p xs
  left_same q [] all = refl
  left_same q (x ∷ xs) all =
      elim (cases_Bool (p x)) [
        | inl here ↦ let both : AllByRecursion (λ y. q y ≡ true) (x ∷ filter p xs) = rw here at all in let stays = both.0 in rw (stays, here) (ap (λ l. x ∷ l) (left_same q xs both.1))
        | inr other ↦
            let rest = left_same q xs (rw other at all) in
            elim (cases_Bool (q x)) [ inl stays ↦ rw (stays, other) rest | inr gone ↦ rw (gone, other) rest ]
      ]

  -- and where others are changed
  pub changed_same : (f : A → A) → ((x : A) → p (f x) ≡ p x) → (xs : List A) → AllByRecursion (λ x. f x ≡ x) (filter p xs) → filter p (map f xs) ≡ filter p xs
  changed_same f same [] all = refl
  changed_same f same (x ∷ xs) all =
      elim (cases_Bool (p x)) [
        | inl here ↦
            let both : AllByRecursion (λ y. f y ≡ y) (x ∷ filter p xs) = rw here at all in
            let stays = both.0 in
            let there = same x ∙ here in
            rw (there, here) (ap (λ y. y ∷ filter p (map f xs)) stays ∙ ap (λ l. x ∷ l) (changed_same f same xs both.1))
        | inr other ↦ let there = same x ∙ other in rw (there, other) (changed_same f same xs (rw other at all))
      ]

  pub pushed_same : (y : A) → p y ≡ false → (xs : List A) → filter p (xs ++ y ∷ []) ≡ filter p xs
  pushed_same y none [] = rw none refl
  pushed_same y none (x ∷ xs) =
      elim (cases_Bool (p x)) [
        | inl here ↦ rw here (ap (λ l. x ∷ l) (pushed_same y none xs))
        | inr other ↦ rw other (pushed_same y none xs)
      ]

  -- what is true of each that passes
  pub all_passing : (F R : A → Type 0) → ((x : A) → p x ≡ true → F x → R x) → (xs : List A) → AllByRecursion F xs → AllByRecursion R (filter p xs)
  all_passing F R from [] all = tt
  all_passing F R from (x ∷ xs) all =
      elim (cases_Bool (p x)) [
        | inl here ↦ let both : AllByRecursion R (x ∷ filter p xs) = (from x here all.0, all_passing F R from xs all.1) in rw here both
        | inr other ↦ rw other (all_passing F R from xs all.1)
      ]

  pub all_left : (R : A → Type 0) (q : A → Bool) (xs : List A) → AllByRecursion R (filter p xs) → AllByRecursion R (filter p (filter q xs))
  all_left R q [] all = tt
  all_left R q (x ∷ xs) all =
      elim (cases_Bool (p x)) [
        | inl here ↦
            let both : AllByRecursion R (x ∷ filter p xs) = rw here at all in
            let rest = all_left R q xs both.1 in
            let more : AllByRecursion R (x ∷ filter p (filter q xs)) = (both.0, rest) in
            elim (cases_Bool (q x)) [ inl stays ↦ rw (stays, here) more | inr gone ↦ rw gone rest ]
        | inr other ↦
            let rest = all_left R q xs (rw other at all) in
            elim (cases_Bool (q x)) [ inl stays ↦ rw (stays, other) rest | inr gone ↦ rw gone rest ]
      ]

-- ---- the sessions of others

module _ (account : ℕ) (resource : List ℕ) where
  abbrev pub is_other : Session ItemOut → Bool
  is_other s = not (is_named account resource s)

  abbrev pub others : List (Session ItemOut) → List (Session ItemOut)
  others ss = others_of account resource ss

  -- none of them is on a connection, none of them has a number
  abbrev pub NotAt : ℕ → List (Session ItemOut) → Type 0
  NotAt k ss = AllByRecursion (λ (t : Session ItemOut). not (is_at k t) ≡ true) (others ss)

  abbrev pub NotOf : ℕ → List (Session ItemOut) → Type 0
  NotOf n ss = AllByRecursion (λ (t : Session ItemOut). (t.shown.number == n) ≡ false) (others ss)

  strange : (s : Session ItemOut) → is_named account resource s ≡ true → is_other s ≡ true → ⊥
  strange s named other = false≢true (sym (ap not named) ∙ other)

  module _ (h : ServerState ItemOut) (rule : IsRule h.sessions h.next) where
    abbrev IsFound : Session ItemOut → Type 0
    IsFound t = session_of t.shown.number h.sessions ≡ Some t

    -- the session with the number has the name
    pub not_of : (s : Session ItemOut) → session_of s.shown.number h.sessions ≡ Some s → is_named account resource s ≡ true → NotOf s.shown.number h.sessions
    not_of s there named = all_passing is_other IsFound (λ t. (t.shown.number == s.shown.number) ≡ false) each h.sessions (all_are_found account resource h rule)
      where
        each : (t : Session ItemOut) → is_other t ≡ true → IsFound t → (t.shown.number == s.shown.number) ≡ false
        each t other found =
            elim (cases_Bool (t.shown.number == s.shown.number)) [
              | inl same ↦
                  let number : t.shown.number ≡ s.shown.number = eqb-true t.shown.number s.shown.number same in
                  let one : s ≡ t = same_Some s t (sym there ∙ sym (ap (λ m. session_of m h.sessions) number) ∙ found) in
                  absurd (strange t (subst (λ u. is_named account resource u ≡ true) one named) other)
              | inr apart ↦ apart
            ]

    -- whatever session is on the connection has the name
    pub not_at : (k : ℕ) → ((s : Session ItemOut) → session_at k h.sessions ≡ Some s → is_named account resource s ≡ true) → NotAt k h.sessions
    not_at k seated = all_passing is_other IsFound (λ t. not (is_at k t) ≡ true) each h.sessions (all_are_found account resource h rule)
      where
        each : (t : Session ItemOut) → is_other t ≡ true → IsFound t → not (is_at k t) ≡ true
        each t other found =
            elim (cases_Bool (is_at k t)) [
              | inl here ↦ absurd (strange t (seated t (seat_of h.next k h.sessions t rule found (seat_is t.shown.conn k here))) other)
              | inr apart ↦ ap not apart
            ]

  -- a session with a number is changed, and keeps its name
  pub changed_others : (n : ℕ) (f : Session ItemOut → Session ItemOut) → ((s : Session ItemOut) → is_named account resource (f s) ≡ is_named account resource s) → (ss : List (Session ItemOut)) → NotOf n ss → others (with_session n f ss) ≡ others ss
  changed_others n f same ss none =
      changed_same is_other (λ s. cond (s.shown.number == n) (f s) s) (λ s. each s (s.shown.number == n)) ss (stays (others ss) none)
    where
      each : (s : Session ItemOut) (b : Bool) → is_other (cond b (f s) s) ≡ is_other s
      each s true = ap not (same s)
      each s false = refl

      stays : (ts : List (Session ItemOut)) → AllByRecursion (λ (t : Session ItemOut). (t.shown.number == n) ≡ false) ts → AllByRecursion (λ (t : Session ItemOut). cond (t.shown.number == n) (f t) t ≡ t) ts
      stays [] all = tt
      stays (t ∷ ts) all = (ap (λ b. cond b (f t) t) all.0, stays ts all.1)

  pub without_others : (n : ℕ) (ss : List (Session ItemOut)) → NotOf n ss → others (without n ss) ≡ others ss
  without_others n ss none = left_same is_other (λ s. not (s.shown.number == n)) ss (stays (others ss) none)
    where
      stays : (ts : List (Session ItemOut)) → AllByRecursion (λ (t : Session ItemOut). (t.shown.number == n) ≡ false) ts → AllByRecursion (λ (t : Session ItemOut). not (t.shown.number == n) ≡ true) ts
      stays [] all = tt
      stays (t ∷ ts) all = (ap not all.0, stays ts all.1)

  pub fresh_others : (n k : ℕ) (ss : List (Session ItemOut)) → others (ss ++ fresh n account resource k ∷ []) ≡ others ss
  fresh_others n k ss = pushed_same is_other (fresh n account resource k) (ap not (ap (λ b. b && bytes_eq resource resource) (eq-eqb account account refl) ∙ bytes_eq-self resource)) ss

  -- ---- small steps

  pub record Spares (h : ServerState ItemOut) (s : Step ItemOut) : Type 0 where
    pub archives : s.server_state.archives ≡ h.archives
    pub others : others_of account resource s.server_state.sessions ≡ others_of account resource h.sessions

  module _ (h : ServerState ItemOut) where
    abbrev sparing : Act ItemOut → Type 0 → Type 0
    sparing (steps.Say k z) More = More
    sparing (steps.Close k) More = NotAt k h.sessions × More
    sparing (steps.Ask n on) More = NotOf n h.sessions × More
    sparing a More = ⊥

    abbrev pub AreSparing : List (Act ItemOut) → Type 0
    AreSparing [] = Unit {0}
    AreSparing (a ∷ acts) = sparing a (AreSparing acts)

    pub then_sparing : (acts : List (Act ItemOut)) → AreSparing acts → (s : Step ItemOut) → Spares h s → Spares h (acted itself acts s)
    then_sparing [] calm s spares = spares
    then_sparing (steps.Say k z ∷ acts) calm s spares = then_sparing acts calm (put k z s) (record { archives = spares.archives; others = spares.others })
    then_sparing (steps.Close k ∷ acts) calm s spares =
        then_sparing acts calm.1 (shut k s) (record {
          archives = spares.archives;
          others = left_same is_other (λ t. not (is_at k t)) s.server_state.sessions (subst (AllByRecursion (λ t. not (is_at k t) ≡ true)) (sym spares.others) calm.0) ∙ spares.others;
        })
    then_sparing (steps.Ask n on ∷ acts) calm s spares =
        then_sparing acts calm.1 (act itself (steps.Ask n on) s) (record {
          archives = spares.archives;
          others = changed_others n (asks on) (λ t. refl) s.server_state.sessions (subst (AllByRecursion (λ t. (t.shown.number == n) ≡ false)) (sym spares.others) calm.0) ∙ spares.others;
        })
    then_sparing (steps.Enter k phase ∷ acts) calm s spares = absurd calm
    then_sparing (steps.Fail k left ∷ acts) calm s spares = absurd calm
    then_sparing (steps.Bind a r k ∷ acts) calm s spares = absurd calm
    then_sparing (steps.Resume previd a n k ∷ acts) calm s spares = absurd calm
    then_sparing (steps.Enable n resume ∷ acts) calm s spares = absurd calm
    then_sparing (steps.Acknowledge n m ∷ acts) calm s spares = absurd calm
    then_sparing (steps.Handle n ∷ acts) calm s spares = absurd calm
    then_sparing (steps.Present n available priority ∷ acts) calm s spares = absurd calm
    then_sparing (steps.Copy n on ∷ acts) calm s spares = absurd calm
    then_sparing (steps.Send n z ∷ acts) calm s spares = absurd calm
    then_sparing (steps.Archive a e ∷ acts) calm s spares = absurd calm
    then_sparing (steps.Tell from to origin ∷ acts) calm s spares = absurd calm

    pub parting_spares : (former : Option ℕ) (error : ItemOut) (more : List (Act ItemOut)) → ((f : ℕ) → former ≡ Some f → NotAt f h.sessions) → AreSparing more → AreSparing (parting_where itself former error more)
    parting_spares None error more away calm = calm
    parting_spares (Some f) error more away calm = (away f refl, calm)

    pub saying_spares : (k : ℕ) (items : List ItemOut) (more : List (Act ItemOut)) → AreSparing more → AreSparing (saying k items more)
    saying_spares k [] more calm = calm
    saying_spares k (z ∷ items) more calm = saying_spares k items more calm

    pub asking_spares : (k n : ℕ) (b : Bool) → NotOf n h.sessions → AreSparing (asking itself k n b)
    asking_spares k n true away = (away, tt)
    asking_spares k n false away = tt
