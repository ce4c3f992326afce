-- A session that is resumed is the one with its number, and lives on under it.
use Rattle.std.proofs.Common.{◌≡◌, ℕ, ◌+◌, ◌-◌, ◌≤◌, ◌==◌, Bool, true, false, List, [], ◌∷◌, Option, Some, None, Result, Ok, Err, length, drop, refl, sym, ap, subst, ◌∙◌, inl, inr, arith, length-drop}
use Rattle.std.proofs.lemmas.Bool.{cases_Bool}
use Rattle.std.proofs.lemmas.Bool.Decides.{nat_tests}
use Rattle.std.proofs.lemmas.List.{length-map}
use Rattle.std.proofs.lemmas.Option.{none-some, same_Some}
use Rattle.std.specs.List.{find}
use Rattle.std.specs.Option.{IfSome, IsSome}
use Rattle.std.specs.Result.{IfOk}
use Rattle.sm_acks.specs.Counters.{ahead}
use Rattle.base_io.specs.Listed.{Listed}
use Rattle.sm_live.specs.Rule.{IsRule, RisesTo}
use Rattle.sm_live.specs.Sessions.{Session, after_resume, asks, is_at, is_numbered, is_resumed_by, is_too_high, resent, resume_answer, resume_ok, resumes, session_at, session_of, session_resumed, with_session, without_at}
use Rattle.sm_acks.specs.Queues.{stanzas_in}
use Rattle.sm_resumption.proofs.RowFacts.{eqb_same}
use Rattle.sm_resumption.specs.Rows.{is_some_number}
use Rattle.sm_resumption.specs.declared.answers.ResumeOk.{ResumeOk}
use Rattle.srv_handlers.specs.Resumptions.{resent_where}

-- ---- the session that is found has its number alone

apart : (m n : ℕ) → m + 1 ≤ n → (m == n) ≡ false
apart m n above = grind (arith, nat_tests)

found_low : (next low : ℕ) (p : Session (List ℕ) → Bool) (s : Session (List ℕ)) (sessions : List (Session (List ℕ))) → RisesTo next low sessions → find p sessions ≡ Some s → low ≤ s.shown.number
found_low next low p s [] rise is = absurd (none-some s is)
found_low next low p s (t ∷ sessions) rise is =
    elim (cases_Bool (p t)) [
      | inl passed ↦
          let first : t ≡ s = same_Some t s (rw passed at is) in
          subst (λ (u : Session (List ℕ)). low ≤ u.shown.number) first rise.0
      | inr failed ↦
          let later : t.shown.number + 1 ≤ s.shown.number = found_low next (t.shown.number + 1) p s sessions rise.1 (rw failed at is) in
          let here : low ≤ t.shown.number = rise.0 in
          omega arith
    ]

found_by_number : (next low : ℕ) (p : Session (List ℕ) → Bool) (s : Session (List ℕ)) (sessions : List (Session (List ℕ))) → RisesTo next low sessions → find p sessions ≡ Some s → session_of s.shown.number sessions ≡ Some s
found_by_number next low p s [] rise is = absurd (none-some s is)
found_by_number next low p s (t ∷ sessions) rise is =
    elim (cases_Bool (p t)) [
      | inl passed ↦
          let first : t ≡ s = same_Some t s (rw passed at is) in
          subst (λ (u : Session (List ℕ)). session_of u.shown.number (t ∷ sessions) ≡ Some u) first (rw (eqb_same t.shown.number) refl)
      | inr failed ↦
          let rest : find p sessions ≡ Some s = rw failed at is in
          let later : t.shown.number + 1 ≤ s.shown.number = found_low next (t.shown.number + 1) p s sessions rise.1 rest in
          rw (apart t.shown.number s.shown.number later) (found_by_number next (t.shown.number + 1) p s sessions rise.1 rest)
    ]

-- no session is on a connection that has none
nobody_on : (conn : ℕ) (p : Session (List ℕ) → Bool) (s : Session (List ℕ)) (sessions : List (Session (List ℕ))) → session_at conn sessions ≡ None → find p sessions ≡ Some s → is_at conn s ≡ false
nobody_on conn p s [] none is = absurd (none-some s is)
nobody_on conn p s (t ∷ sessions) none is =
    elim (cases_Bool (is_at conn t)) [
      | inl on ↦ absurd (none-some t (sym none ∙ rw on refl))
      | inr off ↦
          elim (cases_Bool (p t)) [
            | inl passed ↦
                let first : t ≡ s = same_Some t s (rw passed at is) in
                subst (λ (u : Session (List ℕ)). is_at conn u ≡ false) first off
            | inr failed ↦ nobody_on conn p s sessions (rw off at none) (rw failed at is)
          ]
    ]

-- ---- the session that is resumed

record IsResumed (h : ℕ) (previd : List ℕ) (account : ℕ) (r : ResumeOk) (sessions : List (Session (List ℕ))) (s : Session (List ℕ)) : Type 0 where
  pub found : session_resumed previd account sessions ≡ Some s
  pub numbered : session_of r.number sessions ≡ Some s
  pub number : s.shown.number ≡ r.number
  pub former : s.shown.conn ≡ r.former
  pub low : is_too_high h s ≡ false

taken : (h : ℕ) (s : Session (List ℕ)) (r : ResumeOk) → resume_answer h (Some s) ≡ Ok r → (is_too_high h s ≡ false) × (resume_ok s ≡ r)
taken h s r is =
    elim (cases_Bool (is_too_high h s)) [
      | inl high ↦ (let no = rw high at is in cc)
      | inr low ↦ (let same : Ok (resume_ok s) ≡ Ok r = rw low at is in (low, cc))
    ]

by_found : (h next account : ℕ) (previd : List ℕ) (r : ResumeOk) (sessions : List (Session (List ℕ))) (o : Option (Session (List ℕ))) → RisesTo next 1 sessions → session_resumed previd account sessions ≡ o → resume_answer h o ≡ Ok r
    → (s : Session (List ℕ)) × IsResumed h previd account r sessions s
by_found h next account previd r sessions None rise found is = cc
by_found h next account previd r sessions (Some s) rise found is =
    let (low, same) = taken h s r is in
    let number : s.shown.number ≡ r.number = ap (λ (q : ResumeOk). q.number) same in (
      s,
      record {
        found = found;
        numbered = ap (λ n. session_of n sessions) (sym number) ∙ found_by_number next 1 (is_resumed_by previd account) s sessions rise found;
        number = number;
        former = ap (λ (q : ResumeOk). q.former) same;
        low = low;
      },
    )

is_resumed : (h next account : ℕ) (previd : List ℕ) (r : ResumeOk) (sessions : List (Session (List ℕ))) → IsRule sessions next → resume_answer h (session_resumed previd account sessions) ≡ Ok r
    → (s : Session (List ℕ)) × IsResumed h previd account r sessions s
is_resumed h next account previd r sessions rule is = by_found h next account previd r sessions (session_resumed previd account sessions) rule.ascending refl is

pub lives_resumed : (h next account : ℕ) (previd : List ℕ) (r : ResumeOk) (sessions : List (Session (List ℕ))) → IsRule sessions next → resume_answer h (session_resumed previd account sessions) ≡ Ok r → IsSome (session_of r.number sessions)
lives_resumed h next account previd r sessions rule is =
    let (s, resumed) = is_resumed h next account previd r sessions rule is in
    rw resumed.numbered refl

-- ---- what waits

few_left : (a : ℕ) (list : List (Listed ℕ)) (s : Session (List ℕ)) → length s.waiting ≤ 10000 → stanzas_in list ≡ drop a s.waiting → length list ≤ 10000
few_left a list s few is =
    let size : length list ≡ length (drop a s.waiting) = sym (length-map list (λ (bytes : Listed ℕ). bytes.items)) ∙ ap length is in
    let less : length (drop a s.waiting) ≡ length s.waiting - a = length-drop a s.waiting in
    omega arith

-- copies of what waits, where the session is known by its number
pub record Copies {E : Type 0} (h account : ℕ) (previd : List ℕ) (t : Result (Listed (Listed ℕ)) E) (sessions : List (Session (List ℕ))) : Type 0 where
  pub all : IfOk t (λ stanzas. stanzas_in stanzas.items ≡ resent_where h (session_resumed previd account sessions))
  pub few : IfOk t (λ stanzas. length stanzas.items ≤ 10000)

pub copies_resumed : {E : Type 0} (t : Result (Listed (Listed ℕ)) E) (h next account : ℕ) (previd : List ℕ) (r : ResumeOk) (sessions : List (Session (List ℕ))) → IsRule sessions next → resume_answer h (session_resumed previd account sessions) ≡ Ok r
    → IfOk t (λ stanzas. IfSome (session_of r.number sessions) (λ s. stanzas_in stanzas.items ≡ resent h s)) → Copies h account previd t sessions
copies_resumed (Err e) h next account previd r sessions rule is copied = record { all = tt; few = tt }
copies_resumed (Ok list) h next account previd r sessions rule is copied =
    let (s, resumed) = is_resumed h next account previd r sessions rule is in
    let same : stanzas_in list.items ≡ resent h s = rw resumed.numbered at copied in
    record {
      all = rw resumed.found same;
      few = few_left (ahead h s.acked) list.items s (rule.few r.number s resumed.numbered) same;
    }

-- ---- the session afterwards

found_changed : (n : ℕ) (f : Session (List ℕ) → Session (List ℕ)) (s : Session (List ℕ)) (sessions : List (Session (List ℕ))) → ((t : Session (List ℕ)) → (f t).shown.number ≡ t.shown.number)
    → session_of n sessions ≡ Some s → session_of n (with_session n f sessions) ≡ Some (f s)
found_changed n f s [] same is = absurd (none-some s is)
found_changed n f s (t ∷ sessions) same is =
    elim (cases_Bool (t.shown.number == n)) [
      | inl here ↦
          let first : t ≡ s = same_Some t s (rw here at is) in
          let found : ((f t).shown.number == n) ≡ true = ap (λ m. m == n) (same t) ∙ here in
          rw (here, found) (ap (λ u. Some (f u)) first)
      | inr other ↦ rw (other, other) (found_changed n f s sessions same (rw other at is))
    ]

-- a session on another connection stays
stays_apart : (n k : ℕ) (s : Session (List ℕ)) (sessions : List (Session (List ℕ))) → session_of n sessions ≡ Some s → is_at k s ≡ false → session_of n (without_at k sessions) ≡ Some s
stays_apart n k s [] is off = absurd (none-some s is)
stays_apart n k s (t ∷ sessions) is off =
    elim (cases_Bool (t.shown.number == n)) [
      | inl here ↦
          let first : t ≡ s = same_Some t s (rw here at is) in
          let away : is_at k t ≡ false = ap (is_at k) first ∙ off in
          rw (away, here) (ap Some first)
      | inr other ↦
          elim (cases_Bool (is_at k t)) [
            | inl gone ↦ rw gone (stays_apart n k s sessions (rw other at is) off)
            | inr kept ↦ rw (kept, other) (stays_apart n k s sessions (rw other at is) off)
          ]
    ]

other_way : (j k : ℕ) → is_some_number j (Some k) ≡ false → is_some_number k (Some j) ≡ false
other_way j k off = grind (arith, nat_tests)

-- it lives as it is resumed, and as it is asked for nothing, also where the connection that it had is shut
pub record Attached (r : ResumeOk) (after left : List (Session (List ℕ))) : Type 0 where
  pub lives : IsSome (session_of r.number after)
  pub left_lives : IsSome (session_of r.number left)
  pub stays : IfSome r.former (λ k. IsSome (session_of r.number (without_at k left)))

stays_left : (n conn : ℕ) (former : Option ℕ) (s t : Session (List ℕ)) (left : List (Session (List ℕ))) → is_at conn s ≡ false → s.shown.conn ≡ former → t.shown.conn ≡ Some conn → session_of n left ≡ Some t
    → IfSome former (λ k. IsSome (session_of n (without_at k left)))
stays_left n conn None s t left off was is found = tt
stays_left n conn (Some k) s t left off was is found =
    let before : is_some_number conn (Some k) ≡ false = ap (is_some_number conn) (sym was) ∙ off in
    let away : is_at k t ≡ false = ap (is_some_number k) is ∙ other_way conn k before in
    rw (stays_apart n k t left found away) refl

pub attached : (h conn next account : ℕ) (previd : List ℕ) (r : ResumeOk) (sessions after left : List (Session (List ℕ))) → IsRule sessions next → session_at conn sessions ≡ None → resume_answer h (session_resumed previd account sessions) ≡ Ok r
    → after ≡ after_resume h conn (session_resumed previd account sessions) sessions → left ≡ with_session r.number (asks false) after → Attached r after left
attached h conn next account previd r sessions after left rule none is after_is left_is =
    let (s, resumed) = is_resumed h next account previd r sessions rule is in
    let changed : after_resume h conn (session_resumed previd account sessions) sessions ≡ with_session r.number (resumes h conn) sessions = rw (resumed.found, resumed.low, resumed.number) refl in
    let found : session_of r.number after ≡ Some (resumes h conn s) = ap (session_of r.number) (after_is ∙ changed) ∙ found_changed r.number (resumes h conn) s sessions (λ t. refl) resumed.numbered in
    let found_left : session_of r.number left ≡ Some (asks false (resumes h conn s)) = ap (session_of r.number) left_is ∙ found_changed r.number (asks false) (resumes h conn s) after (λ t. refl) found in
    record {
      lives = rw found refl;
      left_lives = rw found_left refl;
      stays = stays_left r.number conn r.former s (asks false (resumes h conn s)) left (nobody_on conn (is_numbered r.number) s sessions none resumed.numbered) resumed.former refl found_left;
    }
