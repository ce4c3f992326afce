-- What is told of a session that lives.
use Rattle.std.proofs.Common.{◌≡◌, ◌<◌, length, ◌↔◌, ◌==◌, ℕ, Bool, true, false, List, [], ◌∷◌, Option, Some, None, Result, Ok, Err, IsErr, ap, subst, sym, refl, inl, inr, ◌∙◌}
use Rattle.std.proofs.lemmas.Bool.{cases_Bool, false≢true}
use Rattle.std.proofs.lemmas.Option.{none-some, same_Some}
use Rattle.std.specs.Option.{IfSome, IsSome, option_map}
use Rattle.sm_acks.specs.declared.end.TooHigh.{TooHigh}
use Rattle.sm_live.specs.Sessions.{Session, ack_answer, acknowledged, handles, session_of, told, waits, with_session}
use Rattle.sm_live.specs.declared.told.SessionInfo.{SessionInfo}

pub lives_told : (o : Option (Session (List ℕ))) (t : SessionInfo) → Some t ≡ option_map told o → IsSome o
lives_told None t is = absurd (none-some t (sym is))
lives_told (Some s) t is = refl

-- a session whose stanzas aren't counted can have them counted
pub enables_once : {E : Type 0} (e : E) (o : Option (Session (List ℕ))) (t : SessionInfo) → Some t ≡ option_map told o → t.counted ≡ false
    → IfSome o (λ s. IsErr {T = Unit {0}} (Err e) ↔ (s.shown.counted ≡ true)) → ⊥
enables_once e None t is uncounted already = none-some t (sym is)
enables_once e (Some s) t is uncounted already = false≢true (sym uncounted ∙ ap (λ (u : SessionInfo). u.counted) (same_Some t (told s) is) ∙ already.0 refl)

-- the answer to a count
pub answers_count : (r : Result ℕ TooHigh) (h : ℕ) (o : Option (Session (List ℕ))) → IsSome o → IfSome o (λ s. r ≡ ack_answer h s) → Some r ≡ option_map (ack_answer h) o
answers_count r h None lives answer = absurd (false≢true lives)
answers_count r h (Some s) lives answer = ap Some answer

-- a session that is changed lives on
pub lives_changed : (n : ℕ) (f : Session (List ℕ) → Session (List ℕ)) (sessions : List (Session (List ℕ))) → ((s : Session (List ℕ)) → (f s).shown.number ≡ s.shown.number)
    → IsSome (session_of n sessions) → IsSome (session_of n (with_session n f sessions))
lives_changed n f [] same lives = lives
lives_changed n f (s ∷ sessions) same lives =
    elim (cases_Bool (s.shown.number == n)) [
      | inl here ↦ (let found : ((f s).shown.number == n) ≡ true = ap (λ m. m == n) (same s) ∙ here in rw (here, found) refl)
      | inr apart ↦ rw (apart, apart) (lives_changed n f sessions same (rw apart at lives))
    ]

pub lives_acknowledged : (n h : ℕ) (sessions : List (Session (List ℕ))) → IsSome (session_of n sessions) → IsSome (session_of n (with_session n (acknowledged h) sessions))
lives_acknowledged n h sessions lives = lives_changed n (acknowledged h) sessions (λ s. refl) lives

pub lives_waiting : (n : ℕ) (z : List ℕ) (sessions : List (Session (List ℕ))) → IsSome (session_of n sessions) → IsSome (session_of n (with_session n (waits z) sessions))
lives_waiting n z sessions lives = lives_changed n (waits z) sessions (λ s. refl) lives

pub lives_handling : (n : ℕ) (sessions : List (Session (List ℕ))) → IsSome (session_of n sessions) → IsSome (session_of n (with_session n handles sessions))
lives_handling n sessions lives = lives_changed n handles sessions (λ s. refl) lives

-- few stanzas wait, where so many are told
pub few_told : (o : Option (Session (List ℕ))) (t : SessionInfo) → Some t ≡ option_map told o → t.waiting < 10000 → IfSome o (λ s. length s.waiting < 10000)
few_told None t is few = tt
few_told (Some s) t is few = subst (λ (u : SessionInfo). u.waiting < 10000) (same_Some t (told s) is) few

-- where nothing is told there is no session
pub untold : (o : Option (Session (List ℕ))) → None ≡ option_map told o → o ≡ None
untold None is = refl
untold (Some s) is = absurd (none-some (told s) is)
