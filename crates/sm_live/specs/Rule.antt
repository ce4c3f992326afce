-- What is true of all sessions that live.
use Rattle.std.specs.Prelude.{◌≡◌, ℕ, ◌+◌, ◌^◌, ◌<◌, ◌≤◌, List, [], ◌∷◌, Some, length}
use Rattle.sm_acks.specs.declared.end.TheConstants.{MOST_UNACKNOWLEDGED}
use Rattle.sm_live.specs.Sessions.{Session, session_of}

-- each number is at least `low` and above those before it, and `next` is above them all
abbrev pub RisesTo : {A : Type 0} → ℕ → ℕ → List (Session A) → Type 0
RisesTo next low [] = low ≤ next
RisesTo next low (s ∷ sessions) = (low ≤ s.shown.number) × RisesTo next (s.shown.number + 1) sessions

-- numbers ascend from 1 and stay below the next, which fits 64 bits; a connection has one session at most, and so has a
-- resource of an account (RFC 6120 section 7.7.2.2); and few stanzas wait in each
pub record IsRule {A : Type 0} (sessions : List (Session A)) (next : ℕ) : Type 0 where
  pub ascending : RisesTo next 1 sessions
  pub fits : next < 2 ^ 64
  pub conns : (m n conn : ℕ) (s t : Session A) → session_of m sessions ≡ Some s → session_of n sessions ≡ Some t → s.shown.conn ≡ Some conn → t.shown.conn ≡ Some conn → m ≡ n
  pub names : (m n : ℕ) (s t : Session A) → session_of m sessions ≡ Some s → session_of n sessions ≡ Some t → s.shown.account ≡ t.shown.account → s.shown.resource ≡ t.shown.resource → m ≡ n
  pub few : (n : ℕ) (s : Session A) → session_of n sessions ≡ Some s → length s.waiting ≤ MOST_UNACKNOWLEDGED
