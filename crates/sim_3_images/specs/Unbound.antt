-- How many open connections have no session, and what is kept of a server's sessions and connections beside that.
use Rattle.std.specs.Prelude.{ℕ, ◌+◌, ◌≤◌, Bool, List, length, is_none}
use Rattle.std.specs.List.{filter}
use Rattle.std.specs.List.Sorted.{IsStrictlySortedBy}
use Rattle.std.specs.Map.{keys_of}
use Rattle.std.specs.Ordering.{nat_cmp}
use Rattle.srv_state.specs.State.{ServerState}
use Rattle.sm_live.specs.Rule.{IsRule}
use Rattle.sm_live.specs.Sessions.{Session, session_at}

-- no session is on the connection
abbrev pub is_unbound : {A : Type 0} → List (Session A) → ℕ → Bool
is_unbound sessions k = is_none (session_at k sessions)

-- how many open connections have none
abbrev pub unbound : {A : Type 0} → ServerState A → ℕ
unbound h = length (filter (is_unbound h.sessions) (keys_of h.conns))

-- its sessions keep their rule, and its connections ascend
pub record IsOrdered {A : Type 0} (h : ServerState A) : Type 0 where
  pub sessions : IsRule h.sessions h.next
  pub conns : IsStrictlySortedBy nat_cmp (keys_of h.conns)

-- a step keeps this, and of numbers that were given and connections that may be given one there are, together, no more
pub record Rests {A : Type 0} (h g : ServerState A) : Type 0 where
  pub keeps : IsOrdered g
  pub no_more : g.next + unbound g ≤ h.next + unbound h

-- behind so many connections that came: the numbers that were given, and the connections that may still be given one,
-- are no more than these (the first number is 1)
pub record IsWithin {A : Type 0} (n : ℕ) (h : ServerState A) : Type 0 where
  pub ordered : IsOrdered h
  pub few : h.next + unbound h ≤ n + 1
