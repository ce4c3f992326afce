-- Sessions have numbers of their own.
use Rattle.std.specs.Prelude.{ℕ, ◌+◌, ◌≤◌, List, [], ◌∷◌}
use Rattle.srv_state.specs.State.{ServerState}
use Rattle.sm_live.specs.Sessions.{Session}

-- the numbers begin at one or above it, rise, and are below the next one
abbrev pub Rise : {A : Type 0} → ℕ → ℕ → List (Session A) → Type 0
Rise from next [] = from ≤ next
Rise from next (s ∷ sessions) = (from ≤ s.shown.number) × Rise (s.shown.number + 1) next sessions

abbrev pub HaveNumbers : {A : Type 0} → ServerState A → Type 0
HaveNumbers h = Rise 1 h.next h.sessions
