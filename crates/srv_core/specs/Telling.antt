-- What outputs tell: they only grow, and a connection that is shut is told of.
use Rattle.std.specs.Prelude.{◌≡◌, ℕ, Bool, true, false, ◌||◌, List, [], ◌∷◌, ◌++◌}
use Rattle.std.specs.Option.{is_some}
use Rattle.srv_state.specs.State.{Out, Shut, Step, conn_at, is_number}

abbrev pub is_shut : {A : Type 0} → ℕ → Out A → Bool
is_shut k (Shut j) = is_number k j
is_shut k o = false

-- one of these is that the connection is shut
abbrev pub is_told : {A : Type 0} → ℕ → List (Out A) → Bool
is_told k [] = false
is_told k (o ∷ outs) = is_shut k o || is_told k outs

abbrev pub is_open : {A : Type 0} → ℕ → Step A → Bool
is_open k s = is_some (conn_at k s.server_state)

-- nothing that is there is changed
abbrev pub IsFront : {T : Type 0} → List T → List T → Type 0
IsFront {T = T} front all = (more : List T) × (all ≡ front ++ more)

-- some outputs are added, and where the connection was open and isn't any more, they tell it
pub record Tells {A : Type 0} (k : ℕ) (s u : Step A) : Type 0 where
  pub more : List (Out A)
  pub added : u.outs ≡ s.outs ++ more
  pub shut_is : is_open k s ≡ true → is_open k u ≡ false → is_told k more ≡ true
