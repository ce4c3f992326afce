-- How many stanzas were put along the moves.
use Rattle.std.specs.Prelude.{ℕ, ◌+◌, List, [], ◌∷◌}
use Rattle.sim_2_links.specs.Machine.{LinkMove, Puts, Queues, Serves, Keeps}

-- by the client
abbrev pub says : {A : Type 0} → LinkMove A → ℕ
says (Puts k z) = 1
says (Queues z) = 1
says _ = 0

-- and by the server
abbrev pub serves : {A : Type 0} → LinkMove A → ℕ
serves (Serves k z) = 1
serves (Keeps z) = 1
serves _ = 0

abbrev pub said_in : {A : Type 0} → List (LinkMove A) → ℕ
said_in [] = 0
said_in (move ∷ moves) = says move + said_in moves

abbrev pub served_in : {A : Type 0} → List (LinkMove A) → ℕ
served_in [] = 0
served_in (move ∷ moves) = serves move + served_in moves
