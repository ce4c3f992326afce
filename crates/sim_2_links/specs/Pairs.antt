-- Both directions of a session, and what can happen to them (XEP-0198 section 5).
use Rattle.std.specs.Prelude.{◌≡◌, ℕ, List, [], ◌∷◌}
use Rattle.sm_acks.specs.Delivery.{Acknowledge, beginning, Cut, Direction, Move, Moves}

-- what the server sends to the client, and what the client sends to the server
pub record Pair (A : Type 0) : Type 0 where
  pub down : Direction A
  pub up : Direction A

-- before the first stanza
abbrev pub first_pair : {A : Type 0} → Pair A
first_pair = record { down = beginning; up = beginning }

-- what can happen: a move of one direction, as where each resumes; or the server reads a resumption on a connection that
-- the client has left. The count in it, one that the client stated, is acknowledged, and both ways are cut
pub data PairMove (A : Type 0) : Type 0 where
  Down : Move A → PairMove A
  Up : Move A → PairMove A
  Late : ℕ → PairMove A

abbrev pub PairMoves : {A : Type 0} → PairMove A → Pair A → Pair A → Type 0
PairMoves (Down move) p next = Moves move p.down next.down × (next.up ≡ p.up)
PairMoves (Up move) p next = Moves move p.up next.up × (next.down ≡ p.down)
PairMoves {A = A} (Late n) p next = (d : Direction A) × Moves (Acknowledge n) p.down d × Moves (Cut 0) d next.down × Moves (Cut 0) p.up next.up

-- the moves lead, one after the other, from the one pair to the other
abbrev pub PairReaches : {A : Type 0} → List (PairMove A) → Pair A → Pair A → Type 0
PairReaches [] p last = last ≡ p
PairReaches {A = A} (move ∷ moves) p last = (next : Pair A) × PairMoves move p next × PairReaches moves next last

-- some moves lead to the pair from the beginning
pub record PairReached {A : Type 0} (p : Pair A) : Type 0 where
  pub moves : List (PairMove A)
  pub reaches : PairReaches moves first_pair p
