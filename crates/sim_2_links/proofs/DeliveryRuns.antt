-- Runs of moves that go on, and those of the two directions of a pair.
use Rattle.std.proofs.Common.{List, [], ◌∷◌, ◌++◌, refl, sym, subst}
use Rattle.sm_acks.specs.Delivery.{Acknowledge, beginning, Cut, Direction, Move, Moves, Reached, Reaches}
use Rattle.sim_2_links.specs.Pairs.{Down, first_pair, Late, Pair, PairMove, PairMoves, PairReached, PairReaches, Up}

pub reaches_more : {A : Type 0} (moves : List (Move A)) (move : Move A) (first d next : Direction A) → Reaches moves first d → Moves move d next → Reaches (moves ++ move ∷ []) first next
reaches_more [] move first d next is made = (next, subst (λ e. Moves move e next) is made, refl)
reaches_more (m ∷ moves) move first d next reaches made = (reaches.0, reaches.1, reaches_more moves move reaches.0 d next reaches.2 made)

pub reached_more : {A : Type 0} (move : Move A) (d next : Direction A) → Reached d → Moves move d next → Reached next
reached_more move d next reached made = record { moves = reached.moves ++ move ∷ []; reaches = reaches_more reached.moves move beginning d next reached.reaches made }

pub pair_reaches_more : {A : Type 0} (moves : List (PairMove A)) (move : PairMove A) (first p next : Pair A) → PairReaches moves first p → PairMoves move p next → PairReaches (moves ++ move ∷ []) first next
pair_reaches_more [] move first p next is made = (next, subst (λ q. PairMoves move q next) is made, refl)
pair_reaches_more (m ∷ moves) move first p next reaches made = (reaches.0, reaches.1, pair_reaches_more moves move reaches.0 p next reaches.2 made)

pub pair_reached_more : {A : Type 0} (move : PairMove A) (p next : Pair A) → PairReached p → PairMoves move p next → PairReached next
pair_reached_more move p next reached made = record { moves = reached.moves ++ move ∷ []; reaches = pair_reaches_more reached.moves move first_pair p next reached.reaches made }

-- both directions of a pair
pub record BothReached {A : Type 0} (p : Pair A) : Type 0 where
  pub down : Reached p.down
  pub up : Reached p.up

both_first : {A : Type 0} → BothReached {A = A} first_pair
both_first = record { down = record { moves = []; reaches = refl }; up = record { moves = []; reaches = refl } }

both_more : {A : Type 0} (move : PairMove A) (p next : Pair A) → PairMoves move p next → BothReached p → BothReached next
both_more (Down move) p next made both =
    record { down = reached_more move p.down next.down both.down made.0; up = subst (λ d. Reached d) (sym made.1) both.up }
both_more (Up move) p next made both =
    record { down = subst (λ d. Reached d) (sym made.1) both.down; up = reached_more move p.up next.up both.up made.0 }
both_more (Late n) p next made both =
    record {
      down = reached_more (Cut 0) made.0 next.down (reached_more (Acknowledge n) p.down made.0 both.down made.1) made.2;
      up = reached_more (Cut 0) p.up next.up both.up made.3;
    }

both_along : {A : Type 0} (moves : List (PairMove A)) (p last : Pair A) → PairReaches moves p last → BothReached p → BothReached last
both_along [] p last is both = subst (λ q. BothReached q) (sym is) both
both_along (move ∷ moves) p last reaches both = both_along moves reaches.0 last reaches.2 (both_more move p reaches.0 reaches.1 both)

pub both_reached : {A : Type 0} (p : Pair A) → PairReached p → BothReached p
both_reached p reached = both_along reached.moves first_pair p reached.reaches both_first
