-- The connection that the client dialled last.
use Rattle.std.specs.Prelude.{ℕ, List, [], ◌∷◌, Option, Some}
use Rattle.sim_2_links.specs.Machine.{LinkMove, Dials}

abbrev pub dialled_by : {A : Type 0} → LinkMove A → Option ℕ → Option ℕ
dialled_by (Dials k) before = Some k
dialled_by _ before = before

-- by these moves, or before them
abbrev pub newest : {A : Type 0} → List (LinkMove A) → Option ℕ → Option ℕ
newest [] before = before
newest (move ∷ moves) before = newest moves (dialled_by move before)
