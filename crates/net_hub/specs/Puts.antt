-- The bytes that are put for each connection.
use Rattle.std.specs.Prelude.{◌≡◌, ℕ, List, [], ◌++◌, if◌then◌else◌}
use Rattle.std.specs.List.{flat_map}
use Rattle.srv_state.specs.State.{Out, Put, is_number}

-- the bytes that an output puts for connection k
abbrev pub bytes_put : ℕ → Out (List ℕ) → List ℕ
bytes_put k (Put j bytes) = if is_number k j then bytes else []
bytes_put k out = []

-- those of outputs, joined
abbrev pub put_for : ℕ → List (Out (List ℕ)) → List ℕ
put_for k outs = flat_map (bytes_put k) outs

-- bytes begin with these
abbrev pub IsFront : List ℕ → List ℕ → Type 0
IsFront front bytes = (rest : List ℕ) × (bytes ≡ front ++ rest)
