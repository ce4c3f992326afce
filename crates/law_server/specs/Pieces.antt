-- What is left of a stream behind a piece of its bytes.
use Rattle.std.specs.Prelude.{ℕ, Option, Some, None, if◌then◌else◌}
use Rattle.srv_state.specs.State.{Step}
use Rattle.xml_framer.specs.States.{State}
use Rattle.srv_core.specs.Telling.{is_open}

-- the framer, where the connection is open still
abbrev pub left_open : {A : Type 0} → ℕ → State → Step A → Option State
left_open k f s = if is_open k s then Some f else None
