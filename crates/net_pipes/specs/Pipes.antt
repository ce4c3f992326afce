-- One direction of a connection: a list of bytes that are under way, which may have an end mark.
use Rattle.std.specs.Prelude.{ℕ, ◌+◌, ◌-◌, ◌^◌, ◌==◌, min, Bool, true, false, not, ◌&&◌, List, [], ◌++◌, length, take, drop, if◌then◌else◌}

-- the bytes under way; the end mark, behind which nothing enters; whether the end was told to who takes; and how many bytes
-- entered, and how many were handed over
pub record Pipe : Type 0 where
  pub bytes : List ℕ
  pub ended : Bool
  pub told : Bool
  pub put : ℕ
  pub taken : ℕ

-- a count rises, and stays at 2 ^ 64 - 1 once there
abbrev pub risen : ℕ → ℕ → ℕ
risen count more = min (count + more) (2 ^ 64 - 1)

-- before the first byte
abbrev pub empty_pipe : Pipe
empty_pipe = record { bytes = []; ended = false; told = false; put = 0; taken = 0 }

-- bytes that are put: into an ended pipe nothing enters, and they are lost
abbrev pub entered : List ℕ → Pipe → Pipe
entered more p = if p.ended then p else record p { bytes = p.bytes ++ more; put = risen p.put (length more) }

-- the first n bytes are handed over, or all where these are fewer
abbrev pub handed : ℕ → Pipe → Pipe
handed n p = record p { bytes = drop n p.bytes; taken = risen p.taken (length (take n p.bytes)) }

-- the first n bytes stay, and no further ones come
abbrev pub cut_to : ℕ → Pipe → Pipe
cut_to n p = record p { bytes = take n p.bytes; ended = true }

-- the end mark stands behind the bytes
abbrev pub closed : Pipe → Pipe
closed p = record p { ended = true }

-- the bytes are lost, and no further ones come
abbrev pub emptied : Pipe → Pipe
emptied p = record p { bytes = []; ended = true }

abbrev pub is_empty : Pipe → Bool
is_empty p = length p.bytes == 0

-- nothing is under way any more, nothing comes, and that wasn't told yet
abbrev pub is_end_due : Pipe → Bool
is_end_due p = is_empty p && p.ended && not p.told

abbrev pub with_end_reported : Pipe → Pipe
with_end_reported p = record p { told = true }
