-- How much more fits without further memory.
use Rattle.std.specs.Prelude.{ℕ, ◌-◌, min, vec_len, vec_capacity}
use Rattle.std.specs.VecDeque.{deque_len, deque_capacity}
use Rattle.mam_archive.specs.declared.chains.Links.{Links}

-- the room of the links
abbrev pub room_of : Links → ℕ
room_of l = min (deque_capacity l.links - deque_len l.links) (vec_capacity l.chains - vec_len l.chains)
