-- Sessions as ends of directions (XEP-0198 section 4): each is the sending end of one direction and the receiving end of another.
use Rattle.std.specs.Prelude.{◌≡◌, ◌≤◌, ◌%◌, ◌^◌, length}
use Rattle.sm_acks.specs.Delivery.{Direction, queue_of}
use Rattle.sm_live.specs.Sessions.{Session}

-- the count of the acknowledged stanzas, modulo 2 ^ 32, and the stanzas that are not acknowledged
pub record Sends {A : Type 0} (s : Session A) (d : Direction A) : Type 0 where
  pub count : s.acked ≡ d.acked % 2 ^ 32
  pub within : d.acked ≤ length d.put
  pub waiting : s.waiting ≡ queue_of d

-- the count of the handled stanzas, modulo 2 ^ 32
pub record Receives {A : Type 0} (s : Session A) (d : Direction A) : Type 0 where
  pub count : s.handled ≡ length d.got % 2 ^ 32
