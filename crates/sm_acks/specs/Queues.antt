-- Queues of stanzas in one pool: what was put and is not yet acknowledged (XEP-0198 section 4).
use Rattle.std.specs.Prelude.{ℕ, ◌+◌, nat_eq, List, [], length, map, Option, IsSome, find, unwrap_or, sum_by}
use Rattle.std.specs.Option.{option_map}
use Rattle.base_io.specs.Listed.{Listed}

-- a queue that lives: its number, and the stanzas in it, the oldest first, each a list of bytes
pub record QueueView : Type 0 where
  pub id : ℕ
  pub stanzas : List (List ℕ)

-- the queues that live, in no order that is told; how many were made; and how many more stanzas fit without further
-- memory
pub record PoolView : Type 0 where
  pub queues : List QueueView
  pub made : ℕ
  pub spare : ℕ

-- the stanzas of the queue with a number, where there is one
unfoldable pub list_among : ℕ → List QueueView → Option (List (List ℕ))
list_among q queues = option_map (λ queue. queue.stanzas) (find (λ queue. nat_eq q queue.id) queues)

-- the stanzas of the queue with a number, where it lives
abbrev pub stanzas_of : ℕ → PoolView → Option (List (List ℕ))
stanzas_of q pool = list_among q pool.queues

abbrev pub Lives : ℕ → PoolView → Type 0
Lives q pool = IsSome (stanzas_of q pool)

-- the stanzas of a queue that lives
abbrev pub list_of : ℕ → PoolView → List (List ℕ)
list_of q pool = unwrap_or (stanzas_of q pool) []

-- the stanzas that so many bytes are
abbrev pub stanzas_in : List (Listed ℕ) → List (List ℕ)
stanzas_in list = map (λ bytes. bytes.items) list

-- how many stanzas wait in all, and how many more fit
abbrev pub nodes_of : PoolView → ℕ
nodes_of pool = sum_by (λ (queue : QueueView). length queue.stanzas) pool.queues + pool.spare
