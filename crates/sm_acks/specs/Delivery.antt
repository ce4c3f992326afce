-- Acknowledged delivery in one direction of a session (XEP-0198 sections 4 and 5), over lists and without counters that
-- wrap: what one end put, what the other end handled, and what is under way between them.
use Rattle.std.specs.Prelude.{◌≡◌, ℕ, ◌≤◌, ◌%◌, ◌^◌, Bool, true, false, List, [], ◌∷◌, ◌++◌, length, take, drop, Some, Contains, if◌then◌else◌}
use Rattle.sm_acks.specs.Counters.{AckView}
use Rattle.sm_acks.specs.Queues.{PoolView, stanzas_of}

-- one direction: all stanzas that the sending end put, how many of them are acknowledged, all stanzas that the
-- receiving end handled, the stanzas under way between them, whether that way is open, and the counts of handled
-- stanzas that the receiving end has stated
pub record Direction (A : Type 0) : Type 0 where
  pub put : List A
  pub acked : ℕ
  pub got : List A
  pub way : List A
  pub is_open : Bool
  pub stated : List ℕ

-- before the first stanza
abbrev pub beginning : {A : Type 0} → Direction A
beginning = record { put = []; acked = 0; got = []; way = []; is_open = true; stated = [] }

-- what was put and is not acknowledged, which the sending end keeps
abbrev pub queue_of : {A : Type 0} → Direction A → List A
queue_of d = drop d.acked d.put

-- what can happen: the sending end puts a stanza; the receiving end handles the next one, or states how many it has
-- handled; the sending end takes such a count; the connection is lost, with all but the first stanzas under way; or
-- the session is resumed, where the sending end hears how many stanzas were handled and sends the others again
pub data Move (A : Type 0) : Type 0 where
  Put : A → Move A
  Handle : Move A
  State : Move A
  Acknowledge : ℕ → Move A
  Cut : ℕ → Move A
  Resume : Move A

-- the move leads from the one direction to the other
abbrev pub Moves : {A : Type 0} → Move A → Direction A → Direction A → Type 0
Moves (Put a) d next = next ≡ record d { put = d.put ++ a ∷ []; way = if d.is_open then d.way ++ a ∷ [] else d.way }
Moves {A = A} Handle d next = (a : A) × (rest : List A) × (d.way ≡ a ∷ rest) × (next ≡ record d { way = rest; got = d.got ++ a ∷ [] })
Moves State d next = next ≡ record d { stated = d.stated ++ length d.got ∷ [] }
Moves (Acknowledge n) d next = Contains d.stated n × (d.acked ≤ n) × (next ≡ record d { acked = n })
Moves (Cut n) d next = next ≡ record d { way = take n d.way; is_open = false }
Moves Resume d next = next ≡ record d { acked = length d.got; way = drop (length d.got) d.put; is_open = true }

-- the moves lead, one after the other, from the one direction to the other
abbrev pub Reaches : {A : Type 0} → List (Move A) → Direction A → Direction A → Type 0
Reaches [] d last = last ≡ d
Reaches {A = A} (move ∷ moves) d last = (next : Direction A) × Moves move d next × Reaches moves next last

-- some moves lead to the direction from the beginning
pub record Reached {A : Type 0} (d : Direction A) : Type 0 where
  pub moves : List (Move A)
  pub reaches : Reaches moves beginning d

-- the one list is a front of the other
abbrev pub IsPrefix : {A : Type 0} → List A → List A → Type 0
IsPrefix {A = A} front whole = (rest : List A) × (whole ≡ front ++ rest)

-- the end and its queue in the pool are the sending end of the direction: the count of the acknowledged stanzas,
-- modulo 2 ^ 32, and the stanzas that are not acknowledged
pub record IsSender (end : AckView) (pool : PoolView) (d : Direction (List ℕ)) : Type 0 where
  pub count : end.acked ≡ d.acked % 2 ^ 32
  pub within : d.acked ≤ length d.put
  pub queue : stanzas_of end.queue pool ≡ Some (queue_of d)

-- the end is the receiving end of the direction: the count of the handled stanzas, modulo 2 ^ 32
pub record IsReceiver (end : AckView) (d : Direction (List ℕ)) : Type 0 where
  pub count : end.handled ≡ length d.got % 2 ^ 32
