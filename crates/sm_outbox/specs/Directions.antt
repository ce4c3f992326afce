-- What waits as the end of two directions (XEP-0198, section 4), and the submissions among it.
use Rattle.std.specs.Prelude.{◌≡◌, ◌≤◌, ◌%◌, ◌^◌, Bool, true, false, List, [], ◌∷◌, length, map}
use Rattle.sm_acks.specs.Delivery.{Direction, queue_of}
use Rattle.sm_outbox.specs.Submissions.{SaidView}
use Rattle.sm_outbox.specs.Waiting.{Waiting}
use Rattle.sm_outbox.specs.declared.said.Said.{Said}

-- the sending end: the count of the acknowledged stanzas, modulo 2 ^ 32, and the stanzas that are not acknowledged
pub record Sends {A : Type 0} (w : Waiting A) (d : Direction A) : Type 0 where
  pub count : w.acked ≡ d.acked % 2 ^ 32
  pub within : d.acked ≤ length d.put
  pub queue : w.queue ≡ queue_of d

-- the receiving end: the count of the handled stanzas, modulo 2 ^ 32
pub record Receives {A : Type 0} (w : Waiting A) (d : Direction A) : Type 0 where
  pub count : w.handled ≡ length d.got % 2 ^ 32

-- the stanzas at whose places a kind is true
abbrev pub chosen : {A : Type 0} → List A → List Bool → List A
chosen [] kinds = []
chosen (a ∷ rest) [] = []
chosen (a ∷ rest) (true ∷ kinds) = a ∷ chosen rest kinds
chosen (a ∷ rest) (false ∷ kinds) = chosen rest kinds

-- the submissions that wait are those in the queue, each as the stanza that it is put as, in their order
pub record AreQueued {A : Type 0} (stanza : Said → A) (w : Waiting A) (s : SaidView) : Type 0 where
  pub kinds : length w.submissions ≡ length w.queue
  pub stanzas : chosen w.queue w.submissions ≡ map stanza s.waiting
