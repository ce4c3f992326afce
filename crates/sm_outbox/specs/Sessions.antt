-- A client's session, from its `enabled` on (XEP-0198, section 3), over any type of what is put.
use Rattle.std.specs.Prelude.{List, ℕ}
use Rattle.sm_outbox.specs.Waiting.{Waiting, nothing_waits}

-- the id for its resumption, and what waits
pub record SessionView (A : Type 0) : Type 0 where
  pub previd : List ℕ
  pub waiting : Waiting A

abbrev pub begun : {A : Type 0} → List ℕ → SessionView A
begun previd = record { previd = previd; waiting = nothing_waits }

abbrev pub with_waiting : {A : Type 0} → SessionView A → Waiting A → SessionView A
with_waiting s w = record s { waiting = w }
