-- The ends of sessions as ends of directions (XEP-0198 section 4): each session's end is the sending end of one direction and
-- the receiving end of another.
use Rattle.std.specs.Prelude.{◌≡◌, ◌≢◌, ℕ, List, Option, Some, IfSome}
use Rattle.sm_acks.specs.Delivery.{Direction, IsReceiver, IsSender}
use Rattle.sm_acks.specs.Queues.{PoolView}
use Rattle.sm_resumption.specs.Rows.{row_of}
use Rattle.sm_resumption.specs.declared.session.Row.{Row}

-- the session after a call stands for the directions for which it stood before
pub record Stands (r after : Row) (old new : PoolView) : Type 0 where
  pub sends : (d : Direction (List ℕ)) → IsSender r.end old d → IsSender after.end new d
  pub receives : (d : Direction (List ℕ)) → IsReceiver r.end d → IsReceiver after.end d

-- each session but one is there as it was, and stands for the same directions
abbrev pub OthersStand : Option Row → List Row → List Row → PoolView → PoolView → Type 0
OthersStand one rows after old new = (n : ℕ) (r : Row) → row_of n rows ≡ Some r → IfSome one (λ s. n ≢ s.shown.number) → (row_of n after ≡ Some r) × Stands r r old new
