-- A session, and what moves make of it.
use Rattle.std.specs.Prelude.{◌≡◌, ℕ, List, Some}
use Rattle.sm_acks.specs.Delivery.{Direction, Move, Reaches}
use Rattle.sim_2_links.specs.Views.{Session, Table}

-- moves of acknowledged delivery lead from the one direction to the other
pub record Delivers {A : Type 0} (d next : Direction A) : Type 0 where
  pub moves : List (Move A)
  pub reaches : Reaches moves d next

-- Both directions of the session come there by such moves, and the epoch that it has stays.
pub record IsOnward {A : Type 0} (s next : Session A) : Type 0 where
  pub up : Delivers s.up next.up
  pub down : Delivers s.down next.down
  pub epoch : (e : ℕ) → s.epoch ≡ Some e → next.epoch ≡ Some e

-- each session is there under its number still, further on
abbrev pub AreOnward : {A : Type 0} → Table (Session A) → Table (Session A) → Type 0
AreOnward {A = A} sessions next = (p : ℕ) (s : Session A) → sessions p ≡ Some s → (t : Session A) × (next p ≡ Some t) × IsOnward s t
