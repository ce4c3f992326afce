-- The numbers of sessions rise with their epochs.
use Rattle.std.specs.Prelude.{◌≡◌, ℕ, ◌+◌, ◌≤◌, List, ◌∷◌, Option, None, Some}
use Rattle.sim_2_links.specs.Words.{DownWord, Bound, Client, InBind}
use Rattle.sim_2_links.specs.Wires.{down_whole}
use Rattle.sim_2_links.specs.Stages.{Conn}
use Rattle.sim_2_links.specs.Views.{View, Session, Row}

-- the session of which the client will read first that it was bound for it
abbrev pub brought_by : {A : Type 0} → Client → List (DownWord A) → Option ℕ
brought_by InBind (Bound m ∷ ws) = Some m
brought_by _ _ = None

abbrev pub brings : {A : Type 0} → Conn A → Option ℕ
brings c = brought_by c.client (down_whole c.wires)

-- all numbers were given; the server's session has the highest; one that the client will read of is above all that
-- have an epoch; and the server's session, where it has an epoch, has the client's present one
pub record IsRising {A : Type 0} (v : View A) : Type 0 where
  pub given : (q : ℕ) (s : Session A) → v.sessions q ≡ Some s → q + 1 ≤ v.free
  pub newest : (r : Row A) → v.row ≡ Some r → (q : ℕ) (s : Session A) → v.sessions q ≡ Some s → q ≤ r.number
  pub above : (k m : ℕ) (c : Conn A) → v.here ≡ Some k → v.conns k ≡ Some c → brings c ≡ Some m → (q e : ℕ) (s : Session A) → v.sessions q ≡ Some s → s.epoch ≡ Some e → q + 1 ≤ m
  pub present : (r : Row A) → v.row ≡ Some r → (s : Session A) (e : ℕ) → v.sessions r.number ≡ Some s → s.epoch ≡ Some e → e ≡ v.epoch
