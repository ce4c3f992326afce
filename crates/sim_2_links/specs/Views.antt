-- One device as both ends and the network have it: its connections, its session at the server and at the client, and
-- beside them all sessions that it ever had, each with both directions of acknowledged delivery.
use Rattle.std.specs.Prelude.{ℕ, Bool, true, false, List, ◌∷◌, take, Option, None, Some, nat_eq, if◌then◌else◌}
use Rattle.sm_acks.specs.Delivery.{Direction}
use Rattle.sim_2_links.specs.Words.{DownWord, Resumed, Enabled, Client, InResume, InEnable, InOnline, Phase, AtSession}
use Rattle.sim_2_links.specs.Wires.{down_whole}
use Rattle.sim_2_links.specs.Stages.{Conn, Ending, Stands}

-- what is kept by numbers
abbrev pub Table : Type 0 → Type 0
Table A = ℕ → Option A

-- one entry is this, and the others are as they were
abbrev pub with_at : {A : Type 0} → ℕ → A → Table A → Table A
with_at k a t = λ n. if nat_eq k n then Some a else t n

-- each entry is changed by its number
abbrev pub changed : {A : Type 0} → (A → A) → Option A → Option A
changed f None = None
changed f (Some a) = Some (f a)

abbrev pub alter : {A : Type 0} → (ℕ → A → A) → Table A → Table A
alter f t = λ n. changed (f n) (t n)

-- whether it is this number
abbrev pub has : Option ℕ → ℕ → Bool
has None n = false
has (Some m) n = nat_eq m n

-- a session that was bound: the epoch that it got when the client read that it was bound, whether the server handled
-- that it is to be counted, whether the client read this, and what went up and down
pub record Session (A : Type 0) : Type 0 where
  pub epoch : Option ℕ
  pub counted : Bool
  pub read : Bool
  pub up : Direction A
  pub down : Direction A

-- the server's row of a session that lives: its number, the connection that it is on, and its end of the counts
pub record Row (A : Type 0) : Type 0 where
  pub number : ℕ
  pub on : Option ℕ
  pub counted : Bool
  pub acked : ℕ
  pub handled : ℕ
  pub queue : List A

-- the client's session: its number, and its end of the counts
pub record Own (A : Type 0) : Type 0 where
  pub number : ℕ
  pub acked : ℕ
  pub handled : ℕ
  pub queue : List A

-- the device: the connection that its client works on, all of its connections, the server's row and the client's
-- session, the client's epoch, all sessions, and a number below which theirs are
pub record View (A : Type 0) : Type 0 where
  pub here : Option ℕ
  pub conns : Table (Conn A)
  pub row : Option (Row A)
  pub own : Option (Own A)
  pub epoch : ℕ
  pub sessions : Table (Session A)
  pub free : ℕ

-- the session that the server has on a connection, while it neither ended the stream nor heard of the end
abbrev pub on_phase : Phase → Ending → Bool → Option ℕ
on_phase (AtSession p) Stands false = Some p
on_phase _ _ _ = None

abbrev pub session_on : {A : Type 0} → Conn A → Option ℕ
session_on c = on_phase c.phase c.ending c.gone

-- the session that the way down of a connection carries: the client's, or the one that the first word brings
abbrev pub carried_by : {A : Type 0} → Client → List (DownWord A) → Option ℕ
carried_by (InResume p) (Resumed q h ∷ ws) = Some p
carried_by InEnable (Enabled m ∷ ws) = Some m
carried_by (InOnline p) ws = Some p
carried_by _ _ = None

abbrev pub carries : {A : Type 0} → Conn A → Option ℕ
carries c = carried_by c.client (down_whole c.wires)

-- whether a client sends stanzas, or will as soon as it has read what is under way
abbrev pub sends : Client → Bool
sends InEnable = true
sends (InOnline p) = true
sends _ = false

-- a way is cut where it is said: of what is under way the first stanzas stay
abbrev pub cut_if : {A : Type 0} → Bool → ℕ → Direction A → Direction A
cut_if b n d = record d { way = if b then take n d.way else d.way; is_open = if b then false else d.is_open }
