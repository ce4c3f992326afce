-- The sessions of a device along a history: those of each world are those of the world before, further on.
use Rattle.std.specs.Prelude.{◌≡◌, ◌⊎◌, ℕ, suc, ◌+◌, ◌≤◌, ◌==◌, List, [], ◌∷◌, ◌++◌, map, Option, None, Some, slice_get, if◌then◌else◌}
use Rattle.sm_acks.specs.Delivery.{Direction, IsPrefix, beginning}
use Rattle.cl_handlers.specs.Speech.{Epoch, Handled, Note, Put}
use Rattle.sim_2_links.specs.Onward.{Delivers}
use Rattle.cmd_network.specs.Devices.{DeviceState}
use Rattle.cmd_schedule.specs.Contents.{Owned}
use Rattle.cmd_schedule.specs.Schedules.{WireView}
use Rattle.cmd_schedule.specs.declared.schedule.WireLine.{WireLine}
use Rattle.sim_3_images.specs.Notes.{notes_in}
use Rattle.sim_3_images.specs.Puts.{given_in}
use Rattle.sim_3_images.specs.Reads.{read_in}
use Rattle.sim_7_schedules.specs.Messages.{AreTold}
use Rattle.sim_7_schedules.specs.Pairs.{HasPairs, IsUnused, Pair}
use Rattle.cmd_world.specs.Histories.{history_of, world_at_start}
use Rattle.cmd_world.specs.Lines.{moves_of, stepped}
use Rattle.cmd_world.specs.Moves.{Move, moved}
use Rattle.cmd_world.specs.Worlds.{ByteWorld}
use Rattle.xml_writer.specs.Items.{ItemOut, Whole, written_item}

-- A session, and what it is in the next world: moves of acknowledged delivery (XEP-0198, sections 4 and 5) lead each of its
-- directions there, and the epoch that it has stays.
pub record GoesOn (p q : Pair) : Type 0 where
  pub up : Delivers p.up q.up
  pub down : Delivers p.down q.down
  pub epoch : (e : ℕ) → p.epoch ≡ Some e → q.epoch ≡ Some e

-- So what was put stays, stanza for stanza, and so does what was handled; more may come behind. No less is acknowledged.
pub record IsFurther (d next : Direction ItemOut) : Type 0 where
  pub put : IsPrefix d.put next.put
  pub got : IsPrefix d.got next.got
  pub acked : d.acked ≤ next.acked

-- each goes on under its number
abbrev pub GoOn : (ℕ → Option Pair) → (ℕ → Option Pair) → Type 0
GoOn pairs next = (number : ℕ) (p : Pair) → pairs number ≡ Some p → (q : Pair) × (next number ≡ Some q) × GoesOn p q

-- One that is new is unused; or its client, which was in this epoch before, read of it since.
abbrev pub IsNew : ℕ → Pair → Type 0
IsNew epoch q = (IsUnused q.up × IsUnused q.down) ⊎ ((e : ℕ) × (q.epoch ≡ Some e) × (epoch + 1 ≤ e))

abbrev pub AreNew : ℕ → (ℕ → Option Pair) → (ℕ → Option Pair) → Type 0
AreNew epoch pairs next = (number : ℕ) (q : Pair) → pairs number ≡ None → next number ≡ Some q → IsNew epoch q

-- ---- what a step tells

-- what a pair was, or nothing yet
abbrev pub before : Option Pair → Pair
before None = record { epoch = None; up = beginning; down = beginning }
before (Some p) = p

-- The stanzas that were handled in the session of an epoch, by what a client notes down, whose epoch was this before; and those
-- that it put there, as they are written. With each resource that is bound the epoch rises by one.
abbrev pub handled_in : ℕ → List (Note (List ℕ)) → ℕ → List ItemOut
handled_in now [] e = []
handled_in now (Epoch n ∷ notes) e = handled_in (now + 1) notes e
handled_in now (Handled z ∷ notes) e = (if now == e then Whole z ∷ [] else []) ++ handled_in now notes e
handled_in now (_ ∷ notes) e = handled_in now notes e

abbrev pub put_in : ℕ → List (Note (List ℕ)) → ℕ → List (List ℕ)
put_in now [] e = []
put_in now (Epoch n ∷ notes) e = put_in (now + 1) notes e
put_in now (Put z ∷ notes) e = (if now == e then z ∷ [] else []) ++ put_in now notes e
put_in now (_ ∷ notes) e = put_in now notes e

-- A session and what it is in the next world: its client handled and put in it what these notes say, and the server handled
-- in that of this epoch the stanzas that it read, and put those that are written so; and nothing else.
pub record IsNoted (epoch : ℕ) (notes : List (Note (List ℕ))) (read : List ItemOut) (given : List (List ℕ)) (p q : Pair) (e : ℕ) : Type 0 where
  pub handled : q.down.got ≡ p.down.got ++ handled_in epoch notes e
  pub put : (more : List ItemOut) × (q.up.put ≡ p.up.put ++ more) × (map written_item more ≡ put_in epoch notes e)
  pub taken : q.up.got ≡ p.up.got ++ (if epoch == e then read else [])
  pub sent : (more : List ItemOut) × (q.down.put ≡ p.down.put ++ more) × (map written_item more ≡ (if epoch == e then given else []))

-- So it is of each session that has an epoch then. (In one that has none nothing was put or handled.)
abbrev pub AreNoted : ℕ → List (Note (List ℕ)) → List ItemOut → List (List ℕ) → (ℕ → Option Pair) → (ℕ → Option Pair) → Type 0
AreNoted epoch notes read given pairs next = (number e : ℕ) (q : Pair) → next number ≡ Some q → q.epoch ≡ Some e → IsNoted epoch notes read given (before (pairs number)) q e

-- ---- histories

-- the moves between the worlds of a history, in order
abbrev pub moves_along : List WireLine → ByteWorld → List Move
moves_along [] w = []
moves_along (line ∷ lines) w = moves_of line w ++ moves_along lines (stepped line w)

abbrev pub moves_in : WireView → List Move
moves_in s = moves_along s.lines (world_at_start s)

-- One assignment of pairs to all worlds of a history, by the numbers that the server gave: in each world they are those of
-- its sessions, with the messages that its report tells, and in the next one each goes on. What the client put and handled in
-- between is what it noted down in the move from the one to the other: of the bytes that were handed to it, or as its user
-- submitted a message or asked for a page. What the server handled in between it read of bytes that were handed to it then;
-- and what it put then its outputs for the connection of the session tell, or what joined the queue of a parked one.
pub record HasCourse (s : WireView) (i : ℕ) (o : Owned) : Type 0 where
  pub pairs : (j : ℕ) (w : ByteWorld) → slice_get (history_of s) j ≡ Some w → HasPairs s w i o
  pub told : (j : ℕ) (w : ByteWorld) (at : slice_get (history_of s) j ≡ Some w) → AreTold w i o (pairs j w at).pairs
  pub goes : (j : ℕ) (v w : ByteWorld) (at : slice_get (history_of s) j ≡ Some v) (next : slice_get (history_of s) (suc j) ≡ Some w) → GoOn (pairs j v at).pairs (pairs (suc j) w next).pairs
  pub new : (j : ℕ) (v w : ByteWorld) (at : slice_get (history_of s) j ≡ Some v) (next : slice_get (history_of s) (suc j) ≡ Some w) (d : DeviceState) → slice_get v.devices i ≡ Some d →
      AreNew d.client.client.epoch (pairs j v at).pairs (pairs (suc j) w next).pairs
  pub noted : (j : ℕ) (v w : ByteWorld) (at : slice_get (history_of s) j ≡ Some v) (next : slice_get (history_of s) (suc j) ≡ Some w) (d : DeviceState) → slice_get v.devices i ≡ Some d →
      (m : Move) × (slice_get (moves_in s) j ≡ Some m) × (w ≡ moved m v) × AreNoted d.client.client.epoch (notes_in m v i) (read_in m v i) (given_in m v i) (pairs j v at).pairs (pairs (suc j) w next).pairs
