-- What the two cores owe to the pipes: what they put is within the limits of who reads it, and in the order of a stream.
use Rattle.std.specs.Prelude.{ℕ, ◌+◌, ◌≡◌, ◌≤◌, ◌⊎◌, Bool, true, false, List, [], ◌∷◌, ◌++◌, Option, Some, None, Ok, IsTrue}
use Rattle.std.specs.List.{AllByRecursion}
use Rattle.std.specs.Option.{option_map}
use Rattle.cl_core.specs.UserCalls.{catch_up_answer, catches_up, dials, forgets, leaves, say_answer, says}
use Rattle.cl_handlers.specs.Clients.{ClientStep, ClientView}
use Rattle.cl_handlers.specs.Speech.{in_items}
use Rattle.cl_handlers.specs.ClientSteps.{is_apart}
use Rattle.cl_core.specs.Steps.{item_step}
use Rattle.srv_state.specs.Moments.{at_moment, gone_at, with_fresh}
use Rattle.srv_state.specs.State.{Out, Put, ServerState, Shut, Took, conn_at, is_number}
use Rattle.srv_state.specs.declared.connection.Connection.{Connection}
use Rattle.srv_state.specs.declared.connection.Phase.TheVariants as conn
use Rattle.srv_state.specs.declared.connection.Phase.{Phase as ConnPhase}
use Rattle.xml_framer.specs.Limits.{client_limits, server_limits}
use Rattle.xml_framer.specs.declared.states.Phase.{Phase}
use Rattle.xml_framer.specs.declared.states.Phase.TheVariants as phase
use Rattle.sim_3_items.specs.ItemMoves.{fed_of, step_of}
use Rattle.sim_3_items.specs.ItemWorlds.{itself, read_of, silent_client_step}
use Rattle.cmd_report.specs.Addresses.{bare_address}
use Rattle.cmd_schedule.specs.Grammar.{is_name, is_text}
use Rattle.srv_core.specs.Table.{after_item}
use Rattle.cmd_world.specs.Worlds.{client_entropy, server_entropy}
use Rattle.xml_writer.specs.Items.{Closing, ItemOut, Opening, Whole}
use Rattle.law_xml.specs.Puts.{MayPut, OutFits, phase_behind}

-- ---- where the server stands in the stream of a connection

-- the first header is to be put yet, or was put
abbrev pub phase_of : ConnPhase → Phase
phase_of conn.Start = phase.First
phase_of p = phase.Between

abbrev pub writer_of : Connection → Phase
writer_of c = phase_of c.phase

-- where the connection isn't open it puts nothing
abbrev pub writer_at : {A : Type 0} → ℕ → ServerState A → Option Phase
writer_at k h = option_map writer_of (conn_at k h)

-- what comes before the first header of a stream was put is a header
abbrev pub IsOpening : ItemOut → Type 0
IsOpening (Opening h) = Unit {0}
IsOpening (Whole e) = ⊥
IsOpening Closing = ⊥

abbrev pub MayCome : Option Phase → ItemOut → Type 0
MayCome now i = now ≡ Some phase.First → IsOpening i

-- ---- what the server puts out

-- a thing for this connection, or for another
abbrev pub IsInOrder : (ItemOut → Type 0) → Bool → Option Phase → ItemOut → Type 0
IsInOrder Fits false now i = Unit {0}
IsInOrder Fits true None i = ⊥
IsInOrder Fits true (Some now) i = MayPut now i × Fits i

abbrev pub after_put : Bool → Option Phase → ItemOut → Option Phase
after_put false now i = now
after_put true now i = Some (phase_behind i)

abbrev pub after_shut : Bool → Option Phase → Option Phase
after_shut false now = now
after_shut true now = None

-- Of all that is put out, what is for this connection comes in order and fits: first a header, and behind a footer, and
-- where the connection was shut, nothing. So the writer, who stood at the one, stands at the other.
abbrev pub AreInOrder : (ItemOut → Type 0) → ℕ → Option Phase → List (Out ItemOut) → Option Phase → Type 0
AreInOrder Fits j now [] later = now ≡ later
AreInOrder Fits j now (Put k i ∷ outs) later = IsInOrder Fits (is_number j k) now i × AreInOrder Fits j (after_put (is_number j k) now i) outs later
AreInOrder Fits j now (Shut k ∷ outs) later = AreInOrder Fits j (after_shut (is_number j k) now) outs later
AreInOrder Fits j now (Took from to origin ∷ outs) later = AreInOrder Fits j now outs later

-- ---- what a client puts

-- more may come behind it: it is no footer
abbrev pub IsNoFooter : ItemOut → Type 0
IsNoFooter i = phase_behind i ≡ phase.Between

-- What a turn put before is put still, and what is put then doesn't hang on it; and so is what it noted down.
pub record Adds (t alone u : ClientStep ItemOut ItemOut) : Type 0 where
  pub client_is : u.client ≡ alone.client
  pub put_is : u.out.put ≡ t.out.put ++ alone.out.put
  pub notes_is : u.out.notes ≡ t.out.notes ++ alone.out.notes

-- what it puts fits and is no footer, and the client that it becomes is one of these
pub record ClientStepFits (UpFits : ItemOut → Type 0) (ClientFits : ClientView ItemOut → Type 0) (t : ClientStep ItemOut ItemOut) : Type 0 where
  pub client : ClientFits t.client
  pub puts : AllByRecursion UpFits t.out.put
  pub no_footer : AllByRecursion IsNoFooter t.out.put

-- Behind an item that came a footer may be the last thing that is put: then the client has left.
abbrev pub IsInClientStep : Bool → List ItemOut → Type 0
IsInClientStep apart put = AllByRecursion IsNoFooter put ⊎ ((front : List ItemOut) × (put ≡ front ++ Closing ∷ []) × AllByRecursion IsNoFooter front × (apart ≡ true))

-- what is put behind an item
pub record HeardFits (UpFits : ItemOut → Type 0) (ClientFits : ClientView ItemOut → Type 0) (t : ClientStep ItemOut ItemOut) : Type 0 where
  pub client : ClientFits t.client
  pub puts : AllByRecursion UpFits t.out.put
  pub in_client_step : IsInClientStep (is_apart t.client.phase) t.out.put

-- ---- what is owed

-- Of three families: what a client may put, and the server; and clients. Whatever a client does puts what is of these, and
-- leaves a client that is.
pub record ClientKeeps (UpFits DownFits : ItemOut → Type 0) (ClientFits : ClientView ItemOut → Type 0) : Type 0 where
  pub dials_so : (k : ℕ) (c : ClientView ItemOut) → ClientFits c → ClientStepFits UpFits ClientFits (dials in_items (client_entropy k) (fed_of c)).turn
  pub loses : (c : ClientView ItemOut) → ClientFits c → ClientFits (leaves (fed_of c)).turn.client
  pub forgets_so : (c : ClientView ItemOut) → ClientFits c → ClientFits (forgets in_items (fed_of c)).turn.client
  pub hears : (i : ItemOut) (c : ClientView ItemOut) → ClientFits c → DownFits i → HeardFits UpFits ClientFits (item_step in_items (silent_client_step c) (read_of i))
  pub says_so : (name text : List ℕ) (private : Bool) (n : ℕ) (c : ClientView ItemOut) → ClientFits c → IsTrue (is_name name) → IsTrue (is_text text) → say_answer c text ≡ Ok n
      → ClientStepFits UpFits ClientFits (says in_items (silent_client_step c) (bare_address name) text private)
  pub catches_up_so : (most : ℕ) (c : ClientView ItemOut) → ClientFits c → 1 ≤ most → most ≤ 100 → catch_up_answer c ≡ Ok tt
      → ClientStepFits UpFits ClientFits (catches_up in_items (silent_client_step c) most)

-- Of four families: what a client may put, and the server; server states, of so many connections that were dialed; and
-- clients. Whatever comes of these is among these.
pub record CoresFit (UpFits DownFits : ItemOut → Type 0) (ServerFits : ℕ → ServerState ItemOut → Type 0) (ClientFits : ClientView ItemOut → Type 0) : Type 0 where
  -- ---- limits
  pub up_limits : (i : ItemOut) → UpFits i → OutFits server_limits i
  pub down_limits : (i : ItemOut) → DownFits i → OutFits client_limits i
  pub footer : UpFits Closing
  -- ---- the server, which knows of so many connections
  pub moment : (n now : ℕ) (h : ServerState ItemOut) → ServerFits n h → ServerFits n (at_moment now h)
  pub comes : (n : ℕ) (h : ServerState ItemOut) → ServerFits n h → ServerFits (n + 1) (with_fresh (n + 1) (server_entropy (n + 1)) h)
  pub goes : (n k : ℕ) (h : ServerState ItemOut) → ServerFits n h → ServerFits n (gone_at k h)
  pub handles : (n k : ℕ) (i : ItemOut) (h : ServerState ItemOut) → ServerFits n h → k ≤ n → UpFits i → MayCome (writer_at k h) i → ServerFits n (after_item itself k (read_of i) (step_of h)).server_state
  pub in_order : (n k : ℕ) (i : ItemOut) (h : ServerState ItemOut) (j : ℕ) → ServerFits n h → k ≤ n → UpFits i → MayCome (writer_at k h) i
      → AreInOrder DownFits j (writer_at j h) (after_item itself k (read_of i) (step_of h)).outs (writer_at j (after_item itself k (read_of i) (step_of h)).server_state)
  pub opened : (n k : ℕ) (i : ItemOut) (h : ServerState ItemOut) → ServerFits n h → k ≤ n → UpFits i → MayCome (writer_at k h) i → writer_at k (after_item itself k (read_of i) (step_of h)).server_state ≡ Some phase.First → ⊥
  -- ---- a client
  pub client : ClientKeeps UpFits DownFits ClientFits

-- the things that something is shown as: a family as the law has it
abbrev pub Among : {A B : Type 0} → (A → B) → B → Type 0
Among {A = A} shown b = (a : A) × (shown a ≡ b)
