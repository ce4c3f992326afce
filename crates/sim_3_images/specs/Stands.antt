-- Where a server stands with its connections: what it needs so that what it puts comes in the order of a stream.
use Rattle.std.specs.Prelude.{ℕ, ◌≡◌, ◌≤◌, List, [], ◌∷◌, Option, Some, None}
use Rattle.std.specs.List.{AllByRecursion}
use Rattle.std.specs.Map.{lookup}
use Rattle.std.specs.Option.{option_map}
use Rattle.srv_state.specs.State.{Out, Put, ServerState, Shut, Took, is_number}
use Rattle.srv_state.specs.declared.connection.Connection.{Connection}
use Rattle.xml_framer.specs.declared.states.Phase.{Phase}
use Rattle.xml_framer.specs.declared.states.Phase.TheVariants as phase
use Rattle.sim_3_images.specs.EncodingsCores.{IsNoFooter, writer_of}
use Rattle.sm_live.specs.Sessions.{Session}
use Rattle.xml_writer.specs.Items.{ItemOut}

-- the connections that are open, each under its number
abbrev pub Conns : Type 0
Conns = List (ℕ × Connection)

abbrev pub writer_in : ℕ → Conns → Option Phase
writer_in k conns = option_map writer_of (lookup (is_number k) conns)

-- anything may be put
abbrev pub Any : ItemOut → Type 0
Any i = Unit {0}

-- no number stands twice
abbrev pub Differ : Conns → Type 0
Differ [] = Unit {0}
Differ (e ∷ es) = (lookup (is_number e.0) es ≡ None) × Differ es

-- a connection on which a session is, is open behind its header
abbrev pub IsAfter : Conns → Option ℕ → Type 0
IsAfter conns None = Unit {0}
IsAfter conns (Some k) = writer_in k conns ≡ Some phase.Between

-- and none of what waits there is a footer
pub record SessionStands (conns : Conns) (t : Session ItemOut) : Type 0 where
  pub on : IsAfter conns t.shown.conn
  pub words : AllByRecursion IsNoFooter t.waiting

-- two sessions on one connection are one
abbrev pub Apart : Session ItemOut → Session ItemOut → Type 0
Apart t u = (k : ℕ) → t.shown.conn ≡ Some k → u.shown.conn ≡ Some k → t.shown.number ≡ u.shown.number

abbrev pub Alone : List (Session ItemOut) → Type 0
Alone [] = Unit {0}
Alone (t ∷ l) = AllByRecursion (Apart t) l × Alone l

-- of so many connections at most
pub record ServerStateStands (n : ℕ) (h : ServerState ItemOut) : Type 0 where
  pub differ : Differ h.conns
  pub few : AllByRecursion (λ (e : ℕ × Connection). e.0 ≤ n) h.conns
  pub sessions : AllByRecursion (SessionStands h.conns) h.sessions
  pub alone : Alone h.sessions

-- ---- beside what else is kept of a server's state

abbrev pub StandingServers : (ServerState ItemOut → Type 0) → ℕ → ServerState ItemOut → Type 0
StandingServers Keeps n h = ServerStateStands n h × Keeps h

-- what is put out for a connection fits
abbrev pub OutPuts : (ItemOut → Type 0) → Out ItemOut → Type 0
OutPuts Fits (Put k i) = Fits i
OutPuts Fits (Shut k) = Unit {0}
OutPuts Fits (Took from to origin) = Unit {0}
