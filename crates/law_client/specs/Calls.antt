-- The calls on a client, as its table has them, over any speech.
use Rattle.std.specs.Prelude.{ℕ, Bool, List, [], ◌∷◌, Option, Some, None, is_ok, take, if◌then◌else◌}
use Rattle.cl_core.specs.Feeds.{Fed, bytes_step, read}
use Rattle.cl_core.specs.Steps.{items_run}
use Rattle.cl_core.specs.UserCalls.{catch_up_answer, catches_up, closes, dials, forgets, leaves, say_answer, says}
use Rattle.cl_handlers.specs.Clients.{ClientView}
use Rattle.cl_handlers.specs.Speech.{Speech}
use Rattle.cl_handlers.specs.ClientSteps.{left}
use Rattle.cl_handlers.specs.declared.account.Account.{Account}
use Rattle.cl_handlers.specs.declared.phase.Phase.TheVariants.{Apart}
use Rattle.xml_framer.specs.States.{State}
use Rattle.sm_outbox.specs.Submissions.{nothing_said}

-- A connection begins, with what was drawn for it; a piece of the server's bytes comes; memory runs out within a piece,
-- behind so many of its items; the connection is lost; the session is given up too; the stream is closed; the user submits
-- a message; or the user asks for the pages behind the log's last entry, of so many results at most.
pub data Call : Type 0 where
  Dial : List ℕ → Call
  Bytes : List ℕ → Call
  Cut : List ℕ → ℕ → Call
  Gone : Call
  Forget : Call
  Close : Call
  Say : List ℕ → List ℕ → Bool → Call
  CatchUp : ℕ → Call

-- before the first connection
abbrev pub first_client : {A : Type 0} → Account → ClientView A
first_client account = record {
  account = account;
  log = record { entries = []; tiles = []; page = None; held = [] };
  said = nothing_said;
  epoch = 0;
  n = 0;
  pages = 0;
  session = None;
  phase = Apart;
}

-- the first items of a piece had their effect, and the connection is left
abbrev pub cut_in : {A X : Type 0} → Speech A X → Fed A X → Option State → List ℕ → ℕ → Fed A X
cut_in speech f None piece done = f
cut_in speech f (Some state) piece done = record { framer = None; turn = left (items_run speech f.turn (take done (read state piece).items)) }

-- a submission, or a catch-up, that is refused changes nothing
abbrev pub said_by : {A X : Type 0} → Speech A X → Fed A X → List ℕ → List ℕ → Bool → Bool → Fed A X
said_by speech f to text private taken = if taken then record f { turn = says speech f.turn to text private } else f

abbrev pub caught_up_by : {A X : Type 0} → Speech A X → Fed A X → ℕ → Bool → Fed A X
caught_up_by speech f max taken = if taken then record f { turn = catches_up speech f.turn max } else f

abbrev pub called : {A X : Type 0} → Speech A X → Call → Fed A X → Fed A X
called speech (Dial entropy) f = dials speech entropy f
called speech (Bytes piece) f = bytes_step speech f piece
called speech (Cut piece done) f = cut_in speech f f.framer piece done
called speech Gone f = leaves f
called speech Forget f = forgets speech f
called speech Close f = closes speech f
called speech (Say to text private) f = said_by speech f to text private (is_ok (say_answer f.turn.client text))
called speech (CatchUp max) f = caught_up_by speech f max (is_ok (catch_up_answer f.turn.client))

-- one after the other
abbrev pub calls_run : {A X : Type 0} → Speech A X → List Call → Fed A X → Fed A X
calls_run speech [] f = f
calls_run speech (call ∷ calls) f = calls_run speech calls (called speech call f)
