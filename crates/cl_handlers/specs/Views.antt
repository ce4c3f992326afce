-- What clauses see of a client: plain lists, without the room of what is kept.
use Rattle.std.specs.Prelude.{ℕ, List, [], Option}
use Rattle.std.specs.Option.{option_map}
use Rattle.cl_handlers.specs.Clients.{ClientStep, ClientView, OutView}
use Rattle.cl_handlers.specs.declared.client_state.ClientState.{ClientState}
use Rattle.cl_handlers.specs.declared.events.ClientOut.{ClientOut}
use Rattle.sm_outbox.specs.Kept.{HeldSession}
use Rattle.sm_outbox.specs.Sessions.{SessionView}

abbrev pub session_of : HeldSession → SessionView (List ℕ)
session_of held = held.session

abbrev pub client_of : ClientState → ClientView (List ℕ)
client_of c = record {
  account = c.account;
  log = c.log;
  said = c.said.said;
  epoch = c.said.epoch;
  n = c.said.n;
  pages = c.pages;
  session = option_map session_of c.session;
  phase = c.phase;
}

-- what is put as one text; nothing is noted down
abbrev pub out_of : ClientOut → OutView (List ℕ) ℕ
out_of out = record { put = out.bytes.items; events = out.events.items; notes = [] }

abbrev pub client_step_of : ClientState → ClientOut → ClientStep (List ℕ) ℕ
client_step_of c out = record { client = client_of c; out = out_of out }
