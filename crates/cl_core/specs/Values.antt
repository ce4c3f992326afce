-- What clauses see of a client with the framer of its connection, where one stands.
use Rattle.std.specs.Prelude.{ℕ, List, Option, None}
use Rattle.cl_core.specs.Feeds.{Fed}
use Rattle.cl_handlers.specs.Clients.{ClientStep, ClientView}
use Rattle.cl_handlers.specs.ClientSteps.{dropped}
use Rattle.cl_handlers.specs.Views.{out_of}
use Rattle.cl_handlers.specs.declared.events.ClientOut.{ClientOut}
use Rattle.cl_handlers.specs.declared.phase.Phase.TheVariants.{Apart}
use Rattle.xml_framer.specs.States.{State}

pub record ClientValue : Type 0 where
  pub framer : Option State
  pub client : ClientView (List ℕ)

abbrev pub client_step_in : ClientValue → ClientOut → ClientStep (List ℕ) ℕ
client_step_in c out = record { client = c.client; out = out_of out }

abbrev pub fed_of : ClientValue → ClientOut → Fed (List ℕ) ℕ
fed_of c out = record { framer = c.framer; turn = client_step_in c out }

-- no connection stands any more, and the session ended with it
abbrev pub forgotten : ClientValue → ClientValue
forgotten c = record { framer = None; client = dropped (record c.client { phase = Apart }) }
