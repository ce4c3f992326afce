-- A server with each thing that is put turned into another: an item into its bytes, say.
use Rattle.std.specs.Prelude.{List, map}
use Rattle.sm_live.specs.Sessions.{Session}
use Rattle.srv_state.specs.State.{Out, Put, ServerState, Shut, Step, Took}
use Rattle.srv_state.specs.Steps as steps
use Rattle.srv_state.specs.Steps.{Act}
use Rattle.xml_writer.specs.Items.{ItemOut}

abbrev pub rendered : {A B : Type 0} → (A → B) → (ItemOut → A) → ItemOut → B
rendered f say item = f (say item)

-- ---- what waits in a session

abbrev pub session_rendered : {A B : Type 0} → (A → B) → Session A → Session B
session_rendered f s = record { shown = s.shown; acked = s.acked; handled = s.handled; waiting = map f s.waiting }

abbrev pub sessions_rendered : {A B : Type 0} → (A → B) → List (Session A) → List (Session B)
sessions_rendered f sessions = map (session_rendered f) sessions

-- ---- the server, and what it puts out

abbrev pub server_state_rendered : {A B : Type 0} → (A → B) → ServerState A → ServerState B
server_state_rendered f h = record {
  domain = h.domain;
  accounts = h.accounts;
  archives = h.archives;
  sessions = sessions_rendered f h.sessions;
  next = h.next;
  conns = h.conns;
  moment = h.moment;
}

abbrev pub out_rendered : {A B : Type 0} → (A → B) → Out A → Out B
out_rendered f (Put k a) = Put k (f a)
out_rendered f (Shut k) = Shut k
out_rendered f (Took from to origin) = Took from to origin

abbrev pub outs_rendered : {A B : Type 0} → (A → B) → List (Out A) → List (Out B)
outs_rendered f outs = map (out_rendered f) outs

abbrev pub step_rendered : {A B : Type 0} → (A → B) → Step A → Step B
step_rendered f s = record { server_state = server_state_rendered f s.server_state; outs = outs_rendered f s.outs }

-- ---- a small step

abbrev pub act_rendered : {A B : Type 0} → (A → B) → Act A → Act B
act_rendered f (steps.Say k a) = steps.Say k (f a)
act_rendered f (steps.Close k) = steps.Close k
act_rendered f (steps.Enter k phase) = steps.Enter k phase
act_rendered f (steps.Fail k left) = steps.Fail k left
act_rendered f (steps.Bind account resource k) = steps.Bind account resource k
act_rendered f (steps.Resume previd account h k) = steps.Resume previd account h k
act_rendered f (steps.Enable n resume) = steps.Enable n resume
act_rendered f (steps.Acknowledge n h) = steps.Acknowledge n h
act_rendered f (steps.Ask n on) = steps.Ask n on
act_rendered f (steps.Handle n) = steps.Handle n
act_rendered f (steps.Present n available priority) = steps.Present n available priority
act_rendered f (steps.Copy n on) = steps.Copy n on
act_rendered f (steps.Send n a) = steps.Send n (f a)
act_rendered f (steps.Archive account e) = steps.Archive account e
act_rendered f (steps.Tell from to origin) = steps.Tell from to origin

abbrev pub acts_rendered : {A B : Type 0} → (A → B) → List (Act A) → List (Act B)
acts_rendered f acts = map (act_rendered f) acts
