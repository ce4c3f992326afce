-- What clauses see of the code: the definitions at lists of bytes, without the room that lists have.
use Rattle.std.specs.Prelude.{ℕ, List, map}
use Rattle.mam_archive.specs.Entries.{ArchiveView}
use Rattle.srv_state.specs.State.{Kept, Out, Put, ServerState, Shut, Step, Took}
use Rattle.srv_state.specs.declared.context.ServerContext.{ServerContext}
use Rattle.srv_state.specs.declared.output.Output.{Output}
use Rattle.srv_state.specs.declared.output.Output.TheVariants as output

abbrev pub out_of : Output → Out (List ℕ)
out_of (output.Put conn bytes) = Put conn bytes.items
out_of (output.Shut conn) = Shut conn
out_of (output.Took from to origin) = Took from to origin

abbrev pub outs_of : List Output → List (Out (List ℕ))
outs_of outputs = map out_of outputs

abbrev pub kept_of : ArchiveView → Kept
kept_of a = record { owner = a.owner; keep = a.keep; last = a.last; entries = a.entries }

abbrev pub server_state_of : ServerContext → ServerState (List ℕ)
server_state_of d = record {
  domain = d.domain;
  accounts = d.accounts;
  archives = map kept_of d.archives.items;
  sessions = d.live.sessions;
  next = d.live.next;
  conns = d.conns.entries;
  moment = d.moment;
}

abbrev pub step_of : ServerContext → Step (List ℕ)
step_of d = record { server_state = server_state_of d; outs = outs_of d.out.items }
