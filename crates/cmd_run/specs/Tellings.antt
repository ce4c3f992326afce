-- What is answered to what came of serving.
use Rattle.std.specs.Prelude.{◌≡◌, ℕ, List, Option, Some, None, Result, Ok, Err}
use Rattle.base_io.specs.Listed.{Listed}
use Rattle.cmd_run.specs.Texts.{bad_line, entropy_fault_line, link_fault_line, no_worker_line}
use Rattle.cmd_run.specs.declared.cause.Cause.{Cause}
use Rattle.cmd_run.specs.declared.cause.Cause.TheVariants.{Door}
use Rattle.cmd_run.specs.declared.outcome.Outcome.{Outcome}
use Rattle.cmd_run.specs.declared.outcome.Outcome.TheVariants.{Done, Refused, LinkFault, NoWorker, EntropyFault}
use Rattle.net_hub.specs.declared.fault.HubFault.{HubFault}
use Rattle.net_hub.specs.declared.fault.HubFault.TheVariants as hubs

-- the outcome and the text that stand for what came of serving
abbrev pub Tells : Result (Listed ℕ) HubFault → Outcome → List ℕ → Type 0
Tells (Ok journal) Done text = text ≡ journal.items
Tells (Err (hubs.BadLine line why)) Refused text = text ≡ bad_line line why
Tells (Err hubs.LinkFault) LinkFault text = text ≡ link_fault_line
Tells (Err hubs.NoWorker) NoWorker text = text ≡ no_worker_line
Tells (Err hubs.EntropyFault) EntropyFault text = text ≡ entropy_fault_line
Tells served outcome text = ⊥

-- what is told of a fault of the door
abbrev pub fault_cause : HubFault → Option Cause
fault_cause hubs.LinkFault = Some Door
fault_cause fault = None

abbrev pub door_cause : Result (Listed ℕ) HubFault → Option Cause
door_cause (Ok journal) = None
door_cause (Err fault) = fault_cause fault
