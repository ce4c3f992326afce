use Rattle.std.proofs.Common.{List, take}
use Rattle.mam_log.specs.HeldIds.{IsIndexOf}
use Rattle.mam_log.specs.LogPages.{ids_of}
use Rattle.mam_log.specs.Views.{unheld}
use Rattle.mam_log.specs.declared.log_entry.LogEntry.{LogEntry}
use Rattle.mam_log.proofs.held.remove_ids.Given as goal

-- the ids of the results so far are gone
abbrev pub invariant-loop-entry : goal.invariant-loop-entry
invariant-loop-entry l = (held : List LogEntry) → IsIndexOf l.initial.ids held → IsIndexOf l.ids (unheld (ids_of (take l.entry-index l.results)) held)
