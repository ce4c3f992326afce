-- The calls on a log that ask for a page anew or for the next one, and those that hold a message.
use Rattle.std.specs.Prelude.{ℕ, nat_lt, Bool, not, ◌&&◌, List, [], ◌∷◌, ◌++◌, length, Option, Some, None, Result, Ok, Err, if◌then◌else◌, is_none}
use Rattle.std.specs.Option.{option_map}
use Rattle.mam_log.specs.LogPages.{ids_of}
use Rattle.mam_log.specs.Views.{LogView, OpenPage, is_among, with_begun}
use Rattle.mam_log.specs.declared.faults.RestartFault.{RestartFault}
use Rattle.mam_log.specs.declared.faults.RestartFault.TheVariants.{Stranger, NoPlace}
use Rattle.mam_log.specs.declared.held.TheConstants.{MOST_HELD}
use Rattle.mam_log.specs.declared.log_entry.LogEntry.{LogEntry}

-- what asking anew for the page of a query answers
abbrev pub restart_answer : Option OpenPage → Result (Unit {0}) RestartFault
restart_answer None = Err Stranger
restart_answer (Some page) = if is_none page.after then Err NoPlace else Ok tt

-- the page asked for anew: from the first entry that the archive keeps, and with as many results at most
abbrev pub restarted : List ℕ → OpenPage → OpenPage
restarted fresh page = record page { queryid = fresh; after = None; results = [] }

abbrev pub with_restart : LogView → List ℕ → LogView
with_restart log fresh = record log { page = option_map (restarted fresh) log.page }

-- behind a page that is not the last, the next one is open, with as many results at most
abbrev pub begun_again : LogView → List ℕ → Option OpenPage → LogView
begun_again log next None = log
begun_again log next (Some page) = with_begun log next page.max

-- a message may be held: its id is neither in the log nor held, and there is place
abbrev pub may_hold : LogView → List ℕ → Bool
may_hold log id = not (is_among id (ids_of log.entries)) && (not (is_among id (ids_of log.held)) && nat_lt (length log.held) MOST_HELD)

abbrev pub after_hold : LogView → LogEntry → LogView
after_hold log live = if may_hold log live.id then record log { held = log.held ++ live ∷ [] } else log
