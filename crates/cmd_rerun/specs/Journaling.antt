-- The text of a server's journal: its first line, a line for each event, and the archives that these lead to.
use Rattle.std.specs.Prelude.{ℕ, List, [], ◌∷◌, ◌++◌, codes}
use Rattle.std.specs.List.{flat_map}
use Rattle.cmd_journal.specs.AccountsFiles.{AccountsView}
use Rattle.cmd_journal.specs.Journals.{EventView, events_text, journal_header}
use Rattle.cmd_journal.specs.Texts.{NamedView, archive_text}
use Rattle.cmd_rerun.specs.Reruns.{archives_after}
use Rattle.cmd_schedule.specs.declared.schedule.Version.{Version}

-- what stands behind the events: the archives in the end, and `end`
abbrev pub ending_text : Version → List NamedView → List ℕ
ending_text version archives = flat_map (archive_text version) archives ++ codes "end" ++ 10 ∷ []

-- a server's journal: its first line, a line for each event, and the archives that these lead to
unfoldable pub journal_text : AccountsView → List EventView → List ℕ
journal_text file events =
    journal_header file.version ++ 10 ∷ (events_text events ++ ending_text file.version (archives_after (record { accounts = file; events = events })))
