-- The text of what a server did: what it put out, and its archives.
use Rattle.std.specs.Prelude.{ℕ, nat_le, nat_lt, Bool, List, [], ◌∷◌, ◌++◌, length, map, codes, if◌then◌else◌}
use Rattle.std.specs.Fmt.{decimal}
use Rattle.std.specs.List.{flat_map}
use Rattle.hex.specs.Hex.{encode_lower}
use Rattle.mam_archive.specs.Entries.{ArchiveView, EntryView}
use Rattle.cmd_journal.specs.declared.archive_texts.NamedArchive.{NamedArchive}
use Rattle.cmd_journal.specs.declared.output.Output.{Output}
use Rattle.cmd_report.specs.EntryLines.{EntryLineView}
use Rattle.cmd_report.specs.Lines.{entry_line}
use Rattle.cmd_report.specs.ReportText.{entry_text, last_text}
use Rattle.cmd_schedule.specs.declared.schedule.Version.{Version}
use Rattle.cmd_journal.specs.declared.output.Output.TheVariants as done

-- ---- what was put out

-- bytes for the connection of this number, or that it was shut
pub data OutputView : Type 0 where
  Put : ℕ → List ℕ → OutputView
  Shut : ℕ → OutputView

-- an output of the code, without the room of its bytes
abbrev pub output_view : Output → OutputView
output_view (done.Put connection bytes) = Put connection bytes.items
output_view (done.Shut connection) = Shut connection

abbrev pub output_text : OutputView → List ℕ
output_text (Put connection bytes) = codes "out " ++ decimal connection ++ 32 ∷ encode_lower bytes ++ 10 ∷ []
output_text (Shut connection) = codes "shut " ++ decimal connection ++ 10 ∷ []

-- ---- an archive

-- a character from U+20 up: in UTF-8 each byte of such a one is 32 or more, and each other is one byte
abbrev pub is_shown : ℕ → Bool
is_shown b = nat_le 32 b

abbrev pub plain_byte : ℕ → ℕ
plain_byte b = if nat_lt b 32 then 32 else b

-- a field that a peer chose, with a space for each character below U+20
abbrev pub plain_field : List ℕ → List ℕ
plain_field text = map plain_byte text

abbrev pub plain_line : EntryLineView → EntryLineView
plain_line line = record line { origin = plain_field line.origin; text = plain_field line.text }

-- an entry's line
abbrev pub plain_entry_text : EntryView → List ℕ
plain_entry_text e = entry_text (plain_line (entry_line e))

-- an account's archive: the name, the greatest number given, and the entries that are kept
pub record NamedView : Type 0 where
  pub name : List ℕ
  pub last : ℕ
  pub entries : List EntryView

abbrev pub archive_view : List ℕ → ArchiveView → NamedView
archive_view name archive = record { name = name; last = archive.last; entries = archive.entries }

abbrev pub named_view : NamedArchive → NamedView
named_view named = archive_view named.name.now named.archive.now

-- the account's line, as a report has it, and those of its entries
abbrev pub archive_text : Version → NamedView → List ℕ
archive_text version a =
    codes "account " ++ a.name ++ 32 ∷ decimal (length a.entries) ++ last_text version a.last ++ 10 ∷ flat_map plain_entry_text a.entries

-- ---- a run that was done again

unfoldable pub rerun_text : Version → List OutputView → List NamedView → List ℕ
rerun_text version outputs archives =
    codes "xmpp-rerun 1" ++ 10 ∷ flat_map output_text outputs ++ flat_map (archive_text version) archives ++ codes "end" ++ 10 ∷ []
