-- The text of what a client took over.
use Rattle.std.specs.Prelude.{ℕ, ◌+◌, nat_le, nat_lt, Bool, false, List, [], ◌∷◌, ◌++◌, take, drop, map, codes, if◌then◌else◌}
use Rattle.std.specs.List.{flat_map}
use Rattle.std.specs.Option.{option_map}
use Rattle.mam_log.specs.Views.{LogView}
use Rattle.mam_log.specs.declared.log_entry.LogEntry.{LogEntry}
use Rattle.mam_log.specs.declared.tile.Tile.{Tile}
use Rattle.cmd_report.specs.EntryLines.{EntryLineView, line_under}
use Rattle.cmd_report.specs.Lines.{is_break, logged_line, tile_line}
use Rattle.cmd_report.specs.ReportText.{fields_text, held_text, logged_text, page_text}
use Rattle.cmd_report.specs.declared.report.LoggedLine.{LoggedLine}
use Rattle.cmd_report.specs.declared.report.PageLine.{PageLine}

-- ---- fields that a peer chooses

-- a character from U+20 up: in UTF-8 each byte of such a one is 32 or more, and each other is one byte
abbrev pub is_shown : ℕ → Bool
is_shown b = nat_le 32 b

abbrev pub plain_byte : ℕ → ℕ
plain_byte b = if nat_lt b 32 then 32 else b

-- with a space for each character below U+20
abbrev pub plain_field : List ℕ → List ℕ
plain_field text = map plain_byte text

-- ---- lines, as a report has them but for such fields

abbrev pub plain_page : PageLine → PageLine
plain_page line = record line { after = option_map plain_field line.after }

abbrev pub plain_entry : EntryLineView → EntryLineView
plain_entry line = record line { id = plain_field line.id; origin = plain_field line.origin; text = plain_field line.text }

abbrev pub plain_logged : LoggedLine → LoggedLine
plain_logged line = record line { entry = plain_entry line.entry }

-- the line of a page
abbrev pub page_tile_text : Tile → List ℕ
page_tile_text tile = page_text (plain_page (tile_line tile))

-- the fields of an entry's line
abbrev pub logged_fields_text : LogEntry → List ℕ
logged_fields_text logged = fields_text (plain_entry (line_under logged.id logged.entry))

-- the line of an entry, and one before it where a run begins with it after a break
abbrev pub logged_entry_text : Bool → LogEntry → List ℕ
logged_entry_text broken logged = logged_text (plain_logged (logged_line broken logged))

-- the line of a message that is held
abbrev pub held_line_text : LogEntry → List ℕ
held_line_text held = held_text (record { id = plain_field held.id })

-- the entries of a page, the first of which may stand behind a break
abbrev pub logged_page_text : Bool → List LogEntry → List ℕ
logged_page_text broken [] = []
logged_page_text broken (l ∷ ls) = logged_entry_text broken l ++ flat_map (logged_entry_text false) ls

-- the entries of a log, page by page, behind n entries
abbrev pub entries_text : ℕ → List Tile → List LogEntry → List ℕ
entries_text n [] entries = flat_map (logged_entry_text false) entries
entries_text n (tile ∷ tiles) entries =
    logged_page_text (is_break n tile.after) (take tile.count entries) ++ entries_text (n + tile.count) tiles (drop tile.count entries)

-- ---- the whole

unfoldable pub synced_text : LogView → List ℕ
synced_text log =
    codes "xmpp-synced 2" ++ 10 ∷ flat_map page_tile_text log.tiles ++ entries_text 0 log.tiles log.entries
    ++ flat_map held_line_text log.held ++ codes "end" ++ 10 ∷ []
