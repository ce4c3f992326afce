-- The next page of a log by the number of its last entry: what asking an archive comes to, in one equation.
use Rattle.std.specs.Prelude.{ℕ, zero, suc, ◌-◌, nat_le, Bool, false, List, Some, None, length, map, take, drop, if◌then◌else◌}
use Rattle.mam_archive.specs.Entries.{EntryView}
use Rattle.mam_archive.specs.Ids.{id_of}
use Rattle.cmd_direct.specs.Direct.{as_logged}
use Rattle.mam_log.specs.LogPages.{LogPage}
use Rattle.mam_log.specs.declared.log_entry.LogEntry.{LogEntry}
use Rattle.mam_pages.specs.Cuts.{CutView}
use Rattle.mam_pages.specs.Kept.{last_number}
use Rattle.mam_pages.specs.PageOf.{cut_out}
use Rattle.mam_pages.specs.declared.query.PagePosition.TheVariants.{First}

-- the number of a log's last entry, or 0 where it has none
abbrev pub last_logged : List LogEntry → ℕ
last_logged entries = last_number (map (λ l. l.entry) entries)

-- how many entries were purged of an archive that gave the numbers up to `last`: those with the numbers 1 to this
abbrev pub purged : ℕ → List EntryView → ℕ
purged last kept = last - length kept

-- the kept entries behind number n, or all where n was purged
abbrev pub kept_after : ℕ → ℕ → List EntryView → List EntryView
kept_after n last kept = drop (n - purged last kept) kept

-- the page that a log gets whose last entry has number n: it is asked for without an id where n is 0 or was purged
abbrev pub page_at : ℕ → ℕ → ℕ → List EntryView → LogPage
page_at n most last kept = record {
  after = if nat_le n (purged last kept) then None else Some (id_of n);
  entries = map as_logged (take most (kept_after n last kept));
  complete = nat_le (length (kept_after n last kept)) most;
  total = length kept;
}

-- the log's last entry has number n, and was purged
abbrev pub is_purged : ℕ → ℕ → List EntryView → Bool
is_purged zero last kept = false
is_purged (suc n) last kept = nat_le (suc n) (purged last kept)

-- what the archive answers to it, behind number n or, where n was purged, from its first entry on: forwards either way
abbrev pub cut_at : ℕ → ℕ → ℕ → List EntryView → CutView
cut_at n most last kept = cut_out First kept most (kept_after n last kept) (take most (kept_after n last kept))
