-- The direct run of a schedule: every message is taken at once and acknowledged, and every page that is asked for is
-- answered at once. No session, counter, queue or connection occurs here.
use Rattle.std.specs.Prelude.{ℕ, ◌+◌, Bool, true, false, List, [], ◌∷◌, ◌++◌, Option, Some, None, length, map, filter_map, zero, suc, if◌then◌else◌}
use Rattle.std.specs.Option.{option_map, option_map_or, option_or}
use Rattle.std.specs.Str.{bytes_eq}
use Rattle.mam_archive.specs.Entries.{EntryView, entry_numbered, newest}
use Rattle.mam_archive.specs.Ids.{id_of}
use Rattle.mam_log.specs.LogPages.{LogPage, log_of, last_id}
use Rattle.mam_log.specs.declared.log_entry.LogEntry.{LogEntry}
use Rattle.mam_pages.specs.Cuts.{CutView}
use Rattle.mam_pages.specs.Kept.{Kept, kept_by}
use Rattle.mam_pages.specs.PageOf.{page_of}
use Rattle.mam_pages.specs.declared.query.PageQuery.{PageQuery}
use Rattle.mam_pages.specs.declared.query.PagePosition.{PagePosition}
use Rattle.mam_pages.specs.declared.query.PagePosition.TheVariants.{First, After}
use Rattle.base_io.specs.Names.{is_among}
use Rattle.cmd_report.specs.Reports.{AccountView, DeviceView, ReportView}
use Rattle.cmd_report.specs.declared.report.SaidLine.{SaidLine}
use Rattle.cmd_report.specs.declared.report.SaidMark.TheVariants.{Acknowledged}
use Rattle.cmd_schedule.specs.declared.schedule.Step.{Step}
use Rattle.cmd_schedule.specs.declared.schedule.Step.TheVariants.{Say, Private, Catchup}
use Rattle.cmd_schedule.specs.Contents.{accounts_of, devices_of, home_of, moment_after, sent_by, along}
use Rattle.cmd_schedule.specs.Schedules.{ScheduleView, keep_of, steps_of}
use Rattle.cmd_schedule.specs.declared.schedule.Version.{Version}
use Rattle.cmd_report.specs.Addresses.{bare_address}
use Rattle.cmd_report.specs.Takes.{Take, archive_of}
use Rattle.cmd_report.specs.Lines.{take_line, entry_line, logged_from, page_line}

-- A message is taken at once, at the moment that the clock shows, where its account exists: where any line of the whole
-- schedule declares it.
abbrev pub taken : List Step → List Step → List ℕ → List ℕ → List ℕ → List Take
taken all before device to text =
    if is_among to (accounts_of all)
    then record {
      device = device;
      account = home_of before device;
      epoch = 1;
      n = sent_by device before + 1;
      to = to;
      text = text;
      moment = moment_after before;
    } ∷ []
    else []

abbrev pub take_at : List Step → List Step → Step → List Take
take_at all before (Say device to text) = taken all before device to text
take_at all before (Private device to text) = taken all before device to text
take_at all before _ = []

-- the takes of the first steps of a schedule
abbrev pub takes_of : List Step → List Step → List Take
takes_of all steps = along (take_at all) [] steps

abbrev pub as_logged : EntryView → LogEntry
as_logged entry = record { id = id_of entry.number; entry = entry }

-- a page as a device gets it: its entries, whether nothing remains behind it, and how many entries the archive has
pub record Page : Type 0 where
  pub entries : List EntryView
  pub complete : Bool
  pub count : ℕ

-- the entries with these numbers
abbrev pub entries_numbered : List ℕ → List EntryView → List EntryView
entries_numbered numbers entries = filter_map (λ n. entry_numbered n entries) numbers

-- the page with the entries that it was cut to
abbrev pub page_with : List EntryView → CutView → Page
page_with entries cut = record { entries = entries_numbered cut.numbers entries; complete = cut.complete; count = cut.count }

abbrev pub position_after : Option (List ℕ) → PagePosition
position_after None = First
position_after (Some id) = After id

-- asks for everybody's messages of all times, from the first one on or behind the entry with an id (XEP-0313 section
-- 4.3, XEP-0059 section 2.2)
abbrev pub query_at : PagePosition → ℕ → PageQuery
query_at position most = record { peer = None; start = None; end = None; position = position; max = Some most }

abbrev pub query_after : Option (List ℕ) → ℕ → PageQuery
query_after after most = query_at (position_after after) most

-- what an archive answers to that
abbrev pub page_answered : Option (List ℕ) → ℕ → Kept → Option Page
page_answered after most kept = option_map (page_with kept.entries) (page_of kept (query_after after most))

abbrev pub as_taken_over : Option (List ℕ) → Page → LogPage
as_taken_over after page = record { after = after; entries = map as_logged page.entries; complete = page.complete; total = page.count }

-- the page that was asked for behind the entry with an id, or without an id from the first entry on
abbrev pub page_from : Option (List ℕ) → ℕ → Kept → Option LogPage
page_from after most kept = option_map (as_taken_over after) (page_answered after most kept)

-- the page behind the log's last entry or, where the archive has no entry with its id any more, the page from the first
-- entry that it keeps on
abbrev pub next_page : ℕ → Kept → List LogPage → Option LogPage
next_page most kept pages = option_or (page_from (last_id (log_of pages)) most kept) (page_from None most kept)

-- A catch-up asks for pages until one is complete, in so many turns at most.
abbrev pub catch_up : ℕ → ℕ → Kept → List LogPage → List LogPage
catch_up zero most kept pages = pages
catch_up (suc turns) most kept pages =
    option_map_or
    (λ (page : LogPage). if page.complete then pages ++ page ∷ [] else catch_up turns most kept (pages ++ page ∷ []))
    (next_page most kept pages)
    pages

-- an account's bare address, and what its archive keeps after these takes
abbrev pub kept_after : ℕ → List ℕ → List Take → Kept
kept_after keep account takes = kept_by (bare_address account) (newest keep (archive_of account takes))

-- the device's pages after a step, below the steps before it; an archive of k entries takes at most k + 1 turns
abbrev pub pages_after : ℕ → List Step → List ℕ → List Step → List LogPage → Step → List LogPage
pages_after keep all device before pages (Catchup name most) =
    if bytes_eq device name
    then (let kept = kept_after keep (home_of before device) (takes_of all before) in catch_up (length kept.entries + 1) most kept pages)
    else pages
pages_after keep all device before pages _ = pages

abbrev pub pages_from : ℕ → List Step → List ℕ → List Step → List LogPage → List Step → List LogPage
pages_from keep all device before pages [] = pages
pages_from keep all device before pages (step ∷ steps) =
    pages_from keep all device (before ++ step ∷ []) (pages_after keep all device before pages step) steps

-- the pages that a device took in the first steps of a schedule, of archives that keep their newest `keep` entries
abbrev pub pages_of : ℕ → List Step → List ℕ → List Step → List LogPage
pages_of keep all device steps = pages_from keep all device [] [] steps

-- the line of the report for a message of this device
abbrev pub said_line : List ℕ → List Step → List ℕ → List ℕ → List ℕ → List SaidLine
said_line device before name to text =
    if bytes_eq device name
    then record { epoch = 1; n = sent_by device before + 1; state = Acknowledged; to = to; text = text } ∷ []
    else []

-- the line of the report for each message that the device sent
abbrev pub said_at : List ℕ → List Step → Step → List SaidLine
said_at device before (Say name to text) = said_line device before name to text
said_at device before (Private name to text) = said_line device before name to text
said_at device before _ = []

abbrev pub account_line : ℕ → List Step → List ℕ → AccountView
account_line keep all name =
    let history = archive_of name (takes_of all all) in
    record {
      name = name;
      count = length (newest keep history);
      last = length history;
      entries = map entry_line (newest keep history);
    }

-- the line of a device that took these pages
abbrev pub device_with : List Step → List ℕ → List LogPage → DeviceView
device_with all name pages = record {
  name = name;
  account = home_of all name;
  epoch = 1;
  settled = true;
  said = along (said_at name) [] all;
  refused = [];
  pages = map page_line pages;
  underway = [];
  logged = logged_from 0 pages;
  held = [];
}

abbrev pub device_line : ℕ → List Step → List ℕ → DeviceView
device_line keep all name = device_with all name (pages_of keep all name all)

-- the report of these steps, run directly
abbrev pub report_by : Version → List Step → ReportView
report_by version steps = record {
  version = version;
  wire = false;
  takes = map (take_line version) (takes_of steps steps);
  accounts = map (account_line (keep_of version) steps) (accounts_of steps);
  conns = [];
  devices = map (device_line (keep_of version) steps) (devices_of steps);
}

-- what the direct run of a schedule comes to
unfoldable pub direct_report : ScheduleView → ReportView
direct_report schedule = report_by schedule.version (steps_of schedule.lines)
