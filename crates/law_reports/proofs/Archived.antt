-- The entries of archives and logs, and the pages, can be told in lines.
use Rattle.std.proofs.Common.{ℕ, ◌+◌, ◌-◌, ◌<◌, ◌≤◌, ◌^◌, min, cond, leb, Bool, true, false, List, [], ◌∷◌, Some, None, IfSome, length, take, drop, map, sym, subst, arith}
use Rattle.std.proofs.lemmas.List.{length-drop, length-map, length-take}
use Rattle.std.specs.List.{AllByRecursion, filter}
use Rattle.mam_archive.specs.Entries.{EntryView, numbered}
use Rattle.mam_archive.specs.Ids.{id_of}
use Rattle.base_lemmas.proofs.Lists.{AllByRecursion-weaker}
use Rattle.cmd_direct.proofs.TurnRuns.{each_by, line_entry, lines_by}
use Rattle.cmd_direct.proofs.Turns.{AreRising, Turn, end_of, page_by, pages_by, run_by, rising_bounds, span, start_of}
use Rattle.cmd_direct.specs.Direct.{as_logged}
use Rattle.law_reports.proofs.Declared.{IsTaken}
use Rattle.law_reports.proofs.Fields.{bare_visible, full_visible, id_is, id_visible, origin_visible, text_on_line, visible_field}
use Rattle.cmd_report.specs.Lines.{entry_line, logged_from, page_line}
use Rattle.cmd_report.specs.Takes.{Take, archive_of, concerns, entry_of, numbered_from}
use Rattle.cmd_report.specs.declared.report.LoggedLine.{LoggedLine}
use Rattle.cmd_report_reader.specs.Readable.{IsEntry, IsId, IsNumber, IsPage}
use Rattle.cmd_schedule.proofs.Lists.{all_filter, all_map}

-- ---- entries

-- under each number the entry's line can be told
abbrev IsTold : EntryView → Type 0
IsTold e = (n : ℕ) → IsEntry (entry_line (numbered n e))

taken_told : (take : Take) → IsTaken take → IsTold (entry_of take)
taken_told take is n = record {
  id = visible_field (id_of n) (id_visible n);
  stamp = is.moment;
  from = visible_field _ (full_visible take.account take.device is.account is.device);
  to = visible_field _ (bare_visible take.to is.to);
  origin = visible_field _ (origin_visible take.device take.epoch take.n is.device is.epoch is.n);
  text = text_on_line take.text is.text;
}

abbrev pub IsLined : EntryView → Type 0
IsLined e = IsEntry (entry_line e)

numbered_lined : (n : ℕ) (entries : List EntryView) → AllByRecursion IsTold entries → AllByRecursion IsLined (numbered_from n entries)
numbered_lined n [] told = tt
numbered_lined n (e ∷ entries) told = (told.0 n, numbered_lined (n + 1) entries told.1)

pub archive_lined : (account : List ℕ) (takes : List Take) → AllByRecursion IsTaken takes → AllByRecursion IsLined (archive_of account takes)
archive_lined account takes are =
    let kept : AllByRecursion IsTaken (filter (concerns account) takes) = all_filter IsTaken (concerns account) takes are in
    let told : AllByRecursion (λ t. IsTold (entry_of t)) (filter (concerns account) takes) =
    AllByRecursion-weaker IsTaken (λ t. IsTold (entry_of t)) taken_told (filter (concerns account) takes) kept in
    numbered_lined 1 (map entry_of (filter (concerns account) takes)) (all_map IsTold entry_of (filter (concerns account) takes) told)

-- ---- logs

pub all_unmap : {A B : Type 0} (P : B → Type 0) (f : A → B) (xs : List A) → AllByRecursion P (map f xs) → AllByRecursion (λ x. P (f x)) xs
all_unmap P f [] all = tt
all_unmap P f (x ∷ xs) all = (all.0, all_unmap P f xs all.1)

pub logged_right : (keep : ℕ) (history : List EntryView) (turns : List Turn) → AllByRecursion IsLined history →
    AllByRecursion (λ (l : LoggedLine). IsEntry l.entry) (logged_from 0 (pages_by keep history 0 turns))
logged_right keep history turns are =
    let run = run_by keep history 0 turns in
    let lined : AllByRecursion IsEntry (map entry_line run) = all_map IsEntry entry_line run (each_by IsLined keep 0 history turns are) in
    all_unmap IsEntry line_entry (logged_from 0 (pages_by keep history 0 turns)) (subst (AllByRecursion IsEntry) (sym (lines_by keep 0 0 history turns)) lined)

-- ---- pages

after_right : (purged : Bool) (n : ℕ) → IfSome (cond purged None (Some (id_of n))) IsId
after_right true n = tt
after_right false n = id_is n

total_right : (complete : Bool) (total : ℕ) → total < 2 ^ 64 → IfSome (cond complete (Some total) None) IsNumber
total_right true total low = low
total_right false total low = tt

span_few : (s t : ℕ) (history : List EntryView) → length (span s t history) ≤ length history
span_few s t history = omega (arith, length-take (t - s) (drop s history), length-drop s history)

page_right : (keep n : ℕ) (history : List EntryView) (turn : Turn) → length history ≤ 4294967295 → turn.last ≤ 4294967295 → IsPage (page_line (page_by keep history n turn))
page_right keep n history turn few last =
    let s = start_of keep n turn in
    let t = end_of keep n turn in
    record {
      after = after_right (leb n (turn.last - keep)) n;
      count = omega (arith, few, length-map (span s t history) as_logged, span_few s t history);
      total = total_right (leb (turn.last - s) turn.most) (min turn.last keep) (omega (arith, last));
    }

pub pages_right : (keep n low high : ℕ) (history : List EntryView) (turns : List Turn) → length history ≤ 4294967295 → high ≤ 4294967295 → AreRising low high turns →
    AllByRecursion IsPage (map page_line (pages_by keep history n turns))
pages_right keep n low high history [] few most rise = tt
pages_right keep n low high history (turn ∷ turns) few most rise =
    let last : turn.last ≤ high = rising_bounds turn.last high turns rise.2 in
    (page_right keep n history turn few (omega (arith, last, most)), pages_right keep (end_of keep n turn) turn.last high history turns few most rise.2)
