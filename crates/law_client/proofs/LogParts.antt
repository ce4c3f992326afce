-- What a row does to the log, but for a page that it begins.
use Rattle.std.proofs.Common.{◌≡◌, ℕ, false, List, Some, Ok, length, nat_le}
use Rattle.mam_log.specs.LogCalls.{after_hold, with_restart}
use Rattle.mam_log.specs.Views.{LogView, OpenPage, after_fin, end_of, with_result, without_page}
use Rattle.mam_log.specs.declared.fin.PageOutcome.{PageOutcome}
use Rattle.mam_log.specs.declared.log_entry.LogEntry.{LogEntry}
use Rattle.mam_pages.specs.declared.fin.Fin.{Fin}

pub data LogPart (old new : LogView) : Type 0 where
  adds : (page : OpenPage) (entry : LogEntry) → old.page ≡ Some page → nat_le page.max (length page.results) ≡ false → new ≡ with_result old entry → LogPart old new
  breaks_off : new ≡ without_page old → LogPart old new
  holds : (live : LogEntry) → new ≡ after_hold old live → LogPart old new
  takes : (page : OpenPage) (fin : Fin) (outcome : PageOutcome) → old.page ≡ Some page → end_of old page fin ≡ Ok outcome → new ≡ after_fin old fin → LogPart old new
  asks_anew : (queryid : List ℕ) → new ≡ with_restart old queryid → LogPart old new
