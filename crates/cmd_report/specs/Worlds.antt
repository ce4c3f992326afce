-- What the archives and the logs are at one moment of a run.
use Rattle.std.specs.Prelude.{ℕ, List}
use Rattle.mam_archive.specs.Entries.{EntryView}
use Rattle.mam_log.specs.LogPages.{LogPage}

-- the archives and logs at one moment: of an account its entries; of a device the pages that it took over, and
-- how many these are with the one that is under way, so that a page counts as asked for from the move that began it
pub record ReportWorld : Type 0 where
  pub archive : List ℕ → List EntryView
  pub pages : List ℕ → List LogPage
  pub asked : List ℕ → ℕ
