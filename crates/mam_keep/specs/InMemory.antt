-- Keepers in memory: all appends that were committed to them, and what these come to.
use Rattle.std.specs.Prelude.{ℕ, List, []}
use Rattle.std.specs.List.{AllByRecursion}
use Rattle.base_io.specs.InMemory.{FailingCallsView}
use Rattle.mam_keep.specs.Changes.{AppendView, ChangeView, MayAppend, Rise, after}
use Rattle.mam_keep.specs.Kept.{Tables, blank}

-- what was committed as one change, the appends of all commits in order; and which calls fail
pub record MemoryKeeperView : Type 0 where
  pub committed : ChangeView
  pub failing : FailingCallsView

-- appends that may have been committed one after the other: each may, and the numbers of an account rise from 0
pub record AreCommitted (appends : List AppendView) : Type 0 where
  pub each : AllByRecursion MayAppend appends
  pub rise : (owner : List ℕ) → Rise owner appends 0

-- what is kept of what was committed
abbrev pub tables_after : ChangeView → Tables
tables_after c = record { session = c.session; table = λ owner. after owner c.appends blank }

-- no entry, and the session number 1
abbrev pub nothing_committed : ChangeView
nothing_committed = record { session = 1; appends = [] }
