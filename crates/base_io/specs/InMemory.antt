-- Sources and sinks in memory: what clauses see of them, and what a call does to them.
use Rattle.std.specs.Prelude.{ℕ, List}
use Rattle.base_io.specs.Counts.{counted}

-- the calls made so far, the numbers of those that fail, from 1, and how many failed
pub record FailingCallsView : Type 0 where
  pub calls : ℕ
  pub fails : List ℕ
  pub faults : ℕ

-- a source that gave bytes and has bytes left to give, at most `step` a call
pub record MemorySourceView : Type 0 where
  pub given : List ℕ
  pub left : List ℕ
  pub step : ℕ
  pub failing : FailingCallsView

-- a sink that took bytes, at most `step` a call
pub record MemorySinkView : Type 0 where
  pub written : List ℕ
  pub step : ℕ
  pub failing : FailingCallsView

-- nothing was called yet
abbrev pub not_called : List ℕ → FailingCallsView
not_called fails = record { calls = 0; fails = fails; faults = 0 }

-- one more call
abbrev pub called : FailingCallsView → FailingCallsView
called view = record view { calls = counted view.calls }

-- one more call failed
abbrev pub failed : FailingCallsView → FailingCallsView
failed view = record view { faults = counted view.faults }
