-- What clauses see of a device in a run.
use Rattle.std.specs.Prelude.{ℕ, List, [], None}
use Rattle.base_io.specs.Listed.{Listed}
use Rattle.mam_log.specs.Views.{LogView}
use Rattle.cmd_report.specs.declared.report.SaidLine.{SaidLine}

-- its name, its account and that account's place, what it said, and its log
pub record DeviceState : Type 0 where
  pub name : List ℕ
  pub account : List ℕ
  pub home : ℕ
  pub said : Listed SaidLine
  pub log : LogView

-- a log before its first page
abbrev pub empty_log : LogView
empty_log = record { entries = []; tiles = []; page = None; held = [] }
