-- Lines that were written as a schedule has them.
use Rattle.std.specs.Prelude.{◌≡◌, ◌+◌, List, ◌++◌, length}
use Rattle.cmd_schedule.specs.Reading.{Piece}
use Rattle.cmd_restarts.specs.Files.{numbers_of, text_as_schedule}
use Rattle.cmd_restarts.specs.declared.reading.Rewritten.{Rewritten}

-- after what was written before, these lines were
pub record IsRewritten (before : Rewritten) (lines : List Piece) (after : Rewritten) : Type 0 where
  pub text : after.text.items ≡ before.text.items ++ text_as_schedule lines
  pub next : after.next ≡ before.next + length lines
  pub restarts : after.restarts.items ≡ before.restarts.items ++ numbers_of before.next lines
