-- Lines that were written as a schedule has them.
use Rattle.std.specs.Prelude.{◌≡◌, ◌+◌, List, ◌++◌, length}
use Rattle.cmd_schedule.specs.Reading.{Piece}
use Rattle.cmd_intents.specs.Files.{is_intent, is_resolve, numbers_of, text_as_schedule}
use Rattle.cmd_intents.specs.declared.reading.Rewritten.{Rewritten}

-- after what was written before, these lines were
pub record IsRewritten (before : Rewritten) (lines : List Piece) (after : Rewritten) : Type 0 where
  pub text : after.text.items ≡ before.text.items ++ text_as_schedule lines
  pub next : after.next ≡ before.next + length lines
  pub intents : after.intents.items ≡ before.intents.items ++ numbers_of is_intent before.next lines
  pub resolves : after.resolves.items ≡ before.resolves.items ++ numbers_of is_resolve before.next lines
