-- Lines that are written one after another.
use Rattle.std.proofs.Common.{◌≡◌, ◌+◌, List, [], ◌∷◌, ◌++◌, sym, ap, ◌∙◌, append_assoc, arith}
use Rattle.std.proofs.lemmas.List.{append-nil}
use Rattle.cmd_restarts.specs.Files.{is_restart, line_as_schedule, number_if, numbers_of, text_as_schedule}
use Rattle.cmd_restarts.specs.Rewritten.{IsRewritten}
use Rattle.cmd_restarts.specs.declared.reading.Rewritten.{Rewritten}
use Rattle.cmd_schedule.specs.Reading.{Piece}

pub nothing_more : (so_far : Rewritten) → IsRewritten so_far [] so_far
nothing_more so_far = record {
  text = sym (append-nil so_far.text.items);
  next = omega arith;
  restarts = sym (append-nil so_far.restarts.items);
}

-- a line, and then others
pub one_more : (before now after : Rewritten) (p : Piece) (lines : List Piece) → now.text.items ≡ before.text.items ++ line_as_schedule p → now.next ≡ before.next + 1 → now.restarts.items ≡ before.restarts.items ++ number_if (is_restart p) before.next
    → IsRewritten now lines after → IsRewritten before (p ∷ lines) after
one_more before now after p lines text next noted more = record {
  text = more.text ∙ ap (λ l. l ++ text_as_schedule lines) text ∙ append_assoc before.text.items (line_as_schedule p) (text_as_schedule lines);
  next = (let rest = more.next in omega (arith, next, rest));
  restarts =
      more.restarts ∙ ap (λ l. l ++ numbers_of now.next lines) noted ∙ append_assoc before.restarts.items (number_if (is_restart p) before.next) (numbers_of now.next lines)
      ∙ ap (λ k. before.restarts.items ++ (number_if (is_restart p) before.next ++ numbers_of k lines)) next;
}
