use Rattle.std.proofs.Common.{◌≡◌, ◌∙◌, ◌+◌, ◌++◌, ap, sym, subst, arith, [], refl}
use Rattle.std.proofs.lemmas.List.{nil_from_length}
use Rattle.cmd_schedule.specs.Reading.{Piece, pieces_of}
use Rattle.cmd_restarts.specs.Files.{number_if}
use Rattle.cmd_restarts.specs.Rewritten.{IsRewritten}
use Rattle.cmd_restarts.specs.declared.reading.Rewritten.{Rewritten}
use Rattle.cmd_restarts.proofs.Lines.{nothing_more, one_more}
use Rattle.cmd_restarts.proofs.reading.rewrite.Goals as goal

pub loop-rest-preserved : goal.loop-rest-preserved
loop-rest-preserved c =
    let before = c.loop-rest.so_far in
    let found = c.first_line-ended.result in
    let p : Piece = record { bytes = found.0.now; ended = found.1 } in
    let now : Rewritten = record { text = c.push_line.new.text; next = before.next + 1; restarts = c.note.new.restarts } in
    record {
      few = omega (arith, c.loop-rest.invariant.few, c.first_line-ended.ensures.shorter);
      told = λ last more.
          c.loop-rest.invariant.told last
          (subst (λ ps. IsRewritten before ps last) (sym c.first_line-ended.ensures.pieces)
          (one_more before now last p (pieces_of found.2.now) c.in_ok-push_line.ensures refl
          (c.in_ok-note.ensures ∙ ap (λ is. before.restarts.items ++ number_if is before.next) c.is_restart.ensures) more));
    }

pub returns : goal.returns
returns c =
    let last = c.loop-rest.so_far in
    let none : c.loop-rest.rest.now ≡ [] = nil_from_length c.loop-rest.rest.now (grind arith) in
    c.loop-rest.invariant.told last (subst (λ ps. IsRewritten last ps last) (sym (ap pieces_of none)) (nothing_more last))
