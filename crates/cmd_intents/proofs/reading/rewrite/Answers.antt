use Rattle.std.proofs.Common.{◌≡◌, ◌∙◌, ◌+◌, ◌++◌, ap, sym, subst, arith, length, [], false, true}
use Rattle.std.proofs.lemmas.List.{nil_from_length}
use Rattle.cmd_schedule.specs.Reading.{Piece, pieces_of}
use Rattle.cmd_intents.specs.Files.{beyond, is_beyond, is_intent, is_resolve, kind_of_line, number_if, within}
use Rattle.cmd_intents.specs.Rewritten.{IsRewritten}
use Rattle.cmd_intents.specs.declared.reading.Rewritten.{Rewritten}
use Rattle.cmd_intents.proofs.Lines.{IsOneMore, beyond_next, beyond_stops, nothing_more, one_more, within_next, within_stops}
use Rattle.cmd_intents.proofs.reading.rewrite.Goals as goal

pub loop-line-preserved : goal.loop-line-preserved
loop-line-preserved c =
    let before = c.loop-line.so_far in
    let i = length before.intents.items in
    let r = length before.resolves.items in
    let found = c.first_line-ended.result in
    let p : Piece = record { bytes = found.0.now; ended = found.1 } in
    let ps = pieces_of found.2.now in
    let now : Rewritten = record c.note.new.so_far { next = c.note.new.so_far.next + 1 } in
    let one : IsOneMore before p now =
    record {
      text = c.in_ok-note.ensures.text ∙ c.in_ok-push_line.ensures;
      next = ap (λ n. n + 1) c.in_ok-note.ensures.next;
      intents = c.in_ok-note.ensures.intents ∙ ap (λ k. before.intents.items ++ number_if (is_intent k) before.next) c.in-Ok.ensures;
      resolves = c.in_ok-note.ensures.resolves ∙ ap (λ k. before.resolves.items ++ number_if (is_resolve k) before.next) c.in-Ok.ensures;
    } in
    let fits : is_beyond i r (kind_of_line p) ≡ false = ap (is_beyond i r) (sym c.in-Ok.ensures) ∙ sym c.is_beyond-stops.ensures ∙ c.if-stops.false in
    record {
      few = omega (arith, c.loop-line.invariant.few, c.first_line-ended.ensures.shorter, c.in_ok-note.ensures.next);
      beyond_is = sym (beyond_next before now p ps one fits) ∙ sym (ap (beyond i r) c.first_line-ended.ensures.pieces) ∙ c.loop-line.invariant.beyond_is;
      told = λ last more.
          c.loop-line.invariant.told last
          (subst (λ ls. IsRewritten before ls last) (sym (ap (within i r) c.first_line-ended.ensures.pieces ∙ within_next before now p ps one fits))
          (one_more before now last p (within (length now.intents.items) (length now.resolves.items) ps) one more));
    }

pub returns-then-stops-clause-rest : goal.returns-then-stops-clause-rest
returns-then-stops-clause-rest c =
    let before = c.loop-line.so_far in
    let i = length before.intents.items in
    let r = length before.resolves.items in
    let found = c.first_line-ended.result in
    let p : Piece = record { bytes = found.0.now; ended = found.1 } in
    let stops : is_beyond i r (kind_of_line p) ≡ true = ap (is_beyond i r) (sym c.in-Ok.ensures) ∙ sym c.is_beyond-stops.ensures ∙ c.if-stops.true in
    c.first_line-ended.ensures.pieces ∙ sym (beyond_stops i r p (pieces_of found.2.now) stops) ∙ sym (ap (beyond i r) c.first_line-ended.ensures.pieces) ∙ c.loop-line.invariant.beyond_is

pub returns-then-stops-clause-ok : goal.returns-then-stops-clause-ok
returns-then-stops-clause-ok c =
    let before = c.loop-line.so_far in
    let i = length before.intents.items in
    let r = length before.resolves.items in
    let found = c.first_line-ended.result in
    let p : Piece = record { bytes = found.0.now; ended = found.1 } in
    let stops : is_beyond i r (kind_of_line p) ≡ true = ap (is_beyond i r) (sym c.in-Ok.ensures) ∙ sym c.is_beyond-stops.ensures ∙ c.if-stops.true in
    c.loop-line.invariant.told before
    (subst (λ ls. IsRewritten before ls before) (sym (ap (within i r) c.first_line-ended.ensures.pieces ∙ within_stops i r p (pieces_of found.2.now) stops)) (nothing_more before))

pub returns-clause-ok : goal.returns-clause-ok
returns-clause-ok c =
    let last = c.loop-line.so_far in
    let none : c.loop-line.rest.now ≡ [] = nil_from_length c.loop-line.rest.now (grind arith) in
    c.loop-line.invariant.told last
    (subst (λ ps. IsRewritten last (within (length last.intents.items) (length last.resolves.items) ps) last) (sym (ap pieces_of none)) (nothing_more last))
