use Rattle.std.proofs.Common.{◌≡◌, true, sym, ◌∙◌}
use Rattle.cmd_sync.proofs.Spoken.{spoken_more, talk_stops}
use Rattle.cmd_sync.proofs.Totals.{round_few}
use Rattle.cmd_sync.specs.Courses.{is_awaiting}
use Rattle.cmd_sync.specs.Views.{course_of, course_step_of}
use Rattle.cmd_sync.proofs.talk.converse.Goals as goal

pub loop-alloc-preserved : goal.loop-alloc-preserved
loop-alloc-preserved g c =
    let told = g.L.Link.told in
    let before = course_of c.loop-alloc.course in
    let after = course_of c.exchange.new.course in
    let awaited : is_awaiting c.loop-alloc.course.stage ≡ true = sym c.is_awaiting.ensures ∙ c.loop-alloc-test.true in
    let round = c.in-Ok.ensures.ok in
    record {
      spoken = spoken_more (course_step_of c.args.course.now c.args.first.now) (told c.args.link.now) (told c.loop-alloc.link) (told c.exchange.new.link) before after c.loop-alloc.invariant.spoken round;
      few = λ still. round_few before after round.piece awaited round.course still;
    }

pub returns-in-Err-exchange-clause-err : goal.returns-in-Err-exchange-clause-err
returns-in-Err-exchange-clause-err g c =
    let told = g.L.Link.told in
    let before = course_of c.loop-alloc.course in
    let awaited : is_awaiting c.loop-alloc.course.stage ≡ true = sym c.is_awaiting.ensures ∙ c.loop-alloc-test.true in
    talk_stops (course_step_of c.args.course.now c.args.first.now) (told c.args.link.now) (told c.loop-alloc.link) (told c.exchange.new.link) before c.in-Err-exchange.stop c.loop-alloc.invariant.spoken awaited c.in-Err-exchange.ensures.err
