-- One result more stands in the open page.
use Rattle.std.proofs.Common.{arith}
use Rattle.cmd_direct.specs.NextPages.{kept_after, last_logged}
use Rattle.cmd_replay.proofs.PageEnds.{no_results, number_at, page_has_room, result_taken, results_taken}
use Rattle.cmd_replay.proofs.run.pages.add_results.Goals as goal

pub loop-number-init : goal.loop-number-init
loop-number-init c = no_results c.args.log.now

pub add_result-requires-clause-open : goal.add_result-requires-clause-open
add_result-requires-clause-open c =
    let position = number_at c.args.archive.now.keep (last_logged c.args.log.now.entries) c.args.archive.now.last c.args.most c.loop-number.number-index c.args.archive.now.entries c.args.numbers.now
    c.requires.kept c.requires.next c.loop-number-test.true in
    page_has_room c.args.queryid.now c.args.most c.loop-number.number-index c.args.log.now c.loop-number.log
    (kept_after (last_logged c.args.log.now.entries) c.args.archive.now.last c.args.archive.now.entries) position.1 c.requires.begun c.loop-number.invariant

pub add_result-requires-clause-there : goal.add_result-requires-clause-there
add_result-requires-clause-there c =
    let position = number_at c.args.archive.now.keep (last_logged c.args.log.now.entries) c.args.archive.now.last c.args.most c.loop-number.number-index c.args.archive.now.entries c.args.numbers.now
    c.requires.kept c.requires.next c.loop-number-test.true in
    (omega (arith, position.0, position.2, c.requires.kept.within), omega (arith, position.0, position.2, c.requires.kept.within))

pub loop-number-preserved : goal.loop-number-preserved
loop-number-preserved c =
    result_taken c.args.archive.now.keep (last_logged c.args.log.now.entries) c.args.archive.now.last c.args.most c.loop-number.number-index c.args.archive.now.entries c.args.numbers.now
    c.args.log.now c.loop-number.log c.add_result.new.log c.requires.kept c.requires.next c.loop-number-test.true c.loop-number.invariant c.in_ok-add_result.ensures

pub returns : goal.returns
returns c =
    results_taken (last_logged c.args.log.now.entries) c.args.archive.now.last c.args.most c.loop-number.number-index c.args.archive.now.entries c.args.numbers.now
    c.args.log.now c.loop-number.log c.requires.next (omega arith) c.loop-number.invariant
