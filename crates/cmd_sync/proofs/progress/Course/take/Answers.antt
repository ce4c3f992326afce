use Rattle.cl_core.specs.Values.{fed_of}
use Rattle.cmd_sync.proofs.Stands.{take_all}
use Rattle.cmd_sync.specs.Views.{course_of, course_step_of}
use Rattle.cmd_sync.proofs.progress.Course.take.Goals as goal

pub returns : goal.returns
returns c =
    take_all (course_of c.args.self.now) c.args.piece.now (fed_of c.args.self.now.client c.nothing-out.result) (fed_of c.bytes.new.self c.bytes.new.out)
    (course_step_of c.judge.new.self c.judge.new.out.bytes.items) c.requires.awaited (c.nothing-out.ensures c.args.self.now.client) c.in_ok-bytes.ensures.ok c.in_ok-judge.ensures
