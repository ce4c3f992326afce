use Rattle.xml_framer.proofs.BytesSoFar.{due_after, read_by}
use Rattle.xml_framer.proofs.ItemsBefore.{run_grows}
use Rattle.xml_framer.specs.States.{turn}
use Rattle.xml_framer.proofs.framer.Framer.feed.Goals as goal

pub returns-then-self-clause-due : goal.returns-then-self-clause-due
returns-then-self-clause-due c = run_grows (turn c.args.self.now c.args.items.now.items) c.args.piece.now

pub returns-in-Ok-clause-read : goal.returns-in-Ok-clause-read
returns-in-Ok-clause-read c limits bytes =
    read_by c.outcome.result c.args.self.now c.take_all.new.self c.args.items.now.items c.take_all.new.items.items limits bytes c.args.piece.now
    c.outcome.ensures.ok c.outcome.ensures.fault c.in-Ok.ensures.ok

pub returns-in-Err-clause-read : goal.returns-in-Err-clause-read
returns-in-Err-clause-read c limits bytes = due_after c.args.self.now c.args.items.now.items c.take_all.new.items.items limits bytes c.args.piece.now c.in-Err.ensures.due
