use Rattle.cmd_deciding.proofs.Named.{named_by_line}
use Rattle.cmd_deciding.proofs.watch.Watch.take_message.Goals as goal

pub submit_new-requires : goal.submit_new-requires
submit_new-requires c =
    named_by_line c.args.line.now.step c.args.self.now.world c.args.device.now c.args.to.now c.args.text.now c.in-Some.index c.args.self.now c.requires.right c.requires.step c.requires.named
