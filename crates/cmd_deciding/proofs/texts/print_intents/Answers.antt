use Rattle.cmd_deciding.proofs.Printed.{next_text}
use Rattle.cmd_deciding.proofs.texts.print_intents.Goals as goal

pub loop-index-preserved : goal.loop-index-preserved
loop-index-preserved c =
    next_text c.args.name.now c.args.intents.now.full c.args.intents.now.sure c.args.client.now.client c.loop-index.index c.args.intents.now.intents c.loop-index.out.items c.print_one.new.out.items _
    c.in_ok-print_one.ensures c.loop-index.invariant
