use Rattle.xml_framer.proofs.PlainTags.{goes_on_after}
use Rattle.xml_framer.proofs.many_bytes.tag_front.Goals as goal

pub loop-done-preserved : goal.loop-done-preserved
loop-done-preserved c =
    goes_on_after c.args.quote c.loop-done.open c.part_front-len.result.1 c.args.bytes.now c.loop-done.done c.part_front-len.result.0 c.loop-done.invariant c.part_front-len.ensures
