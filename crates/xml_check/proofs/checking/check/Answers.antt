use Rattle.xml_check.proofs.Telling.{end_told, over_told}
use Rattle.xml_check.proofs.checking.check.Goals as goal

pub returns-then-branch : goal.returns-then-branch
returns-then-branch c =
    over_told c.in_ok-tell_pieces.field-0 c.new-framer.result c.tell_pieces.new.framer c.server.result c.new-text.result.items c.args.input.now
    c.tell_pieces.new.text.items c.new-framer.ensures.machine c.server.ensures c.new-text.ensures c.if-branch.true c.in_ok-tell_pieces.ensures.told

pub returns : goal.returns
returns c =
    end_told c.in_ok-tell_pieces.field-0 c.in_ok-sound.sound c.new-framer.result c.tell_pieces.new.framer c.server.result c.new-text.result.items c.args.input.now
    c.tell_pieces.new.text.items c.tell_end.new.text.items c.new-framer.ensures.machine c.server.ensures c.new-text.ensures c.if-branch.false
    c.in_ok-tell_pieces.ensures.told c.in_ok-sound.ensures
