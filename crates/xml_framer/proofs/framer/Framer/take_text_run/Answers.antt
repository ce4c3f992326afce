use Rattle.std.proofs.Common.{arith}
use Rattle.std.proofs.lemmas.Bool.Decides.{nat_tests}
use Rattle.xml_framer.proofs.PlainTexts.{text_run_taken}
use Rattle.xml_framer.proofs.framer.Framer.take_text_run.Goals as goal

pub returns : goal.returns
returns c =
    text_run_taken c.args.self.now c.take_text.new.self c.args.bytes.now c.within.result.now c.plain_text-text.result.now c.requires c.within.ensures.front c.within.ensures.bound
    c.plain_text-text.ensures.front c.plain_text-text.ensures.bound (grind (arith, nat_tests)) c.within.ensures.room c.plain_text-text.ensures.plain c.plain_text-text.utf8 c.in_ok-take_text.ensures
