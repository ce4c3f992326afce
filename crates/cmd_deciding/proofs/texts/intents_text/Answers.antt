use Rattle.std.proofs.Common.{ap, ◌∙◌}
use Rattle.cmd_deciding.specs.Texts.{text_of_intents}
use Rattle.cmd_deciding.proofs.Printed.{whole_text}
use Rattle.cmd_deciding.proofs.texts.intents_text.Goals as goal

pub returns : goal.returns
returns c =
    whole_text c.watch.inside.world c.watch.inside.intents.items c.devices.result.now c.as_slice.result.now c.in_ok-out.out.items c.append.new.self.items c.print_all.new.out.items c.append-2.new.self.items
    c.in_ok-out.ensures c.in_ok-append.ensures.ok c.devices.ensures c.as_slice.ensures.value c.in_ok-print_all.ensures c.in_ok-append-2.ensures.ok
    ∙ ap text_of_intents c.watch.view_is
