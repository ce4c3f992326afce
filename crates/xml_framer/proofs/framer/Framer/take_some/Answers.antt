use Rattle.std.proofs.Common.{subst, arith}
use Rattle.std.proofs.lemmas.Bool.Decides.{nat_tests}
use Rattle.xml_framer.proofs.PlainTexts.{none_taken}
use Rattle.xml_framer.specs.Machine.{TakesFront}
use Rattle.xml_framer.specs.States.{turn}
use Rattle.xml_framer.proofs.framer.Framer.take_some.Goals as goal

pub returns-clause-ok : goal.returns-clause-ok
returns-clause-ok c =
    let same = none_taken c.args.self.now c.take_run.new.self c.args.items.now.items c.args.rest.now c.in_ok-taken.taken (c.in_ok-taken.ensures) (grind (arith, nat_tests)) in
    subst (λ u. TakesFront u (turn c.take_first.new.self c.take_first.new.items.items) c.args.rest.now 1) same c.in_ok-take_first.ensures.ok
