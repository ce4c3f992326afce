use Rattle.std.proofs.Common.{Bor, ◌≡◌, Some, ap, sym, ◌∙◌}
use Rattle.std.proofs.lemmas.Option.{slice_get-get_or, slice_get_past}
use Rattle.std.specs.Prelude.{slice_get}
use Rattle.cl_intents.specs.Intents.{intent_under}
use Rattle.cl_intents.specs.declared.intents.Intent.{Intent}
use Rattle.cmd_deciding.proofs.Named.{if_named, named_there}
use Rattle.cmd_deciding.proofs.Rooms.{no_intent_there}
use Rattle.cmd_deciding.proofs.lists.intent_at.Goals as goal

pub returns-in-Some-clause-named : goal.returns-in-Some-clause-named
returns-in-Some-clause-named c =
    let vs = c.args.intents.now in
    let v = c.in-Some.intents.now in
    let at = c.in-Some.ensures.lookup.3 in
    let there : slice_get vs c.args.index ≡ Some v = slice_get-get_or vs c.args.index v at.0 ∙ ap Some (sym (at.1 v)) in
    if_named c.get-in-Some.result (λ (i : Bor Intent). i.now) (intent_under c.args.intent v.intents) c.get-in-Some.ensures (λ i is. named_there vs c.args.index c.args.intent v i c.requires there is)

pub returns-in-None-clause-exact : goal.returns-in-None-clause-exact
returns-in-None-clause-exact c = sym (no_intent_there c.args.intents.now c.args.index c.args.intent (slice_get_past c.args.intents.now c.args.index c.in-None.ensures.lookup.3))
