use Rattle.std.proofs.Common.{List, Ok, ap, ◌∙◌}
use Rattle.cl_core.proofs.PageEnds.{more_moved}
use Rattle.cl_core.specs.Asking.{asks_in}
use Rattle.cl_handlers.specs.Speech.{in_bytes}
use Rattle.cl_handlers.specs.ClientSteps.{with_log}
use Rattle.cl_handlers.specs.Views.{client_step_of}
use Rattle.cl_handlers.specs.declared.events.Event.{Event}
use Rattle.cl_core.proofs.pages.end_and_go_on.Goals as goal

pub returns-in-Ok-More-clause-ok : goal.returns-in-Ok-More-clause-ok
returns-in-Ok-More-clause-ok c = λ page found.
    let u = client_step_of c.make_place.new.state c.make_place.new.out in
    let log = c.fin_then_begin.new.self in
    let told = ap (λ (events : List Event). asks_in in_bytes (record (with_log u log) { out = record u.out { events = events } }) u.client.session c.args.asking.number c.args.asking.stanza.items) c.push_reserved-in-Ok-More.ensures.items in
    more_moved (client_step_of c.args.state.now c.args.out.now) u (client_step_of c.put_page.new.state c.put_page.new.out) log c.args.queryid.now c.args.asking.queryid c.args.fin.now page c.args.asking.number c.args.asking.stanza.items
    c.make_place.ensures.turn c.requires.position found c.requires.number c.requires.queryid c.requires.stanza (rw c.in-Ok-More.field-0-is at c.in-Ok-More.ensures.exact) (c.in-Ok-More.ensures.more (ap Ok c.in-Ok-More.field-0-is)) (c.put_page.ensures.turn ∙ told)
