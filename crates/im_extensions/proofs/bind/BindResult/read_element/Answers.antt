use Rattle.xml_trees.specs.Views.{elem_view}
use Rattle.std.proofs.Common.{◌≡◌, Ok, Some, codes, true, rules}
use Rattle.im_extensions.proofs.bind.BindResult.read_element.Goals as goal
use Rattle.im_extensions.specs.Bind.{is_bind}
use Rattle.im_payload.specs.Names.{binding}
use Rattle.im_payload.specs.Shapes.{child_text}
use Rattle.im_jid.specs.Normal.{normal}

pub returns-in-Ok-clause-ok : goal.returns-in-Ok-clause-ok
returns-in-Ok-clause-ok c =
    let e = elem_view c.args.element.now in
    let named : is_bind e ≡ true = search rules in
    let there : child_text binding (codes "jid") e ≡ Some c.as_str.result.now = search rules in
    let jid : normal c.as_str.result.now ≡ Ok c.in-Ok.jid = search rules in
    let stays : normal c.in-Ok.jid ≡ Ok c.in-Ok.jid = search rules in
    record { named = named; spelled = c.as_str.result.now; there = there; jid = jid; stays = stays }
