use Rattle.std.proofs.Common.{◌≡◌, length, arith}
use Rattle.std.proofs.lemmas.Bool.Decides.{nat_tests}
use Rattle.im_payload.proofs.Written.{none_added}
use Rattle.im_payload.proofs.writers.push_text_child_where.Goals as goal
use Rattle.xml_trees.specs.Views.{elem_view}

pub returns-then-is_empty-clause-ok : goal.returns-then-is_empty-clause-ok
returns-then-is_empty-clause-ok c =
    let empty : length c.args.text.now ≡ 0 = grind (arith, nat_tests) in
    none_added (elem_view c.args.element.now) c.args.ns.now c.args.name.now c.args.text.now empty
