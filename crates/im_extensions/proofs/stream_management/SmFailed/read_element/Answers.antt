use Rattle.xml_trees.specs.Views.{elem_view}
use Rattle.std.proofs.Common.{◌≡◌, Some, codes, true, rules}
use Rattle.im_extensions.proofs.SmFailedLaws.{failed_named}
use Rattle.im_extensions.proofs.stream_management.SmFailed.read_element.Goals as goal
use Rattle.im_extensions.specs.StreamManagement.{failed_condition, is_management}
use Rattle.im_stanza.specs.Conditions.{condition_named}

pub returns-clause-ok : goal.returns-clause-ok
returns-clause-ok c =
    let e = elem_view c.args.element.now in
    let named : is_management (codes "failed") e ≡ true = search rules in
    let first : failed_condition e ≡ Some c.in-Some.name.now = search rules in
    let is : c.in_ok-condition.condition ≡ condition_named c.in-Some.name.now = search rules in
    failed_named e c.in-Some.name.now c.in_ok-condition.condition named first is
