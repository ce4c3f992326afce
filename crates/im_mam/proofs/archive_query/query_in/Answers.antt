use Rattle.xml_trees.specs.Views.{elem_view}
use Rattle.std.proofs.Common.{◌≡◌, true, rules}
use Rattle.im_mam.specs.ArchiveQuery.{form_checks, is_query}
use Rattle.im_payload.specs.Checks.{IsFirstWrong}
use Rattle.im_payload.specs.Faults.{IsFault}
use Rattle.im_mam.proofs.ArchiveQueryLaws.{form_fault}
use Rattle.im_mam.proofs.archive_query.query_in.Goals as goal

pub returns-in-Err-clause-err : goal.returns-in-Err-clause-err
returns-in-Err-clause-err c =
    let e = elem_view c.args.element.now in
    let named : is_query e ≡ true = search rules in
    let wrong : IsFault true (IsFirstWrong (form_checks e)) c.in-Err.fault = search rules in
    form_fault e c.in-Err.fault named wrong
