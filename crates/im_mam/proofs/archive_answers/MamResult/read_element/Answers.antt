use Rattle.xml_trees.specs.Views.{elem_view}
use Rattle.std.proofs.Common.{◌≡◌, true, None, IsSome, codes, rules}
use Rattle.im_mam.specs.ArchiveAnswers.{is_result}
use Rattle.im_payload.specs.Checks.{IsFirstWrong}
use Rattle.im_payload.specs.Faults.{IsFault}
use Rattle.im_extensions.specs.Forwarding.{forward_checks, the_forwarded}
use Rattle.im_stanza.specs.Stanzas.{attr_named}
use Rattle.im_mam.proofs.ResultLaws.{inside_fault}
use Rattle.im_mam.proofs.archive_answers.MamResult.read_element.Goals as goal

pub returns-in-Err-clause-err : goal.returns-in-Err-clause-err
returns-in-Err-clause-err c =
    let e = elem_view c.args.element.now in
    let named : is_result e ≡ true = search rules in
    let there : IsSome (attr_named (codes "id") e) = search rules in
    let wrong : IsFault true (IsFirstWrong (forward_checks None (the_forwarded e))) c.in-Err.fault = search rules in
    inside_fault e c.in-Err.fault named there wrong
