use Rattle.xml_trees.specs.Views.{elem_view}
use Rattle.std.proofs.Common.{◌≡◌, true, codes, IsSome, rules}
use Rattle.im_payload.specs.Faults.{IsFault}
use Rattle.im_login.specs.Sasl.{CarrierLacks, is_sasl, mechanism_of}
use Rattle.im_login.proofs.SaslLaws.{auth_fault}
use Rattle.im_login.proofs.sasl.Auth.read_element.Goals as goal

pub returns-in-Err-clause-err : goal.returns-in-Err-clause-err
returns-in-Err-clause-err c =
    let e = elem_view c.args.element.now in
    let named : is_sasl (codes "auth") e ≡ true = search rules in
    let chosen : IsSome (mechanism_of e) = search rules in
    let lacks : IsFault true (CarrierLacks e) c.in-Err.fault = search rules in
    auth_fault e c.in-Err.fault named chosen lacks
