use Rattle.std.proofs.Common.{◌≡◌, ◌++◌, List, ℕ, Ok, length, string_bytes, arith, ap, ◌∙◌}
use Rattle.im_jid.specs.Cuts.{local_of, domain_of, resource_of}
use Rattle.im_jid.specs.Forms.{domain_form}
use Rattle.im_jid.specs.Normal.{local_front, resource_back}
use Rattle.im_jid.proofs.NormalAgain.{indexed_from}
use Rattle.im_jid.proofs.address.Jid.parse.Goals as goal

pub invariant_of-result : goal.invariant_of-result
invariant_of-result c =
    let text = c.args.text.now in
    let local = string_bytes c.in_ok-out.out in
    let local_is : local_front (local_of text) ≡ Ok local =
    rw (c.split_local.ensures.local, c.split_resource.ensures.bare) at c.in_ok-out.ensures in
    let domain = c.in_ok-push_domain.ensures in
    let domain_is : domain_form (domain_of text) ≡ Ok domain.0 =
    rw (c.split_local.ensures.domain, c.split_resource.ensures.bare) at domain.1 in
    let resource = c.in_ok-push_slash_and_resource.ensures in
    let resource_is : resource_back (resource_of text) ≡ Ok resource.0 = rw c.split_resource.ensures.resource at resource.1 in
    let bare_text : string_bytes c.push_domain.new.out ≡ local ++ domain.0 = domain.2 in
    let whole_text : c.from.result ≡ local ++ domain.0 ++ resource.0 = c.from.ensures ∙ resource.2 ∙ ap (λ (front : List ℕ). front ++ resource.0) bare_text in
    let starts : c.len-domain_at.result ≡ length local = omega (arith, c.len-domain_at.ensures, c.in_ok-out.out.bytes.ok.0) in
    let ends : c.len-bare_end.result ≡ length (local ++ domain.0) =
    omega (arith, c.len-bare_end.ensures, c.push_domain.new.out.bytes.ok.0, ap length bare_text) in
    indexed_from text local domain.0 resource.0 c.from.result c.len-domain_at.result c.len-bare_end.result c.utf8.text local_is domain_is resource_is whole_text starts ends

pub returns-clause-again : goal.returns-clause-again
returns-clause-again c = (invariant_of-result c).normal_form
