use Rattle.std.proofs.Common.{◌≡◌, ◌++◌, List, ℕ, [], ap, ◌∙◌}
use Rattle.im_jid.specs.Cuts.{bare_of}
use Rattle.im_jid.proofs.NormalAgain.{with_resource_err, with_resource_indexed, with_resource_ok}
use Rattle.im_jid.proofs.address.Jid.with_resource.Goals as goal

pub returns-in_err-push_slash_and_resource : goal.returns-in_err-push_slash_and_resource
returns-in_err-push_slash_and_resource c =
    let h = c.from_residual-in_err-push_slash_and_resource.ensures in
    with_resource_err c.args.self.now c.args.resource.now [] [] _ c.from_residual-in_err-push_slash_and_resource.result h c.bare-bare.ensures.normal c.in_err-push_slash_and_resource.ensures

pub invariant_of-result : goal.invariant_of-result
invariant_of-result c =
    let part = c.in_ok-push_slash_and_resource.ensures in
    let bare = c.in_ok-out.ensures.ok ∙ c.bare-bare.ensures.bare in
    let whole : c.from.result ≡ bare_of c.args.self.now ++ part.0 =
    c.from.ensures ∙ part.2 ∙ ap (λ (t : List ℕ). t ++ part.0) bare in
    rw (whole, ← c.self.view_is)
    (with_resource_indexed c.self.inside.text c.args.resource.now part.0 _ _ c.utf8.resource c.self.invariant part.1)

pub returns : goal.returns
returns c =
    let part = c.in_ok-push_slash_and_resource.ensures in
    let bare = c.in_ok-out.ensures.ok ∙ c.bare-bare.ensures.bare in
    let whole : c.from.result ≡ bare_of c.args.self.now ++ part.0 =
    c.from.ensures ∙ part.2 ∙ ap (λ (t : List ℕ). t ++ part.0) bare in
    rw whole (with_resource_ok c.args.self.now c.args.resource.now part.0 c.bare-bare.ensures.normal part.1)
