use Rattle.std.proofs.Common.{◌≡◌, ◌+◌, drop, map, sym, ap, ◌∙◌, arith, rules}
use Rattle.std.proofs.lemmas.List.{at_drop_all, at_drop_more}
use Rattle.im_login.proofs.DiscoveryLaws.{none_more, one_more}
use Rattle.im_login.specs.Discovery.{identity_elems, shown}
use Rattle.xml_trees.specs.Trees.{child, no_nodes, with_nodes}
use Rattle.xml_trees.specs.Views.{elem_view}
use Rattle.im_login.proofs.discovery.push_identities.Goals as goal

pub loop-identity-preserved : goal.loop-identity-preserved
loop-identity-preserved c =
    let e = elem_view c.loop-identity.query in
    let one = elem_view c.in_ok-element.element in
    let i = c.loop-identity.identity-index in
    let more = identity_elems (map shown (drop (i + 1) c.args.identities.now)) in
    let ahead : identity_elems (map shown (drop i c.args.identities.now)) ≡ child one more =
    at_drop_more (λ all. identity_elems (map shown all)) c.args.identities.now i _ (omega arith) ∙ ap (λ x. child x more) (sym c.in_ok-element.ensures) in
    let pushed : elem_view c.push_child.new.self ≡ with_nodes e (child one no_nodes) = search rules in
    ap (λ q. with_nodes q more) pushed ∙ one_more e one more ∙ ap (with_nodes e) (sym ahead) ∙ c.loop-identity.invariant

pub returns : goal.returns
returns c =
    let e = elem_view c.loop-identity.query in
    let none = at_drop_all (λ all. identity_elems (map shown all)) c.args.identities.now c.loop-identity.identity-index (omega arith) in
    sym (none_more e) ∙ ap (with_nodes e) (sym none) ∙ c.loop-identity.invariant
