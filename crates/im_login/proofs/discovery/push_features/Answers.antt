use Rattle.std.proofs.Common.{◌≡◌, ◌+◌, drop, map, sym, ap, ◌∙◌, arith, rules}
use Rattle.std.proofs.lemmas.List.{at_drop_all, at_drop_more}
use Rattle.im_login.proofs.DiscoveryLaws.{none_more, one_more}
use Rattle.im_login.specs.Discovery.{feature_elems, word}
use Rattle.xml_trees.specs.Trees.{child, no_nodes, with_nodes}
use Rattle.xml_trees.specs.Views.{elem_view}
use Rattle.im_login.proofs.discovery.push_features.Goals as goal

pub loop-feature-preserved : goal.loop-feature-preserved
loop-feature-preserved c =
    let e = elem_view c.loop-feature.query in
    let one = elem_view c.in_ok-element.element in
    let i = c.loop-feature.feature-index in
    let more = feature_elems (map word (drop (i + 1) c.args.features.now)) in
    let ahead : feature_elems (map word (drop i c.args.features.now)) ≡ child one more =
    at_drop_more (λ all. feature_elems (map word all)) c.args.features.now i _ (omega arith) ∙ ap (λ x. child x more) (sym c.in_ok-element.ensures) in
    let pushed : elem_view c.push_child.new.self ≡ with_nodes e (child one no_nodes) = search rules in
    ap (λ q. with_nodes q more) pushed ∙ one_more e one more ∙ ap (with_nodes e) (sym ahead) ∙ c.loop-feature.invariant

pub returns : goal.returns
returns c =
    let e = elem_view c.loop-feature.query in
    let none = at_drop_all (λ all. feature_elems (map word all)) c.args.features.now c.loop-feature.feature-index (omega arith) in
    sym (none_more e) ∙ ap (with_nodes e) (sym none) ∙ c.loop-feature.invariant
