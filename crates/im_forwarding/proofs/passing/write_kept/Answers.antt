use Rattle.std.proofs.Common.{◌≡◌, ◌+◌, ◌∷◌, ◌++◌, drop, sym, ap, ◌∙◌, append_assoc}
use Rattle.std.proofs.lemmas.List.{drop_more}
use Rattle.im_forwarding.specs.Parts.{kept_text}
use Rattle.im_forwarding.proofs.KeptNodes.{kept_text_joined}
use Rattle.xml_trees.specs.Views.{node_view, nodes_view}
use Rattle.im_forwarding.proofs.passing.write_kept.Goals as goal

pub loop-node-preserved : goal.loop-node-preserved
loop-node-preserved c =
    let nodes = c.args.payload.now in
    let by = c.args.by.now in
    let i = c.loop-node.node-index in
    let node = c.node-item.result in
    let rest = drop (i + 1) nodes in
    let old = c.loop-node.out.items in
    let ahead : drop i nodes ≡ node ∷ rest = drop_more nodes i node c.loop-node-test.true ∙ ap (λ n. n ∷ rest) (sym c.node-item.is) in
    ap (λ out. out ++ kept_text by (nodes_view rest)) c.in_ok-write_kept_node.ensures
    ∙ append_assoc old (kept_text by (node_view node)) (kept_text by (nodes_view rest))
    ∙ ap (λ text. old ++ text) (sym (kept_text_joined by (node_view node) (nodes_view rest)))
    ∙ ap (λ ks. old ++ kept_text by (nodes_view ks)) (sym ahead)
    ∙ c.loop-node.invariant
