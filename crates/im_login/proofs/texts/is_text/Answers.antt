use Rattle.std.proofs.Common.{◌≡◌, ◌+◌, ◌++◌, drop, sym, ap, ◌∙◌, arith, rules}
use Rattle.std.proofs.lemmas.List.{at_drop_more}
use Rattle.std.specs.Str.{bytes_eq}
use Rattle.im_login.proofs.TextSteps.{cut_front}
use Rattle.xml_trees.proofs.Folds.{node_view_child, node_view_text}
use Rattle.xml_trees.specs.Readers.{text_of}
use Rattle.xml_trees.specs.Trees.{joined}
use Rattle.xml_trees.specs.Views.{node_view, nodes_view}
use Rattle.im_login.proofs.texts.is_text.Goals as goal
use Rattle.im_login.proofs.texts.is_text.Goals.{in-Text+in-Some, in_default}

pub loop-node-preserved : goal.loop-node-preserved
loop-node-preserved c =
    let i = c.loop-node.node-index in
    let following = nodes_view (drop (i + 1) c.args.nodes.now) in
    let more = text_of following in
    let ahead = at_drop_more (λ all. text_of (nodes_view all)) c.args.nodes.now i c.node-item.result (omega arith) ∙ ap (λ n. text_of (joined (node_view n) following)) (sym c.node-item.is) in
    elim c.match-node.branch [
      | in-Text+in-Some w ↦
          let text = ap (λ n. text_of (joined (node_view n) following)) w.in-Text.is ∙ ap (λ n. text_of (joined n following)) (node_view_text w.in-Text.text) in
          let cut : c.loop-node.rest.now ≡ w.in-Text.text ++ w.in-Some.bytes.now = search rules in
          let rest : c.match-node.rest.now ≡ w.in-Some.bytes.now = search rules in
          ap (bytes_eq more) rest ∙ sym (cut_front w.in-Text.text more w.in-Some.bytes.now c.loop-node.rest.now cut) ∙ ap (λ t. bytes_eq t c.loop-node.rest.now) (sym (ahead ∙ text)) ∙ c.loop-node.invariant
      | in_default w ↦
          let text = ap (λ n. text_of (joined (node_view n) following)) w.in_default.is ∙ ap (λ n. text_of (joined n following)) (node_view_child w.in_default.field-0) in
          let rest : c.match-node.rest.now ≡ c.loop-node.rest.now = search rules in
          ap (bytes_eq more) rest ∙ ap (λ t. bytes_eq t c.loop-node.rest.now) (sym (ahead ∙ text)) ∙ c.loop-node.invariant
    ]
