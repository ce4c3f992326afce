use Rattle.std.proofs.Common.{◌≡◌, ◌∙◌, not, [], drop, sym, ap, subst, arith, rules}
use Rattle.std.proofs.lemmas.List.{drop_all}
use Rattle.base64.specs.GeneralPurpose.{IsBytes}
use Rattle.auth_primitives.proofs.ByteSteps.{IsBytes-nil}
use Rattle.im_bad_fields.specs.PayloadTexts.{payload_after, payload_may_end}
use Rattle.im_bad_fields.specs.declared.payload.PayloadText.TheVariants.{Empty}
use Rattle.auth_primitives.proofs.TextRuns.{IsBytes-from_utf8}
use Rattle.im_bad_fields.proofs.PayloadRuns.{node_bytes, node_read, text_bad}
use Rattle.im_bad_fields.proofs.payload.has_bad_text.Goals as goal
use Rattle.im_bad_fields.proofs.payload.has_bad_text.Goals.{in-Text, in_default}
use Rattle.xml_trees.specs.declared.elements.Node.{the_lemmas}
use Rattle.xml_trees.specs.Readers.{text_of}
use Rattle.xml_trees.specs.Views.{node_view, nodes_view}

pub loop-node-preserved : goal.loop-node-preserved
loop-node-preserved c =
    let nodes = c.args.nodes.now in
    let i = c.loop-node.node-index in
    let node = c.node-item.result in
    let p = c.loop-node.payload in
    elim c.match-node.branch [
      | in-Text w ↦
          let t = w.as_bytes.result.now in
          let here : text_of (node_view node) ≡ t = search (rules, the_lemmas) in
          let fits : IsBytes t = IsBytes-from_utf8 t w.as_bytes.ensures.utf8 in
          record {
            read = node_read p c.match-node.payload t nodes i node c.loop-node-test.true c.node-item.is here (w.payload-is ∙ w.followed_by_all-payload.ensures) ∙ c.loop-node.invariant.read;
            bytes = λ ahead. c.loop-node.invariant.bytes (node_bytes t nodes i node c.loop-node-test.true c.node-item.is here fits ahead);
          }
      | in_default w ↦
          let here : text_of (node_view node) ≡ [] = search (rules, the_lemmas) in
          record {
            read = node_read p c.match-node.payload [] nodes i node c.loop-node-test.true c.node-item.is here w.payload-is ∙ c.loop-node.invariant.read;
            bytes = λ ahead. c.loop-node.invariant.bytes (node_bytes [] nodes i node c.loop-node-test.true c.node-item.is here IsBytes-nil ahead);
          }
    ]

pub returns : goal.returns
returns c =
    let nodes = c.args.nodes.now in
    let i = c.loop-node.node-index in
    let none : drop i nodes ≡ [] = drop_all i nodes (omega arith) in
    let fits : IsBytes (text_of (nodes_view nodes)) = c.loop-node.invariant.bytes (subst (λ ns. IsBytes (text_of (nodes_view ns))) (sym none) IsBytes-nil) in
    let read : c.loop-node.payload ≡ payload_after Empty (text_of (nodes_view nodes)) =
    sym (ap (λ ns. payload_after c.loop-node.payload (text_of (nodes_view ns))) none) ∙ c.loop-node.invariant.read in
    ap not (c.is_complete.ensures ∙ ap payload_may_end read) ∙ sym (text_bad (text_of (nodes_view nodes)) fits)
