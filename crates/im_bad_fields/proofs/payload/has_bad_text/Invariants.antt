use Rattle.std.proofs.Common.{◌≡◌, drop}
use Rattle.base64.specs.GeneralPurpose.{IsBytes}
use Rattle.im_bad_fields.specs.PayloadTexts.{payload_after}
use Rattle.im_bad_fields.specs.declared.payload.PayloadText.TheVariants.{Empty}
use Rattle.xml_trees.specs.Readers.{text_of}
use Rattle.xml_trees.specs.Views.{nodes_view}
use Rattle.im_bad_fields.proofs.payload.has_bad_text.Given as goal

-- what was read so far, and the texts ahead behind it, is what all of the texts are; all are bytes where those ahead are
abbrev pub invariant-loop-node : goal.invariant-loop-node
invariant-loop-node l = record {
  read : payload_after l.payload (text_of (nodes_view (drop l.node-index l.nodes))) ≡ payload_after Empty (text_of (nodes_view l.nodes));
  bytes : IsBytes (text_of (nodes_view (drop l.node-index l.nodes))) → IsBytes (text_of (nodes_view l.nodes));
}
