use Rattle.std.proofs.Common.{◌≡◌, drop}
use Rattle.std.specs.Str.{bytes_eq}
use Rattle.xml_trees.specs.Readers.{text_of}
use Rattle.xml_trees.specs.Views.{nodes_view}
use Rattle.im_login.proofs.texts.is_text.Given as goal

-- the texts ahead are the rest
abbrev pub invariant-loop-node : goal.invariant-loop-node
invariant-loop-node l = bytes_eq (text_of (nodes_view (drop l.node-index l.nodes))) l.rest ≡ bytes_eq (text_of (nodes_view l.nodes)) l.expected
