use Rattle.std.proofs.Common.{◌≡◌, ◌++◌, drop}
use Rattle.im_forwarding.specs.Parts.{kept_text}
use Rattle.xml_trees.specs.Views.{nodes_view}
use Rattle.im_forwarding.proofs.passing.write_kept.Given as goal

-- what was written and what is ahead are the whole
abbrev pub invariant-loop-node : goal.invariant-loop-node
invariant-loop-node l = l.out.items ++ kept_text l.by (nodes_view (drop l.node-index l.payload)) ≡ l.fn.out.items ++ kept_text l.by (nodes_view l.payload)
