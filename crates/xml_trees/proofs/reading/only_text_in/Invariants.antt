use Rattle.std.proofs.Common.{◌≡◌, ◌+◌, ◌++◌, [], drop, is_some, unwrap_or, cond}
use Rattle.std.specs.Option.{option_copied}
use Rattle.xml_trees.specs.Readers.{text_count, text_of}
use Rattle.xml_trees.specs.Views.{nodes_view}
use Rattle.xml_trees.proofs.reading.only_text_in.Given as goal

-- the text so far, and those ahead
abbrev pub invariant-loop-node : goal.invariant-loop-node
invariant-loop-node l = record {
  text : unwrap_or (option_copied l.only) [] ++ text_of (nodes_view (drop l.node-index l.nodes)) ≡ text_of (nodes_view l.nodes);
  count : cond (is_some l.only) 1 0 + text_count (nodes_view (drop l.node-index l.nodes)) ≡ text_count (nodes_view l.nodes);
}
