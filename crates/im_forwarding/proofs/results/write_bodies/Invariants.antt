use Rattle.std.proofs.Common.{◌≡◌, [], ◌++◌, drop}
use Rattle.im_forwarding.specs.Results.{entry_nodes}
use Rattle.im_stanza.specs.Names.{client_ns}
use Rattle.xml_writer.specs.Canon.{written_nodes}
use Rattle.im_forwarding.proofs.results.write_bodies.Given as goal

-- what was written and what is ahead are the whole
abbrev pub invariant-loop-body : goal.invariant-loop-body
invariant-loop-body l = l.out.items ++ written_nodes client_ns (entry_nodes (drop l.body-index l.bodies) []) ≡ l.fn.out.items ++ written_nodes client_ns (entry_nodes l.bodies [])
