-- What stays over two calls.
use Rattle.std.proofs.Common.{◌∙◌}
use Rattle.net_traits.specs.Links.{LinkView, ReadsStay, WritesStay}

pub reads_stay : {a b c : LinkView} → ReadsStay a b → ReadsStay b c → ReadsStay a c
reads_stay p q = record { read = q.read ∙ p.read; read_faults = q.read_faults ∙ p.read_faults; ends = q.ends ∙ p.ends }

pub writes_stay : {a b c : LinkView} → WritesStay a b → WritesStay b c → WritesStay a c
writes_stay p q = record { written = q.written ∙ p.written; write_faults = q.write_faults ∙ p.write_faults }
