use Rattle.std.proofs.Common.{arith}
use Rattle.xml_tokens.proofs.Going.{ends_are}
use Rattle.xml_tokens.proofs.references.ends_forbidden_after.Goals as goal

pub returns-in-len2-up : goal.returns-in-len2-up
returns-in-len2-up c =
    let ends = ends_are 0 0 c.args.bytes.now (omega arith) in
    rw (ends.first, ends.second) c.ends_forbidden-in-len2-up.ensures
