use Rattle.xml_tokens.proofs.UntilLens.{stands_at, stands_nowhere}
use Rattle.xml_tokens.proofs.fronts.until_len.Goals as goal

pub returns-in-Some : goal.returns-in-Some
returns-in-Some c = stands_at c.args.bytes.now c.args.end c.in-Some.at c.in-Some.ensures.0.high c.in-Some.ensures.0.before c.in-Some.ensures.1

pub returns-in-None : goal.returns-in-None
returns-in-None c = stands_nowhere c.args.bytes.now c.args.end c.in-None.ensures
