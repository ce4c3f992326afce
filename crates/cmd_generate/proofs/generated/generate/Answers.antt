use Rattle.cmd_generate.proofs.StandDrawn.{grammar_of}
use Rattle.cmd_generate.proofs.generated.generate.Goals as goal

pub returns-clause-grammar : goal.returns-clause-grammar
returns-clause-grammar c = grammar_of c.args.number c.args.size c.made_of.result c.requires c.made_of.ensures
