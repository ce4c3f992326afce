use Rattle.cmd_direct.proofs.LawsKept.{lawful}
use Rattle.cmd_direct.proofs.laws.direct_is_lawful.Goals as goal

pub returns : goal.returns
returns c = lawful
