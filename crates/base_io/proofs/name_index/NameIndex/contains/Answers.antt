use Rattle.std.proofs.Common.{rules}
use Rattle.base_io.proofs.NamePositions.{is_some-position_of}
use Rattle.base_io.proofs.name_index.NameIndex.contains.Goals as goal

pub returns : goal.returns
returns c = search (rules, is_some-position_of c.args.name.now c.args.self.now)
