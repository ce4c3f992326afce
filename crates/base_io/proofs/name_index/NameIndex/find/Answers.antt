use Rattle.std.proofs.Common.{◌≡◌, rules}
use Rattle.base_io.proofs.NamePositions.{stands_there, stands_nowhere}
use Rattle.base_io.specs.Names.{position_of}
use Rattle.base_io.proofs.name_index.NameIndex.find.Goals as goal

pub returns-clause-there : goal.returns-clause-there
returns-clause-there c =
    let position : c.copied.result ≡ position_of c.args.name.now c.args.self.now = search rules in
    rw position (stands_there c.args.name.now c.args.self.now)

pub returns-clause-nowhere : goal.returns-clause-nowhere
returns-clause-nowhere c =
    let position : c.copied.result ≡ position_of c.args.name.now c.args.self.now = search rules in
    rw position (stands_nowhere c.args.name.now c.args.self.now)
