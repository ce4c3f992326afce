use Rattle.std.proofs.Common.{nat_eq, refl}
use Rattle.std.specs.HashMap as hash
use Rattle.sm_acks.proofs.Arenas.{written_sum}
use Rattle.sm_acks.proofs.pool.set_ends.Goals as goal

pub returns-clause-held : goal.returns-clause-held
returns-clause-held c =
    written_sum c.args.ends.now (c.get_mut.follows.lender c.args.new) c.args.queue c.args.new (hash.get nat_eq c.args.ends.now c.args.queue) refl (c.get_mut.follows.holds c.args.new).0
