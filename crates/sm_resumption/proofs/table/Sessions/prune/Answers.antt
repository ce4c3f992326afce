use Rattle.std.proofs.Common.{ap}
use Rattle.std.specs.Prelude.{nat_eq}
use Rattle.std.specs.HashMap as hash
use Rattle.sm_resumption.proofs.IndexFacts.{indexed_as}
use Rattle.sm_resumption.proofs.StoredFacts.{ShownAs, opened, pruned_list}
use Rattle.sm_resumption.specs.Rows.{Table}
use Rattle.sm_resumption.proofs.table.Sessions.prune.Goals as goal
use Rattle.sm_resumption.proofs.table.Sessions.prune.Goals.{After-keep_living}

pruned : (c : After-keep_living) → ShownAs (hash.get nat_eq c.self.inside.rows) c.keep_living.new.numbers.items c.self.inside.next c.args.self.now.rows
pruned c =
    let seen = ap (λ (t : Table). t.rows) c.self.view_is in
    rw c.keep_living.ensures.kept
    (pruned_list c.self.inside.next (hash.get nat_eq c.self.inside.rows) c.self.inside.numbers.items c.args.self.now.rows
    (opened (hash.get nat_eq c.self.inside.rows) c.self.inside.numbers.items c.self.inside.next c.args.self.now.rows seen c.self.invariant.0))

pub invariant_of-self : goal.invariant_of-self
invariant_of-self c =
    let seen = ap (λ (t : Table). t.rows) c.self.view_is in
    ((pruned c).kept, rw (pruned c).shown (indexed_as c.self.inside.index _ c.args.self.now.rows seen c.self.invariant.1))

pub returns-then-len-clause-rows : goal.returns-then-len-clause-rows
returns-then-len-clause-rows c = (pruned c).shown
