use Rattle.std.proofs.Common.{ap}
use Rattle.std.specs.Prelude.{nat_eq}
use Rattle.std.specs.HashMap as hash
use Rattle.sm_resumption.proofs.IndexFacts.{indexed_as, indexed_swept, overdue_answer}
use Rattle.sm_resumption.proofs.StoredFacts.{opened}
use Rattle.sm_resumption.specs.Indexed.{IsIndexed}
use Rattle.sm_resumption.specs.Rows.{Table}
use Rattle.sm_resumption.specs.Stored.{IsStored, collected}
use Rattle.sm_resumption.proofs.table.Sessions.expired.Goals as goal

pub invariant_of-self : goal.invariant_of-self
invariant_of-self c = (
  c.self.invariant.0,
  indexed_swept c.self.inside.index c.overdue.new.self (hash.get nat_eq c.self.inside.rows) (collected (hash.get nat_eq c.self.inside.rows) c.self.inside.numbers.items) c.self.invariant.0.found
      c.overdue.ensures.conns c.overdue.ensures.waits c.overdue.ensures.whole c.overdue.ensures.sessions_by_account c.overdue.ensures.ordered c.self.invariant.1,
)

pub returns-clause-number : goal.returns-clause-number
returns-clause-number c =
    let seen = ap (λ (t : Table). t.rows) c.self.view_is in
    let stored : IsStored (hash.get nat_eq c.self.inside.rows) c.self.inside.numbers.items c.self.inside.next c.args.self.now.rows = opened (hash.get nat_eq c.self.inside.rows) c.self.inside.numbers.items c.self.inside.next c.args.self.now.rows seen c.self.invariant.0 in
    let indexed : IsIndexed c.self.inside.index c.args.self.now.rows = indexed_as c.self.inside.index _ c.args.self.now.rows seen c.self.invariant.1 in
    overdue_answer c.args.now c.self.inside.next c.self.inside.index (hash.get nat_eq c.self.inside.rows) c.args.self.now.rows c.overdue.result stored.table indexed stored.found c.if-not-self.false c.overdue.ensures.some c.overdue.ensures.none
