use Rattle.std.proofs.Common.{ap, ◌∙◌}
use Rattle.std.specs.Prelude.{nat_eq}
use Rattle.std.specs.HashMap as hash
use Rattle.sm_resumption.proofs.IndexFacts.{absent_conn, indexed_as}
use Rattle.sm_resumption.proofs.StoredFacts.{conn_answer, opened}
use Rattle.sm_resumption.specs.Indexed.{IsIndexed}
use Rattle.sm_resumption.specs.Rows.{IsTable, Table}
use Rattle.sm_resumption.proofs.table.Sessions.by_conn.Goals as goal

pub returns-then-self-clause-number : goal.returns-then-self-clause-number
returns-then-self-clause-number c =
    let seen = ap (λ (t : Table). t.rows) c.self.view_is in
    let table : IsTable c.args.self.now.rows c.self.inside.next = (opened (hash.get nat_eq c.self.inside.rows) c.self.inside.numbers.items c.self.inside.next c.args.self.now.rows seen c.self.invariant.0).table in
    let indexed : IsIndexed c.self.inside.index c.args.self.now.rows = indexed_as c.self.inside.index _ c.args.self.now.rows seen c.self.invariant.1 in
    conn_answer c.args.conn c.self.inside.next c.args.self.now.rows c.checked.result table
    (absent_conn c.args.conn c.self.inside.next c.self.inside.index c.args.self.now.rows c.copied.result c.checked.result table indexed c.if-self.true (c.copied.ensures ∙ c.get.ensures.value) c.checked.ensures)

pub returns-else-self-clause-number : goal.returns-else-self-clause-number
returns-else-self-clause-number c = conn_answer c.args.conn c.args.self.now.next c.args.self.now.rows c.scan.result c.scan.ensures.table c.scan.ensures.number
