use Rattle.std.proofs.Common.{ap, rules}
use Rattle.std.specs.Prelude.{nat_eq}
use Rattle.std.specs.HashMap as hash
use Rattle.sm_resumption.proofs.HousedFacts.{housed_with}
use Rattle.sm_resumption.proofs.IndexFacts.{indexed_kept, indexed_as}
use Rattle.sm_resumption.specs.Indexed.{IsIndexed}
use Rattle.sm_resumption.proofs.StoredFacts.{Changed, changed_row, opened, there_is}
use Rattle.sm_resumption.proofs.RowFacts.{keeps_changed}
use Rattle.sm_resumption.proofs.TableFacts.{lawful_kept}
use Rattle.sm_resumption.specs.Changes.{changed}
use Rattle.sm_resumption.specs.Rows.{IsTable, Table}
use Rattle.sm_resumption.proofs.table.Sessions.change.Goals as goal
use Rattle.sm_resumption.proofs.table.Sessions.change.Goals.{After-self-in-Some-1}

written : (c : After-self-in-Some-1) → Changed c.args.number c.self.inside.next (changed c.args.change) c.in-Some.row.now (hash.get nat_eq (c.get_mut.follows.lender c.change.new.self)) c.self.inside.numbers.items c.args.self.now.rows
written c =
    let seen = ap (λ (t : Table). t.rows) c.self.view_is in
    let table : IsTable c.args.self.now.rows c.self.inside.next = (opened (hash.get nat_eq c.self.inside.rows) c.self.inside.numbers.items c.self.inside.next c.args.self.now.rows seen c.self.invariant.0).table in
    changed_row c.args.number c.self.inside.next (changed c.args.change) c.in-Some.row.now c.change.new.self (hash.get nat_eq c.self.inside.rows) (hash.get nat_eq (c.get_mut.follows.lender c.change.new.self)) c.self.inside.numbers.items c.args.self.now.rows
    seen c.self.invariant.0 c.in-Some.ensures.value (((c.get_mut.follows.holds c.change.new.self).3 (there_is c.in-Some.row.now _ c.in-Some.ensures.value)).0) c.change.ensures (lawful_kept c.args.number c.self.inside.next (changed c.args.change) c.args.self.now.rows table (keeps_changed c.args.change))

pub invariant_of-self : goal.invariant_of-self
invariant_of-self c =
    let seen = ap (λ (t : Table). t.rows) c.self.view_is in
    let table : IsTable c.args.self.now.rows c.self.inside.next = (opened (hash.get nat_eq c.self.inside.rows) c.self.inside.numbers.items c.self.inside.next c.args.self.now.rows seen c.self.invariant.0).table in
    let indexed : IsIndexed c.self.inside.index c.args.self.now.rows = indexed_as c.self.inside.index _ c.args.self.now.rows seen c.self.invariant.1 in
    ((written c).kept, rw (written c).written (indexed_kept c.args.number (changed c.args.change) c.in-Some.row.now c.self.inside.index c.args.self.now.rows (keeps_changed c.args.change) (written c).found indexed))

pub returns : goal.returns
returns c =
    record {
      rows = (written c).written;
      next = ap (λ (t : Table). t.next) c.self.view_is;
      reservation = ap (λ (t : Table). t.reservation) c.self.view_is;
      spare = search rules;
      housed = λ pool housed. rw (written c).written (housed_with c.args.number (changed c.args.change) c.args.self.now.rows pool (keeps_changed c.args.change).number (record { same = (keeps_changed c.args.change).queue }) housed);
    }
