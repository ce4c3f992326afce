use Rattle.std.proofs.Common.{◌≡◌, None, Some, ap, sym, ◌∙◌}
use Rattle.std.specs.Prelude.{nat_eq}
use Rattle.std.specs.HashMap as hash
use Rattle.sm_resumption.proofs.RowFacts.{without_none}
use Rattle.sm_resumption.proofs.IndexFacts.{indexed_as, indexed_without}
use Rattle.sm_resumption.specs.Indexed.{IsIndexed}
use Rattle.sm_resumption.proofs.StoredFacts.{ShownAs, opened, removed_row}
use Rattle.sm_resumption.specs.Rows.{Table, row_of, without}
use Rattle.sm_resumption.specs.Stored.{IsStored}
use Rattle.sm_resumption.proofs.table.Sessions.remove_row.Goals as goal
use Rattle.sm_resumption.proofs.table.Sessions.remove_row.Goals.{After-from_residual, After-unseat}

removed : (c : After-unseat) → ShownAs (hash.get nat_eq c.remove.new.self) c.self.inside.numbers.items c.self.inside.next (without c.args.number c.args.self.now.rows)
removed c =
    let seen = ap (λ (t : Table). t.rows) c.self.view_is in
    let stored : IsStored (hash.get nat_eq c.self.inside.rows) c.self.inside.numbers.items c.self.inside.next c.args.self.now.rows = opened (hash.get nat_eq c.self.inside.rows) c.self.inside.numbers.items c.self.inside.next c.args.self.now.rows seen c.self.invariant.0 in
    removed_row c.args.number c.self.inside.next (hash.get nat_eq c.self.inside.rows) (hash.get nat_eq c.remove.new.self) c.self.inside.numbers.items c.args.self.now.rows stored (c.in_ok-row.ensures.updates.0)

pub invariant_of-self-2 : goal.invariant_of-self-2
invariant_of-self-2 c =
    let seen = ap (λ (t : Table). t.rows) c.self.view_is in
    let stored : IsStored (hash.get nat_eq c.self.inside.rows) c.self.inside.numbers.items c.self.inside.next c.args.self.now.rows = opened (hash.get nat_eq c.self.inside.rows) c.self.inside.numbers.items c.self.inside.next c.args.self.now.rows seen c.self.invariant.0 in
    let indexed : IsIndexed c.self.inside.index c.args.self.now.rows = indexed_as c.self.inside.index _ c.args.self.now.rows seen c.self.invariant.1 in
    let found : row_of c.args.number c.args.self.now.rows ≡ Some c.in_ok-row.row = sym (stored.found c.args.number) ∙ sym c.in_ok-row.ensures.value in (
      (removed c).kept,
      rw (removed c).shown
          (indexed_without c.args.number c.self.inside.next c.in_ok-row.row c.self.inside.index c.forget.new.self c.unseat.new.self c.args.self.now.rows stored.table found
          c.forget.ensures.conns c.forget.ensures.waits c.forget.ensures.whole c.forget.ensures.sessions_by_account c.unseat.ensures.conns c.unseat.ensures.waits c.unseat.ensures.whole
          c.unseat.ensures.here c.unseat.ensures.others indexed),
    )

-- where there is no such session
kept : (c : After-from_residual) → ShownAs (hash.get nat_eq c.remove.new.self) c.self.inside.numbers.items c.self.inside.next (without c.args.number c.args.self.now.rows)
kept c =
    let seen = ap (λ (t : Table). t.rows) c.self.view_is in
    let stored : IsStored (hash.get nat_eq c.self.inside.rows) c.self.inside.numbers.items c.self.inside.next c.args.self.now.rows = opened (hash.get nat_eq c.self.inside.rows) c.self.inside.numbers.items c.self.inside.next c.args.self.now.rows seen c.self.invariant.0 in
    removed_row c.args.number c.self.inside.next (hash.get nat_eq c.self.inside.rows) (hash.get nat_eq c.remove.new.self) c.self.inside.numbers.items c.args.self.now.rows stored (c.in_err-row.ensures.updates.0)

pub invariant_of-self : goal.invariant_of-self
invariant_of-self c =
    let seen = ap (λ (t : Table). t.rows) c.self.view_is in
    let stored : IsStored (hash.get nat_eq c.self.inside.rows) c.self.inside.numbers.items c.self.inside.next c.args.self.now.rows = opened (hash.get nat_eq c.self.inside.rows) c.self.inside.numbers.items c.self.inside.next c.args.self.now.rows seen c.self.invariant.0 in
    let none : row_of c.args.number c.args.self.now.rows ≡ None = sym (stored.found c.args.number) ∙ sym c.in_err-row.ensures.value in
    ((kept c).kept, rw (kept c).shown (rw (without_none c.args.number c.args.self.now.rows none) (indexed_as c.self.inside.index _ c.args.self.now.rows seen c.self.invariant.1)))

pub returns-in_err-row-clause-rows : goal.returns-in_err-row-clause-rows
returns-in_err-row-clause-rows c = (kept c).shown

pub returns-clause-rows : goal.returns-clause-rows
returns-clause-rows c = (removed c).shown
