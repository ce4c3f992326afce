use Rattle.std.proofs.Common.{◌≡◌, Some, sym, ◌∙◌}
use Rattle.sm_resumption.proofs.BindFacts.{found_is_there}
use Rattle.sm_resumption.proofs.ResumeFacts.{told_number, would_high, would_ok}
use Rattle.sm_resumption.proofs.RowFacts.{option_map_some, same_row}
use Rattle.sm_resumption.specs.Moves.{is_resumed_by, resume_ok, row_resumed}
use Rattle.sm_resumption.specs.Rows.{row_of}
use Rattle.sm_resumption.proofs.table.Sessions.would_resume.Goals as goal

pub too_high-requires-clause-lives : goal.too_high-requires-clause-lives
too_high-requires-clause-lives c =
    let number = told_number c.in-Some.told (row_resumed c.args.previd.now c.args.account c.args.self.now.rows) c.in-Some.ensures.told in
    found_is_there c.in-Some.told.number c.args.self.now.next (is_resumed_by c.args.previd.now c.args.account) c.args.self.now.rows c.in-Some.ensures.table number

pub returns-in-Some-too_high : goal.returns-in-Some-too_high
returns-in-Some-too_high c =
    let number = told_number c.in-Some.told (row_resumed c.args.previd.now c.args.account c.args.self.now.rows) c.in-Some.ensures.told in
    let row = option_map_some resume_ok (row_resumed c.args.previd.now c.args.account c.args.self.now.rows) c.in-Some.told (sym c.in-Some.ensures.told) in
    let found : row_of c.in-Some.told.number c.args.self.now.rows ≡ Some row.0 =
    same_row c.args.self.now.next 1 c.in-Some.told.number (is_resumed_by c.args.previd.now c.args.account) c.args.self.now.rows c.in-Some.ensures.table.ascending number ∙ row.1 in
    rw row.1 (would_high c.args.h c.in-Some.told c.in-Some-too_high.field-0 row.0 c.args.pool.now (rw found at c.in-Some-too_high.ensures) (sym row.2))

pub returns-in-None-too_high : goal.returns-in-None-too_high
returns-in-None-too_high c =
    let number = told_number c.in-Some.told (row_resumed c.args.previd.now c.args.account c.args.self.now.rows) c.in-Some.ensures.told in
    let row = option_map_some resume_ok (row_resumed c.args.previd.now c.args.account c.args.self.now.rows) c.in-Some.told (sym c.in-Some.ensures.told) in
    let found : row_of c.in-Some.told.number c.args.self.now.rows ≡ Some row.0 =
    same_row c.args.self.now.next 1 c.in-Some.told.number (is_resumed_by c.args.previd.now c.args.account) c.args.self.now.rows c.in-Some.ensures.table.ascending number ∙ row.1 in
    rw row.1 (would_ok c.args.h c.in-Some.told row.0 c.args.pool.now (rw found at c.in-None-too_high.ensures) (sym row.2))
