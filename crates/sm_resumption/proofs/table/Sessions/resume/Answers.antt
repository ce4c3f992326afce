use Rattle.std.proofs.Common.{◌≡◌, ◌≤◌, Some, length, refl}
use Rattle.sm_acks.specs.Queues.{list_of}
use Rattle.sm_resumption.proofs.DeliveryFacts.{late_if, none_mapped, others_of_none, resumed_others, resumes_if}
use Rattle.sm_resumption.proofs.BindFacts.{found_is_there}
use Rattle.sm_resumption.proofs.ResumeFacts.{told_is, told_number}
use Rattle.sm_resumption.proofs.RowFacts.{found_by_number, same_row}
use Rattle.sm_resumption.specs.Moves.{is_resumed_by, resume_ok, row_resumed}
use Rattle.sm_resumption.specs.Rows.{row_of}
use Rattle.sm_resumption.specs.declared.session.Row.{Row}
use Rattle.sm_resumption.proofs.table.Sessions.resume.Goals as goal
use Rattle.sm_resumption.proofs.table.Sessions.resume.Goals.{After-resume_told}

pub resume_told-requires-clause-lives : goal.resume_told-requires-clause-lives
resume_told-requires-clause-lives c =
    found_is_there c.in-Some.told.number c.args.self.now.next (is_resumed_by c.args.previd.now c.args.account) c.args.self.now.rows c.in-Some.ensures.table (told_number c.in-Some.told (row_resumed c.args.previd.now c.args.account c.args.self.now.rows) c.in-Some.ensures.told)

pub returns-in-Some-clause-answer : goal.returns-in-Some-clause-answer
returns-in-Some-clause-answer c =
    let same : row_of c.in-Some.told.number c.args.self.now.rows ≡ row_resumed c.args.previd.now c.args.account c.args.self.now.rows =
    same_row c.args.self.now.next 1 c.in-Some.told.number (is_resumed_by c.args.previd.now c.args.account) c.args.self.now.rows c.in-Some.ensures.table.ascending (told_number c.in-Some.told (row_resumed c.args.previd.now c.args.account c.args.self.now.rows) c.in-Some.ensures.told) in
    rw (← same) c.resume_told.ensures.answer

pub returns-in-Some-clause-rows : goal.returns-in-Some-clause-rows
returns-in-Some-clause-rows c =
    let same : row_of c.in-Some.told.number c.args.self.now.rows ≡ row_resumed c.args.previd.now c.args.account c.args.self.now.rows =
    same_row c.args.self.now.next 1 c.in-Some.told.number (is_resumed_by c.args.previd.now c.args.account) c.args.self.now.rows c.in-Some.ensures.table.ascending (told_number c.in-Some.told (row_resumed c.args.previd.now c.args.account c.args.self.now.rows) c.in-Some.ensures.told) in
    rw (← same) c.resume_told.ensures.rows

pub returns-in-Some-clause-pool : goal.returns-in-Some-clause-pool
returns-in-Some-clause-pool c =
    let same : row_of c.in-Some.told.number c.args.self.now.rows ≡ row_resumed c.args.previd.now c.args.account c.args.self.now.rows =
    same_row c.args.self.now.next 1 c.in-Some.told.number (is_resumed_by c.args.previd.now c.args.account) c.args.self.now.rows c.in-Some.ensures.table.ascending (told_number c.in-Some.told (row_resumed c.args.previd.now c.args.account c.args.self.now.rows) c.in-Some.ensures.told) in
    rw (← same) c.resume_told.ensures.pool

pub returns-in-Some-clause-exact : goal.returns-in-Some-clause-exact
returns-in-Some-clause-exact c =
    let same : row_of c.in-Some.told.number c.args.self.now.rows ≡ row_resumed c.args.previd.now c.args.account c.args.self.now.rows =
    same_row c.args.self.now.next 1 c.in-Some.told.number (is_resumed_by c.args.previd.now c.args.account) c.args.self.now.rows c.in-Some.ensures.table.ascending (told_number c.in-Some.told (row_resumed c.args.previd.now c.args.account c.args.self.now.rows) c.in-Some.ensures.told) in
    rw (← same) c.resume_told.ensures.exact

pub resume_told-requires-clause-told : goal.resume_told-requires-clause-told
resume_told-requires-clause-told c =
    let number = told_number c.in-Some.told (row_resumed c.args.previd.now c.args.account c.args.self.now.rows) c.in-Some.ensures.told in
    let same : row_of c.in-Some.told.number c.args.self.now.rows ≡ row_resumed c.args.previd.now c.args.account c.args.self.now.rows =
    same_row c.args.self.now.next 1 c.in-Some.told.number (is_resumed_by c.args.previd.now c.args.account) c.args.self.now.rows c.in-Some.ensures.table.ascending number in
    rw same (told_is c.in-Some.told (row_resumed c.args.previd.now c.args.account c.args.self.now.rows) c.in-Some.ensures.told)

few : (c : After-resume_told) (r : Row) → row_resumed c.args.previd.now c.args.account c.args.self.now.rows ≡ Some r → length (list_of r.end.queue c.args.pool.now) ≤ 10000
few c r is = c.requires.housed.few r.shown.number r (found_by_number c.args.self.now.next 1 (is_resumed_by c.args.previd.now c.args.account) r c.args.self.now.rows c.in-Some.ensures.table.ascending is)

pub returns-in-Some-clause-resumes : goal.returns-in-Some-clause-resumes
returns-in-Some-clause-resumes c =
    resumes_if c.args.h c.args.conn c.args.queue (row_resumed c.args.previd.now c.args.account c.args.self.now.rows) c.resume_told.result c.args.pool.now c.resume_told.new.pool (returns-in-Some-clause-answer c) (returns-in-Some-clause-pool c) (few c)

pub returns-in-Some-clause-late : goal.returns-in-Some-clause-late
returns-in-Some-clause-late c =
    late_if c.args.h c.args.conn c.args.queue (row_resumed c.args.previd.now c.args.account c.args.self.now.rows) c.resume_told.result c.args.pool.now c.resume_told.new.pool (returns-in-Some-clause-answer c) (returns-in-Some-clause-pool c) (few c)

pub returns-in-Some-clause-others : goal.returns-in-Some-clause-others
returns-in-Some-clause-others c =
    rw (returns-in-Some-clause-rows c)
    (resumed_others c.args.h c.args.conn c.args.queue c.args.self.now.next (is_resumed_by c.args.previd.now c.args.account) (row_resumed c.args.previd.now c.args.account c.args.self.now.rows) c.args.self.now.rows c.args.pool.now c.resume_told.new.pool
    c.in-Some.ensures.table refl c.requires.housed c.requires.queue (returns-in-Some-clause-pool c))

pub returns-in-None-clause-others : goal.returns-in-None-clause-others
returns-in-None-clause-others c =
    rw (none_mapped resume_ok (row_resumed c.args.previd.now c.args.account c.args.self.now.rows) c.in-None.ensures.told) (others_of_none c.args.self.now.rows c.args.self.now.rows c.args.pool.now c.args.pool.now refl (record { each = λ q. refl }))
