use Rattle.std.proofs.Common.{◌≡◌, false, true, Some, refl, ap, ◌∙◌}
use Rattle.std.specs.Option.{option_map}
use Rattle.sm_resumption.proofs.ResumeFacts.{ack_err, ack_ok, free_acknowledged, leaves_of, resumed_well}
use Rattle.sm_resumption.proofs.RowFacts.{find_none_with, number_is, row_of_with_same, there}
use Rattle.sm_resumption.specs.Moves.{acknowledged, attached, is_too_high}
use Rattle.sm_resumption.specs.Rows.{is_at, row_of, with_row, without}
use Rattle.sm_resumption.specs.declared.answers.ResumeOk.{ResumeOk}
use Rattle.sm_resumption.proofs.table.Sessions.resume_told.Goals as goal

pub attach_row-requires-clause-lives : goal.attach_row-requires-clause-lives
attach_row-requires-clause-lives c =
    let row = there (row_of c.args.told.number c.args.self.now.rows) c.requires.lives in
    rw (c.in-Ok.ensures.ok, row_of_with_same c.args.told.number (acknowledged c.args.h) c.args.self.now.rows (record { same = λ r. refl }), row.1) refl

pub attach_row-requires-clause-conn : goal.attach_row-requires-clause-conn
attach_row-requires-clause-conn c =
    rw c.in-Ok.ensures.ok (find_none_with (is_at c.args.conn) c.args.told.number (acknowledged c.args.h) c.args.self.now.rows (λ r. refl) c.requires.conn)

pub attach_row-requires-clause-queue : goal.attach_row-requires-clause-queue
attach_row-requires-clause-queue c =
    let row = there (row_of c.args.told.number c.args.self.now.rows) c.requires.lives in
    let fits : is_too_high c.args.h row.0 c.args.pool.now ≡ false = ack_ok c.args.h c.in-Ok.field-0 row.0 c.args.pool.now (rw row.1 at c.in-Ok.ensures.answer) in
    let leaves = leaves_of c.args.h row.0 c.args.pool.now c.ack.new.pool fits (rw row.1 at c.in-Ok.ensures.pool) in
    rw c.in-Ok.ensures.ok (free_acknowledged c.args.h c.args.told.number c.args.queue row.0 c.args.self.now.rows c.args.pool.now c.ack.new.pool row.1 c.requires.queue leaves)

pub returns-in-Ok-clause-answer : goal.returns-in-Ok-clause-answer
returns-in-Ok-clause-answer c =
    let row = there (row_of c.args.told.number c.args.self.now.rows) c.requires.lives in
    let fits : is_too_high c.args.h row.0 c.args.pool.now ≡ false = ack_ok c.args.h c.in-Ok.field-0 row.0 c.args.pool.now (rw row.1 at c.in-Ok.ensures.answer) in
    let leaves = leaves_of c.args.h row.0 c.args.pool.now c.ack.new.pool fits (rw row.1 at c.in-Ok.ensures.pool) in
    let after : row_of c.args.told.number c.ack.new.self.rows ≡ Some (acknowledged c.args.h row.0) =
    ap (row_of c.args.told.number) c.in-Ok.ensures.ok ∙ row_of_with_same c.args.told.number (acknowledged c.args.h) c.args.self.now.rows (record { same = λ r. refl }) ∙ ap (option_map (acknowledged c.args.h)) row.1 in
    let is = rw row.1 at c.requires.told in
    let conn = ap (λ (t : ResumeOk). t.former) is in
    let handled = ap (λ (t : ResumeOk). t.handled) is in
    let hands = rw after at c.attach_row.ensures.pool in
    (resumed_well c.args.h c.args.conn c.args.queue c.args.told.number c.args.told.handled c.args.told.former row.0 c.args.self.now.rows c.attach_row.new.self.rows c.args.pool.now c.ack.new.pool c.attach_row.new.pool
    row.1 fits conn handled (c.attach_row.ensures.rows ∙ ap (with_row c.args.told.number (attached c.args.conn c.args.queue)) c.in-Ok.ensures.ok) leaves hands).answer

pub returns-in-Ok-clause-rows : goal.returns-in-Ok-clause-rows
returns-in-Ok-clause-rows c =
    let row = there (row_of c.args.told.number c.args.self.now.rows) c.requires.lives in
    let fits : is_too_high c.args.h row.0 c.args.pool.now ≡ false = ack_ok c.args.h c.in-Ok.field-0 row.0 c.args.pool.now (rw row.1 at c.in-Ok.ensures.answer) in
    let leaves = leaves_of c.args.h row.0 c.args.pool.now c.ack.new.pool fits (rw row.1 at c.in-Ok.ensures.pool) in
    let after : row_of c.args.told.number c.ack.new.self.rows ≡ Some (acknowledged c.args.h row.0) =
    ap (row_of c.args.told.number) c.in-Ok.ensures.ok ∙ row_of_with_same c.args.told.number (acknowledged c.args.h) c.args.self.now.rows (record { same = λ r. refl }) ∙ ap (option_map (acknowledged c.args.h)) row.1 in
    let is = rw row.1 at c.requires.told in
    let conn = ap (λ (t : ResumeOk). t.former) is in
    let handled = ap (λ (t : ResumeOk). t.handled) is in
    let hands = rw after at c.attach_row.ensures.pool in
    (resumed_well c.args.h c.args.conn c.args.queue c.args.told.number c.args.told.handled c.args.told.former row.0 c.args.self.now.rows c.attach_row.new.self.rows c.args.pool.now c.ack.new.pool c.attach_row.new.pool
    row.1 fits conn handled (c.attach_row.ensures.rows ∙ ap (with_row c.args.told.number (attached c.args.conn c.args.queue)) c.in-Ok.ensures.ok) leaves hands).table

pub returns-in-Ok-clause-pool : goal.returns-in-Ok-clause-pool
returns-in-Ok-clause-pool c =
    let row = there (row_of c.args.told.number c.args.self.now.rows) c.requires.lives in
    let fits : is_too_high c.args.h row.0 c.args.pool.now ≡ false = ack_ok c.args.h c.in-Ok.field-0 row.0 c.args.pool.now (rw row.1 at c.in-Ok.ensures.answer) in
    let leaves = leaves_of c.args.h row.0 c.args.pool.now c.ack.new.pool fits (rw row.1 at c.in-Ok.ensures.pool) in
    let after : row_of c.args.told.number c.ack.new.self.rows ≡ Some (acknowledged c.args.h row.0) =
    ap (row_of c.args.told.number) c.in-Ok.ensures.ok ∙ row_of_with_same c.args.told.number (acknowledged c.args.h) c.args.self.now.rows (record { same = λ r. refl }) ∙ ap (option_map (acknowledged c.args.h)) row.1 in
    let is = rw row.1 at c.requires.told in
    let conn = ap (λ (t : ResumeOk). t.former) is in
    let handled = ap (λ (t : ResumeOk). t.handled) is in
    let hands = rw after at c.attach_row.ensures.pool in
    (resumed_well c.args.h c.args.conn c.args.queue c.args.told.number c.args.told.handled c.args.told.former row.0 c.args.self.now.rows c.attach_row.new.self.rows c.args.pool.now c.ack.new.pool c.attach_row.new.pool
    row.1 fits conn handled (c.attach_row.ensures.rows ∙ ap (with_row c.args.told.number (attached c.args.conn c.args.queue)) c.in-Ok.ensures.ok) leaves hands).pool

pub returns-in-Err-clause-rows : goal.returns-in-Err-clause-rows
returns-in-Err-clause-rows c =
    let row = there (row_of c.args.told.number c.args.self.now.rows) c.requires.lives in
    let high : is_too_high c.args.h row.0 c.args.pool.now ≡ true = ack_err c.args.h _ row.0 c.args.pool.now (rw row.1 at c.in-Err.ensures.answer) in
    rw (row.1, high, number_is c.args.told.number row.0 c.args.self.now.rows row.1) (c.end.ensures.rows ∙ ap (without c.args.told.number) c.in-Err.ensures.err)
