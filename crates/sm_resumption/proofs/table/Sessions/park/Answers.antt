use Rattle.std.proofs.Common.{◌≡◌, refl, true, false, Some, ap, sym, ◌∙◌}
use Rattle.sm_resumption.proofs.BindFacts.{found_is_there, parks}
use Rattle.sm_resumption.proofs.DeliveryFacts.{none_mapped, others_of_none, others_stand, stands}
use Rattle.sm_resumption.proofs.HousedFacts.{housed_with}
use Rattle.sm_resumption.proofs.RowFacts.{row_of_with_other}
use Rattle.std.proofs.lemmas.Bool.{false≢true}
use Rattle.sm_resumption.specs.Moves.{number_of, parked}
use Rattle.sm_resumption.specs.Rows.{is_at, row_at, row_of, with_row, without}
use Rattle.sm_resumption.specs.declared.answers.Lost.TheVariants.{Ended, Parked}
use Rattle.sm_resumption.specs.declared.session.SessionView.{SessionView}
use Rattle.sm_resumption.proofs.table.Sessions.park.Goals as goal

pub told-requires : goal.told-requires
told-requires c = found_is_there c.in_ok-number.number c.args.self.now.next (is_at c.args.conn) c.args.self.now.rows c.in_ok-number.ensures.table c.in_ok-number.ensures.number

pub park_row-requires : goal.park_row-requires
park_row-requires c = found_is_there c.in_ok-number.number c.args.self.now.next (is_at c.args.conn) c.args.self.now.rows c.in_ok-number.ensures.table c.in_ok-number.ensures.number

pub returns-then-told-clause-answer : goal.returns-then-told-clause-answer
returns-then-told-clause-answer c =
    let row = parks c.in_ok-number.number c.args.self.now.next c.args.conn c.args.self.now.rows c.in_ok-number.ensures.table c.in_ok-number.ensures.number in
    let can : row.0.shown.resumable ≡ true = sym (ap (λ (v : SessionView). v.resumable) (rw row.1.found at c.told.ensures)) ∙ c.if-told.true in
    rw (row.1.at, can) (ap (λ k. Some (Parked k)) (sym row.1.number))

pub returns-then-told-clause-rows : goal.returns-then-told-clause-rows
returns-then-told-clause-rows c =
    let row = parks c.in_ok-number.number c.args.self.now.next c.args.conn c.args.self.now.rows c.in_ok-number.ensures.table c.in_ok-number.ensures.number in
    let can : row.0.shown.resumable ≡ true = sym (ap (λ (v : SessionView). v.resumable) (rw row.1.found at c.told.ensures)) ∙ c.if-told.true in
    rw (row.1.at, can) (c.park_row.ensures.rows ∙ ap (λ k. with_row k (parked c.args.now) c.args.self.now.rows) (sym row.1.number))

pub returns-then-told-clause-pool : goal.returns-then-told-clause-pool
returns-then-told-clause-pool c =
    let row = parks c.in_ok-number.number c.args.self.now.next c.args.conn c.args.self.now.rows c.in_ok-number.ensures.table c.in_ok-number.ensures.number in
    let can : row.0.shown.resumable ≡ true = sym (ap (λ (v : SessionView). v.resumable) (rw row.1.found at c.told.ensures)) ∙ c.if-told.true in
    rw (row.1.at, can) (record { each = λ q. refl })

pub returns-then-told-clause-housed : goal.returns-then-told-clause-housed
returns-then-told-clause-housed c =
    rw c.park_row.ensures.rows
    (housed_with c.in_ok-number.number (parked c.args.now) c.args.self.now.rows c.args.pool.now (record { same = λ r. refl }) (record { same = λ r. refl }) c.requires)

pub returns-else-told-clause-answer : goal.returns-else-told-clause-answer
returns-else-told-clause-answer c =
    let row = parks c.in_ok-number.number c.args.self.now.next c.args.conn c.args.self.now.rows c.in_ok-number.ensures.table c.in_ok-number.ensures.number in
    let cannot : row.0.shown.resumable ≡ false = sym (ap (λ (v : SessionView). v.resumable) (rw row.1.found at c.told.ensures)) ∙ c.if-told.false in
    rw (row.1.at, cannot) (ap (λ k. Some (Ended k)) (sym row.1.number))

pub returns-else-told-clause-rows : goal.returns-else-told-clause-rows
returns-else-told-clause-rows c =
    let row = parks c.in_ok-number.number c.args.self.now.next c.args.conn c.args.self.now.rows c.in_ok-number.ensures.table c.in_ok-number.ensures.number in
    let cannot : row.0.shown.resumable ≡ false = sym (ap (λ (v : SessionView). v.resumable) (rw row.1.found at c.told.ensures)) ∙ c.if-told.false in
    rw (row.1.at, cannot) (c.end.ensures.rows ∙ ap (λ k. without k c.args.self.now.rows) (sym row.1.number))

pub returns-else-told-clause-pool : goal.returns-else-told-clause-pool
returns-else-told-clause-pool c =
    let row = parks c.in_ok-number.number c.args.self.now.next c.args.conn c.args.self.now.rows c.in_ok-number.ensures.table c.in_ok-number.ensures.number in
    let cannot : row.0.shown.resumable ≡ false = sym (ap (λ (v : SessionView). v.resumable) (rw row.1.found at c.told.ensures)) ∙ c.if-told.false in
    rw (row.1.at, cannot) (rw row.1.found at c.end.ensures.pool)

pub returns-in_err-number-clause-others : goal.returns-in_err-number-clause-others
returns-in_err-number-clause-others c =
    rw (none_mapped number_of (row_at c.args.conn c.args.self.now.rows) c.in_err-number.ensures.number) (others_of_none c.args.self.now.rows c.args.self.now.rows c.args.pool.now c.args.pool.now refl (record { each = λ q. refl }))

pub returns-then-told-clause-stays : goal.returns-then-told-clause-stays
returns-then-told-clause-stays c =
    let row = parks c.in_ok-number.number c.args.self.now.next c.args.conn c.args.self.now.rows c.in_ok-number.ensures.table c.in_ok-number.ensures.number in
    rw row.1.at (λ can. stands row.0 (parked c.args.now row.0) c.args.pool.now c.args.pool.now refl refl)

pub returns-then-told-clause-others : goal.returns-then-told-clause-others
returns-then-told-clause-others c =
    let row = parks c.in_ok-number.number c.args.self.now.next c.args.conn c.args.self.now.rows c.in_ok-number.ensures.table c.in_ok-number.ensures.number in
    rw row.1.at
    (others_stand c.in_ok-number.number row.0 c.args.self.now.rows c.park_row.new.self.rows c.args.pool.now c.args.pool.now row.1.found
    (λ m other. ap (row_of m) c.park_row.ensures.rows ∙ row_of_with_other m c.in_ok-number.number (parked c.args.now) c.args.self.now.rows (record { same = λ r. refl }) other) (λ m s found other. refl))

pub returns-else-told-clause-stays : goal.returns-else-told-clause-stays
returns-else-told-clause-stays c =
    let row = parks c.in_ok-number.number c.args.self.now.next c.args.conn c.args.self.now.rows c.in_ok-number.ensures.table c.in_ok-number.ensures.number in
    let cannot : row.0.shown.resumable ≡ false = sym (ap (λ (v : SessionView). v.resumable) (rw row.1.found at c.told.ensures)) ∙ c.if-told.false in
    rw row.1.at (λ can. absurd (false≢true (sym cannot ∙ can)))

pub returns-else-told-clause-others : goal.returns-else-told-clause-others
returns-else-told-clause-others c =
    let row = parks c.in_ok-number.number c.args.self.now.next c.args.conn c.args.self.now.rows c.in_ok-number.ensures.table c.in_ok-number.ensures.number in
    rw row.1.at (rw row.1.found at c.end.ensures.others)
