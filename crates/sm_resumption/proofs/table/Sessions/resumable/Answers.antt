use Rattle.std.proofs.Common.{◌≡◌, None, Some, sym, ap, ◌∙◌}
use Rattle.std.proofs.lemmas.Bool.{false≢true}
use Rattle.std.proofs.lemmas.Option.{none-some, same_Some}
use Rattle.std.specs.Option.{option_map}
use Rattle.sm_resumption.proofs.ResumeFacts.{resumed_none, resumed_not, resumed_row}
use Rattle.sm_resumption.proofs.RowFacts.{number_is}
use Rattle.sm_resumption.specs.Moves.{resume_ok, row_resumed}
use Rattle.sm_resumption.specs.Rows.{row_of}
use Rattle.sm_resumption.specs.declared.session.Row.{Row}
use Rattle.sm_resumption.proofs.table.Sessions.resumable.Goals as goal
use Rattle.sm_resumption.proofs.table.Sessions.resumable.Goals.{else-row-account-via-then-row-account+else-row, else-row-account-via-else-row-account}

pub returns-in_err-number-clause-told : goal.returns-in_err-number-clause-told
returns-in_err-number-clause-told c =
    let none : row_resumed c.args.previd.now c.args.account c.args.self.now.rows ≡ None =
    resumed_none c.args.account c.args.self.now.next c.args.previd.now c.args.self.now.rows c.keeps_rule.ensures
    (λ m s fits found named mine can. c.in_err-number.ensures.none m fits named) in
    c.from_residual.ensures ∙ sym (ap (option_map resume_ok) none)

pub returns-in_err-row-clause-told : goal.returns-in_err-row-clause-told
returns-in_err-row-clause-told c =
    let none : row_resumed c.args.previd.now c.args.account c.args.self.now.rows ≡ None =
    resumed_not c.in_ok-number.number c.args.account c.args.self.now.next c.args.previd.now c.args.self.now.rows c.keeps_rule.ensures c.in_ok-number.ensures.found.0 c.in_ok-number.ensures.found.1
    (λ s found mine can. none-some s (c.in_err-row.ensures ∙ found)) in
    c.from_residual-in_err-row.ensures ∙ sym (ap (option_map resume_ok) none)

pub returns-then-row-clause-told : goal.returns-then-row-clause-told
returns-then-row-clause-told c =
    let found : row_of c.in_ok-number.number c.args.self.now.rows ≡ Some c.in_ok-row.row.now = sym c.in_ok-row.ensures in
    let number = number_is c.in_ok-number.number c.in_ok-row.row.now c.args.self.now.rows found in
    let resumed : row_resumed c.args.previd.now c.args.account c.args.self.now.rows ≡ Some c.in_ok-row.row.now =
    resumed_row c.in_ok-number.number c.args.account c.args.self.now.next c.args.previd.now c.in_ok-row.row.now c.args.self.now.rows c.keeps_rule.ensures c.in_ok-number.ensures.found.0 c.in_ok-number.ensures.found.1
    found c.if-row-account.true c.if-row.true in
    rw (← number, c.handled.ensures) (sym (ap (option_map resume_ok) resumed))

pub returns-else-row-account-clause-told : goal.returns-else-row-account-clause-told
returns-else-row-account-clause-told c =
    elim c.else-row-account.branch [
      | else-row-account-via-then-row-account+else-row w ↦
          sym (ap (option_map resume_ok)
          (resumed_not c.in_ok-number.number c.args.account c.args.self.now.next c.args.previd.now c.args.self.now.rows c.keeps_rule.ensures c.in_ok-number.ensures.found.0 c.in_ok-number.ensures.found.1
          (λ s found mine can. false≢true (sym w.if-row.false ∙ ap (λ (r : Row). r.shown.resumable) (same_Some c.in_ok-row.row.now s (c.in_ok-row.ensures ∙ found)) ∙ can))))
      | else-row-account-via-else-row-account w ↦
          sym (ap (option_map resume_ok)
          (resumed_not c.in_ok-number.number c.args.account c.args.self.now.next c.args.previd.now c.args.self.now.rows c.keeps_rule.ensures c.in_ok-number.ensures.found.0 c.in_ok-number.ensures.found.1
          (λ s found mine can. w.if-row-account.false (ap (λ (r : Row). r.shown.account) (same_Some c.in_ok-row.row.now s (c.in_ok-row.ensures ∙ found)) ∙ mine))))
    ]
