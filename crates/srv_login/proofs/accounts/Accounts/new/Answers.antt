-- What is wrong with the account in hand is what is wrong with the list.
use Rattle.std.proofs.Common.{◌≡◌, List, ◌∷◌, ◌++◌, ap, sym, ◌∙◌}
use Rattle.std.proofs.lemmas.Result.{err_from_is_err_and}
use Rattle.std.specs.Vec.Iter.{into_iter_items}
use Rattle.srv_login.proofs.AccountFaults.{wrong_so}
use Rattle.srv_login.specs.declared.account.Account.{Account}
use Rattle.srv_login.proofs.accounts.Accounts.new.Goals as goal

pub returns-in_err-add-clause-refused : goal.returns-in_err-add-clause-refused
returns-in_err-add-clause-refused c =
    let p = err_from_is_err_and c.from_residual.result c.from_residual.ensures.1 in
    let xs = c.loop-account.accounts in
    let rest = into_iter_items c.next.new.self in
    let whole : xs ++ c.in-Some.account ∷ rest ≡ c.args.list.items =
    ap (λ (l : List Account). xs ++ l) (sym c.in-Some.ensures.steps.0) ∙ c.loop-account.invariant.walked
    ∙ c.into_iter-account-iterator.ensures.into_iter_gives.0 ∙ c.into_items-account-items.ensures in
    rw (p.1, p.2)
    (λ other. wrong_so xs c.in-Some.account rest c.args.list.items c.in_err-add.field-0.0 c.loop-account.invariant.right (c.in_err-add.ensures.refused other) whole)
