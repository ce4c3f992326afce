-- The account that is added stands behind the others, and its name at the end of the index.
use Rattle.std.proofs.Common.{◌≡◌, ℕ, List, [], ◌∷◌, ◌++◌, None, ap, ◌∙◌}
use Rattle.srv_login.proofs.AccountFaults.{indexed_push}
use Rattle.srv_login.specs.Accounts.{fault_of}
use Rattle.srv_login.specs.declared.account.Account.{Account}
use Rattle.srv_login.proofs.accounts.Accounts.add.Goals as goal

pub invariant_of-self-2 : goal.invariant_of-self-2
invariant_of-self-2 c =
    let index = c.self.inside.index in
    let items = c.self.inside.accounts.items in
    let account = c.args.account in
    let names : c.add.new.self ≡ index ++ account.name ∷ [] = c.in_ok-add.ensures.ok ∙ ap (λ (n : List ℕ). index ++ n ∷ []) c.as_str.ensures in
    let all : c.push_reserved.new.self.items ≡ items ++ account ∷ [] = c.push_reserved.ensures.items ∙ ap (λ (l : List Account). l ++ account ∷ []) c.reserve.ensures.items in
    let fits : fault_of items account ≡ None = rw (← c.self.view_is) at c.in_ok-judge.ensures.ok in
    rw (names, all) (indexed_push index items account c.self.invariant fits (rw (← c.self.view_is) at c.requires.few))
