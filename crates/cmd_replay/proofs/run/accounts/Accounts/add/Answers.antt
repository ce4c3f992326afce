-- The account that is added stands behind the others, and its archive keeps as many as theirs.
use Rattle.std.proofs.Common.{◌≡◌, [], ◌∷◌, ◌++◌, map, sym, ap, ◌∙◌}
use Rattle.std.proofs.lemmas.List.{map-append}
use Rattle.cmd_replay.proofs.HomeLists.{keeps_push}
use Rattle.cmd_replay.specs.Homes.{Home, home_of_account, names_of}
use Rattle.cmd_replay.specs.declared.run.accounts.Account.{Account}
use Rattle.cmd_replay.proofs.run.accounts.Accounts.add.Goals as goal

pub invariant_of-self-2 : goal.invariant_of-self-2
invariant_of-self-2 c =
    let items = c.self.inside.accounts.items in
    let account : Account = record { name = c.in_ok-named.named; archive = c.new-2.result } in
    let all : c.push.new.self.items ≡ items ++ account ∷ [] = c.in-Ok.ensures.items ∙ ap (λ l. l ++ account ∷ []) c.reserve.ensures.items in
    let homes : map home_of_account (items ++ account ∷ []) ≡ map home_of_account items ++ home_of_account account ∷ [] = map-append home_of_account items (account ∷ []) in
    let names : names_of (map home_of_account items ++ home_of_account account ∷ []) ≡ names_of (map home_of_account items) ++ account.name ∷ [] =
    map-append (λ (h : Home). h.name) (map home_of_account items) (home_of_account account ∷ []) in
    rw all (
      c.in_ok-add.ensures.ok ∙ ap (λ l. l ++ c.args.name.now ∷ []) c.self.invariant.0 ∙ ap (λ n. names_of (map home_of_account items) ++ n ∷ []) (sym c.in_ok-named.ensures)
          ∙ sym (ap names_of homes ∙ names),
      c.self.invariant.1,
      keeps_push c.self.inside.keep items account c.self.invariant.2 c.new-2.ensures.keep,
    )
