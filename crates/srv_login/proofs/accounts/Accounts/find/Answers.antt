-- The account at the place of a name is the one that is found.
use Rattle.std.proofs.Common.{[], sym}
use Rattle.srv_login.proofs.AccountFaults.{counted_at, named_nowhere, named_there, there_at}
use Rattle.srv_login.proofs.accounts.Accounts.find.Goals as goal

pub returns-in-None-clause-found : goal.returns-in-None-clause-found
returns-in-None-clause-found c = sym (named_nowhere c.args.name.now c.args.self.now (sym c.in-None.ensures.position))

pub returns-in-Some-clause-found : goal.returns-in-Some-clause-found
returns-in-Some-clause-found c =
    let account = c.index-as_slice-position.result in
    let at = there_at c.args.self.now c.as_slice.result.now c.in-Some.position account c.as_slice.ensures.accounts c.in-Some.ensures.there c.index-as_slice-position.is in
    sym (named_there c.args.name.now c.args.self.now c.in-Some.position account (sym c.in-Some.ensures.position) at)

pub returns-in-Some-clause-counted : goal.returns-in-Some-clause-counted
returns-in-Some-clause-counted c =
    let account = c.index-as_slice-position.result in
    let at = there_at c.args.self.now c.as_slice.result.now c.in-Some.position account c.as_slice.ensures.accounts c.in-Some.ensures.there c.index-as_slice-position.is in
    counted_at [] c.args.self.now c.in-Some.position account c.as_slice.ensures.right at
