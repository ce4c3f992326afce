use Rattle.srv_login.proofs.AccountLists.{accounts_right}
use Rattle.srv_login.proofs.laws.accounts_are_right.Goals as goal

pub returns : goal.returns
returns c = accounts_right
