-- The accounts so far and those that are left are the list, and nothing is wrong so far.
use Rattle.std.proofs.Common.{◌≡◌, ◌++◌, None, length}
use Rattle.std.specs.Vec.Iter.{into_iter_items, into_iter_len}
use Rattle.srv_login.specs.Accounts.{accounts_fault}
use Rattle.srv_login.proofs.accounts.Accounts.new.Given as goal

abbrev pub invariant-loop-account : goal.invariant-loop-account
invariant-loop-account l = record {
  walked : l.accounts ++ into_iter_items l.account-iterator ≡ into_iter_items l.initial.account-iterator;
  right : accounts_fault l.accounts ≡ None;
  left : into_iter_len l.account-iterator ≡ length (into_iter_items l.account-iterator);
}
