-- The lines so far, and those of the accounts to come.
use Rattle.std.proofs.Common.{◌≡◌, ◌++◌, length, map}
use Rattle.std.specs.Vec.Iter.{into_iter_items, into_iter_len}
use Rattle.cmd_replay.specs.Homes.{home_of_account}
use Rattle.cmd_replay.specs.ReportLines.{home_line}
use Rattle.cmd_replay.proofs.run.summary.account_lines.Given as goal

abbrev pub invariant-loop-account : goal.invariant-loop-account
invariant-loop-account l = record {
  whole : l.lines.items ++ map home_line (map home_of_account (into_iter_items l.account-iterator)) ≡ map home_line (map home_of_account l.fn.accounts.items);
  counted : into_iter_len l.account-iterator ≡ length (into_iter_items l.account-iterator);
}
