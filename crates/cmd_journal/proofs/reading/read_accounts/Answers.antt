use Rattle.cmd_journal.proofs.Answered.{accounts_bad, accounts_right}
use Rattle.cmd_journal.proofs.reading.read_accounts.Goals as goal

pub returns-clause-found : goal.returns-clause-found
returns-clause-found c = accounts_right c.args.bytes.now c.accounts_of.result c.accounts_of.ensures

pub returns-clause-bad : goal.returns-clause-bad
returns-clause-bad c = accounts_bad c.args.bytes.now c.accounts_of.result c.accounts_of.ensures
