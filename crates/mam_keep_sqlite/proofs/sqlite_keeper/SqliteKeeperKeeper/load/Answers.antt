use Rattle.std.proofs.Common.{◌≤◌, rules, subst}
use Rattle.base_io.specs.Counts.{Rose}
use Rattle.mam_keep_sqlite.proofs.sqlite_keeper.SqliteKeeperKeeper.load.Goals as goal

-- a fault has raised the count, and nothing before has touched it
pub returns-in-Err-Failed-clause-cause : goal.returns-in-Err-Failed-clause-cause
returns-in-Err-Failed-clause-cause c = record {
  later = subst (λ n. n ≤ c.count_fault.new.self.faults) c.read.ensures.faults c.count_fault.ensures.later;
  failed = λ is. subst (λ n. Rose n c.count_fault.new.self.faults) c.read.ensures.faults c.count_fault.ensures.rose;
  wanting = search rules;
  quiet = tt;
}
