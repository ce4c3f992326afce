use Rattle.std.proofs.Common.{◌≡◌, drop}
use Rattle.std.specs.List.{find}
use Rattle.sm_resumption.specs.Rows.{row_of}
use Rattle.sm_resumption.specs.Stored.{passes, seeks}
use Rattle.sm_resumption.proofs.table.Sessions.first_sought.Given as goal

-- what is sought among the numbers that are left is sought among all
abbrev pub invariant-loop-number : goal.invariant-loop-number
invariant-loop-number l = find (λ n. passes (seeks l.sought) (row_of n l.self.rows)) (drop l.number-index l.numbers) ≡ find (λ n. passes (seeks l.sought) (row_of n l.self.rows)) l.numbers
