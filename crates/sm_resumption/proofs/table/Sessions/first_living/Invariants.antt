use Rattle.std.proofs.Common.{◌≡◌, drop}
use Rattle.std.specs.Prelude.{is_some}
use Rattle.std.specs.List.{find}
use Rattle.sm_resumption.specs.Rows.{row_of}
use Rattle.sm_resumption.proofs.table.Sessions.first_living.Given as goal

-- what is found among the numbers that are left is found among all
abbrev pub invariant-loop-number : goal.invariant-loop-number
invariant-loop-number l = find (λ n. is_some (row_of n l.self.rows)) (drop l.number-index l.numbers) ≡ find (λ n. is_some (row_of n l.self.rows)) l.numbers
