use Rattle.std.proofs.Common.{◌≡◌, ◌++◌, take}
use Rattle.std.specs.List.{flat_map}
use Rattle.cmd_report.specs.ReportText.{account_text}
use Rattle.cmd_report.proofs.report_texts.print_accounts.Given as goal

abbrev pub invariant-loop-line : goal.invariant-loop-line
invariant-loop-line l = l.out.items ≡ l.initial.out.items ++ flat_map (account_text l.version) (take l.line-index l.line-items)
