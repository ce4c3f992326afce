-- The lines that say why there is no report.
use Rattle.std.specs.Prelude.{ℕ, List, [], ◌∷◌, ◌++◌, codes}
use Rattle.std.specs.Fmt.{decimal}
use Rattle.cmd_sync.specs.Failures.{failure_name}
use Rattle.cmd_sync.specs.declared.failure.PeerFailure.{PeerFailure}
use Rattle.cmd_schedule.specs.declared.fault.LineWhy.{LineWhy}
use Rattle.cmd_schedule.specs.declared.fault.LineWhy.TheVariants as why

abbrev pub words_line : List ℕ
words_line = codes "words" ++ 10 ∷ []

abbrev pub read_fault_line : List ℕ
read_fault_line = codes "read fault" ++ 10 ∷ []

abbrev pub too_long_line : List ℕ
too_long_line = codes "too long" ++ 10 ∷ []

abbrev pub link_fault_line : List ℕ
link_fault_line = codes "link fault" ++ 10 ∷ []

abbrev pub no_worker_line : List ℕ
no_worker_line = codes "no worker" ++ 10 ∷ []

abbrev pub entropy_fault_line : List ℕ
entropy_fault_line = codes "entropy fault" ++ 10 ∷ []

-- what the server has to answer for
abbrev pub peer_line : PeerFailure → List ℕ
peer_line failure = codes "peer " ++ failure_name failure ++ 10 ∷ []

-- the reason's name
abbrev pub why_name : LineWhy → List ℕ
why_name why.Header = codes "Header"
why_name why.Ending = codes "Ending"
why_name why.Many = codes "Many"
why_name why.Word = codes "Word"
why_name why.Shape = codes "Shape"
why_name why.Name = codes "Name"
why_name why.Twice = codes "Twice"
why_name why.Unknown = codes "Unknown"
why_name why.Number = codes "Number"
why_name why.Text = codes "Text"

-- the first bad line, and its first reason
abbrev pub bad_line : ℕ → LineWhy → List ℕ
bad_line n reason = codes "line " ++ decimal n ++ 32 ∷ why_name reason ++ 10 ∷ []
