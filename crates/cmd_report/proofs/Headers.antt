-- The parts of the first line, one behind the other.
use Rattle.std.proofs.Common.{◌≡◌, ℕ, Bool, List, ◌∷◌, ◌++◌, refl, codes, append_assoc}
use Rattle.std.specs.Fmt.{decimal}
use Rattle.cmd_report.specs.ReportText.{header_text}
use Rattle.cmd_schedule.specs.Grammar.{mode_text}
use Rattle.cmd_schedule.specs.declared.schedule.Version.TheVariants.{One, Two}

pub header_one : (out : List ℕ) (wire : Bool) → (out ++ codes "xmpp-report 1 ") ++ mode_text wire ≡ out ++ header_text One wire
header_one out wire = append_assoc out (codes "xmpp-report 1 ") (mode_text wire)

pub header_two : (out : List ℕ) (keep : ℕ) (wire : Bool)
    → ((out ++ codes "xmpp-report 2 ") ++ mode_text wire) ++ 32 ∷ decimal keep ≡ out ++ header_text (Two keep) wire
header_two out keep wire = regroup out (codes "xmpp-report 2 ") (mode_text wire) (32 ∷ decimal keep)
  where
    regroup : (a b c d : List ℕ) → ((a ++ b) ++ c) ++ d ≡ a ++ (b ++ c ++ d)
    regroup a b c d = simp append_assoc refl
