-- A schedule of version 2 worked out, whose archives keep two entries: a log whose last entry was purged goes on behind a
-- break.
use Rattle.std.proofs.Common.{◌≡◌, ℕ, Bool, true, false, List, [], ◌∷◌, Some, None, map, codes, refl}
use Rattle.mam_archive.specs.Ids.{id_of}
use Rattle.base_lemmas.specs.Hexadecimal.{hex16_of}
use Rattle.cmd_direct.specs.Direct.{pages_of}
use Rattle.cmd_report.specs.Lines.{logged_from, page_line}
use Rattle.cmd_report.specs.declared.report.LoggedLine.{LoggedLine}
use Rattle.cmd_schedule.specs.declared.schedule.Step.{Step}
use Rattle.cmd_schedule.specs.declared.schedule.Step.TheVariants.{Account, Device, Say, Catchup}

abbrev said : Step
said = Say (codes "p") (codes "b") (codes "x")

abbrev steps : List Step
steps =
    Account (codes "a") ∷ Account (codes "b") ∷ Device (codes "p") (codes "a") ∷ said ∷ Catchup (codes "p") 10
    ∷ said ∷ said ∷ said ∷ Catchup (codes "p") 1 ∷ []

pub pages_worked : map page_line (pages_of 2 steps (codes "p") steps)
    ≡ record { after = None; count = 1; total = Some 1 }
    ∷ record { after = None; count = 1; total = None }
    ∷ record { after = Some (id_of 3); count = 1; total = Some 2 }
    ∷ []
unfolding hex16_of
pages_worked = refl

abbrev shown : LoggedLine → List ℕ × Bool
shown l = (l.entry.id, l.broken)

pub logged_worked : map shown (logged_from 0 (pages_of 2 steps (codes "p") steps)) ≡ (id_of 1, false) ∷ (id_of 3, true) ∷ (id_of 4, false) ∷ []
unfolding hex16_of
logged_worked = refl
