-- The lines of accounts are those of their archives, each at the place of its name.
use Rattle.std.proofs.Common.{◌≡◌, ℕ, suc, ◌+◌, List, [], ◌∷◌, ◌++◌, Some, length, map, refl, ap, ap₂, ◌∙◌, arith}
use Rattle.std.specs.Prelude.{slice_get}
use Rattle.mam_archive.specs.Entries.{EntryView, newest}
use Rattle.srv_state.specs.State.{Kept}
use Rattle.cmd_report.specs.Addresses.{bare_address}
use Rattle.cmd_report.specs.Reports.{AccountView}
use Rattle.sim_1_applications.specs.Reported as reported
use Rattle.cmd_world.specs.WorldReports.{account_lines, account_where}

-- the archive of a name: it keeps the newest of the history
abbrev pub archive_of_name : ℕ → (List ℕ → List EntryView) → List ℕ → Kept
archive_of_name keep history name = record { owner = bare_address name; keep = keep; last = length (history name); entries = newest keep (history name) }

lines_from : (keep : ℕ) (history : List ℕ → List EntryView) (archives : List Kept) (position : ℕ) (names : List (List ℕ))
    → ((i : ℕ) (name : List ℕ) → slice_get names i ≡ Some name → slice_get archives (position + i) ≡ Some (archive_of_name keep history name))
    → account_lines position names archives ≡ map (λ name. reported.account_line keep (history name) name) names
lines_from keep history archives position [] are = refl
lines_from keep history archives position (name ∷ names) are =
    let same : position ≡ position + 0 = omega arith in
    let here : slice_get archives position ≡ Some (archive_of_name keep history name) = ap (slice_get archives) same ∙ are 0 name refl in
    ap₂ (λ o (lines : List AccountView). account_where name o ++ lines) here
    (lines_from keep history archives (position + 1) names (λ i other at. ap (slice_get archives) (let next : position + 1 + i ≡ position + suc i = omega arith in next) ∙ are (suc i) other at))

pub lines_are : (keep : ℕ) (history : List ℕ → List EntryView) (archives : List Kept) (names : List (List ℕ))
    → ((i : ℕ) (name : List ℕ) → slice_get names i ≡ Some name → slice_get archives i ≡ Some (archive_of_name keep history name))
    → account_lines 0 names archives ≡ map (λ name. reported.account_line keep (history name) name) names
lines_are keep history archives names are = lines_from keep history archives 0 names (λ i name at. (let same : 0 + i ≡ i = omega arith in ap (slice_get archives) same ∙ are i name at))
