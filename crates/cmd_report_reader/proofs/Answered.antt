-- What follows from a reader's answer.
use Rattle.std.proofs.Common.{◌≡◌, ℕ, List, Result, Ok, Err, sym, ap, ◌∙◌, inl, inr}
use Rattle.std.specs.Prelude.{◌⊎◌, IfOk, IfErr}
use Rattle.cmd_report.specs.ReportText.{text_of}
use Rattle.cmd_report.specs.Reports.{ReportView}
use Rattle.cmd_report_reader.proofs.Again.{report_again}
use Rattle.cmd_report_reader.proofs.Found.{report_found}
use Rattle.cmd_report_reader.specs.Readable.{IsReadable}
use Rattle.cmd_report_reader.specs.Reading.{report_reading}
use Rattle.cmd_schedule.specs.declared.fault.ScheduleFault.{ScheduleFault}
use Rattle.cmd_schedule.specs.declared.fault.ScheduleFault.TheVariants as faults

abbrev refusal : ScheduleFault → Result ReportView ScheduleFault
refusal e = Err e

abbrev answer : ReportView → Result ReportView ScheduleFault
answer r = Ok r

pub same_report : (r s : ReportView) → answer r ≡ answer s → r ≡ s
same_report r s h = cc

same_fault : (e d : ScheduleFault) → refusal e ≡ refusal d → e ≡ d
same_fault e d h = cc

not_both : (e : ScheduleFault) (r : ReportView) → refusal e ≡ answer r → ⊥
not_both e r h = cc

-- what the code answers
abbrev Answers : List ℕ → Result ReportView ScheduleFault → Type 0
Answers bytes r = (r ≡ refusal faults.NoMemory) ⊎ (r ≡ report_reading bytes)

pub found_of : (bytes : List ℕ) (r : Result ReportView ScheduleFault) → Answers bytes r → IfOk r (λ report. bytes ≡ text_of report)
found_of bytes (Ok report) (inl e) = absurd cc
found_of bytes (Ok report) (inr e) = report_found bytes report (sym e)
found_of bytes (Err e) given = tt

pub again_of : (bytes : List ℕ) (r : Result ReportView ScheduleFault) → Answers bytes r → (report : ReportView) → IsReadable report → bytes ≡ text_of report → IfOk r (λ read. read ≡ report)
again_of bytes (Ok read) (inl e) report readable is = absurd cc
again_of bytes (Ok read) (inr e) report readable is = same_report read report (e ∙ ap report_reading is ∙ report_again report readable)
again_of bytes (Err e) given report readable is = tt

pub bad_of : (bytes : List ℕ) (r : Result ReportView ScheduleFault) → Answers bytes r → IfErr r (λ e. (e ≡ faults.NoMemory) ⊎ ((report : ReportView) → IsReadable report → bytes ≡ text_of report → ⊥))
bad_of bytes (Ok report) given = tt
bad_of bytes (Err e) (inl h) = inl (same_fault e faults.NoMemory h)
bad_of bytes (Err e) (inr h) = inr (λ report readable is. not_both e report (h ∙ ap report_reading is ∙ report_again report readable))

pub apart_of : (r s : ReportView) → IsReadable r → IsReadable s → text_of r ≡ text_of s → r ≡ s
apart_of r s readable other is = same_report r s (sym (report_again r readable) ∙ ap report_reading is ∙ report_again s other)
