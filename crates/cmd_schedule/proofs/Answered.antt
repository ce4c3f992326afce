-- What follows from a reader's answer.
use Rattle.std.proofs.Common.{◌≡◌, ℕ, List, Result, Ok, Err, sym, ap, ◌∙◌, inl, inr}
use Rattle.std.specs.Prelude.{◌⊎◌, IfOk, IfErr}
use Rattle.cmd_schedule.specs.Kinds.{IsSchedule, schedule_text, InGrammar}
use Rattle.cmd_schedule.specs.WireReading.{reading}
use Rattle.cmd_schedule.specs.declared.schedule.Schedule.{Schedule}
use Rattle.cmd_schedule.specs.declared.fault.ScheduleFault.{ScheduleFault}
use Rattle.cmd_schedule.proofs.BothKinds.{reading_again, reading_found}
use Rattle.cmd_schedule.specs.declared.fault.ScheduleFault.TheVariants as faults

abbrev refusal : ScheduleFault → Result Schedule ScheduleFault
refusal e = Err e

abbrev answer : Schedule → Result Schedule ScheduleFault
answer s = Ok s

pub found_of : (bytes : List ℕ) (r : Result Schedule ScheduleFault) → (r ≡ refusal faults.NoMemory) ⊎ (r ≡ reading bytes) → IfOk r (λ s. IsSchedule s × (bytes ≡ schedule_text s))
found_of bytes (Ok s) (inl e) = absurd cc
found_of bytes (Ok s) (inr e) = reading_found bytes s (sym e)
found_of bytes (Err e) given = tt

same_fault : (e d : ScheduleFault) → refusal e ≡ refusal d → e ≡ d
same_fault e d h = cc

not_both : (e : ScheduleFault) (s : Schedule) → refusal e ≡ answer s → ⊥
not_both e s h = cc

pub bad_of : (bytes : List ℕ) (r : Result Schedule ScheduleFault) → (r ≡ refusal faults.NoMemory) ⊎ (r ≡ reading bytes) → IfErr r (λ e. (e ≡ faults.NoMemory) ⊎ ¬ (InGrammar bytes))
bad_of bytes (Ok s) given = tt
bad_of bytes (Err e) (inl h) = inl (same_fault e faults.NoMemory h)
bad_of bytes (Err e) (inr h) = inr (λ (in_it : InGrammar bytes). not_both e in_it.0 (h ∙ ap (λ (text : List ℕ). reading text) in_it.2 ∙ reading_again in_it.0 in_it.1))
