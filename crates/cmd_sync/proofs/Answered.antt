-- What follows from a reader's answer.
use Rattle.std.proofs.Common.{◌≡◌, ℕ, List, Result, Ok, Err, sym, ◌∙◌, inl, inr}
use Rattle.std.specs.Prelude.{◌⊎◌, IfOk, IfErr}
use Rattle.cmd_sync.proofs.Again.{script_again}
use Rattle.cmd_sync.proofs.Found.{script_found}
use Rattle.cmd_sync.specs.ScriptReading.{script_reading}
use Rattle.cmd_sync.specs.Scripts.{Says, ScriptView}
use Rattle.cmd_sync.specs.declared.script_fault.ScriptFault.{ScriptFault}
use Rattle.cmd_sync.specs.declared.script_fault.ScriptFault.TheVariants as faults

abbrev answer : ScriptView → Result ScriptView ScriptFault
answer x = Ok x

abbrev refusal : ScriptFault → Result ScriptView ScriptFault
refusal e = Err e

same_fault : (e d : ScriptFault) → refusal e ≡ refusal d → e ≡ d
same_fault e d h = cc

not_both : (e : ScriptFault) (x : ScriptView) → refusal e ≡ answer x → ⊥
not_both e x h = cc

pub script_right : (bytes : List ℕ) (r : Result ScriptView ScriptFault) → (r ≡ refusal faults.NoMemory) ⊎ (r ≡ script_reading bytes) → IfOk r (Says bytes)
script_right bytes (Ok x) (inl e) = absurd cc
script_right bytes (Ok x) (inr e) = script_found bytes x (sym e)
script_right bytes (Err e) given = tt

pub script_bad : (bytes : List ℕ) (r : Result ScriptView ScriptFault) → (r ≡ refusal faults.NoMemory) ⊎ (r ≡ script_reading bytes) → IfErr r (λ e. (e ≡ faults.NoMemory) ⊎ ((script : ScriptView) → ¬ (Says bytes script)))
script_bad bytes (Ok x) given = tt
script_bad bytes (Err e) (inl h) = inl (same_fault e faults.NoMemory h)
script_bad bytes (Err e) (inr h) = inr (λ script is. not_both e script (h ∙ script_again bytes script is))
