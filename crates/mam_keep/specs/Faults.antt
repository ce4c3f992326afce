-- Why a call of a keeper failed. Want of memory is no fault of the keeper.
use Rattle.std.specs.Prelude.{◌≡◌, ℕ, ◌≤◌, Result, OnOk, IsErrOf}
use Rattle.base_io.specs.Counts.{Rose}
use Rattle.mam_keep.specs.declared.fault.KeepFault.{KeepFault}
use Rattle.mam_keep.specs.declared.fault.KeepFault.TheVariants.{Failed, NoMemory}

-- a call that answers `Failed` has raised the count, and every other has left it
pub record HasKeepCause {T : Type 0} (before now : ℕ) (result : Result T KeepFault) : Type 0 where
  pub later : before ≤ now
  pub failed : IsErrOf result Failed → Rose before now
  pub wanting : IsErrOf result NoMemory → now ≡ before
  pub quiet : OnOk result (now ≡ before)
