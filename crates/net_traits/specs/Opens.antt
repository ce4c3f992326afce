-- What counts tell of a call that opens a door or hands out a connection.
use Rattle.std.specs.Prelude.{◌≡◌, ◌≤◌, ℕ, Result, Ok, Err}
use Rattle.base_io.specs.Counts.{Rose}
use Rattle.net_traits.specs.declared.fault.OpenFault.{OpenFault}
use Rattle.net_traits.specs.declared.fault.OpenFault.TheVariants.{Failed, NoMemory}

-- A call that failed has raised the count of faults. Want of memory has left it.
abbrev pub IsFaultCounted : ℕ → ℕ → OpenFault → Type 0
IsFaultCounted before now Failed = (before ≤ now) × Rose before now
IsFaultCounted before now NoMemory = now ≡ before

-- so it is where nothing was opened, and a call that is well has left the count
abbrev pub IsOpenCounted : {T : Type 0} → ℕ → ℕ → Result T OpenFault → Type 0
IsOpenCounted before now (Ok opened) = now ≡ before
IsOpenCounted before now (Err fault) = IsFaultCounted before now fault
