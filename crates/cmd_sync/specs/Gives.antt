-- What a reader of the code answers, beside what reading gives.
use Rattle.std.specs.Prelude.{◌≡◌, Option, Result, Ok, Err, List, ℕ}
use Rattle.std.specs.Borrow.{Bor}
use Rattle.std.specs.Option.{option_map}
use Rattle.cmd_schedule.specs.Reading.{Cut}
use Rattle.cmd_schedule.specs.declared.fault.LineWhy.{LineWhy}
use Rattle.cmd_sync.specs.declared.script_fault.LineFault.{LineFault}
use Rattle.cmd_sync.specs.declared.script_fault.LineFault.TheVariants.{Reason, NoMemory}
use Rattle.cmd_sync.specs.declared.script_fault.ScriptFault.{ScriptFault}
use Rattle.cmd_sync.specs.declared.script_fault.ScriptFault.TheVariants as faults

-- a reason that was given is the one that reading gives
abbrev pub Refuses : {Y : Type 0} → LineFault → Result Y LineWhy → Type 0
Refuses NoMemory read = Unit {0}
Refuses (Reason why) read = read ≡ Err why

-- what a function returned, seen by view, is what reading gives, unless memory ran out
abbrev pub Gives : {X Y : Type 0} → (X → Y) → Result X LineFault → Result Y LineWhy → Type 0
Gives view (Ok x) read = read ≡ Ok (view x)
Gives view (Err e) read = Refuses e read

-- what is left of a line, without where it lies in memory
abbrev pub left : Option (Bor (List ℕ)) → Option (List ℕ)
left fields = option_map (λ field. field.now) fields

-- a field, and what follows the space behind it
abbrev pub cut_seen : Bor (List ℕ) × Option (Bor (List ℕ)) → Cut
cut_seen x = record { front = x.0.now; rest = left x.1 }

-- the same of what goes on over lines
abbrev pub ReadsAs : {X Y : Type 0} → (X → Y) → Result X ScriptFault → Result Y ScriptFault → Type 0
ReadsAs view (Ok x) read = read ≡ Ok (view x)
ReadsAs view (Err faults.NoMemory) read = Unit {0}
ReadsAs view (Err (faults.BadLine line why)) read = read ≡ Err (faults.BadLine line why)
