-- What a reader of the code answers, beside what reading gives.
use Rattle.std.specs.Prelude.{◌≡◌, Option, Result, Ok, Err, List, ℕ}
use Rattle.std.specs.Borrow.{Bor}
use Rattle.std.specs.Option.{option_map}
use Rattle.cmd_journal.specs.Reading.{Accounts, BegunView, PreambleView}
use Rattle.cmd_journal.specs.declared.accounts_reading.Begun.{Begun}
use Rattle.cmd_journal.specs.declared.accounts_reading.Preamble.{Preamble}
use Rattle.cmd_journal.specs.declared.accounts_reading.Registered.{Registered}
use Rattle.cmd_schedule.specs.Reading.{Cut, pieces_of}
use Rattle.cmd_schedule.specs.declared.fault.LineWhy.{LineWhy}
use Rattle.cmd_journal.specs.declared.fault.LineFault.{LineFault}
use Rattle.cmd_journal.specs.declared.fault.LineFault.TheVariants.{Reason, NoMemory}
use Rattle.cmd_journal.specs.declared.fault.InputFault.{InputFault}
use Rattle.cmd_journal.specs.declared.fault.InputFault.TheVariants as faults

-- a reason that was given is the one that reading gives
abbrev pub Refuses : {Y : Type 0} → LineFault → Result Y LineWhy → Type 0
Refuses NoMemory read = Unit {0}
Refuses (Reason why) read = read ≡ Err why

-- what a function returned, seen by view, is what reading gives, unless memory ran out
abbrev pub Gives : {X Y : Type 0} → (X → Y) → Result X LineFault → Result Y LineWhy → Type 0
Gives view (Ok x) read = read ≡ Ok (view x)
Gives view (Err e) read = Refuses e read

-- what is left of a line, without where it lies in memory
abbrev pub left : Option (Bor (List ℕ)) → Option (List ℕ)
left fields = option_map (λ field. field.now) fields

-- a field, and what follows the space behind it
abbrev pub cut_seen : Bor (List ℕ) × Option (Bor (List ℕ)) → Cut
cut_seen x = record { front = x.0.now; rest = left x.1 }

-- the same of what goes on over lines
abbrev pub ReadsAs : {X Y : Type 0} → (X → Y) → Result X InputFault → Result Y InputFault → Type 0
ReadsAs view (Ok x) read = read ≡ Ok (view x)
ReadsAs view (Err faults.NoMemory) read = Unit {0}
ReadsAs view (Err (faults.BadLine line why)) read = read ≡ Err (faults.BadLine line why)

-- ---- what is read of an accounts file, with the lines that are left

abbrev pub preamble_seen : Preamble → PreambleView
preamble_seen above = record { version = above.version; domain = above.domain; next = above.next; rest = pieces_of above.rest.now }

abbrev pub registered_seen : Registered → Accounts
registered_seen read = record { accounts = read.accounts.items; next = read.next; rest = pieces_of read.rest.now }

abbrev pub begun_seen : Begun → BegunView
begun_seen begun = record { file = begun.file; next = begun.next; rest = pieces_of begun.rest.now }
