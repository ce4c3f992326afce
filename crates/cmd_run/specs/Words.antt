-- Which words ask for which command.
use Rattle.std.specs.Prelude.{ℕ, ◌≤◌, Bool, true, false, List, [], ◌∷◌, Option, Some, None, Result, Ok, Err, codes, map, if◌then◌else◌, String, string_bytes}
use Rattle.std.specs.Str.{bytes_eq}
use Rattle.cmd_generate.specs.declared.generated.TheConstants.{MOST_SIZE}
use Rattle.cmd_schedule.specs.Reading.{number_within}
use Rattle.cmd_schedule.specs.declared.fault.LineWhy.{LineWhy}
use Rattle.cmd_run.specs.declared.command.Command.{Command}
use Rattle.cmd_run.specs.declared.command.Command.TheVariants.{Help, Version, Replay, Check, Rerun, Intents, Generate, Serve, Sync}

abbrev pub number_of : Result ℕ LineWhy → Option ℕ
number_of (Ok n) = Some n
number_of (Err why) = None

-- the number that a word spells in decimal without leading zeros, where it is one within these bounds
abbrev pub spelled : ℕ → ℕ → List ℕ → Option ℕ
spelled least most word = number_of (number_within least most word)

-- ports are 1 to 65535
abbrev pub port_in : List ℕ → Option ℕ
port_in word = spelled 1 65535 word

-- so many connections can be served: 1 to 1000
abbrev pub connections_in : List ℕ → Option ℕ
connections_in word = spelled 1 1000 word

-- schedules are made of any number of 64 bits
abbrev pub seed_in : List ℕ → Option ℕ
seed_in word = spelled 0 18446744073709551615 word

-- so many lines of them can be drawn: 0 to 10000
abbrev pub size_in : List ℕ → Option ℕ
size_in word = spelled 0 MOST_SIZE word

-- a command of one word
abbrev pub of_one : List ℕ → Option Command
of_one word =
    if bytes_eq word (codes "--help") then Some Help
    else (if bytes_eq word (codes "--version") then Some Version
    else (if bytes_eq word (codes "replay") then Some Replay
    else (if bytes_eq word (codes "check") then Some Check
    else (if bytes_eq word (codes "rerun") then Some Rerun
    else (if bytes_eq word (codes "intents") then Some Intents
    else None)))))

abbrev pub syncing : Option ℕ → Option Command
syncing (Some port) = Some (Sync port)
syncing None = None

abbrev pub serving_many : ℕ → Option ℕ → Option Command
serving_many port (Some connections) = Some (Serve port connections)
serving_many port None = None

abbrev pub serving : Option ℕ → Option ℕ → Option Command
serving (Some port) connections = serving_many port connections
serving None connections = None

abbrev pub generating_many : ℕ → Option ℕ → Option Command
generating_many number (Some size) = Some (Generate number size)
generating_many number None = None

abbrev pub generating : Option ℕ → Option ℕ → Option Command
generating (Some number) size = generating_many number size
generating None size = None

-- each command is asked for by its words; other words are not in the table
abbrev pub command_of : List (List ℕ) → Option Command
command_of (word ∷ []) = of_one word
command_of (word ∷ port ∷ []) = if bytes_eq word (codes "sync") then syncing (port_in port) else None
command_of (word ∷ first ∷ second ∷ []) =
    if bytes_eq word (codes "serve") then serving (port_in first) (connections_in second)
    else (if bytes_eq word (codes "generate") then generating (seed_in first) (size_in second)
    else None)
command_of _ = None

-- whether the command's input is read
abbrev pub reads : Option Command → Bool
reads (Some Replay) = true
reads (Some Check) = true
reads (Some Rerun) = true
reads (Some Intents) = true
reads (Some (Serve port connections)) = true
reads (Some (Sync port)) = true
reads command = false

-- whether the command has to do with other programs, over sockets
abbrev pub goes_out : Option Command → Bool
goes_out (Some (Serve port connections)) = true
goes_out (Some (Sync port)) = true
goes_out command = false

-- whether the command takes connections in
abbrev pub serves : Option Command → Bool
serves (Some (Serve port connections)) = true
serves command = false

-- the command that these words ask for
abbrev pub asked : {A : Type 0} → List (String A) → Option Command
asked words = command_of (map string_bytes words)

-- what each command that words ask for keeps
abbrev pub IsAskable : Command → Type 0
IsAskable (Generate number size) = size ≤ MOST_SIZE
IsAskable command = Unit {0}
