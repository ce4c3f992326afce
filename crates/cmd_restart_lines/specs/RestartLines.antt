-- The ordinary lines that a file of restarts stands for.
use Rattle.std.specs.Prelude.{ℕ, zero, suc, ◌+◌, Bool, true, false, List, [], ◌∷◌, ◌++◌}
use Rattle.cmd_restarts.specs.Files.{FileView}
use Rattle.cmd_restarts.specs.RestartFiles.{is_next, without_next}
use Rattle.cmd_schedule.specs.Schedules.{WireView}
use Rattle.cmd_schedule.specs.declared.schedule.Count.TheVariants.{All}
use Rattle.cmd_schedule.specs.declared.schedule.Step.TheVariants.{Tick}
use Rattle.cmd_schedule.specs.declared.schedule.WireLine.{WireLine}
use Rattle.cmd_schedule.specs.declared.schedule.WireStep.{WireStep}
use Rattle.cmd_schedule.specs.declared.schedule.WireStep.TheVariants.{Common, Cut, Dial, Up}

abbrev pub line_at : ℕ → WireStep → WireLine
line_at number step = record { number = number; step = step }

-- ---- a restart

-- the network cuts a connection, of which nothing stays under way, and the server is told that it is gone
abbrev pub lines_cutting : ℕ → ℕ → List WireLine
lines_cutting number k = line_at number (Cut k 0 0) ∷ line_at number (Up k All) ∷ []

-- that of the connections up to this one, ascending
abbrev pub lines_cutting_all : ℕ → ℕ → List WireLine
lines_cutting_all number zero = []
lines_cutting_all number (suc k) = lines_cutting_all number k ++ lines_cutting number (suc k)

-- and then as much time passes as a session can be resumed (XEP-0198, section 5)
abbrev pub lines_restarting : ℕ → ℕ → List WireLine
lines_restarting number dialed = lines_cutting_all number dialed ++ line_at number (Common (Tick 300000)) ∷ []

-- ---- lines of a file

-- a connection more is made by a dial line
abbrev pub with_dial : WireStep → ℕ → ℕ
with_dial (Dial device) dialed = dialed + 1
with_dial _ dialed = dialed

-- a restart line stands for those lines, of as many connections as there are dial lines above it, with its own number; any
-- other line stands for itself
abbrev pub lines_of : Bool → ℕ → WireLine → List WireLine
lines_of true dialed line = lines_restarting line.number dialed
lines_of false dialed line = line ∷ []

-- so many dial lines are above; the restart lines are those with these numbers, ascending
abbrev pub lines_from : ℕ → List ℕ → List WireLine → List WireLine
lines_from dialed restarts [] = []
lines_from dialed restarts (line ∷ lines) =
    lines_of (is_next line.number restarts) dialed line ++ lines_from (with_dial line.step dialed) (without_next (is_next line.number restarts) restarts) lines

-- ---- a file

unfoldable pub expand : FileView → List WireLine
expand f = lines_from 0 f.restarts f.schedule.lines

-- the same as a schedule
abbrev pub as_schedule : FileView → WireView
as_schedule f = record { version = f.schedule.version; lines = expand f }
