-- What a restart makes of a world's server.
use Rattle.std.specs.Prelude.{◌≡◌, ℕ, ◌+◌, Bool, true, false, List, [], ◌∷◌}
use Rattle.cmd_restarts.specs.RestartFiles.{is_next, without_next}
use Rattle.cmd_schedule.specs.declared.schedule.WireLine.{WireLine}
use Rattle.cmd_world.specs.Lines.{all_stepped}
use Rattle.cmd_world.specs.Worlds.{ByteWorld}
use Rattle.law_restart.specs.Stopping.{again}
use Rattle.sm_resumption.specs.declared.answers.TheConstants.{RESUMABLE_FOR}
use Rattle.cmd_restart_lines.specs.RestartLines.{lines_of, lines_restarting, with_dial}

-- Behind the lines of a restart the server is one that is started again: with the archives and the next session number that it
-- had before these lines, and at the moment to which they lead.
abbrev pub IsStartedAgain : ℕ → ℕ → ByteWorld → Type 0
IsStartedAgain number dialed w = (all_stepped (lines_restarting number dialed) w).server ≡ again (w.moment + RESUMABLE_FOR) w.server.server_state

abbrev pub IsStartedWhere : Bool → WireLine → ℕ → ByteWorld → Type 0
IsStartedWhere true line dialed w = IsStartedAgain line.number dialed w
IsStartedWhere false line dialed w = Unit {0}

-- so it is at each restart line of a file's lines, in the world in which it stands
abbrev pub AreStartedAgain : ℕ → List ℕ → List WireLine → ByteWorld → Type 0
AreStartedAgain dialed restarts [] w = Unit {0}
AreStartedAgain dialed restarts (line ∷ lines) w =
    IsStartedWhere (is_next line.number restarts) line dialed w
    × AreStartedAgain (with_dial line.step dialed) (without_next (is_next line.number restarts) restarts) lines (all_stepped (lines_of (is_next line.number restarts) dialed line) w)
