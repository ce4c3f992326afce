-- A file of restarts, run: which world it comes to. At a restart line the server stops, and another one is started.
use Rattle.std.specs.Prelude.{ℕ, Bool, true, false, List, [], ◌∷◌}
use Rattle.cmd_restarts.specs.Files.{FileView}
use Rattle.cmd_restarts.specs.RestartFiles.{is_next, without_next}
use Rattle.cmd_schedule.specs.declared.schedule.WireLine.{WireLine}
use Rattle.cmd_world.specs.Histories.{world_at_start}
use Rattle.cmd_world.specs.Lines.{all_stepped, stepped}
use Rattle.cmd_world.specs.Worlds.{ByteWorld}
use Rattle.law_restart.specs.Stopping.{again}
use Rattle.cmd_restart_lines.specs.RestartLines.{lines_restarting, with_dial}

-- In the place of the server stands one that is started again: with its archives and its next session number, at the moment
-- that the clock shows. It has no connection and no session.
abbrev pub with_new_server : ByteWorld → ByteWorld
with_new_server w = record w { server = again w.moment w.server.server_state }

-- all connections are cut, of which there are so many at most, and time passes; and then another server is there
abbrev pub restarted : ℕ → ℕ → ByteWorld → ByteWorld
restarted number dialed w = with_new_server (all_stepped (lines_restarting number dialed) w)

-- ---- lines of a file

abbrev pub gone : Bool → ℕ → WireLine → ByteWorld → ByteWorld
gone true dialed line w = restarted line.number dialed w
gone false dialed line w = stepped line w

-- so many dial lines are above; the restart lines are those with these numbers, ascending
abbrev pub all_gone : ℕ → List ℕ → List WireLine → ByteWorld → ByteWorld
all_gone dialed restarts [] w = w
all_gone dialed restarts (line ∷ lines) w =
    all_gone (with_dial line.step dialed) (without_next (is_next line.number restarts) restarts) lines (gone (is_next line.number restarts) dialed line w)

-- the world in the end
unfoldable pub restarted_end : FileView → ByteWorld
restarted_end f = all_gone 0 f.restarts f.schedule.lines (world_at_start f.schedule)
