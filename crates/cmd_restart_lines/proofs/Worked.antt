-- Values worked out: a file with a restart below one dial line, and what it stands for.
use Rattle.std.proofs.Common.{◌≡◌, [], ◌∷◌, codes, refl}
use Rattle.cmd_restarts.specs.Files.{FileView}
use Rattle.cmd_schedule.specs.declared.schedule.Count.TheVariants.{All}
use Rattle.cmd_schedule.specs.declared.schedule.Step.TheVariants.{Account, Device, Tick}
use Rattle.cmd_schedule.specs.declared.schedule.Version.TheVariants.{Two}
use Rattle.cmd_schedule.specs.declared.schedule.WireStep.TheVariants.{Common, Cut, Dial, Up}
use Rattle.cmd_restart_lines.specs.RestartLines.{expand, line_at, lines_restarting}

two_connections : lines_restarting 9 2 ≡ line_at 9 (Cut 1 0 0) ∷ line_at 9 (Up 1 All) ∷ line_at 9 (Cut 2 0 0) ∷ line_at 9 (Up 2 All) ∷ line_at 9 (Common (Tick 300000)) ∷ []
two_connections = refl

abbrev file : FileView
file = record {
  schedule = record {
    version = Two 7;
    lines = line_at 2 (Common (Account (codes "ann"))) ∷ line_at 3 (Common (Tick 300000)) ∷ line_at 4 (Common (Device (codes "pad") (codes "ann"))) ∷ line_at 5 (Dial (codes "pad"))
        ∷ line_at 6 (Common (Tick 300000)) ∷ line_at 7 (Common (Tick 300000)) ∷ [];
  };
  restarts = 3 ∷ 6 ∷ [];
}

-- a line `tick 300000` is no restart, and where no connection was made time alone passes
one_file : expand file
    ≡ line_at 2 (Common (Account (codes "ann"))) ∷ line_at 3 (Common (Tick 300000)) ∷ line_at 4 (Common (Device (codes "pad") (codes "ann"))) ∷ line_at 5 (Dial (codes "pad"))
    ∷ line_at 6 (Cut 1 0 0) ∷ line_at 6 (Up 1 All) ∷ line_at 6 (Common (Tick 300000)) ∷ line_at 7 (Common (Tick 300000)) ∷ []
unfolding expand
one_file = refl
