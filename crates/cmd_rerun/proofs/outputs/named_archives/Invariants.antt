use Rattle.std.proofs.Common.{◌≡◌, ◌++◌, drop, map}
use Rattle.cmd_journal.specs.Texts.{named_view}
use Rattle.cmd_rerun.specs.Reruns.{named_archives}
use Rattle.cmd_rerun.proofs.outputs.named_archives.Given as goal

-- the archives so far, and those of the accounts that are left
abbrev pub invariant-loop-r : goal.invariant-loop-r
invariant-loop-r l = record {
  position : l.position ≡ l.r-index;
  made : map named_view l.named.items ++ named_archives (drop l.r-index l.registrations) (drop l.r-index l.server.server_state.archives) ≡ named_archives l.registrations l.server.server_state.archives;
}
