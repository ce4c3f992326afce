use Rattle.std.proofs.Common.{◌≡◌, ◌++◌, drop}
use Rattle.std.specs.List.{flat_map}
use Rattle.cmd_journal.specs.Texts.{archive_text}
use Rattle.cmd_rerun.specs.Reruns.{named_archives}
use Rattle.net_hub.proofs.ending.append_archives.Given as goal

-- the archives so far, and those of the accounts that are left
abbrev pub invariant-loop-r : goal.invariant-loop-r
invariant-loop-r l = record {
  position : l.position ≡ l.r-index;
  made : l.out.items ++ flat_map (archive_text l.version) (named_archives (drop l.r-index l.registrations) (drop l.r-index l.server.server_state.archives))
      ≡ l.initial.out.items ++ flat_map (archive_text l.version) (named_archives l.registrations l.server.server_state.archives);
}
