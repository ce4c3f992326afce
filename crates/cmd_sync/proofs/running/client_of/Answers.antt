use Rattle.cmd_sync.proofs.SyncedLogs.{only_memory}
use Rattle.cmd_sync.proofs.running.client_of.Goals as goal

pub want_of_memory-requires : goal.want_of_memory-requires
want_of_memory-requires c = only_memory c.args.user.now c.in-Err.fault c.requires (rw (c.as_str.ensures, c.as_str-2.ensures) at c.in-Err.ensures)
