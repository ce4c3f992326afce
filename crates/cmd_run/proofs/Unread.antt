-- A command that does not read can fail by no link, by no server, by no thread and by no random bytes.
use Rattle.std.proofs.Common.{◌≡◌, ℕ, false, List, Some}
use Rattle.cmd_run.specs.Dealings.{Dealings}
use Rattle.cmd_run.specs.Words.{reads}
use Rattle.cmd_run.specs.Table.{HasLinkFailed, HasPeerFailed, HasNoWorker, HasEntropyFailed}
use Rattle.cmd_run.specs.declared.command.Command.{Command}
use Rattle.cmd_run.specs.declared.command.Command.TheVariants.{Help, Version, Replay, Check, Rerun, Intents, Generate, Serve, Sync}

pub unread_link : (command : Command) (input : List ℕ) (dealt : Dealings) → reads (Some command) ≡ false → ¬ (HasLinkFailed command input dealt)
unread_link Help input dealt e failed = failed
unread_link Version input dealt e failed = failed
unread_link Replay input dealt e failed = failed
unread_link Check input dealt e failed = failed
unread_link Rerun input dealt e failed = failed
unread_link Intents input dealt e failed = failed
unread_link (Generate number size) input dealt e failed = failed
unread_link (Serve port connections) input dealt e failed = cc
unread_link (Sync port) input dealt e failed = cc

pub unread_peer : (command : Command) (input : List ℕ) (dealt : Dealings) (text : List ℕ) → reads (Some command) ≡ false → ¬ (HasPeerFailed command input dealt text)
unread_peer Help input dealt text e failed = failed
unread_peer Version input dealt text e failed = failed
unread_peer Replay input dealt text e failed = failed
unread_peer Check input dealt text e failed = failed
unread_peer Rerun input dealt text e failed = failed
unread_peer Intents input dealt text e failed = failed
unread_peer (Generate number size) input dealt text e failed = failed
unread_peer (Serve port connections) input dealt text e failed = failed
unread_peer (Sync port) input dealt text e failed = cc

pub unread_worker : (command : Command) (dealt : Dealings) → reads (Some command) ≡ false → ¬ (HasNoWorker command dealt)
unread_worker Help dealt e failed = failed
unread_worker Version dealt e failed = failed
unread_worker Replay dealt e failed = failed
unread_worker Check dealt e failed = failed
unread_worker Rerun dealt e failed = failed
unread_worker Intents dealt e failed = failed
unread_worker (Generate number size) dealt e failed = failed
unread_worker (Serve port connections) dealt e failed = cc
unread_worker (Sync port) dealt e failed = failed

pub unread_entropy : (command : Command) (dealt : Dealings) → reads (Some command) ≡ false → ¬ (HasEntropyFailed command dealt)
unread_entropy Help dealt e failed = failed
unread_entropy Version dealt e failed = failed
unread_entropy Replay dealt e failed = failed
unread_entropy Check dealt e failed = failed
unread_entropy Rerun dealt e failed = failed
unread_entropy Intents dealt e failed = failed
unread_entropy (Generate number size) dealt e failed = failed
unread_entropy (Serve port connections) dealt e failed = cc
unread_entropy (Sync port) dealt e failed = cc
