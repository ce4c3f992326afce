use Rattle.law_server.proofs.Reached.{reached_absent, reached_bare, reached_full}
use Rattle.law_server.proofs.live_messages.messages_reach_their_sessions.Goals as goal

pub returns : goal.returns
returns g c = record { bare = reached_bare; full = reached_full; absent = reached_absent }
