use Rattle.law_server.proofs.Counts.{not_resumed}
use Rattle.law_server.proofs.GoneSessions.{gone_events, gone_items, next_rises, shut_gone}
use Rattle.law_server.proofs.HighCounts.{never, refused}
use Rattle.law_server.proofs.gone_sessions.a_shut_session_is_gone.Goals as goal

pub returns : goal.returns
returns g c = record { shut = shut_gone; elsewhere = not_resumed; items = gone_items; events = gone_events; rises = next_rises; refused = refused; never = never }
