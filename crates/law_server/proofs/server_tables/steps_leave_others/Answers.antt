use Rattle.law_server.proofs.Frames.{conn_left, others_left, session_left}
use Rattle.law_server.proofs.server_tables.steps_leave_others.Goals as goal

pub returns : goal.returns
returns g c = record { connections = conn_left; sessions = session_left; others = others_left }
