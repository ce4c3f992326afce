use Rattle.law_server.proofs.PiecesJoined.{behind_fault, joined}
use Rattle.law_server.proofs.server_tables.pieces_join.Goals as goal

pub returns : goal.returns
returns g c = record { sound = joined; fault = behind_fault }
