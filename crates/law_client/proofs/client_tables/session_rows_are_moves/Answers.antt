use Rattle.law_client.proofs.Noting.{noting_law}
use Rattle.law_client.proofs.TableWalk.{calls_by, items_by}
use Rattle.law_client.proofs.client_tables.session_rows_are_moves.Goals as goal

pub returns : goal.returns
returns c = record { items = items_by noting_law; calls = calls_by noting_law }
