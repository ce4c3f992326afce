use Rattle.auth_scram.proofs.WrittenMessages.{written_client_first, written_server_first, written_client_final, written_server_final}
use Rattle.auth_scram.proofs.laws.written_messages_are_read.Goals as goal

pub returns-clause-client_first : goal.returns-clause-client_first
returns-clause-client_first c = written_client_first

pub returns-clause-server_first : goal.returns-clause-server_first
returns-clause-server_first c = written_server_first

pub returns-clause-client_final : goal.returns-clause-client_final
returns-clause-client_final c = written_client_final

pub returns-clause-server_final : goal.returns-clause-server_final
returns-clause-server_final c = written_server_final
