use Rattle.auth_scram.proofs.SentMessages.{client_final_sent, client_first_sent, server_final_sent, server_first_sent}
use Rattle.auth_scram.proofs.laws.sent_messages_are_within_the_grammar.Goals as goal

pub returns-clause-client_first : goal.returns-clause-client_first
returns-clause-client_first c = client_first_sent

pub returns-clause-server_first : goal.returns-clause-server_first
returns-clause-server_first c = server_first_sent

pub returns-clause-client_final : goal.returns-clause-client_final
returns-clause-client_final c = client_final_sent

pub returns-clause-server_final : goal.returns-clause-server_final
returns-clause-server_final c = server_final_sent
