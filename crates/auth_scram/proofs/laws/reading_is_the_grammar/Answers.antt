use Rattle.auth_scram.proofs.MessageLaws.{first_found, first_only, first_plus, first_authzid, first_position, server_first_found, server_first_only, server_first_position, client_final_found, client_final_only, client_final_position, server_final_found, server_final_only, server_final_position}
use Rattle.auth_scram.proofs.laws.reading_is_the_grammar.Goals as goal

pub returns-clause-first_found : goal.returns-clause-first_found
returns-clause-first_found c = first_found

pub returns-clause-first_only : goal.returns-clause-first_only
returns-clause-first_only c = first_only

pub returns-clause-first_plus : goal.returns-clause-first_plus
returns-clause-first_plus c = first_plus

pub returns-clause-first_authzid : goal.returns-clause-first_authzid
returns-clause-first_authzid c = first_authzid

pub returns-clause-first_position : goal.returns-clause-first_position
returns-clause-first_position c = first_position

pub returns-clause-server_first_found : goal.returns-clause-server_first_found
returns-clause-server_first_found c = server_first_found

pub returns-clause-server_first_only : goal.returns-clause-server_first_only
returns-clause-server_first_only c = server_first_only

pub returns-clause-server_first_position : goal.returns-clause-server_first_position
returns-clause-server_first_position c = server_first_position

pub returns-clause-client_final_found : goal.returns-clause-client_final_found
returns-clause-client_final_found c = client_final_found

pub returns-clause-client_final_only : goal.returns-clause-client_final_only
returns-clause-client_final_only c = client_final_only

pub returns-clause-client_final_position : goal.returns-clause-client_final_position
returns-clause-client_final_position c = client_final_position

pub returns-clause-server_final_found : goal.returns-clause-server_final_found
returns-clause-server_final_found c = server_final_found

pub returns-clause-server_final_only : goal.returns-clause-server_final_only
returns-clause-server_final_only c = server_final_only

pub returns-clause-server_final_position : goal.returns-clause-server_final_position
returns-clause-server_final_position c = server_final_position
