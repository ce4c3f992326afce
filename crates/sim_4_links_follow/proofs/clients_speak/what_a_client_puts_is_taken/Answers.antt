use Rattle.sim_4_links_follow.proofs.FirstStanzas.{available_is, carbons_is}
use Rattle.sim_4_links_follow.proofs.Fair.{answer_for_server, page_for_server, submission_for_server}
use Rattle.sim_4_links_follow.proofs.clients_speak.what_a_client_puts_is_taken.Goals as goal

pub returns : goal.returns
returns c = record { carbons = carbons_is; available = available_is; page = page_for_server; answer = answer_for_server; submission = submission_for_server }
