use Rattle.law_server.proofs.LastAnswers.{error_unanswered, get_answered, result_unanswered, set_answered}
use Rattle.law_server.proofs.server_tables.each_request_is_answered.Goals as goal

pub returns : goal.returns
returns g c = record { get = get_answered; set = set_answered; result = result_unanswered; error = error_unanswered }
