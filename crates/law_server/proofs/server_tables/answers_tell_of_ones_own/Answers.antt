use Rattle.law_server.proofs.OwnAnswers.{same_answers}
use Rattle.law_server.proofs.server_tables.answers_tell_of_ones_own.Goals as goal

pub returns : goal.returns
returns g c = same_answers
