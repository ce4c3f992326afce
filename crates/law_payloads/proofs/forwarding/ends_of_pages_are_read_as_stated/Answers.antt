use Rattle.law_payloads.proofs.FinReads.{fin_answers}
use Rattle.law_payloads.proofs.forwarding.ends_of_pages_are_read_as_stated.Goals as goal

pub returns : goal.returns
returns c = fin_answers
