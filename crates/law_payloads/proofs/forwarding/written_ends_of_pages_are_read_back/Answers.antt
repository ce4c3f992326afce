use Rattle.law_payloads.proofs.FinReads.{fin_written, fin_written_without_index}
use Rattle.law_payloads.proofs.forwarding.written_ends_of_pages_are_read_back.Goals as goal

pub returns : goal.returns
returns c = record { with_index = fin_written; without_index = fin_written_without_index }
