use Rattle.law_xml.proofs.PutLaws.{put_enters, stands_first}
use Rattle.law_xml.proofs.written.what_an_end_puts_enters.Goals as goal

pub returns : goal.returns
returns c = record { start = stands_first; put = λ s part p items t now i carried open_still. put_enters s part p items t carried open_still now i }
