use Rattle.law_xml.proofs.ReadLaws.{read_enters}
use Rattle.law_xml.proofs.written.what_is_read_enters.Goals as goal

pub returns : goal.returns
returns c = read_enters
