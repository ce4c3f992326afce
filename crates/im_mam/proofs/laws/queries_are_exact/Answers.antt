use Rattle.im_mam.proofs.ArchiveQueryLaws.{query_exact}
use Rattle.im_mam.proofs.laws.queries_are_exact.Goals as goal

pub returns : goal.returns
returns c = query_exact
