use Rattle.im_forwarding.proofs.IdLaws.{only_its_own, only_its_own_read}
use Rattle.im_forwarding.proofs.laws.only_the_archive_gives_ids.Goals as goal

pub returns-clause-taken : goal.returns-clause-taken
returns-clause-taken c = only_its_own

pub returns-clause-read : goal.returns-clause-read
returns-clause-read c = only_its_own_read
