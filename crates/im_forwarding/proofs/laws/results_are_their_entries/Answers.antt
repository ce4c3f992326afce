use Rattle.im_forwarding.proofs.EntryLaws.{entry_again}
use Rattle.im_forwarding.proofs.laws.results_are_their_entries.Goals as goal

pub returns : goal.returns
returns c = entry_again
