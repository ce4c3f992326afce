use Rattle.im_jid.proofs.SpellingLaws.{read_spelling, own_spelling}
use Rattle.im_jid.proofs.laws.spellings_are_told.Goals as goal

pub returns-clause-read : goal.returns-clause-read
returns-clause-read c = read_spelling

pub returns-clause-own : goal.returns-clause-own
returns-clause-own c = own_spelling
