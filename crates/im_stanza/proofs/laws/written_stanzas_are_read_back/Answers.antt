use Rattle.im_stanza.proofs.WrittenLaws.{message_tidied, message_stays, message_read, presence_stays, presence_read, iq_tidied, iq_stays, iq_read}
use Rattle.im_stanza.proofs.laws.written_stanzas_are_read_back.Goals as goal

pub returns-clause-message : goal.returns-clause-message
returns-clause-message c = message_read

pub returns-clause-message_stays : goal.returns-clause-message_stays
returns-clause-message_stays c = message_stays

pub returns-clause-message_tidied : goal.returns-clause-message_tidied
returns-clause-message_tidied c = message_tidied

pub returns-clause-presence : goal.returns-clause-presence
returns-clause-presence c = presence_read

pub returns-clause-presence_stays : goal.returns-clause-presence_stays
returns-clause-presence_stays c = presence_stays

pub returns-clause-iq : goal.returns-clause-iq
returns-clause-iq c = iq_read

pub returns-clause-iq_stays : goal.returns-clause-iq_stays
returns-clause-iq_stays c = iq_stays

pub returns-clause-iq_tidied : goal.returns-clause-iq_tidied
returns-clause-iq_tidied c = iq_tidied
