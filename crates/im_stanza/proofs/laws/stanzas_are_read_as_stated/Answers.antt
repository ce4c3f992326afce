use Rattle.im_stanza.proofs.ReadingLaws.{message_law, presence_law, iq_law, bad_format_law, bad_from_law, bad_to_law}
use Rattle.im_stanza.proofs.laws.stanzas_are_read_as_stated.Goals as goal

pub returns-clause-message : goal.returns-clause-message
returns-clause-message c = message_law

pub returns-clause-presence : goal.returns-clause-presence
returns-clause-presence c = presence_law

pub returns-clause-iq : goal.returns-clause-iq
returns-clause-iq c = iq_law

pub returns-clause-bad_format : goal.returns-clause-bad_format
returns-clause-bad_format c = bad_format_law

pub returns-clause-bad_from : goal.returns-clause-bad_from
returns-clause-bad_from c = bad_from_law

pub returns-clause-bad_to : goal.returns-clause-bad_to
returns-clause-bad_to c = bad_to_law
