-- Stanzas of what is read before their payload, and of that.
use Rattle.im_stanza.specs.declared.reading.IqHead.{IqHead}
use Rattle.im_stanza.specs.declared.reading.MessageHead.{MessageHead}
use Rattle.im_stanza.specs.declared.stanzas.Stanza.{Stanza}
use Rattle.im_stanza.specs.declared.stanzas.Stanza.TheVariants.{Message, Iq}
use Rattle.xml_trees.specs.Trees.{Nodes}

abbrev pub message_with : MessageHead → Nodes → Stanza
message_with head payload = Message (record { from = head.from; to = head.to; id = head.id; kind = head.kind; lang = head.lang; payload = payload })

abbrev pub iq_whole : IqHead → Nodes → Stanza
iq_whole head payload = Iq (record { from = head.from; to = head.to; id = head.id; kind = head.kind; payload = payload })
