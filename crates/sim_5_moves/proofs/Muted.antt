-- Words that are no stanza and bind nothing are items that are no stanza.
use Rattle.std.proofs.Common.{refl}
use Rattle.sim_3_items.specs.Identities.{Identity, Login}
use Rattle.sim_3_items.specs.WordItems.{up_item}
use Rattle.sim_2_links.specs.Words.{Ack, Auth, Bind, Enable, Foot, Hdr, Req, Resp, ResumeAt, St, Up, UpWord}
use Rattle.im_payload.specs.Names.{sasl}
use Rattle.sim_5_moves.specs.Coming.{IsNonStanza}
use Rattle.sim_5_moves.specs.WordsRunWords.{IsUnbinding}
use Rattle.xml_writer.specs.Items.{ItemOut}

pub word_non_stanza : (who : Identity) (x : Login) (word : UpWord ItemOut) → IsUnbinding word → IsNonStanza (up_item who x word)
unfolding sasl
word_non_stanza who x Hdr is = tt
word_non_stanza who x Auth is = refl
word_non_stanza who x Resp is = refl
word_non_stanza who x (ResumeAt p h) is = refl
word_non_stanza who x Bind is = absurd is
word_non_stanza who x Enable is = refl
word_non_stanza who x (Up (St z)) is = absurd is
word_non_stanza who x (Up Req) is = refl
word_non_stanza who x (Up (Ack n)) is = refl
word_non_stanza who x Foot is = tt
