-- What a server answers to requests, and to messages and presences that it can't pass on (RFC 6120, sections 7, 8.2.3 and
-- 8.3.1).
use Rattle.std.specs.Prelude.{ℕ, List, [], ◌∷◌, Option, None, codes}
use Rattle.std.specs.Option.{option_copied}
use Rattle.im_extensions.specs.Bind.{bind_result_elem}
use Rattle.im_login.specs.Discovery.{account, disco_info_elem, disco_items_elem, server, server_features}
use Rattle.im_payload.specs.Bare.{bare}
use Rattle.im_payload.specs.Names.{roster}
use Rattle.xml_writer.specs.Items.{ItemOut, Whole, written_item}
use Rattle.im_replies.specs.declared.requests.Envelope.{Envelope}
use Rattle.im_stanza.specs.Answering.{bounce_elem, iq_error_elem, presence_bounce_elem}
use Rattle.im_stanza.specs.Written.{iq_elem}
use Rattle.im_stanza.specs.declared.errors.StanzaError.{StanzaError}
use Rattle.im_stanza.specs.declared.kinds.IqKind.TheVariants.{Result}
use Rattle.xml_trees.specs.Trees.{Nodes, no_nodes, child}

-- from whom an answer is and to whom, where that is told, and the id of what it answers
pub record EnvelopeView : Type 0 where
  pub from : Option (List ℕ)
  pub to : Option (List ℕ)
  pub id : List ℕ

abbrev pub envelope_view : Envelope → EnvelopeView
envelope_view e = record { from = option_copied e.from; to = option_copied e.to; id = e.id.now }

-- ---- answers (section 8.2.3)

abbrev pub result_item : EnvelopeView → Nodes → ItemOut
result_item a payload = Whole (iq_elem (record { from = a.from; to = a.to; id = a.id; kind = Result; payload = payload }))

-- nothing more is told: of a ping (XEP-0199, section 4), a session (RFC 3921, section 3) and a switch of carbons
-- (XEP-0280, sections 4 and 5)
abbrev pub empty_result_text : EnvelopeView → List ℕ
empty_result_text a = written_item (result_item a no_nodes)

-- a roster without contacts (RFC 6121, section 2.1.4)
abbrev pub roster_item : EnvelopeView → ItemOut
roster_item a = result_item a (child (bare roster (codes "query")) no_nodes)

abbrev pub roster_text : EnvelopeView → List ℕ
roster_text a = written_item (roster_item a)

-- what the server is, and what an account is (XEP-0030, section 3.1)
abbrev pub server_info_item : EnvelopeView → ItemOut
server_info_item a = result_item a (child (disco_info_elem (server ∷ []) server_features) no_nodes)

abbrev pub server_info_text : EnvelopeView → List ℕ
server_info_text a = written_item (server_info_item a)

abbrev pub account_info_item : EnvelopeView → ItemOut
account_info_item a = result_item a (child (disco_info_elem (account ∷ []) server_features) no_nodes)

abbrev pub account_info_text : EnvelopeView → List ℕ
account_info_text a = written_item (account_info_item a)

-- no items, of this node, which is empty where none was asked for (XEP-0030, section 4.1)
abbrev pub items_item : List ℕ → EnvelopeView → ItemOut
items_item node a = result_item a (child (disco_items_elem node) no_nodes)

abbrev pub items_text : List ℕ → EnvelopeView → List ℕ
items_text node a = written_item (items_item node a)

-- the address that a client has from now on (sections 7.6 and 7.7), of which the answer tells no other
abbrev pub bound_item : List ℕ → List ℕ → ItemOut
bound_item id jid = result_item (record { from = None; to = None; id = id }) (child (bind_result_elem (record { jid = jid })) no_nodes)

abbrev pub bound_text : List ℕ → List ℕ → List ℕ
bound_text id jid = written_item (bound_item id jid)

-- ---- errors (section 8.3)

abbrev pub iq_error_item : EnvelopeView → StanzaError → ItemOut
iq_error_item a e = Whole (iq_error_elem a.from a.to a.id e)

abbrev pub iq_error_text : EnvelopeView → StanzaError → List ℕ
iq_error_text a e = written_item (iq_error_item a e)

-- a message comes back from where it was to go
abbrev pub bounce_item : List ℕ → List ℕ → StanzaError → ItemOut
bounce_item from id e = Whole (bounce_elem from id e)

abbrev pub bounce_text : List ℕ → List ℕ → StanzaError → List ℕ
bounce_text from id e = written_item (bounce_item from id e)

-- so does a presence
abbrev pub presence_bounce_item : List ℕ → List ℕ → StanzaError → ItemOut
presence_bounce_item from id e = Whole (presence_bounce_elem from id e)

abbrev pub presence_bounce_text : List ℕ → List ℕ → StanzaError → List ℕ
presence_bounce_text from id e = written_item (presence_bounce_item from id e)
