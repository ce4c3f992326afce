-- What the rules for messages ask of one (RFC 6121, section 5.2.2; XEP-0313, section 5; XEP-0280, section 6).
use Rattle.std.specs.Prelude.{Bool, true, false, not, ◌&&◌, codes, is_some}
use Rattle.im_extensions.specs.Given.{is_private}
use Rattle.im_stanza.specs.Names.{client_ns}
use Rattle.im_stanza.specs.Views.{MessageView}
use Rattle.im_stanza.specs.declared.kinds.MessageKind.{MessageKind}
use Rattle.im_stanza.specs.declared.kinds.MessageKind.TheVariants.{Chat, Normal, Headline}
use Rattle.xml_trees.specs.Readers.{first_named}
use Rattle.xml_trees.specs.Trees.{Nodes}

abbrev pub is_chat : MessageKind → Bool
is_chat Chat = true
is_chat _ = false

-- what may go to a bare address: no error, and no message of a chat room (RFC 6121, section 8.5.2.1.1)
abbrev pub is_for_users : MessageKind → Bool
is_for_users Chat = true
is_for_users Normal = true
is_for_users Headline = true
is_for_users _ = false

-- what an archive keeps
abbrev pub is_kept_kind : MessageKind → Bool
is_kept_kind Chat = true
is_kept_kind Normal = true
is_kept_kind _ = false

abbrev pub has_body : Nodes → Bool
has_body payload = is_some (first_named client_ns (codes "body") payload)

-- chats and normal messages with a body are archived
abbrev pub is_archived : MessageView → Bool
is_archived m = is_kept_kind m.kind && has_body m.payload

-- and copied, where they aren't private
abbrev pub is_copied : MessageView → Bool
is_copied m = is_archived m && not (is_private m.payload)
