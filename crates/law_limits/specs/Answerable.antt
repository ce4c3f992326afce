-- What comes to a client that it says something of again: ids, and the nonce of a challenge.
use Rattle.std.specs.Prelude.{◌≡◌, ℕ, ◌≤◌, true, List, Option, Some, None, Ok, IfSome, codes, length}
use Rattle.std.specs.List.{AllByRecursion}
use Rattle.cl_core.specs.Feeds.{read}
use Rattle.im_extensions.specs.Readings.{enabled_read}
use Rattle.im_extensions.specs.declared.stream_management.Enabled.{Enabled}
use Rattle.xml_framer.specs.States.{State}
use Rattle.xml_framer.specs.declared.items.Item.{Item}
use Rattle.xml_framer.specs.declared.items.Item.TheVariants as item
use Rattle.im_mam.specs.Readings.{result_read}
use Rattle.im_mam.specs.declared.archive_answers.MamResult.{MamResult}
use Rattle.im_payload.specs.Names.{archive}
use Rattle.law_limits.specs.Bounds.{IsTextWithin, most_address, most_id}
use Rattle.im_login.specs.Readings.{carrier_read}
use Rattle.im_stanza.specs.Kinds.{answers_iq}
use Rattle.im_stanza.specs.Readings.{stanza_of}
use Rattle.im_stanza.specs.Views.{IqView, MessageView}
use Rattle.im_stanza.specs.declared.stanzas.Stanza.TheVariants.{Iq, Message}
use Rattle.xml_trees.specs.Readers.{first_named}
use Rattle.xml_trees.specs.Trees.{Elem}

-- A request has an id and an address that can be answered to; a result of an archive has an id behind which a page can be
-- asked for; a session has an id by which it can be resumed; and a challenge is one to which a response can be written.
pub record IsAnswerable (e : Elem) : Type 0 where
  pub request : (q : IqView) → stanza_of e ≡ Ok (Iq q) → answers_iq q.kind ≡ true → IfSome q.from (IsTextWithin most_address) × IsTextWithin most_id q.id
  pub result : (m : MessageView) (given : Elem) (r : MamResult) → stanza_of e ≡ Ok (Message m) → first_named archive (codes "result") m.payload ≡ Some given → result_read given ≡ Ok r → IsTextWithin most_id r.id
  pub session : (v : Enabled) → enabled_read e ≡ Ok v → IsTextWithin most_id v.id
  pub challenge : (payload : List ℕ) → carrier_read (codes "challenge") e ≡ Ok payload → length payload ≤ most_id

abbrev pub IsItemAnswerable : Item → Type 0
IsItemAnswerable (item.Header at h) = Unit {0}
IsItemAnswerable (item.Element e) = IsAnswerable e
IsItemAnswerable item.Footer = Unit {0}

abbrev pub AreAnswerable : List Item → Type 0
AreAnswerable items = AllByRecursion IsItemAnswerable items

-- of the items of a piece of bytes, where a connection stands
abbrev pub IsPieceAnswerable : Option State → List ℕ → Type 0
IsPieceAnswerable None piece = Unit {0}
IsPieceAnswerable (Some state) piece = AreAnswerable (read state piece).items
