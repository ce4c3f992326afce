-- What messages and archived entries keep to, so that a client reads what a server makes of them.
use Rattle.std.specs.Prelude.{ℕ, ◌+◌, ◌≤◌, IfSome}
use Rattle.mam_archive.specs.Entries.{EntryView}
use Rattle.im_forwarding.specs.Results.{entry_nodes}
use Rattle.law_limits.specs.Bounded.{AreBounded}
use Rattle.law_limits.specs.Texts.{Said}
use Rattle.im_stanza.specs.Names.{client_ns}
use Rattle.im_stanza.specs.Views.{MessageView}
use Rattle.xml_trees.specs.Trees.{AreTidy}

-- A message came within 1,048,576 bytes as it is written, and its addresses are such in normal form.
pub record MessageFits (m : MessageView) : Type 0 where
  pub from : IfSome m.from (Said 18426)
  pub to : IfSome m.to (Said 18426)
  pub id_bytes : ℕ
  pub payload_bytes : ℕ
  pub within : id_bytes + payload_bytes ≤ 1048576
  pub id : Said id_bytes m.id
  pub lang : Said 1048576 m.lang
  pub payload : AreBounded client_ns 31 payload_bytes m.payload
  pub tidy : AreTidy m.payload

-- What an archive keeps of such a message.
pub record EntryFits (e : EntryView) : Type 0 where
  pub from : Said 18426 e.from
  pub to : Said 18426 e.to
  pub id_bytes : ℕ
  pub payload_bytes : ℕ
  pub within : id_bytes + payload_bytes ≤ 2098176
  pub id : Said id_bytes e.id
  pub payload : AreBounded client_ns 1 payload_bytes (entry_nodes e.bodies e.origin)
