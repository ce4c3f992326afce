-- Copies of messages for an account's other sessions (XEP-0280, sections 7 and 8; XEP-0297, section 3; XEP-0203).
use Rattle.std.specs.Prelude.{ℕ, Bool, List, [], Option, Some}
use Rattle.im_extensions.specs.Carbons.{carbon_elem}
use Rattle.im_extensions.specs.Forwarding.{forwarded_elem}
use Rattle.im_forwarding.specs.Passed.{addressed_view, passed_elem}
use Rattle.im_forwarding.specs.declared.copies.CarbonCopy.{CarbonCopy}
use Rattle.im_stamp.specs.Dates.{stamp_at}
use Rattle.im_stanza.specs.Names.{client_ns}
use Rattle.im_stanza.specs.Views.{MessageView}
use Rattle.im_stanza.specs.Written.{message_elem}
use Rattle.xml_trees.specs.Trees.{Elem, no_nodes, child}
use Rattle.xml_writer.specs.Canon.{written}
use Rattle.xml_writer.specs.Items.{ItemOut, Whole, written_item}

-- what a copy tells: whether the account sent the message or received it, when, the account's bare address, the number
-- under which its archive has the message, where it has it, and the message as it was addressed
pub record CopyView : Type 0 where
  pub sent : Bool
  pub moment : ℕ
  pub by : List ℕ
  pub number : Option ℕ
  pub message : MessageView

-- the same of what the code is given
abbrev pub copy_view : CarbonCopy → CopyView
copy_view c = record {
  sent = c.sent;
  moment = c.moment;
  by = c.filed.now.by.now;
  number = c.filed.now.number;
  message = addressed_view c.message.now;
}

-- what is inside every copy, for whichever session: the message as the account's sessions get it, with its moment
abbrev pub copied_elem : CopyView → Elem
copied_elem c = carbon_elem c.sent (forwarded_elem (stamp_at c.moment) (passed_elem c.by c.number c.message))

-- that as it is written in a message
abbrev pub copied_text : CopyView → List ℕ
copied_text c = written client_ns (copied_elem c)

-- the copy for the session with a full address: from the account itself, of the type of the message (section 7)
abbrev pub copy_message : CopyView → List ℕ → MessageView
copy_message c full = record {
  from = Some c.by;
  to = Some full;
  id = [];
  kind = c.message.kind;
  lang = [];
  payload = child (copied_elem c) no_nodes;
}

abbrev pub copy_elem : CopyView → List ℕ → Elem
copy_elem c full = message_elem (copy_message c full)

abbrev pub copy_item : CopyView → List ℕ → ItemOut
copy_item c full = Whole (copy_elem c full)

abbrev pub copy_text : CopyView → List ℕ → List ℕ
copy_text c full = written_item (copy_item c full)
