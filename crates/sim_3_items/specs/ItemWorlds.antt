-- A world of items: the server and the clients of devices, over items, and between them connections of two pipes each.
use Rattle.std.specs.Prelude.{ℕ, List, [], Option}
use Rattle.cl_handlers.specs.Clients.{ClientStep, ClientView}
use Rattle.srv_state.specs.State.{ServerState}
use Rattle.xml_framer.specs.declared.items.Item.{Item}
use Rattle.xml_framer.specs.declared.items.Item.TheVariants as item
use Rattle.law_xml.specs.Spells.{as_written}
use Rattle.sim_3_items.specs.ItemPipes.{ItemWire}
use Rattle.xml_writer.specs.Items.{Closing, ItemOut, Opening, Whole}

-- a device: its client, and the place of the connection that it has, where it has one
pub record ItemDevice : Type 0 where
  pub client : ClientView ItemOut
  pub here : Option ℕ

-- a message that the server told that it took, and when: its addresses and its origin id
pub record Take : Type 0 where
  pub moment : ℕ
  pub from : List ℕ
  pub to : List ℕ
  pub origin : List ℕ

-- the moment; the server; the devices; the connections, in the order in which they were dialed; and the messages that the
-- server took
pub record ItemWorld : Type 0 where
  pub moment : ℕ
  pub server : ServerState ItemOut
  pub devices : List ItemDevice
  pub wires : List ItemWire
  pub takes : List Take

-- what is put is the item itself
abbrev pub itself : ItemOut → ItemOut
itself i = i

-- the item that its reader has of one that was put. Where a header stands in its stream is looked at by no row.
abbrev pub read_of : ItemOut → Item
read_of (Opening h) = item.Header 0 (as_written h)
read_of (Whole e) = item.Element e
read_of Closing = item.Footer

-- a client that has put nothing and told nothing in this turn
abbrev pub silent_client_step : ClientView ItemOut → ClientStep ItemOut ItemOut
silent_client_step c = record { client = c; out = record { put = []; events = []; notes = [] } }
