-- A connection of bytes as an encoding of a connection of items.
use Rattle.std.specs.Prelude.{◌≡◌, Option, Some}
use Rattle.xml_framer.specs.Limits.{client_limits, server_limits}
use Rattle.xml_framer.specs.States.{State}
use Rattle.xml_framer.specs.declared.states.Phase.{Phase}
use Rattle.xml_framer.specs.declared.states.Phase.TheVariants as phase
use Rattle.sim_3_images.specs.PipeEncodings.{PipeEncodes}
use Rattle.sim_3_items.specs.ItemPipes.{ItemWire}
use Rattle.cmd_network.specs.declared.wire.Wire.{Wire}

-- Of the framers that the server and the device have for it, where they have one, and of where the server stands in its
-- stream. Its device stands behind its header. Both pipes end together.
pub record WireEncodes (at_server at_device : Option State) (writer : Option Phase) (b : Wire) (p : ItemWire) : Type 0 where
  pub device : b.device ≡ p.device
  pub end_together : b.up.ended ≡ b.down.ended
  pub up : PipeEncodes server_limits (Some phase.Between) at_server b.up p.up
  pub down : PipeEncodes client_limits writer at_device b.down p.down
