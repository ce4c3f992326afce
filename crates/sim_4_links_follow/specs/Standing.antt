-- The server of a world stands with the connections that were dialled there.
use Rattle.std.specs.Prelude.{◌≡◌, ◌+◌, List, ◌∷◌, Some, length, slice_get}
use Rattle.sim_3_images.specs.EncodingsCores.{MayCome, writer_at}
use Rattle.sim_3_images.specs.Stands.{ServerStateStands}
use Rattle.sim_3_items.specs.ItemMoves.{ItemMove, Up}
use Rattle.sim_3_items.specs.ItemPipes.{ItemWire}
use Rattle.sim_3_items.specs.ItemWorlds.{ItemWorld}
use Rattle.xml_writer.specs.Items.{ItemOut}

abbrev pub ServerStands : ItemWorld → Type 0
ServerStands w = ServerStateStands (length w.wires) w.server

-- where the move hands an item to the server, it is one that may come there: before the server's header a header
abbrev pub MayGoUp : ItemMove → ItemWorld → Type 0
MayGoUp (Up position) w = (wire : ItemWire) (i : ItemOut) (items : List ItemOut) → slice_get w.wires position ≡ Some wire → wire.up.items ≡ i ∷ items → MayCome (writer_at (position + 1) w.server) i
MayGoUp _ w = Unit {0}
