-- Numbers of sessions against connections, in worlds of items.
use Rattle.std.specs.Prelude.{length}
use Rattle.sim_3_items.specs.ItemWorlds.{ItemWorld}
use Rattle.sim_3_images.specs.Unbound.{IsWithin}

-- no more numbers were given than connections were dialed
abbrev pub IsWorldWithin : ItemWorld → Type 0
IsWorldWithin w = IsWithin (length w.wires) w.server
