-- A world of items shows a device of the links.
use Rattle.std.specs.Prelude.{◌≡◌, ℕ, Some, slice_get}
use Rattle.sim_3_items.specs.Clients.{ClientRepresents}
use Rattle.sim_3_items.specs.Identities.{Identity, IsNormal, Login}
use Rattle.sim_3_items.specs.Pipes.{PipesRepresent, by_number}
use Rattle.sim_3_items.specs.Servers.{ServerRepresents}
use Rattle.sim_3_items.specs.ItemWorlds.{ItemDevice, ItemWorld}
use Rattle.sim_2_links.specs.Views.{View}
use Rattle.xml_writer.specs.Items.{ItemOut}

-- the device, with a login for each of its connections
pub record Represents (who : Identity) (logins : ℕ → Login) (w : ItemWorld) (v : View ItemOut) : Type 0 where
  pub normal : IsNormal who
  pub device : ItemDevice
  pub there : slice_get w.devices who.position ≡ Some device
  pub pipes : PipesRepresent who logins (by_number w.wires) v
  pub server : ServerRepresents who logins w.server v
  pub client : ClientRepresents who logins device v
