-- The pipes of a device's connections, which are numbered from 1: both hold the words that will be taken. What was
-- lost is
-- in the links alone.
use Rattle.std.specs.Prelude.{◌≡◌, ℕ, not, All, List, Option, Some, None, map, slice_get}
use Rattle.std.specs.Option.{option_and_then}
use Rattle.sim_3_items.specs.Counted.{IsForClient, IsForServer}
use Rattle.sim_3_items.specs.Identities.{Identity, IsLogin, Login}
use Rattle.sim_3_items.specs.WordItems.{down_item, is_after_login, up_item}
use Rattle.sim_3_items.specs.ItemPipes.{ItemWire}
use Rattle.sim_2_links.specs.Stages.{Conn}
use Rattle.sim_2_links.specs.Views.{Table, View}
use Rattle.sim_2_links.specs.Wires.{down_words, is_flowing, up_words}
use Rattle.sim_2_links.specs.Words.{down_stanzas, up_stanzas}
use Rattle.cmd_network.specs.Positions.{position_under}
use Rattle.xml_writer.specs.Items.{ItemOut}

-- one connection
pub record IsWire (who : Identity) (x : Login) (k : ℕ) (c : Conn ItemOut) (w : ItemWire) : Type 0 where
  pub of : w.device ≡ who.position
  pub login : IsLogin who x
  pub up : w.up.items ≡ map (up_item who x) (up_words c.wires)
  pub down : w.down.items ≡ map (down_item who x k (is_after_login c.client)) (down_words c.wires)
  pub up_ended : w.up.ended ≡ not (is_flowing c.wires)
  pub down_ended : w.down.ended ≡ not (is_flowing c.wires)
  pub gone : w.up.told ≡ c.gone
  pub for_server : All IsForServer (up_stanzas (up_words c.wires))
  pub for_client : All IsForClient (down_stanzas (down_words c.wires))

-- under each number stands a connection that the device dialled, with its login, or none of its
abbrev pub IsShown : Identity → Login → ℕ → Option (Conn ItemOut) → Option ItemWire → Type 0
IsShown who x k (Some c) (Some w) = IsWire who x k c w
IsShown who x k None (Some w) = w.device ≡ who.position → ⊥
IsShown who x k (Some c) None = ⊥
IsShown who x k None None = Unit {0}

pub record PipesRepresent (who : Identity) (logins : ℕ → Login) (wires : Table ItemWire) (v : View ItemOut) : Type 0 where
  pub each : (k : ℕ) → IsShown who (logins k) k (v.conns k) (wires k)

-- the connections of a world by their numbers
abbrev pub under : {T : Type 0} → ℕ → List T → Option T
under k items = option_and_then (slice_get items) (position_under k)

abbrev pub by_number : List ItemWire → Table ItemWire
by_number wires = λ k. under k wires
