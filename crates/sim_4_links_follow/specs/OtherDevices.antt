-- A device that is shown beside another one, for which the server does something.
use Rattle.std.specs.Prelude.{ℕ}
use Rattle.srv_state.specs.State.{ServerState}
use Rattle.sim_3_items.specs.Identities.{Identity, Login}
use Rattle.sim_3_items.specs.Pipes.{PipesRepresent}
use Rattle.sim_3_items.specs.Servers.{ServerRepresents}
use Rattle.sim_3_items.specs.ItemPipes.{ItemWire}
use Rattle.sim_2_links.specs.Machine.{LinkReached}
use Rattle.sim_2_links.specs.Views.{Table, View}
use Rattle.sim_2_links.specs.Words.{Bind, St, Up, UpWord}
use Rattle.sim_4_links_follow.specs.Taking.{AreApart, HasNumber}
use Rattle.xml_writer.specs.Items.{ItemOut}

pub record IsOtherDevice (who whom : Identity) (others : ℕ → Login) (h : ServerState ItemOut) (wires : Table ItemWire) (u : View ItemOut) : Type 0 where
  pub apart : AreApart who whom
  pub reached : LinkReached u
  pub server : ServerRepresents whom others h u
  pub pipes : PipesRepresent whom others wires u

-- any word but a stanza
abbrev pub IsNoStanza : UpWord ItemOut → Type 0
IsNoStanza (Up (St z)) = ⊥
IsNoStanza word = Unit {0}

-- where the word asks for a session, another one has a number of 64 bits
abbrev pub HasRoom : UpWord ItemOut → ServerState ItemOut → Type 0
HasRoom Bind h = HasNumber h
HasRoom word h = Unit {0}
