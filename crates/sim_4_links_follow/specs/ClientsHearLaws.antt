-- What the laws of `clients_hear` say.
use Rattle.std.specs.Prelude.{ℕ}
use Rattle.sim_4_links_follow.specs.Reads.{IsOfCounts, IsOfEnd, IsOfLogin, IsOfSession}
use Rattle.sim_3_items.specs.Identities.{Identity, Login}
use Rattle.sim_3_items.specs.Reading.{IsNextDown, IsRead}
use Rattle.sim_3_items.specs.ItemPipes.{ItemWire}
use Rattle.sim_3_items.specs.ItemWorlds.{ItemDevice}
use Rattle.sim_2_links.specs.Views.{Table, View}
use Rattle.sim_2_links.specs.Words.{DownWord}
use Rattle.xml_writer.specs.Items.{ItemOut}

abbrev pub LoginsAreRead : Type 0
LoginsAreRead =
    (who : Identity) (logins : ℕ → Login) (d : ItemDevice) (wires : Table ItemWire) (v : View ItemOut) (k : ℕ) (word : DownWord ItemOut) (p : IsNextDown who logins d wires v k word)
    → IsOfLogin word → IsRead who logins d wires v k p.conn p.wire word

abbrev pub SessionsAreRead : Type 0
SessionsAreRead =
    (who : Identity) (logins : ℕ → Login) (d : ItemDevice) (wires : Table ItemWire) (v : View ItemOut) (k : ℕ) (word : DownWord ItemOut) (p : IsNextDown who logins d wires v k word)
    → IsOfSession v word → IsRead who logins d wires v k p.conn p.wire word

abbrev pub AcknowledgementsAreRead : Type 0
AcknowledgementsAreRead =
    (who : Identity) (logins : ℕ → Login) (d : ItemDevice) (wires : Table ItemWire) (v : View ItemOut) (k : ℕ) (word : DownWord ItemOut) (p : IsNextDown who logins d wires v k word)
    → IsOfCounts word → IsRead who logins d wires v k p.conn p.wire word

abbrev pub EndsAreRead : Type 0
EndsAreRead =
    (who : Identity) (logins : ℕ → Login) (d : ItemDevice) (wires : Table ItemWire) (v : View ItemOut) (k : ℕ) (word : DownWord ItemOut) (p : IsNextDown who logins d wires v k word)
    → IsOfEnd word → IsRead who logins d wires v k p.conn p.wire word
