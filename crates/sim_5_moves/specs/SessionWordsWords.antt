-- The words on which a client, working on with its connection, learns something of its session.
use Rattle.sim_2_links.specs.Words.{Ack, Bound, Down, DownWord, Enabled, Failed, Resumed}
use Rattle.xml_writer.specs.Items.{ItemOut}

abbrev pub IsOfSessions : DownWord ItemOut → Type 0
IsOfSessions Failed = Unit {0}
IsOfSessions (Resumed q h) = Unit {0}
IsOfSessions (Bound m) = Unit {0}
IsOfSessions (Enabled m) = Unit {0}
IsOfSessions (Down (Ack h)) = Unit {0}
IsOfSessions _ = ⊥
