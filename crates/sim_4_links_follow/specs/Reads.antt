-- The words that the client reads, but stanzas.
use Rattle.std.specs.Prelude.{◌+◌, ◌<◌, ◌^◌}
use Rattle.sim_2_links.specs.Views.{View}
use Rattle.sim_2_links.specs.Words.{Ack, Bound, Chal, Down, DownWord, Enabled, End, Err, Failed, Feat, Head, Req, Resumed, Succ}
use Rattle.xml_writer.specs.Items.{ItemOut}

-- those of a login, and what the server offers behind it
abbrev pub IsOfLogin : DownWord ItemOut → Type 0
IsOfLogin Head = Unit {0}
IsOfLogin Feat = Unit {0}
IsOfLogin Chal = Unit {0}
IsOfLogin Succ = Unit {0}
IsOfLogin _ = ⊥

-- those of how a session begins, is resumed, or is no more; the number of an epoch has 64 bits
abbrev pub IsOfSession : View ItemOut → DownWord ItemOut → Type 0
IsOfSession v Failed = Unit {0}
IsOfSession v (Bound m) = v.epoch + 1 < 2 ^ 64
IsOfSession v (Enabled m) = Unit {0}
IsOfSession v (Resumed q h) = Unit {0}
IsOfSession v _ = ⊥

-- those on the acknowledgement of stanzas
abbrev pub IsOfCounts : DownWord ItemOut → Type 0
IsOfCounts (Down Req) = Unit {0}
IsOfCounts (Down (Ack h)) = Unit {0}
IsOfCounts _ = ⊥

-- those by which the server ends the stream
abbrev pub IsOfEnd : DownWord ItemOut → Type 0
IsOfEnd (Err cause) = Unit {0}
IsOfEnd End = Unit {0}
IsOfEnd _ = ⊥
