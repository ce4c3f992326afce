-- The words that come down to a client without a label of it.
use Rattle.sim_2_links.specs.Words.{Chal, Down, DownWord, End, Err, Feat, Head, Req, Succ}
use Rattle.xml_writer.specs.Items.{ItemOut}

-- those of a login and what is offered behind it, a request for a count, and those by which the server ends the stream: on
-- them the user of the client has what he had
abbrev pub IsSilentWord : DownWord ItemOut → Type 0
IsSilentWord Head = Unit {0}
IsSilentWord Feat = Unit {0}
IsSilentWord Chal = Unit {0}
IsSilentWord Succ = Unit {0}
IsSilentWord (Down Req) = Unit {0}
IsSilentWord (Err cause) = Unit {0}
IsSilentWord End = Unit {0}
IsSilentWord _ = ⊥
