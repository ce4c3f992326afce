use Rattle.law_xml.proofs.GivenItems.{whole_exactly, whole_gives}
use Rattle.law_xml.proofs.prefixes.whole_streams_are_told.Goals as goal

pub returns : goal.returns
returns c = record { exactly = whole_exactly; given = whole_gives }
