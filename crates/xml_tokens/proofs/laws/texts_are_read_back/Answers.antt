use Rattle.xml_tokens.proofs.RoundTrips as trips
use Rattle.xml_tokens.proofs.laws.texts_are_read_back.Goals as goal

pub returns : goal.returns
returns c = record { back = trips.text_again; inside = trips.text_unmarked; characters = trips.text_characters }
