use Rattle.xml_tokens.proofs.RoundTrips as trips
use Rattle.xml_tokens.proofs.laws.values_are_read_back.Goals as goal

pub returns : goal.returns
returns c = record { back = trips.value_is_read_back; inside = trips.value_unquoted }
