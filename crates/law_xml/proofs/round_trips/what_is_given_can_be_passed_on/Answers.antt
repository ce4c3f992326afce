use Rattle.law_xml.proofs.GivenItems.{given_can_pass, given_plain}
use Rattle.law_xml.proofs.round_trips.what_is_given_can_be_passed_on.Goals as goal

pub returns : goal.returns
returns c = record { plain = given_plain; can_pass = given_can_pass }
