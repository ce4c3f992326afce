use Rattle.law_xml.proofs.OneHand as hands
use Rattle.law_xml.proofs.rows.bytes_tell_what_is_in_hand.Goals as goal

pub returns-clause-markup : goal.returns-clause-markup
returns-clause-markup c = hands.markup_held

pub returns-clause-reference : goal.returns-clause-reference
returns-clause-reference c = hands.reference_held

pub returns-clause-text : goal.returns-clause-text
returns-clause-text c = hands.text_read
