-- What a client says, as it is written.
use Rattle.std.proofs.Common.{◌≡◌, ℕ, false, true, None, refl, codes}
use Rattle.std.specs.Fmt.{decimal}
use Rattle.im_requests.specs.Messages.{page_text, submission_text}
use Rattle.im_requests.specs.Sessions.{available_text, bind_text, carbons_text, enable_text, resume_text}
use Rattle.xml_tokens.specs.Spelling.{text_byte, value_byte}
use Rattle.xml_writer.specs.Canon.{assignment, declared_default, default_inside, next_number, number_text, spelled_attribute, spelled_name}

bind_put : bind_text (codes "phone") ≡ codes "<iq id='bind' type='set'><bind xmlns='urn:ietf:params:xml:ns:xmpp-bind'><resource>phone</resource></bind></iq>"
unfolding spelled_attribute spelled_name declared_default default_inside assignment text_byte value_byte number_text next_number
bind_put = refl

enable_put : enable_text ≡ codes "<enable xmlns='urn:xmpp:sm:3' resume='true'/>"
unfolding spelled_attribute spelled_name declared_default default_inside assignment text_byte value_byte number_text next_number
enable_put = refl

-- std's digits of a number can't be unfolded: they are a premise
resume_put : decimal 5 ≡ codes "5" → resume_text (codes "p") 5 ≡ codes "<resume xmlns='urn:xmpp:sm:3' h='5' previd='p'/>"
unfolding spelled_attribute spelled_name declared_default default_inside assignment text_byte value_byte number_text next_number
resume_put five = rw five refl

carbons_put : carbons_text ≡ codes "<iq id='carbons' type='set'><enable xmlns='urn:xmpp:carbons:2'/></iq>"
unfolding spelled_attribute spelled_name declared_default default_inside assignment text_byte value_byte number_text next_number
carbons_put = refl

available_put : available_text ≡ codes "<presence/>"
unfolding spelled_attribute spelled_name declared_default default_inside assignment text_byte value_byte number_text next_number
available_put = refl

submission_put : submission_text (codes "phone.1.1") (codes "bob@chat.example") (codes "hi") true
    ≡ codes "<message id='phone.1.1' to='bob@chat.example' type='chat'><body>hi</body><origin-id xmlns='urn:xmpp:sid:0' id='phone.1.1'/><private xmlns='urn:xmpp:carbons:2'/></message>"
unfolding spelled_attribute spelled_name declared_default default_inside assignment text_byte value_byte number_text next_number
submission_put = refl

page_put : decimal 10 ≡ codes "10"
    → page_text (codes "q1") None 10
    ≡ codes "<iq id='q1' type='set'><query xmlns='urn:xmpp:mam:2' queryid='q1'><x xmlns='jabber:x:data' type='submit'><field type='hidden' var='FORM_TYPE'><value>urn:xmpp:mam:2</value></field></x><set xmlns='http://jabber.org/protocol/rsm'><max>10</max></set></query></iq>"
unfolding spelled_attribute spelled_name declared_default default_inside assignment text_byte value_byte number_text next_number
page_put ten = rw ten refl
