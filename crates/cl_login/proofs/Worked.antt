-- What a client puts to log in, as it is written.
use Rattle.std.proofs.Common.{◌≡◌, ℕ, List, refl, codes}
use Rattle.cl_login.specs.LoginRows.{client_header}
use Rattle.xml_writer.specs.Items.{Opening, Whole, written_item}
use Rattle.im_payload.specs.Names.{sasl}
use Rattle.im_login.specs.Payloads.{base64_of}
use Rattle.im_login.specs.Sasl.{auth_of, carrier}
use Rattle.xml_tokens.specs.Spelling.{text_byte, value_byte}
use Rattle.xml_writer.specs.Canon.{assignment, declared_default, default_inside, next_number, number_text, spelled_attribute, spelled_name}

header_put : written_item (Opening (client_header (codes "chat.example")))
    ≡ codes "<?xml version='1.0'?><stream:stream to='chat.example' version='1.0' xmlns='jabber:client' xmlns:stream='http://etherx.jabber.org/streams'>"
unfolding assignment value_byte text_byte
header_put = refl

-- with a message whose base64 is `biws`
auth_put : (message : List ℕ) → base64_of message ≡ codes "biws"
    → written_item (Whole (auth_of (codes "SCRAM-SHA-256") message)) ≡ codes "<auth xmlns='urn:ietf:params:xml:ns:xmpp-sasl' mechanism='SCRAM-SHA-256'>biws</auth>"
unfolding sasl spelled_attribute spelled_name declared_default default_inside assignment text_byte value_byte number_text next_number
auth_put message is = rw is refl

response_put : (message : List ℕ) → base64_of message ≡ codes "biws"
    → written_item (Whole (carrier (codes "response") message)) ≡ codes "<response xmlns='urn:ietf:params:xml:ns:xmpp-sasl'>biws</response>"
unfolding sasl spelled_attribute spelled_name declared_default default_inside assignment text_byte value_byte number_text next_number
response_put message is = rw is refl
