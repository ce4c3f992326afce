-- The table at worked values: a header, a failure, an item out of place, a footer, a binding, `r` before and behind it, and
-- presences to addresses.
use Rattle.std.proofs.Common.{◌≡◌, ℕ, true, false, List, [], ◌∷◌, Some, None, codes, pos, refl}
use Rattle.base_lemmas.specs.Hexadecimal.{hex16_of}
use Rattle.xml_framer.specs.declared.items.Item.TheVariants as item
use Rattle.xml_names.specs.declared.headers.Header.{Header}
use Rattle.sm_live.specs.Sessions.{fresh, told}
use Rattle.sm_live.specs.declared.told.SessionInfo.{SessionInfo}
use Rattle.srv_login.specs.declared.account.Account.{Account}
use Rattle.im_payload.specs.Bare.{bare}
use Rattle.im_payload.specs.Names.{binding, management, sasl}
use Rattle.srv_state.specs.Moments.{fresh_conn}
use Rattle.srv_state.specs.State.{Out, Put, ServerState, Shut, Step}
use Rattle.srv_state.specs.Steps.{Act, Send}
use Rattle.srv_core.specs.Stanzas.{at_presence}
use Rattle.srv_core.specs.Table.{after_item}
use Rattle.srv_state.specs.Words.{is_bad_management, is_bad_sasl, management_word, resume_word, sasl_word, word_of}
use Rattle.srv_state.specs.declared.connection.Connection.{Connection}
use Rattle.srv_state.specs.declared.connection.Phase.TheVariants as phase
use Rattle.srv_state.specs.declared.connection.Tries.TheVariants as tries
use Rattle.im_stanza.specs.Names.{client_ns, streams_ns}
use Rattle.im_stanza.specs.declared.kinds.PresenceKind.{PresenceKind}
use Rattle.im_stanza.specs.declared.kinds.PresenceKind.TheVariants.{Available, Unavailable, Error, Other}
use Rattle.im_stanza.specs.declared.stanzas.Presence.{Presence}
use Rattle.xml_tokens.specs.Spelling.{text_byte, value_byte}
use Rattle.xml_trees.specs.Attributes.{attribute}
use Rattle.xml_trees.specs.Trees.{Elem, child, element, no_nodes}
use Rattle.xml_writer.specs.Canon.{assignment, declared_default, default_inside, next_number, number_text, spelled_attribute, spelled_name}
use Rattle.xml_writer.specs.Items.{written_item}

entropy : List ℕ
entropy = 0 ∷ 1 ∷ 2 ∷ 3 ∷ 4 ∷ 5 ∷ 6 ∷ 7 ∷ 8 ∷ 9 ∷ 10 ∷ 11 ∷ 12 ∷ 13 ∷ 14 ∷ 15 ∷ 16 ∷ 17 ∷ 18 ∷ 19 ∷ 20 ∷ 21 ∷ 22 ∷ 23 ∷ []

-- one connection, under the number 1
server_state_with : Connection → ServerState (List ℕ)
server_state_with c = record { domain = codes "chat.example"; accounts = []; archives = []; sessions = []; next = 1; conns = (1, c) ∷ []; moment = 0 }

begun : Connection → Step (List ℕ)
begun c = record { server_state = server_state_with c; outs = [] }

logging_in : Connection
logging_in = record { entropy = entropy; phase = phase.Login; tries = tries.Three }

header : Header
header = record { ns = streams_ns; name = codes "stream"; content = client_ns; to = None; from = None; id = None; version = Some (codes "1.0"); lang = None }

opened : after_item written_item 1 (item.Header 0 header) (begun (fresh_conn entropy)) ≡ record {
  server_state = server_state_with logging_in;
  outs =
      Put 1 (codes "<?xml version='1.0'?><stream:stream from='chat.example' id='1213141516170000000000000001' version='1.0' xml:lang='en' xmlns='jabber:client' xmlns:stream='http://etherx.jabber.org/streams'>")
      ∷ Put 1 (codes "<stream:features><mechanisms xmlns='urn:ietf:params:xml:ns:xmpp-sasl'><mechanism>SCRAM-SHA-256</mechanism></mechanisms></stream:features>") ∷ [];
}
unfolding server_state_with begun logging_in header entropy hex16_of sasl assignment value_byte text_byte spelled_attribute spelled_name declared_default default_inside number_text next_number
opened = refl

-- a mechanism that isn't known, and the header out of place
failed_once : after_item written_item 1 (item.Element (element sasl (codes "auth") [] no_nodes)) (begun logging_in) ≡ record {
  server_state = server_state_with (record logging_in { tries = tries.Two });
  outs = Put 1 (codes "<failure xmlns='urn:ietf:params:xml:ns:xmpp-sasl'><invalid-mechanism/></failure>") ∷ [];
}
unfolding server_state_with begun logging_in entropy is_bad_management is_bad_sasl management_word resume_word sasl_word word_of sasl assignment value_byte text_byte spelled_attribute spelled_name declared_default default_inside number_text next_number
failed_once = refl

misplaced : after_item written_item 1 (item.Header 0 header) (begun logging_in) ≡ record {
  server_state = record (server_state_with logging_in) { conns = [] };
  outs =
      Put 1 (codes "<stream:error><unsupported-stanza-type xmlns='urn:ietf:params:xml:ns:xmpp-streams'/></stream:error>")
      ∷ Put 1 (codes "</stream:stream>") ∷ Shut 1 ∷ [];
}
unfolding server_state_with begun logging_in header entropy assignment value_byte text_byte spelled_attribute spelled_name declared_default default_inside number_text next_number
misplaced = refl

closed : after_item written_item 1 item.Footer (begun logging_in) ≡ record { server_state = record (server_state_with logging_in) { conns = [] }; outs = Put 1 (codes "</stream:stream>") ∷ Shut 1 ∷ [] }
unfolding server_state_with begun logging_in
closed = refl

-- an item of another connection does nothing
another : after_item written_item 2 item.Footer (begun logging_in) ≡ begun logging_in
unfolding server_state_with begun logging_in
another = refl

-- ---- behind a login

ready : Connection
ready = record { entropy = entropy; phase = phase.Ready 0; tries = tries.Three }

alice : Account
alice = record { name = codes "alice"; credentials = record { salt = []; iterations = 1; stored_key = []; server_key = [] } }

with_alice : ServerState (List ℕ) → ServerState (List ℕ)
with_alice h = record h { accounts = alice ∷ [] }

at_rest : Step (List ℕ)
at_rest = record { server_state = with_alice (server_state_with ready); outs = [] }

bind : Elem
bind = element client_ns (codes "iq") (attribute [] (codes "id") (codes "1") ∷ attribute [] (codes "type") (codes "set") ∷ []) (child (element binding (codes "bind") [] no_nodes) no_nodes)

-- the server chooses the resource
bound : after_item written_item 1 (item.Element bind) at_rest ≡ record {
  server_state = record (with_alice (server_state_with ready)) { sessions = fresh 1 0 (codes "r0000000000000001") 1 ∷ []; next = 2 };
  outs = Put 1 (codes "<iq id='1' type='result'><bind xmlns='urn:ietf:params:xml:ns:xmpp-bind'><jid>alice@chat.example/r0000000000000001</jid></bind></iq>") ∷ [];
}
unfolding server_state_with ready alice with_alice at_rest bind entropy hex16_of is_bad_management is_bad_sasl management_word resume_word sasl_word word_of sasl assignment value_byte text_byte spelled_attribute spelled_name declared_default default_inside number_text next_number
bound = refl

-- before a binding there is nothing to count
uncounted : after_item written_item 1 (item.Element (bare management (codes "r"))) at_rest ≡ record at_rest {
  outs = Put 1 (codes "<failed xmlns='urn:xmpp:sm:3'><unexpected-request xmlns='urn:ietf:params:xml:ns:xmpp-stanzas'/></failed>") ∷ [];
}
unfolding server_state_with ready alice with_alice at_rest entropy is_bad_management is_bad_sasl management_word resume_word sasl_word word_of sasl assignment value_byte text_byte spelled_attribute spelled_name declared_default default_inside number_text next_number
uncounted = refl

-- ---- a presence to an address (RFC 6120, section 10.4)

on_the_phone : SessionInfo
on_the_phone = told (fresh {A = List ℕ} 1 0 (codes "phone") 1)

presence_to : List ℕ → List ℕ → PresenceKind → Presence
presence_to to id kind = record { from = None; to = Some to; id = id; kind = kind; priority = pos 0 }

does : Presence → List (Act (List ℕ))
does p = at_presence written_item p on_the_phone (server_state_with ready)

to_a_room : does (presence_to (codes "room@rooms.example/nick") (codes "p0") Available)
    ≡ Send 1 (codes "<presence from='room@rooms.example/nick' id='p0' type='error'><error type='cancel'><remote-server-not-found xmlns='urn:ietf:params:xml:ns:xmpp-stanzas'/></error></presence>") ∷ []
unfolding server_state_with ready does presence_to on_the_phone assignment value_byte text_byte spelled_attribute spelled_name declared_default default_inside number_text next_number
to_a_room = refl

-- the id is left out where it is empty
to_a_domain_after_this_one : does (presence_to (codes "x.chat.example") [] Other)
    ≡ Send 1 (codes "<presence from='x.chat.example' type='error'><error type='cancel'><remote-server-not-found xmlns='urn:ietf:params:xml:ns:xmpp-stanzas'/></error></presence>") ∷ []
unfolding server_state_with ready does presence_to on_the_phone assignment value_byte text_byte spelled_attribute spelled_name declared_default default_inside number_text next_number
to_a_domain_after_this_one = refl

an_error_elsewhere : does (presence_to (codes "room@rooms.example/nick") (codes "e") Error) ≡ []
unfolding server_state_with ready does presence_to on_the_phone
an_error_elsewhere = refl

good_bye_elsewhere : does (presence_to (codes "room@rooms.example/nick") (codes "u") Unavailable) ≡ []
unfolding server_state_with ready does presence_to on_the_phone
good_bye_elsewhere = refl

to_this_domain : does (presence_to (codes "bob@chat.example/desk") (codes "s") Other) ≡ []
unfolding server_state_with ready does presence_to on_the_phone
to_this_domain = refl
