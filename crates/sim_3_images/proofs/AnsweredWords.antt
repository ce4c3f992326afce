-- What is known of the word that a mild element is read as.
use Rattle.std.proofs.Common.{◌≡◌, ◌≤◌, Bool, true, false, Result, Ok, Err, bytes_eq, cond, codes, length, refl, ap, ◌∙◌}
use Rattle.std.proofs.lemmas.Bool.{and_from}
use Rattle.std.proofs.lemmas.Slice.Eq.{bytes_eq-Decides}
use Rattle.sim_3_images.proofs.AnsweredMessages.{HasNoResult}
use Rattle.sim_3_images.specs.Relayable.{IsRelayableElement}
use Rattle.srv_state.specs.Words.{if_read, is_bad_management, is_bad_sasl, is_long, is_stanza, is_stream_error, management_word, other_word, resume_word, sasl_word, word_of}
use Rattle.srv_state.specs.declared.word.Word.{Word}
use Rattle.srv_state.specs.declared.word.Word.TheVariants as word
use Rattle.im_extensions.specs.Readings.{resumption_read}
use Rattle.im_extensions.specs.StreamManagement.{ack_read, enable_read, is_management}
use Rattle.im_payload.specs.Names.{archive}
use Rattle.im_payload.specs.declared.fault.ExtFault.{ExtFault}
use Rattle.im_login.specs.Sasl.{is_sasl}
use Rattle.im_stanza.proofs.ReadingLaws.{message_law}
use Rattle.im_stanza.specs.Names.{client_ns}
use Rattle.im_stanza.specs.Readings.{stanza_of}
use Rattle.im_stanza.specs.Stanzas.{IsMessage}
use Rattle.im_stanza.specs.Views.{MessageView}
use Rattle.im_stanza.specs.declared.fault.StanzaFault.{StanzaFault}
use Rattle.im_stanza.specs.declared.stanzas.Stanza.{Stanza}
use Rattle.im_stanza.specs.declared.stanzas.Stanza.TheVariants as stanza
use Rattle.xml_trees.specs.Readers.{first_named, is_named, text_of}
use Rattle.xml_trees.specs.Trees.{Elem, name_of, namespace_of, nodes_of}

-- a message has no result of an archive
abbrev pub ReadIsBare : Result Stanza StanzaFault → Type 0
ReadIsBare (Ok (stanza.Message m)) = HasNoResult m
ReadIsBare read = Unit {0}

abbrev pub WordIsRelayable : Word → Type 0
WordIsRelayable (word.Stanza long read) = ReadIsBare read
WordIsRelayable (word.Auth e bad) = length (text_of (nodes_of e)) ≤ 400
WordIsRelayable w = Unit {0}

-- ---- stanzas

message_bare : (e : Elem) (m : MessageView) → IsRelayableElement e → IsMessage e m → HasNoResult m
message_bare e m h is =
    let named : is_named client_ns (codes "message") e ≡ true = and_from (bytes_eq (namespace_of e) client_ns) (bytes_eq (name_of e) (codes "message"))
    ((bytes_eq-Decides (namespace_of e) client_ns).1 is.named.0) ((bytes_eq-Decides (name_of e) (codes "message")).1 is.named.1) in
    ap (first_named archive (codes "result")) is.payload ∙ h.message named

read_bare : (e : Elem) (read : Result Stanza StanzaFault) → IsRelayableElement e → stanza_of e ≡ read → ReadIsBare read
read_bare e (Ok (stanza.Message m)) h is = message_bare e m h ((message_law e m).0 is)
read_bare e (Ok (stanza.Presence p)) h is = tt
read_bare e (Ok (stanza.Iq q)) h is = tt
read_bare e (Err why) h is = tt

-- ---- words

either_word : (b : Bool) (w x : Word) → WordIsRelayable w → WordIsRelayable x → WordIsRelayable (cond b w x)
either_word true w x h k = h
either_word false w x h k = k

auth_word : (b : Bool) (e : Elem) (bad : Bool) (x : Word) → (b ≡ true → length (text_of (nodes_of e)) ≤ 400) → WordIsRelayable x → WordIsRelayable (cond b (word.Auth e bad) x)
auth_word true e bad x h k = h refl
auth_word false e bad x h k = k

read_word : {V : Type 0} (f : V → Word) (r : Result V ExtFault) (next : Word) → ((v : V) → WordIsRelayable (f v)) → WordIsRelayable next → WordIsRelayable (if_read f r next)
read_word f (Ok v) next h k = h v
read_word f (Err why) next h k = k

other_relayable : (e : Elem) → WordIsRelayable (other_word e)
other_relayable e = either_word (is_stream_error e) word.StreamError word.Other tt tt

sasl_relayable : (e : Elem) → IsRelayableElement e → WordIsRelayable (sasl_word e)
unfolding sasl_word
sasl_relayable e h =
    auth_word (is_sasl (codes "auth") e) e (is_bad_sasl e) _ h.auth
    (either_word (is_sasl (codes "response") e) _ _ tt (either_word (is_sasl (codes "abort") e) _ _ tt (either_word (is_bad_sasl e) word.BadField (other_word e) tt (other_relayable e))))

resume_relayable : (e : Elem) → IsRelayableElement e → WordIsRelayable (resume_word e)
unfolding resume_word
resume_relayable e h = read_word (λ v. word.Resume v.0 v.1) (resumption_read (codes "resume") e) (sasl_word e) (λ v. tt) (sasl_relayable e h)

management_relayable : (e : Elem) → IsRelayableElement e → WordIsRelayable (management_word e)
unfolding management_word
management_relayable e h =
    read_word (λ v. word.Enable v.resume) (enable_read e) _ (λ v. tt)
    (either_word (is_management (codes "r") e) word.Request _ tt (read_word (λ v. word.Ack v.h) (ack_read e) (resume_word e) (λ v. tt) (resume_relayable e h)))

pub word_relayable : (e : Elem) → IsRelayableElement e → WordIsRelayable (word_of e)
unfolding word_of
word_relayable e h =
    either_word (is_stanza e) (word.Stanza (is_long e) (stanza_of e)) (cond (is_bad_management e) word.BadField (management_word e)) (read_bare e (stanza_of e) h refl)
    (either_word (is_bad_management e) word.BadField (management_word e) tt (management_relayable e h))
